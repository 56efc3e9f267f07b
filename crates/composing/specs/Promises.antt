-- The promises about the definitions. They are proved in proofs/: Composed and Settled.
-- Assumes nothing.
use Rattle.std.specs.Prelude.{◌≡◌, true, ℕ, ◌^◌, ◌<◌, Some, None, Result, Ok}
use Rattle.std.specs.Int.Count.{count_trailing_zeros}
use Rattle.laws.specs.Bits.{bit}
use Rattle.laws.specs.Settled.{Settles}
use Rattle.refusals.specs.declared.refusal.Refusal.{Refusal}
use Rattle.frames.specs.Values.{scheme_at}
use Rattle.frames.specs.Read.{read_of}
use Rattle.frames.specs.declared.message.Message.{Message}
use Rattle.frames.specs.declared.message.Scheme.{Scheme}
use Rattle.composing.specs.Compose.{source_fits, shipped_of, first_carried, second_carried, event_by, compose_of}
use Rattle.composing.specs.Compose.{power_fits, power_by, compose_power_of}
use Rattle.composing.specs.declared.source.Source.{Source}

-- what is composed in range is a frame, never a refusal, and reads back as the event of its scheme
abbrev pub Composes : Type 0
Composes = (e : Source) → source_fits e ≡ true →
    (f : ℕ) × (compose_of e ≡ Ok f) × (read_of f ≡ Ok (event_by e))

-- that event has the fields that its scheme carries
abbrev pub Carries : Type 0
Carries = (e : Source) (s : Scheme) (first : ℕ) →
    scheme_at (shipped_of e.scheme) ≡ s → first_carried s e ≡ Some first →
    event_by e ≡ Message.Event s first (second_carried s e) e.information

-- the same source, by another scheme
abbrev pub by_scheme : ℕ → Source → Source
by_scheme n e =
    record {
      sort = e.sort;
      number = e.number;
      primary = e.primary;
      short = e.short;
      groups = e.groups;
      information = e.information;
      scheme = n;
    }

-- a scheme whose field is missing falls back to 0
abbrev pub FallsBack : Type 0
FallsBack = (e : Source) → first_carried (scheme_at (shipped_of e.scheme)) e ≡ None →
    event_by e ≡ event_by (by_scheme 0 e)

-- 255 for "as shipped", of every source, a refused one too (paper 02, Item 8)
pub record AsShipped : Type 0 where
  -- "255 becomes 2"
  pub is_scheme_2 : (e : Source) → compose_of (by_scheme 255 e) ≡ compose_of (by_scheme 2 e)
  -- "the node wants device and instance number"
  pub with_address : (e : Source) → (e.short ≡ 255 → ⊥) →
      event_by (by_scheme 255 e) ≡ Message.Event Scheme.ShortNumber e.short e.number e.information
  -- "Without a short address it falls back to 0 as before"
  pub without_address : (e : Source) → e.short ≡ 255 → compose_of (by_scheme 255 e) ≡ compose_of (by_scheme 0 e)

-- a power event that is composed in range is a frame too, and reads back
abbrev pub ComposesPower : Type 0
ComposesPower = (short groups : ℕ) → power_fits short groups ≡ true →
    (f : ℕ) × (compose_power_of short groups ≡ Ok f) × (read_of f ≡ Ok (power_by short groups))

-- the trailing zeros of the 32 group bits are the lowest group: a member, and none below is
abbrev pub Lowest : Type 0
Lowest = (groups : ℕ) → 0 < groups → groups < 2 ^ 32 →
    (count_trailing_zeros 32 groups < 32)
    × (bit groups (count_trailing_zeros 32 groups) ≡ 1)
    × ((k : ℕ) → k < count_trailing_zeros 32 groups → bit groups k ≡ 0)

-- what each public call promises of its result r
abbrev pub ComposeEventPromise : Source → Result ℕ Refusal → Type 0
ComposeEventPromise source r = r ≡ compose_of source

abbrev pub ComposePowerPromise : ℕ → ℕ → Result ℕ Refusal → Type 0
ComposePowerPromise short groups r = r ≡ compose_power_of short groups

-- results that meet the same promise are equal, for each public call
pub record Settled : Type 0 where
  pub compose_event : (e : Source) → Settles (ComposeEventPromise e)
  pub compose_power : (short groups : ℕ) → Settles (ComposePowerPromise short groups)
