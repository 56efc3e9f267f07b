-- A frame that ends a RESET MEMORY BANK pair for the unit: it alone makes a reset due, and accepted it leaves the store
-- that the reset leaves.
-- Assumes nothing.
use Prim.Native.Nat.{ℕ}
use mathlib.Core.Path.{◌≡◌, refl, ap, ◌∙◌}
use mathlib.Core.Bool.{Bool, true, ◌&&◌, ◌||◌}
use mathlib.Core.List.{List}
use lib.Dec.{eqb, ltb}
use lib.ListN.{length}
use Rattle.laws.proofs.Tests.{if_by}
use Rattle.records.specs.Map.{records_of, mapped}
use Rattle.records.specs.declared.record.Record.{Record}
use Rattle.memory.proofs.Resets.{fill_resets}
use Rattle.hearing.specs.Meaning.{meaning_of}
use Rattle.hearing.specs.Pairs.{completes}
use Rattle.hearing.specs.declared.heard.Heard.{Heard}
use Rattle.hearing.specs.declared.meaning.Once.{Once}
use Rattle.hearing.specs.declared.meaning.Twice.{Twice}
use Rattle.hearing.specs.declared.meaning.Meaning.{Meaning}
use Rattle.hearing.specs.declared.meaning.Meaning.TheVariants.{Foreign, NotObeyed, AtOnce, NeedsPair}
use Rattle.rooms.specs.Due.{short_due, write_due, read_due, once_due, pair_due, due_by, due_of}
use Rattle.rooms.specs.declared.state.State.{State}
use Rattle.rooms.specs.declared.due.Due.{Due}
use Rattle.rooms.specs.declared.due.Due.TheVariants.{Nothing, Waits, Opens, Resets, Becomes, Loads, Answers}
use Rattle.rooms.specs.declared.due.Due.TheVariants.{Writes, Reads}
use Rattle.unit.specs.Step.{done, frame_step}
use Rattle.unit.specs.Keeping.{ResetPair, ResetDue, StepResets}
use Rattle.unit.proofs.Numbers.{calls_accepted}
use Rattle.unit.proofs.Sound.{step_sound}

-- what is due is a reset by this DTR0
abbrev IsReset : ℕ → Due → Type 0
IsReset dtr0 (Resets d) = d ≡ dtr0
IsReset dtr0 Nothing = ⊥
IsReset dtr0 Waits = ⊥
IsReset dtr0 Opens = ⊥
IsReset dtr0 (Becomes who) = ⊥
IsReset dtr0 (Loads registers) = ⊥
IsReset dtr0 (Answers byte) = ⊥
IsReset dtr0 (Writes bank location byte replying) = ⊥
IsReset dtr0 (Reads bank location) = ⊥

module _ (rs : List Record) (s : State) (heard : Heard) (dtr0 : ℕ) where
  no_write : (location byte : ℕ) (replies : Bool)
      → IsReset dtr0 (write_due rs s.door.enabled s.registers location byte replies) → ⊥
  unfolding write_due
  no_write location byte replies =
      if_by (λ (d : Due). IsReset dtr0 d → ⊥) (s.door.enabled && mapped rs s.registers.dtr1) (λ e i. i) (λ e i. i)

  -- no command that is obeyed at once
  not_once : (once : Once) → IsReset dtr0 (once_due rs s once) → ⊥
  unfolding once_due read_due
  not_once Once.QueryMissingShortAddress =
      if_by (λ (d : Due). IsReset dtr0 d → ⊥) (eqb s.who.address 255) (λ e i. i) (λ e i. i)
  not_once (Once.QueryContentDtr k) = λ i. i
  not_once Once.ReadMemoryLocation =
      if_by (λ (d : Due). IsReset dtr0 d → ⊥) (mapped rs s.registers.dtr1) (λ e i. i) (λ e i. i)
  not_once (Once.QueryDeviceGroups k) = λ i. i
  not_once (Once.WriteMemoryLocation byte replies) = no_write s.registers.dtr0 byte replies
  not_once (Once.DirectWriteMemory offset byte) = no_write offset byte true
  not_once (Once.SetDtr k byte) = λ i. i
  not_once (Once.SetDtrs k high low) = λ i. i

  no_short : IsReset dtr0 (short_due s.who s.registers.dtr0) → ⊥
  unfolding short_due
  no_short =
      if_by (λ (d : Due). IsReset dtr0 d → ⊥) (ltb s.registers.dtr0 0x40 || eqb s.registers.dtr0 255)
      (λ e i. i) (λ e i. i)

  -- of the pairs only RESET MEMORY BANK
  only_pair : (twice : Twice) → IsReset dtr0 (pair_due s twice)
      → (twice ≡ Twice.ResetMemoryBank) × (s.registers.dtr0 ≡ dtr0)
  unfolding pair_due
  only_pair Twice.ResetMemoryBank = λ i. (refl, i)
  only_pair Twice.SetShortAddress = λ i. absurd (no_short i)
  only_pair Twice.EnableWriteMemory = λ i. absurd i
  only_pair (Twice.AddToDeviceGroups half) = λ i. absurd i
  only_pair (Twice.RemoveFromDeviceGroups half) = λ i. absurd i

  due_pair : (m : Meaning) → meaning_of s.who heard.frame ≡ m → IsReset dtr0 (due_by rs s heard m)
      → ResetPair s heard dtr0
  unfolding due_by
  due_pair Foreign e = λ i. absurd i
  due_pair NotObeyed e = λ i. absurd i
  due_pair (AtOnce once) e = λ i. absurd (not_once once i)
  due_pair (NeedsPair twice) e =
      if_by (λ (d : Due). IsReset dtr0 d → ResetPair s heard dtr0) (completes s.waiting heard)
      (λ t i.
      let o = only_pair twice i in
      record { means = e ∙ ap NeedsPair o.0; pair = t; by_dtr0 = o.1 })
      (λ t i. absurd i)

  is_reset : (d : Due) → d ≡ Resets dtr0 → IsReset dtr0 d
  is_reset d e = rw e refl

  pair_due_lem : ResetPair s heard dtr0 → due_of rs s heard ≡ Resets dtr0
  unfolding due_of due_by pair_due
  pair_due_lem p = rw (p.means, p.pair, p.by_dtr0)

pub reset_due : ResetDue
unfolding due_of
reset_due rs s heard dtr0 = (
  λ e. due_pair rs s heard dtr0 (meaning_of s.who heard.frame) refl (is_reset rs s heard dtr0 _ e),
  pair_due_lem rs s heard dtr0,
)

pub step_resets : StepResets
unfolding frame_step done
step_resets map store image s heard e dtr0 p =
    let k = step_sound map store (length image) s heard e in
    rw ((calls_accepted map store image).step s heard e, pair_due_lem (records_of map) s heard dtr0 p)
    (fill_resets map store image k.standing dtr0)
