-- What is composed is never refused in range, and reads back.
-- Assumes nothing.
use mathlib.Core.Path.{◌≡◌, refl, ap}
use mathlib.Core.Bool.{Bool, true, false, ◌||◌}
use Prim.Native.Nat.{ℕ, ◌+◌, ◌-◌, ◌^◌, ◌/◌, ◌%◌, ◌<◌}
use native.Mathlib.Omega.{arith}
use lib.Dec.{ltb, eqb}
use borrow.Author.Tests.{lt-ltb, ltb-true, eqb-true, ne_eqb}
use Rattle.std.specs.Int.{w32}
use Rattle.std.proofs.lemmas.Nat.Bits.{bit_at-trailing_zeros}
use Rattle.std.specs.Prelude.{Option, Some, None, Result, Ok}
use Rattle.laws.specs.Bits.{bits}
use Rattle.laws.specs.Numbers.{first_failing}
use Rattle.laws.proofs.Tests.{if_by, if_eq, both}
use Rattle.refusals.specs.Numbers.{number_in}
use Rattle.refusals.specs.declared.refusal.Refusal.{Refusal}
use Rattle.frames.specs.Values.{scheme_at, field_value}
use Rattle.frames.specs.Write.{scheme_limit, event_fits, message_fits, frame_of, write_of}
use Rattle.frames.specs.declared.message.Message.{Message}
use Rattle.frames.specs.declared.message.Scheme.{Scheme}
use Rattle.frames.proofs.Round.{written, reads_back}
use Rattle.composing.specs.Compose.{or_missing, source_fits, shipped_of, or_blank, lowest_group, first_carried}
use Rattle.composing.specs.Compose.{second_carried, event_with, event_by, compose_of, power_fits, power_by}
use Rattle.composing.specs.Compose.{compose_power_of}
use Rattle.composing.specs.Promises.{Composes, Carries, by_scheme, FallsBack, AsShipped, ComposesPower, Lowest}
use Rattle.composing.specs.Refusals.{composer_tests, ComposerNumbers, power_event_tests, PowerNumbers}
use Rattle.composing.specs.declared.source.Source.{Source}

-- bit k of n is n / 2 ^ k % 2, at any k
bit_is : (n k : ℕ) → bits n k k ≡ n / 2 ^ k % 2
unfolding bits
bit_is n k = ap (λ (w : ℕ). n / 2 ^ k % 2 ^ w) (one k)
  where
    one : (k : ℕ) → k + 1 - k ≡ 1
    one k = omega arith

pub lowest : Lowest
lowest groups p h =
    let l = bit_at-trailing_zeros w32 groups p h in
    (l.0, rw bit_is l.1, λ k q. rw bit_is (l.2 k q))

-- a field that holds something holds it in range
abbrev Below : ℕ → Option ℕ → Type 0
Below limit x = field_value x < limit

blank_below : (x limit : ℕ) → 0 < limit → or_missing x limit ≡ true → Below limit (or_blank x)
unfolding or_missing or_blank
blank_below x limit p e = if_eq (Below limit) x 255 (λ _. p) (λ n. go n (ltb x limit) refl e)
  where
    go : (x ≡ 255 → ⊥) → (t : Bool) → ltb x limit ≡ t → (t || eqb x 255) ≡ true → x < limit
    go n true p q = ltb-true x limit p
    go n false p q = absurd (n (eqb-true x 255 q))

group_below : (groups : ℕ) → groups < 2 ^ 32 → Below 32 (lowest_group groups)
unfolding lowest_group
group_below groups h = if_eq (Below 32) groups _ (λ _. omega arith) (λ n. (bit_at-trailing_zeros w32 groups (omega arith) h).0)

record InRange (e : Source) : Type 0 where
  sort : e.sort < 32
  number : e.number < 32
  primary : or_missing e.primary 32 ≡ true
  short : or_missing e.short 64 ≡ true
  groups : e.groups < 2 ^ 32
  information : e.information < 1024

in_range : (e : Source) → source_fits e ≡ true → InRange e
unfolding source_fits
in_range e f =
    let a = both _ _ f in
    let b = both _ _ a.1 in
    let c = both _ _ b.1 in
    let d = both _ _ c.1 in
    let g = both _ _ d.1 in
    let i = both _ _ g.1 in
    record {
      sort = ltb-true _ _ a.0;
      number = ltb-true _ _ b.0;
      primary = c.0;
      short = d.0;
      groups = ltb-true _ _ g.0;
      information = ltb-true _ _ i.0;
    }

first_below : (e : Source) → InRange e → (s : Scheme) → Below (scheme_limit s) (first_carried s e)
first_below e r Scheme.TypeNumber = r.sort
first_below e r Scheme.ShortType = blank_below e.short 64 (omega arith) r.short
first_below e r Scheme.ShortNumber = blank_below e.short 64 (omega arith) r.short
first_below e r Scheme.GroupType = group_below e.groups r.groups
first_below e r Scheme.PrimaryType = blank_below e.primary 32 (omega arith) r.primary

second_below : (e : Source) → InRange e → (s : Scheme) → second_carried s e < 32
second_below e r Scheme.TypeNumber = r.number
second_below e r Scheme.ShortType = r.sort
second_below e r Scheme.ShortNumber = r.number
second_below e r Scheme.GroupType = r.sort
second_below e r Scheme.PrimaryType = r.sort

event_fits_lem : (s : Scheme) (x y i : ℕ) → x < scheme_limit s → y < 32 → i < 1024
    → message_fits (Message.Event s x y i) ≡ true
unfolding event_fits
event_fits_lem s x y i a b c = simp (lt-ltb x (scheme_limit s) a, lt-ltb y 32 b, lt-ltb i 1024 c)

event_by_fits : (e : Source) → InRange e → message_fits (event_by e) ≡ true
unfolding event_by
event_by_fits e r = go (first_carried s e) (first_below e r s)
  where
    s : Scheme
    s = scheme_at (shipped_of e.scheme)

    go : (x : Option ℕ) → Below (scheme_limit s) x → message_fits (event_with x s e) ≡ true
    go None h = event_fits_lem _ _ _ _ r.sort r.number r.information
    go (Some v) h = event_fits_lem s _ _ _ h (second_below e r s) r.information

event_written : (e : Source) → source_fits e ≡ true → write_of (event_by e) ≡ Ok (frame_of (event_by e))
event_written e f = written (event_by e) (frame_of (event_by e)) (event_by_fits e (in_range e f)) refl

pub composes : Composes
unfolding compose_of
composes e f =
    let w = event_written e f in
    (frame_of (event_by e), simp f w, reads_back (event_by e) (frame_of (event_by e)) w)

pub carries : Carries
unfolding event_by
carries e s first p q = simp (p, q)

pub falls_back : FallsBack
unfolding event_by shipped_of scheme_at
falls_back e p = simp p

-- as shipped the event is that of scheme 2, by what the short address is
shipped_event : (e : Source) → event_by (by_scheme 255 e) ≡ event_by (by_scheme 2 e)
unfolding event_by shipped_of scheme_at
shipped_event e = go (or_blank e.short)
  where
    go : (x : Option ℕ) → event_with x Scheme.ShortNumber (by_scheme 255 e) ≡ event_with x Scheme.ShortNumber (by_scheme 2 e)
    go None = refl
    go (Some v) = refl

-- a field that is not missing holds its number
held : (x : ℕ) → (x ≡ 255 → ⊥) → or_blank x ≡ Some x
unfolding or_blank
held x n = simp (ne_eqb x 255 n)

pub as_shipped : AsShipped
unfolding or_missing source_fits or_blank shipped_of scheme_at event_by compose_of
as_shipped =
    record {
      is_scheme_2 = λ e. simp (shipped_event e);
      with_address = λ e n. carries (by_scheme 255 e) Scheme.ShortNumber e.short refl (held e.short n);
      without_address = λ e p. simp p;
    }

power_written : (short groups : ℕ) → power_fits short groups ≡ true →
    write_of (power_by short groups) ≡ Ok (frame_of (power_by short groups))
unfolding power_fits
power_written short groups e =
    let p = both (ltb groups (2 ^ 32)) _ e in
    let g = group_below groups (ltb-true _ _ p.0) in
    let s = blank_below short 64 (omega arith) p.1 in
    written (power_by short groups) (frame_of (power_by short groups))
    (simp (lt-ltb (field_value (lowest_group groups)) 32 g, lt-ltb (field_value (or_blank short)) 64 s)) refl

pub composes_power : ComposesPower
unfolding compose_power_of
composes_power short groups e =
    let m : Message = power_by short groups in
    let w = power_written short groups e in
    (frame_of m, simp e w, reads_back m (frame_of m) w)

-- so 6 is given exactly if a field is out of range
pub composer_numbers : ComposerNumbers
unfolding compose_of first_failing
composer_numbers e =
    if_by (λ (w : Result ℕ Refusal). number_in w ≡ first_failing (composer_tests e)) (source_fits e) (λ f. simp (
      f,
      event_written e f,
    )) (λ f. simp f)

pub power_numbers : PowerNumbers
unfolding compose_power_of first_failing
power_numbers short groups =
    if_by (λ (w : Result ℕ Refusal). number_in w ≡ first_failing (power_event_tests short groups)) (power_fits short groups)
    (λ f. simp (f, power_written short groups f)) (λ f. simp f)
