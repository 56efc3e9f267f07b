-- A field that is too large for its type is out of range; and what is written or composed has 24 bits.
-- Assumes nothing.
use Prim.Native.Nat.{ℕ, ◌≤◌, ◌<◌, ◌^◌}
use mathlib.Core.Path.{◌≡◌, refl}
use mathlib.Core.Bool.{Bool, true, false, ◌||◌}
use native.Mathlib.Omega.{arith}
use lib.Dec.{ltb, eqb}
use borrow.Author.Tests.{ltb-true, eqb-true}
use Rattle.std.specs.Prelude.{Result, Ok, Err}
use Rattle.laws.proofs.Tests.{both, if_by}
use Rattle.refusals.specs.declared.refusal.Refusal.{Refusal}
use Rattle.frames.specs.Values.{WritingFits}
use Rattle.frames.specs.declared.message.Message.{Message}
use Rattle.frames.proofs.Round.{writings_fit}
use Rattle.composing.specs.Compose.{or_missing, source_fits, event_by, compose_of, power_fits, power_by, compose_power_of}
use Rattle.composing.specs.declared.source.Source.{Source}
use Rattle.faces.specs.Answers.{out_of_range, written_of, source, FieldsHeld}

below : (x limit : ℕ) → limit ≤ 255 → or_missing x limit ≡ true → x ≤ 255
unfolding or_missing
below x limit h e = go (ltb x limit) refl e
  where
    go : (b : Bool) → ltb x limit ≡ b → (b || eqb x 255) ≡ true → x ≤ 255
    go true p q = omega (arith, ltb-true x limit p)
    go false p q = omega (arith, eqb-true x 255 q)

fits_held : (e : Source) → source_fits e ≡ true →
    FieldsHeld e.sort e.number e.primary e.short e.information e.scheme
unfolding source_fits
fits_held e f =
    let p₁ = both (ltb e.sort 32) _ f in
    let p₂ = both (ltb e.number 32) _ p₁.1 in
    let p₃ = both (or_missing e.primary 32) _ p₂.1 in
    let p₄ = both (or_missing e.short 64) _ p₃.1 in
    let p₅ = both (ltb e.groups (2 ^ 32)) _ p₄.1 in
    let p₆ = both (ltb e.information 1024) _ p₅.1 in
    record {
      low_sort = omega (arith, ltb-true e.sort 32 p₁.0);
      low_number = omega (arith, ltb-true e.number 32 p₂.0);
      low_primary = below e.primary 32 (omega arith) p₃.0;
      low_short = below e.short 64 (omega arith) p₄.0;
      low_information = omega (arith, ltb-true e.information 1024 p₆.0);
      low_scheme = below e.scheme 5 (omega arith) p₆.1;
    }

-- a field that is too large for its type
pub not_held : (sort number primary short groups information scheme : ℕ)
    → (FieldsHeld sort number primary short information scheme → ⊥)
    → compose_of (source sort number primary short groups information scheme) ≡ out_of_range
unfolding compose_of
not_held sort number primary short groups information scheme n =
    if_by (λ (w : Result ℕ Refusal). w ≡ out_of_range)
    (source_fits (source sort number primary short groups information scheme))
    (λ t. absurd (n (fits_held _ t))) (λ t. refl)

pub power_not_held : (short groups : ℕ) → 255 < short → compose_power_of short groups ≡ out_of_range
unfolding compose_power_of power_fits
power_not_held short groups h =
    if_by (λ (w : Result ℕ Refusal). w ≡ out_of_range) (power_fits short groups)
    (λ f. absurd (omega (arith, below short 64 (omega arith) (both (ltb groups (2 ^ 32)) (or_missing short 64) f).1)))
    (λ f. refl)

-- what each call answers with is a frame of 24 bits, or a number of one byte
pub written_fits : (r : Result Message Refusal) → WritingFits (written_of r)
written_fits (Ok m) = writings_fit m
written_fits (Err refusal) = omega arith

pub composed_fits : (e : Source) → WritingFits (compose_of e)
unfolding compose_of
composed_fits e = if_by WritingFits (source_fits e) (λ _. writings_fit (event_by e)) (λ _. omega arith)

pub power_fits_lem : (short groups : ℕ) → WritingFits (compose_power_of short groups)
unfolding compose_power_of
power_fits_lem short groups =
    if_by WritingFits (power_fits short groups) (λ _. writings_fit (power_by short groups)) (λ _. omega arith)
