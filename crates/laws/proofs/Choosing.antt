-- A choice whose test has come out, and a test that cannot have passed.
-- Assumes nothing.
use mathlib.Core.Path.{◌≡◌, refl}
use mathlib.Core.Bool.{Bool, true, false, true≢false, false≢true}
use Rattle.std.specs.Prelude.{if◌then◌else◌}

module _ {A : Type 0} where
  pub if_yes : (t : Bool) (y : A) {x z : A} → t ≡ true → z ≡ x → z ≡ (if t then x else y)
  if_yes true y e p = p
  if_yes false y e p = absurd (false≢true e)

  pub if_no : (t : Bool) (x : A) {y z : A} → t ≡ false → z ≡ y → z ≡ (if t then x else y)
  if_no true x e p = absurd (true≢false e)
  if_no false x e p = p

pub refuted : (b : Bool) → (b ≡ true → ⊥) → b ≡ false
refuted true n = absurd (n refl)
refuted false n = refl
