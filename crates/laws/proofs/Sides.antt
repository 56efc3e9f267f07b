-- A test that is made of two, taken apart into its sides and made of them; and a choice, taken apart.
-- Assumes nothing.
use mathlib.Core.Path.{◌≡◌, refl, sym, ◌∙◌}
use mathlib.Core.Logic.{◌⊎◌, inl, inr}
use mathlib.Core.Bool.{Bool, true, false, not, ◌&&◌, ◌||◌, false≢true}
use Rattle.std.specs.Prelude.{if◌then◌else◌}
use Rattle.laws.proofs.Tests.{both, denied, not_denied}

-- either half of a test that passed
pub either : (a b : Bool) → (a || b) ≡ true → (a ≡ true) ⊎ (b ≡ true)
either true b e = inl refl
either false b e = inr e

pub or_left : (a b : Bool) → a ≡ true → (a || b) ≡ true
or_left true b e = refl
or_left false b e = absurd (false≢true e)

pub or_right : (a b : Bool) → b ≡ true → (a || b) ≡ true
or_right true b e = refl
or_right false b e = e

-- the halves one by one, for a search that takes a long test apart
pub and_left : (a b : Bool) → (a && b) ≡ true → a ≡ true
and_left a b e = (both a b e).0

pub and_right : (a b : Bool) → (a && b) ≡ true → b ≡ true
and_right a b e = (both a b e).1

-- what a choice gave, it gave by one of its sides
pub chosen : {A : Type 0} (b : Bool) {x y z : A} → (if b then x else y) ≡ z
    → ((b ≡ true) × (x ≡ z)) ⊎ ((b ≡ false) × (y ≡ z))
chosen true e = inl (refl, e)
chosen false e = inr (refl, e)

-- two tests that pass together are the same
pub same_test : (a b : Bool) → (a ≡ true → b ≡ true) → (b ≡ true → a ≡ true) → a ≡ b
same_test true b f g = sym (f refl)
same_test false true f g = g refl
same_test false false f g = refl

-- a test that a call made, and the branch on its denial: `if !call(..) { .. }`
pub failed : {b t : Bool} → b ≡ t → not b ≡ true → t ≡ false
failed {b} e h = sym e ∙ denied b h

pub passed : {b t : Bool} → b ≡ t → not b ≡ false → t ≡ true
passed {b} e h = sym e ∙ not_denied b h
