-- The same bytes: as `==` finds it, and what it says.
-- Assumes nothing.
use Prim.Native.Nat.{ℕ}
use mathlib.Core.Path.{◌≡◌, refl, ap, sym, ◌∙◌}
use mathlib.Core.Bool.{true, ◌&&◌}
use mathlib.Core.List.{List, [], ◌∷◌}
use lib.Dec.{eqb}
use lib.Pointwise.{pointwise, bytes_decides}
use Rattle.compare.specs.Compare.{same}

pub same_is : (a b : List ℕ) → pointwise eqb a b ≡ same a b
same_is [] [] = refl
same_is [] (y ∷ b) = refl
same_is (x ∷ a) [] = refl
same_is (x ∷ a) (y ∷ b) = ap (λ t. eqb x y && t) (same_is a b)

-- the same bytes are equal, and back
pub same_equal : (a b : List ℕ) → same a b ≡ true → a ≡ b
same_equal a b e = (bytes_decides a b).0 (same_is a b ∙ e)

pub equal_same : (a b : List ℕ) → a ≡ b → same a b ≡ true
equal_same a b e = sym (same_is a b) ∙ (bytes_decides a b).1 e
