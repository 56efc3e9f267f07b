-- The numbers below a bound, and how many items of a list pass a test.
-- Assumes nothing.
use Rattle.std.specs.Prelude.{ℕ, suc, Bool, List, [], ◌∷◌, if◌then◌else◌}
use Rattle.laws.specs.Lists.{items}

abbrev pub below : ℕ → List ℕ
below n = items (λ i. i) 0 n

abbrev pub count : {A : Type 0} → (A → Bool) → List A → ℕ
count f [] = 0
count f (x ∷ xs) = if f x then suc (count f xs) else count f xs
