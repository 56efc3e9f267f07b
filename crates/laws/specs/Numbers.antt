-- The number of a refusal: a list of tests, each with its number; the first test that fails gives its number.
-- The statements are proved in proofs/Numbers.antt.
-- Assumes nothing.
use Rattle.std.specs.Prelude.{◌≡◌, ◌⊎◌, Bool, true, false, not, List, [], ◌∷◌, ℕ, ◌<◌, eqb, if◌then◌else◌}
use Rattle.laws.specs.Lists.{every}

-- a test, and the number that is given where it fails
pub record Test : Type 0 where
  pub number : ℕ
  pub passes : Bool

abbrev pub test : ℕ → Bool → Test
test n b = record { number = n; passes = b }

-- the number of the first test that fails; 0 where all pass
unfoldable pub first_failing : List Test → ℕ
first_failing [] = 0
first_failing (t ∷ ts) = if t.passes then first_failing ts else t.number

-- every test before that of n passes, and n's fails
abbrev pub Given : List Test → ℕ → Type 0
Given [] n = ⊥
Given (t ∷ ts) n = ((t.passes ≡ false) × (t.number ≡ n)) ⊎ ((t.passes ≡ true) × Given ts n)

-- a number is given exactly if every test before its own passes and its own fails
abbrev pub ExactlyIf : List Test → Type 0
ExactlyIf ts = (n : ℕ) → 0 < n → (first_failing ts ≡ n → Given ts n) × (Given ts n → first_failing ts ≡ n)

-- 0 is no test's number
abbrev pub numbered : List Test → Bool
numbered ts = every (λ t. not (eqb t.number 0)) ts

-- 0 is given exactly if all pass
abbrev pub NoneExactlyIf : List Test → Type 0
NoneExactlyIf ts =
    (first_failing ts ≡ 0 → every (λ t. t.passes) ts ≡ true) × (every (λ t. t.passes) ts ≡ true → first_failing ts ≡ 0)
