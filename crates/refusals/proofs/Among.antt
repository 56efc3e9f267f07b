-- The number that a list of tests gives is that of a refusal, where each test's number is.
-- Assumes nothing.
use Rattle.std.proofs.Common.{arith, ◌≡◌, ℕ, ◌≤◌, true, leb, leb-true, List, [], ◌∷◌}
use Rattle.laws.specs.Lists.{every}
use Rattle.laws.specs.Numbers.{Test, first_failing}
use Rattle.laws.proofs.Tests.{both, if_by}
use Rattle.refusals.specs.Numbers.{number_of, refusal_of}
use Rattle.refusals.proofs.Told.{number_again}

-- the numbers of these tests are at most 16
abbrev pub OfRefusals : List Test → Type 0
OfRefusals ts = every (λ t. leb t.number 16) ts ≡ true

pub number_most : (ts : List Test) → OfRefusals ts → first_failing ts ≤ 16
unfolding first_failing
number_most [] h = omega arith
number_most (t ∷ ts) h =
    let p = both (leb t.number 16) (every (λ t. leb t.number 16) ts) h in
    if_by (λ (n : ℕ). n ≤ 16) t.passes (λ _. number_most ts p.1) (λ _. leb-true t.number 16 p.0)

pub number_among : (ts : List Test) → OfRefusals ts → (n : ℕ) → first_failing ts ≡ n → (n ≡ 0 → ⊥)
    → number_of (refusal_of n) ≡ n
number_among ts h n e k = number_again n (omega arith) (omega (arith, number_most ts h))
