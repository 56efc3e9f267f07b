-- The first test of a list that fails gives its number, exactly.
-- Assumes nothing.
use mathlib.Core.Path.{◌≡◌, refl}
use mathlib.Core.Logic.{inl, inr}
use mathlib.Core.Bool.{Bool, true, false, not, ◌&&◌}
use mathlib.Core.List.{List, [], ◌∷◌}
use Prim.Native.Nat.{ℕ, ◌<◌}
use native.Mathlib.Omega.{arith}
use lib.Dec.{eqb}
use borrow.Author.Tests.{eqb-false}
use Rattle.std.specs.Prelude.{if◌then◌else◌}
use Rattle.laws.specs.Lists.{every}
use Rattle.laws.specs.Numbers.{Test, test, first_failing, Given, ExactlyIf, numbered, NoneExactlyIf}
use Rattle.laws.proofs.Tests.{both, denied}

given : (ts : List Test) (n : ℕ) → 0 < n → first_failing ts ≡ n → Given ts n
unfolding first_failing
given [] n h e = omega arith
given (t ∷ ts) n h e = go (given ts n h) t.passes refl e
  where
    go : (first_failing ts ≡ n → Given ts n) → (b : Bool) → t.passes ≡ b
        → (if b then first_failing ts else t.number) ≡ n → Given (t ∷ ts) n
    go rest true p q = inr (p, rest q)
    go rest false p q = inl (p, q)

is_first : (ts : List Test) (n : ℕ) → Given ts n → first_failing ts ≡ n
unfolding first_failing
is_first [] n g = absurd g
is_first (t ∷ ts) n (inl p) = rw p.0 p.1
is_first (t ∷ ts) n (inr p) = rw p.0 (is_first ts n p.1)

-- for every list of tests
pub exactly_if : (ts : List Test) → ExactlyIf ts
exactly_if ts n h = (given ts n h, is_first ts n)

all_pass : (ts : List Test) → numbered ts ≡ true → first_failing ts ≡ 0 → every (λ t. t.passes) ts ≡ true
unfolding first_failing
all_pass [] k e = refl
all_pass (t ∷ ts) k e = go (all_pass ts p.1) t.passes refl e
  where
    p : (not (eqb t.number 0) ≡ true) × (numbered ts ≡ true)
    p = both (not (eqb t.number 0)) (numbered ts) k

    go : (first_failing ts ≡ 0 → every (λ t. t.passes) ts ≡ true) → (b : Bool) → t.passes ≡ b →
        (if b then first_failing ts else t.number) ≡ 0 → (t.passes && every (λ t. t.passes) ts) ≡ true
    go rest true q z = rw q (rest z)
    go rest false q z = absurd (eqb-false t.number 0 (denied (eqb t.number 0) p.0) z)

none_fails : (ts : List Test) → every (λ t. t.passes) ts ≡ true → first_failing ts ≡ 0
unfolding first_failing
none_fails [] e = refl
none_fails (t ∷ ts) e =
    let p = both t.passes (every (λ t. t.passes) ts) e in
    rw p.0 (none_fails ts p.1)

-- for every list of tests whose numbers are not 0
pub none_exactly_if : (ts : List Test) → numbered ts ≡ true → NoneExactlyIf ts
none_exactly_if ts k = (all_pass ts k, none_fails ts)

-- a test that passes is passed by; one that fails gives its number
pub passing : (n : ℕ) (b : Bool) (ts : List Test) → b ≡ true → first_failing (test n b ∷ ts) ≡ first_failing ts
unfolding first_failing
passing n b ts e = rw e

pub failing : (n : ℕ) (b : Bool) (ts : List Test) → b ≡ false → first_failing (test n b ∷ ts) ≡ n
unfolding first_failing
failing n b ts e = rw e
