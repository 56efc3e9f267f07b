-- A test of all numbers below a bound that is computed, one number after the other, holds of each.
-- Assumes nothing.
use mathlib.Core.Path.{◌≡◌, ◌∙◌, subst, sym}
use mathlib.Core.Bool.{Bool, true}
use Prim.Native.Nat.{ℕ, zero, suc, ◌+◌, ◌<◌}
use native.Mathlib.Nat.{add-zero, zero-add, add-suc, suc-add, le_of_suc-le-suc, not-suc-le-zero}
use Rattle.laws.specs.Lists.{items, every}
use Rattle.laws.specs.Counts.{below}
use Rattle.laws.proofs.Tests.{both}

module _ (f : ℕ → Bool) where
  from : (n i : ℕ) → every f (items (λ i. i) i n) ≡ true → (k : ℕ) → k < n → f (i + k) ≡ true
  from zero i t k h = absurd (not-suc-le-zero h)
  from (suc n) i t zero h = subst (λ (m : ℕ). f m ≡ true) (sym (add-zero i)) (both (f i) _ t).0
  from (suc n) i t (suc k) h =
      subst (λ (m : ℕ). f m ≡ true) (suc-add i k ∙ sym (add-suc i k))
      (from n (suc i) (both (f i) _ t).1 k (le_of_suc-le-suc h))

  pub at_each : (n : ℕ) → every f (below n) ≡ true → (k : ℕ) → k < n → f k ≡ true
  at_each n t k h = subst (λ (m : ℕ). f m ≡ true) (zero-add k) (from n 0 t k h)
