-- Numbered items: which one stands at a place, and each under a function; and what a test of some item says of them.
-- Assumes nothing.
use Rattle.std.proofs.Common.{◌≡◌, ℕ, zero, suc, ◌+◌, ◌<◌, Bool, true, map, length, get_or, sym, refl, ap, ◌∙◌, ⊎_elim, le_of_suc-le-suc, not-suc-le-zero, add-zero, add-suc, suc-add, zero-add, arith}
use mathlib.Core.Bool.{false≢true}
use Rattle.laws.specs.Lists.{items, some}
use Rattle.laws.proofs.Sides.{either}

module _ {A : Type 0} where
  get_d_from : (item : ℕ → A) (d : A) (i n k : ℕ) → k < n → get_or (items item i n) k d ≡ item (i + k)
  get_d_from item d i zero k h = absurd (not-suc-le-zero h)
  get_d_from item d i (suc n) zero h = ap item (sym (add-zero i))
  get_d_from item d i (suc n) (suc k) h =
      get_d_from item d (suc i) n k (le_of_suc-le-suc h) ∙ ap item (suc-add i k ∙ sym (add-suc i k))

  pub get_d_items : (item : ℕ → A) (d : A) (n k : ℕ) → k < n → get_or (items item 0 n) k d ≡ item k
  get_d_items item d n k h = get_d_from item d 0 n k h ∙ ap item (zero-add k)

  pub length_items : (item : ℕ → A) (i n : ℕ) → length (items item i n) ≡ n
  length_items item i zero = refl
  length_items item i (suc n) = ap suc (length_items item (suc i) n)

  pub map_items : {B : Type 0} (f : A → B) (item : ℕ → A) (i n : ℕ)
      → map f (items item i n) ≡ items (λ (k : ℕ). f (item k)) i n
  map_items f item i zero = refl
  map_items f item i (suc n) = rw (map_items f item (suc i) n)

  -- some item passes: the one of this number
  pub some_numbered : (f : A → Bool) (item : ℕ → A) (i n : ℕ) → some f (items item i n) ≡ true
      → (k : ℕ) × (k < n) × (f (item (i + k)) ≡ true)
  some_numbered f item i zero e = absurd (false≢true e)
  some_numbered f item i (suc n) e =
      ⊎_elim
      (λ t. (0, omega arith, ap (λ (k : ℕ). f (item k)) (add-zero i) ∙ t))
      (λ t.
      let x = some_numbered f item (suc i) n t in
      (suc x.0, omega (arith, x.1), ap (λ (k : ℕ). f (item k)) (add-suc i x.0 ∙ sym (suc-add i x.0)) ∙ x.2))
      (either (f (item i)) (some f (items item (suc i) n)) e)
