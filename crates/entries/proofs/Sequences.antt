-- Numbered items: two stretches one after the other, and items that are the same under other numbers.
-- Assumes nothing.
use Prim.Native.Nat.{ℕ, zero, suc, ◌+◌, ◌<◌}
use mathlib.Core.Path.{◌≡◌, refl, ap, sym, ◌∙◌}
use mathlib.Core.List.{◌++◌}
use native.Mathlib.Nat.{add-zero, zero-add, add-suc, suc-add}
use native.Mathlib.Omega.{arith}
use Rattle.laws.specs.Lists.{items}

module _ {A : Type 0} where
  -- the items from i on under f are those from j on under g
  pub items_same : (f g : ℕ → A) (n i j : ℕ) → ((k : ℕ) → k < n → f (i + k) ≡ g (j + k)) → items f i n ≡ items g j n
  items_same f g zero i j h = refl
  items_same f g (suc n) i j h =
      let head : f i ≡ g j = ap f (sym (add-zero i)) ∙ h 0 (omega arith) ∙ ap g (add-zero j) in
      let tail = items_same f g n (suc i) (suc j) (λ k l.
      ap f (suc-add i k ∙ sym (add-suc i k)) ∙ h (suc k) (omega arith) ∙ ap g (add-suc j k ∙ sym (suc-add j k))) in
      rw (head, tail)

  -- m items and n more
  pub items_append : (f : ℕ → A) (m n i : ℕ) → items f i (m + n) ≡ items f i m ++ items f (i + m) n
  items_append f zero n i = rw (zero-add n, add-zero i)
  items_append f (suc m) n i = rw (suc-add m n, items_append f m n (suc i), suc-add i m, add-suc i m)
