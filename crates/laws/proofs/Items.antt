-- Items of a list, as a loop that counts up meets them; and what a test of each says of one.
-- Assumes nothing.
use Prim.Native.Nat.{ℕ, suc, ◌+◌, ◌≤◌, ◌<◌, ◌-◌}
use mathlib.Core.Path.{◌≡◌, ap, sym, ◌∙◌}
use mathlib.Core.Bool.{Bool, true}
use mathlib.Core.List.{List, [], ◌∷◌, Memᴰ}
use native.Mathlib.Omega.{arith}
use native.Mathlib.Numerals.{add-one}
use native.Mathlib.Nat.{sub-zero}
use Rattle.laws.specs.Lists.{items, every}
use Rattle.laws.proofs.Tests.{both}

module _ {A : Type 0} (item : ℕ → A) where
  -- all items are those from 0 on
  pub items_start : (n : ℕ) → items item 0 n ≡ items item 0 (n - 0)
  items_start n = ap (items item 0) (sym (sub-zero n))

  pub items_end : (i n : ℕ) → n ≤ i → items item i (n - i) ≡ []
  items_end i n h = go (n - i) (omega arith)
    where
      go : (k : ℕ) → k ≡ 0 → items item i k ≡ []
      go k e = rw e

  -- while i < n: the items from i on are item i, and those from i + 1 on
  pub items_cons : (i n : ℕ) → i < n → (x : A) → x ≡ item i
      → items item i (n - i) ≡ x ∷ items item (i + 1) (n - (i + 1))
  items_cons i n h x e = go (n - i) (n - (i + 1)) (omega arith)
      ∙ ap (λ (y : A). y ∷ items item (i + 1) (n - (i + 1))) (sym e)
    where
      go : (k l : ℕ) → k ≡ suc l → items item i k ≡ item i ∷ items item (i + 1) l
      go k l q = rw q (ap (λ (j : ℕ). item i ∷ items item j l) (sym (add-one i)))

-- what every item passes, a member passes
pub every_at : {A : Type 0} (f : A → Bool) (xs : List A) → every f xs ≡ true → (x : A) → Memᴰ x xs → f x ≡ true
every_at f [] e x x4 = elim x4 [ ]
every_at f (y ∷ xs) e x (Memᴰ.head p) = ap f p ∙ (both (f y) (every f xs) e).0
every_at f (y ∷ xs) e x (Memᴰ.tail i) = every_at f xs (both (f y) (every f xs) e).1 x i
