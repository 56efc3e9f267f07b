-- Members of a list, and the tests of its items.
-- Assumes nothing.
use mathlib.Core.Path.{◌≡◌, refl, ap, sym, ◌∙◌}
use mathlib.Core.Logic.{⊎_elim}
use mathlib.Core.Bool.{Bool, true, false≢true}
use mathlib.Core.List.Memᴰ
use mathlib.Core.List.{List, [], ◌∷◌, Memᴰ}
use Prim.Native.Nat.{ℕ, zero, suc, ◌+◌, ◌<◌}
use native.Mathlib.Nat.{add-zero, add-suc, suc-add, le_of_suc-le-suc, not-suc-le-zero}
use Rattle.laws.specs.Lists.{items, every, some}
use Rattle.laws.proofs.Tests.{and_of}
use Rattle.laws.proofs.Sides.{either, or_left, or_right}

module _ {A : Type 0} where
  -- a test that each member passes
  pub every_of : (f : A → Bool) (xs : List A) → ((x : A) → Memᴰ x xs → f x ≡ true) → every f xs ≡ true
  every_of f [] h = refl
  every_of f (x ∷ xs) h =
      and_of (f x) (every f xs) (h x (Memᴰ.head refl)) (every_of f xs (λ y m. h y (Memᴰ.tail m)))

  -- two tests that come out the same at each member
  pub every_same : (f g : A → Bool) (xs : List A) → ((x : A) → Memᴰ x xs → f x ≡ g x) → every f xs ≡ every g xs
  every_same f g [] h = refl
  every_same f g (x ∷ xs) h = rw (h x (Memᴰ.head refl), every_same f g xs (λ y m. h y (Memᴰ.tail m)))

  -- some item passes: this one
  pub some_at : (f : A → Bool) (xs : List A) → some f xs ≡ true → (x : A) × Memᴰ x xs × (f x ≡ true)
  some_at f [] e = absurd (false≢true e)
  some_at f (x ∷ xs) e =
      ⊎_elim (λ t. (x, Memᴰ.head refl, t)) (λ t. let y = some_at f xs t in (y.0, Memᴰ.tail y.1, y.2))
      (either (f x) (some f xs) e)

  pub some_of : (f : A → Bool) (xs : List A) (x : A) → Memᴰ x xs → f x ≡ true → some f xs ≡ true
  some_of f [] x x4 t = elim x4 [ ]
  some_of f (y ∷ xs) x (Memᴰ.head p) t = or_left (f y) (some f xs) (ap f (sym p) ∙ t)
  some_of f (y ∷ xs) x (Memᴰ.tail m) t = or_right (f y) (some f xs) (some_of f xs x m t)

  -- each numbered item is a member
  pub items_member : (item : ℕ → A) (i n k : ℕ) → k < n → Memᴰ (item (i + k)) (items item i n)
  items_member item i zero k h = absurd (not-suc-le-zero h)
  items_member item i (suc n) zero h = Memᴰ.head (ap item (add-zero i))
  items_member item i (suc n) (suc k) h =
      Memᴰ.tail (Memᴰ.cast (ap item (add-suc i k ∙ sym (suc-add i k)))
      (items_member item (suc i) n k (le_of_suc-le-suc h)))
