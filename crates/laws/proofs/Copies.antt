-- Bytes copied one by one: after i turns the copy is the first i bytes, and behind them what was there. And a part that
-- was lent comes back.
-- Assumes nothing.
use Prim.Native.Nat.{ℕ, zero, suc, ◌+◌, ◌-◌, ◌≤◌, ◌<◌}
use mathlib.Core.Path.{◌≡◌, refl, ap, sym, ◌∙◌}
use mathlib.Core.List.{List, [], ◌∷◌, ◌++◌, append-nil, append_assoc}
use native.Mathlib.Omega.{arith}
use native.Mathlib.Numerals.{add-one}
use native.Mathlib.Nat.{not-suc-le-zero, le_of_suc-le-suc, add-sub_cancel_left}
use lib.ListN.{length, take, drop, set, get_or, drop_of_length-le}
use lib.Seq.{take-take, drop-drop, length-take-le, sets-eq}
use Rattle.laws.specs.Parts.{part, put}
use Rattle.laws.proofs.Parts.{length_part}

one_more : (i : ℕ) (d s : List ℕ) → i < length d → i < length s
    → set (take i s ++ drop i d) i (get_or s i 0) ≡ take (suc i) s ++ drop (suc i) d
one_more i [] s h k = absurd (not-suc-le-zero h)
one_more i (x ∷ d) [] h k = absurd (not-suc-le-zero k)
one_more zero (x ∷ d) (y ∷ s) h k = refl
one_more (suc i) (x ∷ d) (y ∷ s) h k =
    ap (λ (t : List ℕ). y ∷ t) (one_more i d s (le_of_suc-le-suc h) (le_of_suc-le-suc k))

-- a turn
pub copy_more : (i : ℕ) (d s l : List ℕ) → l ≡ take i s ++ drop i d → i < length d → i < length s
    → set l i (get_or s i 0) ≡ take (i + 1) s ++ drop (i + 1) d
copy_more i d s l e h k =
    ap (λ (t : List ℕ). set t i (get_or s i 0)) e ∙ one_more i d s h k
    ∙ ap (λ (j : ℕ). take j s ++ drop j d) (sym (add-one i))

-- the room is full
pub copy_full : (i : ℕ) (d s : List ℕ) → length d ≡ i → take i s ++ drop i d ≡ take i s
copy_full i d s h =
    ap (λ (t : List ℕ). take i s ++ t) (drop_of_length-le d {i = i} (omega arith)) ∙ append-nil (take i s)

module _ (s : List ℕ) (at n end : ℕ) (e : end ≡ at + n) where
  width : end - at ≡ n
  width = ap (λ (k : ℕ). k - at) e ∙ add-sub_cancel_left at n

  -- the part that is lent
  pub lent : take (end - at) (drop at s) ≡ part at n s
  unfolding part
  lent = ap (λ (k : ℕ). take k (drop at s)) width

  -- as many bytes of it as it has are all of it
  pub lent_whole : take n (take (end - at) (drop at s)) ≡ part at n s
  unfolding part
  lent_whole = ap (take n) lent ∙ take-take n n (drop at s) (omega arith)

  -- the part that was lent comes back with as many of the bytes as it has room for: they are put there
  pub put_back : at + n ≤ length s → (bs ys : List ℕ) → n ≤ length bs
      → ys ≡ take (length (take (end - at) (drop at s))) bs
      → take at s ++ (ys ++ drop (end - at) (drop at s)) ≡ put at (take n bs) s
  unfolding put
  put_back h bs ys k q =
      let m : length (take (end - at) (drop at s)) ≡ n = ap length lent ∙ length_part at n s h in
      let l : length (take n bs) ≡ n = length-take-le n bs k in
      let y : ys ≡ take n bs = q ∙ ap (λ (j : ℕ). take j bs) m in
      let d : drop (end - at) (drop at s) ≡ drop (at + length (take n bs)) s = rw (l, width) (drop-drop n at s) in
      let rest = drop (at + length (take n bs)) s in
      rw (y, d) (sym (sets-eq (take n bs) s at (omega arith) ∙ append_assoc (take at s) (take n bs) rest))
