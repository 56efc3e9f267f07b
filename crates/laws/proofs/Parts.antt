-- A part of a list of bytes, put anew: what stands there, and what stays elsewhere.
-- Assumes nothing.
use mathlib.Core.Path.{◌≡◌, refl, ap, ◌∙◌}
use mathlib.Core.Logic.{◌⊎◌, inl, inr}
use mathlib.Core.List.{List, [], ◌∷◌, ◌++◌, append_assoc}
use Prim.Native.Nat.{ℕ, suc, ◌+◌, ◌-◌, ◌≤◌, ◌<◌}
use native.Mathlib.Omega.{arith}
use lib.ListN.{length, take, drop, set, length-take, length-drop}
use lib.Seq.{sets-eq, length-sets, take_at, drop_at, drop-set-lt, drop-set-add, take-set-le, length-take-le}
use Rattle.laws.specs.Parts.{part, put}

module _ (at n : ℕ) where
  one : (s : List ℕ) (i a : ℕ) → (i < at) ⊎ (at + n ≤ i) → part at n (set s i a) ≡ part at n s
  unfolding part
  one s i a (inl h) = ap (take n) (drop-set-lt at s i a h)
  one s i a (inr h) =
      let e : i ≡ at + (i - at) = omega arith in
      rw e (rw (drop-set-add at s (i - at) a) (take-set-le n (drop at s) (i - at) a (omega arith)))

  -- bytes that are put before the part or after it leave it
  pub part_stays : (bs s : List ℕ) (i : ℕ) → (i + length bs ≤ at) ⊎ (at + n ≤ i) → part at n (put i bs s) ≡ part at n s
  unfolding put
  part_stays [] s i h = refl
  part_stays (b ∷ bs) s i (inl h) = part_stays bs (set s i b) (suc i) (inl (omega arith))
      ∙ one s i b (inl (omega arith))
  part_stays (b ∷ bs) s i (inr h) = part_stays bs (set s i b) (suc i) (inr (omega arith)) ∙ one s i b (inr h)

-- the part that was put is there
pub part_put : (at : ℕ) (bs s : List ℕ) → at + length bs ≤ length s → part at (length bs) (put at bs s) ≡ bs
unfolding part put
part_put at bs s h =
    rw (sets-eq bs s at h, append_assoc)
    (rw (drop_at (take at s) (bs ++ drop (at + length bs) s) at (length-take-le at s (omega arith)))
    (take_at bs _ (length bs) refl))

pub length_put : (at : ℕ) (bs s : List ℕ) → length (put at bs s) ≡ length s
unfolding put
length_put at bs s = length-sets s at bs

pub length_part : (at n : ℕ) (s : List ℕ) → at + n ≤ length s → length (part at n s) ≡ n
unfolding part
length_part at n s h = simp (length-take, length-drop) (omega arith)
