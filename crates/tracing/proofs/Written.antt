-- Bytes put into an output, and the output before and behind them.
-- Assumes nothing.
use Prim.Native.Nat.{ℕ, ◌+◌, ◌≤◌}
use mathlib.Core.Path.{◌≡◌, ◌∙◌, sym, ap}
use mathlib.Core.List.{List, ◌++◌, append_assoc}
use native.Mathlib.Omega.{arith}
use lib.ListN.{length, take, drop, length-append}
use borrow.Rule.Slice.PartMut.{put_mid}
use lib.Seq.{sets-eq, drop-drop, take_at, drop_at, length-take-le}
use Rattle.laws.specs.Parts.{put}

-- a part that was lent comes back with other bytes: they are put there
pub put_back : (at k : ℕ) (bytes ys s : List ℕ) → k ≡ length bytes → ys ≡ bytes → at + length bytes ≤ length s
    → put_mid at k s ys ≡ put at bytes s
unfolding put
put_back at k bytes ys s e y h =
    rw (y, e, drop-drop (length bytes) at s)
    (sym (sets-eq bytes s at h ∙ append_assoc (take at s) bytes (drop (at + length bytes) s)))

module _ (at : ℕ) (bytes s : List ℕ) (h : at + length bytes ≤ length s) where
  long : length (take at s ++ bytes) ≡ at + length bytes
  long = length-append (take at s) bytes ∙ ap (λ (n : ℕ). n + length bytes) (length-take-le at s (omega arith))

  -- up to their end: what stood before them, and they
  pub front_put : take (at + length bytes) (put at bytes s) ≡ take at s ++ bytes
  unfolding put
  front_put = rw (sets-eq bytes s at h) (take_at (take at s ++ bytes) _ _ long)

  -- behind them: what stood there
  pub back_put : drop (at + length bytes) (put at bytes s) ≡ drop (at + length bytes) s
  unfolding put
  back_put = rw (sets-eq bytes s at h) (drop_at (take at s ++ bytes) _ _ long)
