-- The bytes of a part, and a byte that stays where a part is put.
-- Assumes nothing.
use mathlib.Core.Path.{◌≡◌, ap, sym, ◌∙◌}
use mathlib.Core.Logic.{◌⊎◌, inl, inr}
use mathlib.Core.List.{List}
use Prim.Native.Nat.{ℕ, ◌+◌, ◌≤◌, ◌<◌}
use native.Mathlib.Omega.{arith}
use native.Mathlib.Nat.{add-zero}
use lib.ListN.{length, get_or}
use lib.Seq.{get_or-take, get_or-drop}
use Rattle.laws.specs.Parts.{part, put}
use Rattle.laws.proofs.Parts.{part_stays}

-- the first byte of a part is the byte at its place
pub first_byte : (at n : ℕ) (s : List ℕ) → 0 < n → get_or (part at n s) 0 0 ≡ get_or s at 0
unfolding part
first_byte at n s h = get_or-take n _ 0 0 h ∙ get_or-drop at s 0 0 ∙ ap (λ (k : ℕ). get_or s k 0) (add-zero at)

-- a byte before what is put, or after it, stays
pub byte_stays : (i j : ℕ) (bs s : List ℕ) → (j < i) ⊎ (i + length bs ≤ j) → get_or (put i bs s) j 0 ≡ get_or s j 0
byte_stays i j bs s h =
    sym (first_byte j 1 (put i bs s) (omega arith)) ∙ ap (λ (p : List ℕ). get_or p 0 0)
    (part_stays j 1 bs s i (apart h)) ∙ first_byte j 1 s (omega arith)
  where
    apart : (j < i) ⊎ (i + length bs ≤ j) → (i + length bs ≤ j) ⊎ (j + 1 ≤ i)
    apart (inl k) = inr (omega arith)
    apart (inr k) = inl k
