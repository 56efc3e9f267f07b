-- A list spelled out: its parts as items by number, a number and its four bytes, and a part that is put.
-- Assumes nothing.
use Prim.Native.Nat.{ℕ, zero, suc, ◌+◌, ◌≤◌}
use mathlib.Core.Path.{◌≡◌, refl, sym, ap, ◌∙◌}
use mathlib.Core.Bool.{true}
use mathlib.Core.List.{List, [], ◌∷◌, append_assoc}
use native.Mathlib.Omega.{arith}
use native.Mathlib.Nat.{div-one}
use lib.Dec.{eqb}
use lib.ListN.{length, take, drop, get_or, replicate}
use lib.Seq.{sets-eq, drop-cons, drop-drop, take_all}
use borrow.Rule.Slice.PartMut.{put_mid}
use borrow.Author.Tests.{eqb-true}
use Rattle.std.specs.Int.{w32, from_be_bytes, to_be_bytes}
use Rattle.laws.specs.Bits.{bits}
use Rattle.laws.specs.Lists.{items, every}
use Rattle.laws.specs.Parts.{part, put}
use Rattle.laws.proofs.Tests.{both}
use Rattle.entries.specs.Entry.{four_bytes}
use Rattle.packing.specs.StateBytes.{four_of, four_at}

-- item number i of a list of numbers
abbrev pub at : List ℕ → ℕ → ℕ
at s i = get_or s i 0

-- a part is its items
pub part_items : (n i : ℕ) (s : List ℕ) → i + n ≤ length s → part i n s ≡ items (at s) i n
unfolding part
part_items zero i s h = refl
part_items (suc n) i s h =
    rw (drop-cons s i 0 (omega arith)) (ap (λ (r : List ℕ). get_or s i 0 ∷ r) (part_items n (suc i) s (omega arith)))

-- and so is the whole
pub spelled : (n : ℕ) (s : List ℕ) → length s ≡ n → s ≡ items (at s) 0 n
unfolding part
spelled n s e = sym (take_all n s (omega arith)) ∙ part_items n 0 s (omega arith)

-- numbers that are all zero
pub zeros_are : (s : List ℕ) → every (λ x. eqb x 0) s ≡ true → s ≡ replicate (length s) 0
zeros_are [] e = refl
zeros_are (x ∷ s) e =
    let p = both (eqb x 0) (every (λ x. eqb x 0) s) e in
    rw (eqb-true x 0 p.0) (ap (λ (r : List ℕ). 0 ∷ r) (zeros_are s p.1))

-- four bytes of a part, high first, as a number
pub four_part : (b : List ℕ) (i : ℕ) → i + 4 ≤ length b → from_be_bytes w32 (part i 4 b) ≡ four_at b i
unfolding four_at
four_part b i h =
    let one : i + 1 ≡ suc i = omega arith in
    let two : i + 2 ≡ suc (suc i) = omega arith in
    let three : i + 3 ≡ suc (suc (suc i)) = omega arith in
    rw (part_items 4 i b h, one, two, three) (sum (at b i) (at b (suc i)) (at b (suc (suc i))) (at b (suc (suc (suc i)))))
  where
    sum : (x y z t : ℕ) → from_be_bytes w32 (x ∷ y ∷ z ∷ t ∷ []) ≡ four_bytes x y z t
    sum x y z t = omega arith

-- a number's four bytes
pub four_is : (n : ℕ) → to_be_bytes w32 n ≡ four_of n
unfolding four_of bits
four_is n = rw (div-one n)

-- a part that was lent comes back with other bytes: they are put there
pub put_back : (i k : ℕ) (bs ys s : List ℕ) → k ≡ length bs → ys ≡ bs → i + length bs ≤ length s → put_mid i k s ys ≡ put i bs s
unfolding put
put_back i k bs ys s e y h =
    rw (y, e, drop-drop (length bs) i s)
    (sym (sets-eq bs s i h ∙ append_assoc (take i s) bs (drop (i + length bs) s)))
