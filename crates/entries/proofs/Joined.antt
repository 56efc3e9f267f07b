-- Two slices one after the other: the records of both are those of the first, and then those of the second.
-- Assumes nothing.
use Prim.Native.Nat.{ℕ, ◌+◌, ◌*◌, ◌/◌, ◌%◌, ◌<◌}
use mathlib.Core.Path.{◌≡◌, ap, sym, ◌∙◌}
use mathlib.Core.List.{List, ◌++◌}
use native.Mathlib.Nat.{add-zero}
use native.Mathlib.Omega.{arith}
use lib.ListN.{length, get_or, length-append, get_or-append}
use lib.Seq.{get_or-append-add}
use Rattle.laws.specs.Lists.{items}
use Rattle.entries.specs.Entry.{entry_at, entries, whole_entries}
use Rattle.entries.specs.Promises.{EntriesJoined}
use Rattle.entries.proofs.Sequences.{items_same, items_append}

-- the same eight bytes are the same entry
entry_same : (a b : List ℕ) (i j : ℕ) → ((c : ℕ) → c < 8 → get_or a (8 * i + c) 0 ≡ get_or b (8 * j + c) 0)
    → entry_at a i ≡ entry_at b j
unfolding entry_at
entry_same a b i j h =
    let first : get_or a (8 * i) 0 ≡ get_or b (8 * j) 0 =
    ap (λ (k : ℕ). get_or a k 0) (sym (add-zero (8 * i))) ∙ h 0 (omega arith)
    ∙ ap (λ (k : ℕ). get_or b k 0) (add-zero (8 * j)) in
    rw (
      first,
      h 1 (omega arith),
      h 2 (omega arith),
      h 3 (omega arith),
      h 4 (omega arith),
      h 5 (omega arith),
      h 6 (omega arith),
      h 7 (omega arith),
    )

pub records_joined : EntriesJoined
records_joined a b k n e = items_append (entry_at (a ++ b)) k n 0 ∙ front ∙ back
  where
    front : items (entry_at (a ++ b)) 0 k ++ items (entry_at (a ++ b)) (0 + k) n
        ≡ entries a k ++ items (entry_at (a ++ b)) (0 + k) n
    front =
        ap (λ (es : List _). es ++ items (entry_at (a ++ b)) (0 + k) n)
        (items_same (entry_at (a ++ b)) (entry_at a) k 0 0 (λ i h.
        entry_same (a ++ b) a (0 + i) (0 + i) (λ c l. get_or-append a b 0 (8 * (0 + i) + c) (omega arith))))

    back : entries a k ++ items (entry_at (a ++ b)) (0 + k) n ≡ entries a k ++ entries b n
    back =
        ap (λ (es : List _). entries a k ++ es)
        (items_same (entry_at (a ++ b)) (entry_at b) n (0 + k) 0 (λ i h.
        entry_same (a ++ b) b (0 + k + i) (0 + i) (λ c l.
        let q : 8 * (0 + k + i) + c ≡ length a + (8 * (0 + i) + c) = omega arith in
        ap (λ (m : ℕ). get_or (a ++ b) m 0) q ∙ get_or-append-add a b (8 * (0 + i) + c) 0)))

-- a slice of whole records and what follows it
pub whole_joined : (a b : List ℕ) → length a % 8 ≡ 0 → whole_entries (a ++ b) ≡ whole_entries a ++ whole_entries b
whole_joined a b e =
    let all : length (a ++ b) / 8 ≡ length a / 8 + length b / 8 = omega (arith, length-append a b) in
    ap (entries (a ++ b)) all
    ∙ records_joined a b (length a / 8) (length b / 8) (omega arith)
