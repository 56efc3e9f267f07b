-- Executed writes to the locations of one value, whatever its width: it is put with its last byte, and not before.
-- Assumes nothing.
use Prim.Native.Nat.{ℕ, suc, ◌+◌, ◌-◌, ◌≤◌, ◌<◌}
use mathlib.Core.Path.{◌≡◌, refl, ap, sym, ◌∙◌}
use mathlib.Core.Bool.{true, or-true}
use mathlib.Core.List.{List, [], ◌∷◌, ◌++◌, append_assoc}
use native.Mathlib.Omega.{arith}
use native.Mathlib.Nat.{add-zero, add_assoc}
use native.Mathlib.Numerals.{add-one}
use borrow.Author.Tests.{eq-eqb, ne_eqb, le-leb}
use lib.Dec.{eqb}
use lib.ListN.{length, take, set, replicate, length-set}
use lib.Seq.{take-suc-set}
use Rattle.std.specs.Prelude.{Ok}
use Rattle.laws.specs.Outcome.{Outcome, leaves}
use Rattle.records.specs.Map.{records_of, writable}
use Rattle.records.specs.Lookup.{holder}
use Rattle.records.specs.declared.record.Record.{Record}
use Rattle.records.proofs.Members.{member_fields}
use Rattle.records.proofs.Locations.{holder_hit}
use Rattle.banks.specs.Values.{put_value}
use Rattle.banks.proofs.Places.{placed_ordered}
use Rattle.memory.specs.Staged.{none_staged, unlocked, taken, bytes_with, staged_of}
use Rattle.memory.specs.Promises.{writes, WholeValue}
use Rattle.memory.specs.declared.staged.Staged.{Staged}
use Rattle.memory.specs.declared.staged.Wrote.{Wrote}
use Rattle.memory.proofs.Writes.{write_more, write_last}

module _ (rs : List Record) (store : List ℕ) (r : Record) (small : r.width ≤ 8)
    (W : writable r ≡ true) (U : unlocked rs store r ≡ true)
    (F : (i : ℕ) → i < r.width → holder rs r.bank (r.first + i) ≡ Ok r) where
  -- the next byte is number k of the value, and the ones before it are the first of these eight
  record Ready (k : ℕ) (g : Staged) (bytes : List ℕ) : Type 0 where
    pub takes : taken rs store g r (r.first + k) ≡ true
    pub with : (b : ℕ) → bytes_with g k b ≡ set bytes k b
    pub eight : length bytes ≡ 8

  at_first : (g : Staged) → Ready 0 g (replicate 8 0)
  unfolding taken bytes_with
  at_first g =
      record {
        takes = rw (W, U, eq-eqb (r.first + 0) r.first (add-zero r.first));
        with = λ b. refl;
        eight = refl;
      }

  at_next : (k : ℕ) (bytes : List ℕ) → 1 ≤ k → length bytes ≡ 8 → Ready k (staged_of r k bytes) bytes
  unfolding taken bytes_with
  at_next k bytes h e =
      record {
        takes =
            rw (
              W,
              U,
              le-leb 1 k h,
              eq-eqb r.bank r.bank refl,
              eq-eqb r.first r.first refl,
              eq-eqb (r.first + k) (r.first + k) refl,
            )
            (or-true (eqb (r.first + k) r.first));
        with = λ b. rw (ne_eqb k 0 (omega arith));
        eight = e;
      }

  one_more : (bytes : List ℕ) (k b : ℕ) → length bytes ≡ 8 → k < 8
      → take (k + 1) (set bytes k b) ≡ take k bytes ++ b ∷ []
  one_more bytes k b e h = ap (λ (n : ℕ). take n (set bytes k b)) (add-one k) ∙ take-suc-set bytes k b (omega arith)

  -- the bytes that are left
  rest : (bs : List ℕ) (b k : ℕ) (g : Staged) (bytes : List ℕ) → Ready k g bytes → k + suc (length bs) ≡ r.width
      → writes rs store g r.bank (r.first + k) (b ∷ bs)
      ≡ leaves none_staged (put_value r (take k bytes ++ b ∷ bs) store)
  rest [] b k g bytes t w =
      let n : r.first + k - r.first ≡ k = omega arith in
      let last : take r.width (bytes_with g (r.first + k - r.first) b) ≡ take k bytes ++ b ∷ [] =
      ap (λ (j : ℕ). take r.width (bytes_with g j b)) n ∙ ap (take r.width) (t.with b)
      ∙ ap (λ (j : ℕ). take j (set bytes k b)) (sym w) ∙ one_more bytes k b t.eight (omega arith) in
      ap (λ (o : Outcome Wrote). leaves o.answer.staged o.store)
      (write_last rs store g r.bank (r.first + k) b r (record { found = F k (omega arith); took = t.takes })
      (omega arith))
      ∙ ap (λ (l : List ℕ). leaves none_staged (put_value r l store)) last
  rest (c ∷ bs) b k g bytes t w =
      let n : r.first + k - r.first ≡ k = omega arith in
      ap (λ (o : Outcome Wrote). writes rs o.store o.answer.staged r.bank (r.first + k + 1) (c ∷ bs))
      (write_more rs store g r.bank (r.first + k) b r (record { found = F k (omega arith); took = t.takes })
      (omega arith))
      ∙ ap (λ (j : ℕ). writes rs store (staged_of r (j + 1) (bytes_with g j b)) r.bank (r.first + k + 1) (c ∷ bs)) n
      ∙ ap (λ (l : List ℕ). writes rs store (staged_of r (k + 1) l) r.bank (r.first + k + 1) (c ∷ bs)) (t.with b)
      ∙ ap (λ (j : ℕ). writes rs store (staged_of r (k + 1) (set bytes k b)) r.bank j (c ∷ bs))
      (add_assoc r.first k 1)
      ∙ rest bs c (k + 1) (staged_of r (k + 1) (set bytes k b)) (set bytes k b)
      (at_next (k + 1) (set bytes k b) (omega arith) (length-set bytes k b ∙ t.eight)) (omega arith)
      ∙ ap (λ (l : List ℕ). leaves none_staged (put_value r l store))
      (ap (λ (l : List ℕ). l ++ c ∷ bs) (one_more bytes k b t.eight (omega arith))
      ∙ append_assoc (take k bytes) (b ∷ []) (c ∷ bs))

  from_first : (bs : List ℕ) (b : ℕ) (g : Staged) → suc (length bs) ≡ r.width
      → writes rs store g r.bank r.first (b ∷ bs) ≡ leaves none_staged (put_value r (b ∷ bs) store)
  from_first bs b g w =
      ap (λ (j : ℕ). writes rs store g r.bank j (b ∷ bs)) (sym (add-zero r.first))
      ∙ rest bs b 0 g (replicate 8 0) (at_first g) (omega arith)

pub whole_value : WholeValue
whole_value map store p r m W U g [] w =
    absurd (omega (arith, member_fields map (placed_ordered map (length store) p) r m))
whole_value map store p r m W U g (b ∷ bs) w =
    let o = placed_ordered map (length store) p in
    let f = member_fields map o r m in
    from_first (records_of map) store r f.most_width W U
    (λ i h.
    holder_hit map o r.bank (r.first + i) r m (record { same_bank = refl; from = omega arith; to = omega arith }))
    bs b g w
