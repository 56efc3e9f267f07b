-- The rule of staged bytes, before and after a write; and so what the bytes are that a write stages or puts.
-- Assumes nothing.
use Prim.Native.Nat.{ℕ, ◌+◌, ◌-◌, ◌<◌}
use mathlib.Core.Path.{◌≡◌, refl, ap, sym, ◌∙◌}
use mathlib.Core.Logic.{⊎_elim}
use mathlib.Core.Bool.{true}
use mathlib.Core.List.{List, [], ◌∷◌, ◌++◌}
use native.Mathlib.Omega.{arith}
use borrow.Author.Tests.{eq-eqb, ne_eqb, eqb-false, ltb-true, lt-ltb, le-leb}
use lib.Dec.{eqb}
use lib.ListN.{length, take, length-append}
use lib.Seq.{length-take-le, take_at}
use Rattle.std.specs.Prelude.{if◌then◌else◌, Option, Some, None}
use Rattle.laws.specs.Outcome.{Outcome, leaves}
use Rattle.laws.proofs.Tests.{if_eq}
use Rattle.laws.proofs.Sides.{and_left, and_right, chosen}
use Rattle.records.specs.Map.{records_of, writable, locations_end}
use Rattle.records.specs.Lookup.{beginner}
use Rattle.records.specs.declared.record.Record.{Record}
use Rattle.records.proofs.Locations.{first_found}
use Rattle.banks.specs.Rules.{placed}
use Rattle.banks.specs.Values.{value_of, put_value, padded}
use Rattle.banks.specs.Facts.{Within}
use Rattle.banks.proofs.Places.{placed_ordered, holder_within}
use Rattle.banks.proofs.Values.{value_put}
use Rattle.memory.specs.Staged.{none_staged, unlocked, bytes_with, staged_of, wrote, write_byte}
use Rattle.memory.specs.Rules.{zero_from, staged_in, staged_holds}
use Rattle.memory.specs.Promises.{Takes, bytes_to, NoneStagedHolds, WriteKeepsRule, WriteTakes, WriteValue}
use Rattle.memory.specs.declared.staged.Staged.{Staged}
use Rattle.memory.specs.declared.staged.Wrote.{Wrote}
use Rattle.memory.proofs.Zeros.{room_bytes, set_next, padded_zero}
use Rattle.memory.proofs.Writes.{Next, Taken, taken_is, write_cases, write_more, write_last}

pub none_staged_holds : NoneStagedHolds
unfolding staged_holds zero_from
none_staged_holds rs store = refl

-- what the rule says where something is staged
pub record StagedOf (rs : List Record) (store : List ℕ) (g : Staged) (r : Record) : Type 0 where
  pub begins : beginner rs g.bank g.first ≡ Some r
  pub writes : writable r ≡ true
  pub opens : unlocked rs store r ≡ true
  pub not_all : g.count < r.width
  pub zero : zero_from g.count g.bytes ≡ true

module _ (rs : List Record) (store : List ℕ) (g : Staged) (e : staged_holds rs store g ≡ true) where
  pub staged_said : (g.count ≡ 0 → ⊥) → (r : Record) × StagedOf rs store g r
  unfolding staged_holds staged_in
  staged_said n = go (beginner rs g.bank g.first) refl (rw (ne_eqb g.count 0 n) at e)
    where
      go : (f : Option Record) → beginner rs g.bank g.first ≡ f → staged_in rs store g f ≡ true
          → (r : Record) × StagedOf rs store g r
      go (Some r) b t = (
        r,
        record {
          begins = b;
          writes = search (and_left, and_right) depth 6;
          opens = search (and_left, and_right) depth 6;
          not_all = search (and_left, and_right, ltb-true) depth 6;
          zero = search (and_left, and_right) depth 6;
        },
      )
      go None b t = let z : ◌≡◌ {A = ℕ} 0 1 = cc in absurd (omega arith)

  pub staged_room : length g.bytes ≡ 8
  unfolding staged_holds
  staged_room =
      ⊎_elim (λ q. room_bytes 0 g.bytes (search (and_left, and_right) depth 6))
      (λ q. room_bytes g.count g.bytes (staged_said (eqb-false g.count 0 q.0)).1.zero)
      (chosen (eqb g.count 0) e)

module _ (map store : List ℕ) (p : placed map (length store) ≡ true) (g : Staged)
    (e : staged_holds (records_of map) store g ≡ true)
    (bank location byte : ℕ) (r : Record) (t : Takes (records_of map) store g bank location r) where
  within : Within map (length store) bank location r
  within = holder_within map (length store) bank location p r t.found

  met : Taken (records_of map) store g r location
  met = taken_is (records_of map) store g r location t.took

  abbrev k : ℕ
  k = location - r.first

  bytes_are : bytes_with g k byte ≡ padded (bytes_to g r location byte)
  unfolding bytes_with
  bytes_are = ⊎_elim (λ q. at_first k (omega arith)) (λ n. later n) met.first_or_next
    where
      at_first : (i : ℕ) → i ≡ 0 → bytes_with g i byte ≡ padded (take i g.bytes ++ byte ∷ [])
      at_first i q = rw q

      later : Next g r location → bytes_with g k byte ≡ padded (bytes_to g r location byte)
      later n =
          let w = within in
          let same : g.count ≡ k = omega arith in
          let z = (staged_said (records_of map) store g e (λ q. omega arith)).1.zero in
          rw (ne_eqb k 0 (omega arith))
          (set_next g.bytes k byte (omega arith) (ap (λ (i : ℕ). zero_from i g.bytes) (sym same) ∙ z))

  pub bytes_length : length (bytes_to g r location byte) ≡ k + 1
  bytes_length =
      let w = within in
      let l = staged_room (records_of map) store g e in
      length-append (take k g.bytes) (byte ∷ []) ∙ ap (λ (n : ℕ). n + 1) (length-take-le k g.bytes (omega arith))

  bytes_zero : zero_from (k + 1) (bytes_with g k byte) ≡ true
  bytes_zero =
      let w = within in
      ap (zero_from (k + 1)) bytes_are
      ∙ ap (λ (n : ℕ). zero_from n (padded (bytes_to g r location byte))) (sym bytes_length)
      ∙ padded_zero (bytes_to g r location byte) (omega (arith, bytes_length))

  stages_holds : (k + 1 ≡ r.width → ⊥)
      → staged_holds (records_of map) store (staged_of r (k + 1) (bytes_with g k byte)) ≡ true
  unfolding staged_holds staged_in
  stages_holds n =
      let w = within in
      rw (
        ne_eqb (k + 1) 0 (omega arith),
        (first_found map (placed_ordered map (length store) p) r w.member).1,
        lt-ltb (k + 1) r.width (omega arith),
        met.writes,
        le-leb 2 r.width (omega arith),
        met.opens,
      ) bytes_zero

  takes : write_byte (records_of map) store g bank location byte
      ≡ (if eqb (location + 1) (locations_end r)
      then leaves (wrote true none_staged) (put_value r (bytes_to g r location byte) store)
      else leaves (wrote true (staged_of r (k + 1) (padded (bytes_to g r location byte)))) store)
  takes =
      let w = within in
      if_eq (λ (o : Outcome Wrote). write_byte (records_of map) store g bank location byte ≡ o)
      (location + 1) (locations_end r)
      (λ q.
      let v : k + 1 ≡ r.width = omega arith in
      let all : take r.width (bytes_with g k byte) ≡ bytes_to g r location byte =
      ap (take r.width) bytes_are ∙ take_at (bytes_to g r location byte) _ r.width (bytes_length ∙ v) in
      write_last (records_of map) store g bank location byte r t v
      ∙ ap (λ (l : List ℕ). leaves (wrote true none_staged) (put_value r l store)) all)
      (λ n.
      write_more (records_of map) store g bank location byte r t (λ q. n (omega arith))
      ∙ ap (λ (l : List ℕ). leaves (wrote true (staged_of r (k + 1) l)) store) bytes_are)

pub write_takes : WriteTakes
write_takes map store p g e bank location byte r t = takes map store p g e bank location byte r t

pub write_keeps_rule : WriteKeepsRule
write_keeps_rule map store p g e bank location byte =
    let rs = records_of map in
    write_cases rs store g bank location byte
    (λ (o : Outcome Wrote). staged_holds rs o.store o.answer.staged ≡ true)
    (none_staged_holds rs store) (stages_holds map store p g e bank location byte) (λ r t w. none_staged_holds rs _)

pub write_value : WriteValue
write_value map store p g e bank location byte r t =
    let w = holder_within map (length store) bank location p r t.takes.found in
    let v = bytes_to g r location byte in
    let n = bytes_length map store p g e bank location byte r t.takes in
    let o : write_byte (records_of map) store g bank location byte ≡ leaves (wrote true none_staged) (put_value r v store) =
    takes map store p g e bank location byte r t.takes ∙ rw (eq-eqb (location + 1) (locations_end r) t.last) in
    ap (λ (o : Outcome Wrote). value_of r o.store) o
    ∙ (value_put map store v r p w.member (n ∙ omega (arith, t.last))).there
