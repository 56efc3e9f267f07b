-- What a write leaves of the store: all but the value whose last byte it is.
-- Assumes nothing.
use Prim.Native.Nat.{ℕ, ◌+◌, ◌-◌}
use mathlib.Core.Path.{◌≡◌, refl, ap, sym, ◌∙◌, subst}
use mathlib.Core.Bool.{Bool, true, false}
use mathlib.Core.List.{List}
use native.Mathlib.Omega.{arith}
use lib.Dec.{eqb}
use lib.ListN.{length, take, set, replicate, length-set}
use lib.Seq.{length-take-le}
use Rattle.std.specs.Prelude.{if◌then◌else◌}
use Rattle.laws.specs.Outcome.{Outcome}
use Rattle.laws.proofs.Tests.{clash}
use Rattle.records.specs.Map.{records_of, writable}
use Rattle.records.specs.Facts.{Member}
use Rattle.records.specs.declared.record.Record.{Record}
use Rattle.banks.specs.Rules.{placed}
use Rattle.banks.specs.Values.{value_of, put_value}
use Rattle.banks.proofs.Places.{holder_within}
use Rattle.banks.proofs.Standing.{stands, is_standing}
use Rattle.banks.proofs.HeadsAndLocks.{head_fixed}
use Rattle.banks.proofs.Values.{value_put, check_stays}
use Rattle.memory.specs.Staged.{bytes_with}
use Rattle.memory.specs.Rules.{staged_holds}
use Rattle.memory.specs.Promises.{ChangesOnly, StandsStays, Takes, TakesLast, WriteChangesOnly}
use Rattle.memory.specs.declared.staged.Staged.{Staged}
use Rattle.memory.specs.declared.staged.Wrote.{Wrote}
use Rattle.memory.proofs.Writes.{taken_is, write_cases}
use Rattle.memory.proofs.StagedRoom.{staged_room}

pub stands_stays : StandsStays
stands_stays map store after size changed c s = stands map after size (c.checks size ∙ is_standing map store size s)

unchanged : (map store : List ℕ) (changed : Record → Type 0) → ChangesOnly map store store changed
unchanged map store changed =
    record {
      as_long = refl;
      others = λ r m n. refl;
      read_only = λ r m n. refl;
      unmapped = λ j h. refl;
      checks = λ size. refl;
    }

eight : (g : Staged) (k byte : ℕ) → length g.bytes ≡ 8 → length (bytes_with g k byte) ≡ 8
unfolding bytes_with
eight g k byte l = go (eqb k 0)
  where
    go : (b : Bool) → length (if b then set (replicate 8 0) 0 byte else set g.bytes k byte) ≡ 8
    go true = refl
    go false = length-set g.bytes k byte ∙ l

module _ (map store : List ℕ) (p : placed map (length store) ≡ true) (g : Staged)
    (e : staged_holds (records_of map) store g ≡ true) (bank location byte : ℕ) where
  abbrev changed : Record → Type 0
  changed r = TakesLast (records_of map) store g bank location r

  put_changes : (r : Record) → Takes (records_of map) store g bank location r → location - r.first + 1 ≡ r.width
      → ChangesOnly map store (put_value r (take r.width (bytes_with g (location - r.first) byte)) store) changed
  put_changes r t last =
      let w = holder_within map (length store) bank location p r t.found in
      let k = location - r.first in
      let bs = take r.width (bytes_with g k byte) in
      let long : length (bytes_with g k byte) ≡ 8 = eight g k byte (staged_room (records_of map) store g e) in
      let n : length bs ≡ r.width = length-take-le r.width (bytes_with g k byte) (omega arith) in
      let q = value_put map store bs r p w.member n in
      let writes = (taken_is (records_of map) store g r location t.took).writes in
      let it : changed r = record { takes = t; last = omega arith } in
      let after : List ℕ = put_value r bs store in
      let read_only : (s : Record) → Member s map → writable s ≡ false → value_of s after ≡ value_of s store =
      λ s m c. q.others s m (λ x. clash (writable s) (ap writable x ∙ writes) c) in
      record {
        as_long = q.as_long;
        others = λ s m c. q.others s m (λ x. c (subst changed (sym x) it));
        read_only = read_only;
        unmapped = q.unmapped;
        checks = λ size. check_stays map after store size q.as_long (λ s m h. read_only s m (head_fixed s h));
      }

pub write_changes_only : WriteChangesOnly
write_changes_only map store p g e bank location byte =
    write_cases (records_of map) store g bank location byte
    (λ (o : Outcome Wrote). ChangesOnly map store o.store (TakesLast (records_of map) store g bank location))
    (unchanged map store _) (λ r t n. unchanged map store _) (put_changes map store p g e bank location byte)
