-- What the rules 8 and 9 say of the records of a map.
-- Assumes nothing.
use mathlib.Core.Path.{◌≡◌, refl, subst}
use mathlib.Core.Logic.{◌⊎◌, inl, inr, ⊎_elim}
use mathlib.Core.Bool.{true, ◌&&◌}
use mathlib.Core.List.{List, [], ◌∷◌}
use Prim.Native.Nat.{ℕ, zero, suc, ◌+◌, ◌-◌, ◌/◌, ◌<◌}
use native.Mathlib.Omega.{arith}
use borrow.Author.Tests.{leb-true, ltb-true, eqb-true, le-leb, lt-ltb, eq-eqb}
use lib.Dec.{leb, ltb, eqb}
use lib.ListN.{length}
use Rattle.laws.specs.Lists.{items, every}
use Rattle.laws.proofs.Tests.{both, and_of}
use Rattle.laws.proofs.Items.{every_at}
use Rattle.laws.proofs.Sides.{either, or_left, or_right, and_left, and_right}
use Rattle.laws.proofs.Members.{every_of, items_member}
use Rattle.records.specs.Map.{record_at, records_of, writable, locations_end}
use Rattle.records.specs.Order.{lockable_holds, fields_hold, before, rising_from, rising, ordered}
use Rattle.records.specs.Facts.{FieldsHold, Before}
use Rattle.records.specs.Promises.{MemberFields, MembersRise}
use Rattle.records.specs.declared.record.Record.{Record}

ruleset parts = (and_left, and_right, leb-true)

-- 8
locked : (r : Record) → lockable_holds r ≡ true → (r.lockable ≡ 0) ⊎ ((r.lockable ≡ 1) × (writable r ≡ true))
locked r e =
    ⊎_elim
    (λ t. inl (eqb-true r.lockable 0 t))
    (λ t. let b = both (eqb r.lockable 1) (writable r) t in inr (eqb-true r.lockable 1 b.0, b.1))
    (either (eqb r.lockable 0) (eqb r.lockable 1 && writable r) e)

pub fielded : (r : Record) → fields_hold r ≡ true → FieldsHold r
fielded r e =
    record {
      low_bank = search parts depth 8;
      some_width = search parts depth 8;
      most_width = search parts depth 8;
      last = search parts depth 8;
      low_kind = search parts depth 8;
      locks = locked r (search parts depth 8);
    }

-- 9
pub before_is : (p r : Record) → before p r ≡ true → Before p r
before_is p r e =
    ⊎_elim
    (λ t. inl (ltb-true p.bank r.bank t))
    (λ t.
    let b = both (eqb p.bank r.bank) (leb (locations_end p) r.first) t in
    inr (eqb-true p.bank r.bank b.0, leb-true (locations_end p) r.first b.1))
    (either (ltb p.bank r.bank) (eqb p.bank r.bank && leb (locations_end p) r.first) e)

is_before : (p r : Record) → Before p r → before p r ≡ true
is_before p r (inl h) = or_left (ltb p.bank r.bank) _ (lt-ltb p.bank r.bank h)
is_before p r (inr h) =
    or_right (ltb p.bank r.bank) _
    (and_of (eqb p.bank r.bank) (leb (locations_end p) r.first) (eq-eqb p.bank r.bank h.0)
    (le-leb (locations_end p) r.first h.1))

before_trans : (p q r : Record) → Before p q → Before q r → Before p r
before_trans p q r (inl h) (inl k) = inl (omega arith)
before_trans p q r (inl h) (inr k) = inl (omega arith)
before_trans p q r (inr h) (inl k) = inl (omega arith)
before_trans p q r (inr h) (inr k) = inr (omega arith, omega arith)

-- a record stands before all that come after it
pub rising_all : (p : Record) (rs : List Record) → rising_from p rs ≡ true → every (before p) rs ≡ true
rising_all p [] e = refl
rising_all p (r ∷ rs) e =
    let b = both (before p r) (rising_from r rs) e in
    let after = rising_all r rs b.1 in
    and_of (before p r) (every (before p) rs) b.0
    (every_of (before p) rs (λ x m.
    is_before p x (before_trans p r x (before_is p r b.0) (before_is r x (every_at (before r) rs after x m)))))

pub rising_tail : (p : Record) (rs : List Record) → rising_from p rs ≡ true → rising rs ≡ true
rising_tail p [] e = refl
rising_tail p (r ∷ rs) e = (both (before p r) (rising_from r rs) e).1

-- the records of an ordered map
pub fields_all : (map : List ℕ) → ordered map ≡ true → every fields_hold (records_of map) ≡ true
unfolding ordered
fields_all map o = search (and_left, and_right)

pub rises : (map : List ℕ) → ordered map ≡ true → rising (records_of map) ≡ true
unfolding ordered
rises map o = search (and_left, and_right)

pub member_fields : MemberFields
member_fields map o r m = fielded r (every_at fields_hold (records_of map) (fields_all map o) r m)

module _ (item : ℕ → Record) where
  renumbered : (a b i j : ℕ) → a ≡ i → b ≡ j → Before (item a) (item b) → Before (item i) (item j)
  renumbered a b i j p q h =
      subst (λ (x : ℕ). Before (item x) (item j)) p (subst (λ (x : ℕ). Before (item a) (item x)) q h)

  -- of n items from number k on, number i stands before number j
  rise : (n k i j : ℕ) → rising (items item k n) ≡ true → i < j → j < n → Before (item (k + i)) (item (k + j))
  rise zero k i j u h l = absurd (omega arith)
  rise (suc n) k zero j u h l =
      let later = suc k + (j - 1) in
      let rest = items item (suc k) n in
      let there = items_member item (suc k) n (j - 1) (omega arith) in
      let t = every_at (before (item k)) rest (rising_all (item k) rest u) (item later) there in
      renumbered k later (k + 0) (k + j) (omega arith) (omega arith) (before_is (item k) (item later) t)
  rise (suc n) k (suc i) j u h l =
      let is = rise n (suc k) i (j - 1) (rising_tail (item k) (items item (suc k) n) u) (omega arith) (omega arith) in
      renumbered (suc k + i) (suc k + (j - 1)) (k + suc i) (k + j) (omega arith) (omega arith) is

pub members_rise : MembersRise
unfolding records_of
members_rise map o i j h l =
    renumbered (record_at map) (0 + i) (0 + j) i j (omega arith) (omega arith)
    (rise (record_at map) (length map / 8) 0 i j (rises map o) h l)
