-- What is proved of map, store and image: the numbers, the places, lock bytes, the values. The proofs stand in proofs/.
-- Assumes nothing.
use Rattle.std.specs.Prelude.{◌≡◌, ◌⊎◌, ◌↔◌, true, List, ℕ, ◌≤◌, ◌<◌, length, Ok}
use Rattle.laws.specs.Numbers.{Given}
use Rattle.laws.specs.Settled.{Settles}
use Rattle.records.specs.Map.{records_of, writable, places_end, mapped}
use Rattle.records.specs.Order.{ordered}
use Rattle.records.specs.Lookup.{holder}
use Rattle.records.specs.Facts.{Member}
use Rattle.records.specs.declared.record.Record.{Record}
use Rattle.banks.specs.Rules.{placed, is_head, banks_hold, check_tests, check_number}
use Rattle.banks.specs.Values.{value_of, put_value}
use Rattle.banks.specs.Facts.{Stands, Apart, Within, LockRecord, PutLeaves}

-- The numbers.

-- 7 to 11 are given exactly if every test before passes and that one fails
abbrev pub CheckNumbers : Type 0
CheckNumbers =
    (map store : List ℕ) (size n : ℕ) → 0 < n
    → (check_number map store size ≡ n) ↔ Given (check_tests map store size) n

-- 0 is given exactly if everything stands
abbrev pub CheckStands : Type 0
CheckStands = (map store : List ℕ) (size : ℕ) → (check_number map store size ≡ 0) ↔ Stands map store size

-- The places of the records.

-- 10
abbrev pub MemberInside : Type 0
MemberInside = (map : List ℕ) (n : ℕ) → placed map n ≡ true → (r : Record) → Member r map → places_end r ≤ n

abbrev pub MembersApart : Type 0
MembersApart =
    (map : List ℕ) (n : ℕ) → placed map n ≡ true → (r s : Record) → Member r map → Member s map
    → (r ≡ s) ⊎ Apart r s

-- what is found is a record of the map, and holds the location
abbrev pub HolderWithin : Type 0
HolderWithin =
    (map : List ℕ) (n bank location : ℕ) → placed map n ≡ true
    → (r : Record) → holder (records_of map) bank location ≡ Ok r → Within map n bank location r

-- Lock bytes.

-- a mapped bank from 1 on has its lock byte at 0x02
abbrev pub HasLock : Type 0
HasLock =
    (map : List ℕ) → ordered map ≡ true → banks_hold (records_of map) ≡ true
    → (bank : ℕ) → 0 < bank → mapped (records_of map) bank ≡ true
    → (r : Record) × LockRecord map bank r × (holder (records_of map) bank 0x02 ≡ Ok r)

-- no writable value is in bank 0
abbrev pub WritableBank : Type 0
WritableBank =
    (map : List ℕ) → banks_hold (records_of map) ≡ true → (r : Record) → Member r map → writable r ≡ true → 0 < r.bank

-- Values, and what they leave alone.

abbrev pub ValuePut : Type 0
ValuePut =
    (map store bytes : List ℕ) (r : Record) → placed map (length store) ≡ true → Member r map → length bytes ≡ r.width
    → PutLeaves map store bytes r

-- two stores of one length that agree on the bytes at 0x00 get the same number
abbrev pub CheckStays : Type 0
CheckStays =
    (map s t : List ℕ) (size : ℕ) → length s ≡ length t
    → ((r : Record) → Member r map → is_head r ≡ true → value_of r s ≡ value_of r t)
    → check_number map s size ≡ check_number map t size

-- so a value that is not at 0x00 may change: what was checked once stays checked
abbrev pub CheckStaysPut : Type 0
CheckStaysPut =
    (map store bytes : List ℕ) (size : ℕ) (r : Record) → placed map (length store) ≡ true → Member r map
    → length bytes ≡ r.width → (r.first ≡ 0x00 → ⊥)
    → check_number map (put_value r bytes store) size ≡ check_number map store size

-- What the public call promises of its result r; answers that meet the same promise are equal.

abbrev pub CheckPromise : List ℕ → List ℕ → List ℕ → ℕ → Type 0
CheckPromise map store image r = r ≡ check_number map store (length image)

abbrev pub CheckSettled : Type 0
CheckSettled = (map store image : List ℕ) → Settles (CheckPromise map store image)
