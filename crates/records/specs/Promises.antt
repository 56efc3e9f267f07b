-- What is proved of a map by itself: the numbers, the records, the look-up. The proofs stand in proofs/.
-- Assumes nothing.
use Rattle.std.specs.Prelude.{◌≡◌, ◌↔◌, true, false, ℕ, ◌/◌, ◌^◌, ◌≤◌, ◌<◌, length, Some, Result, Ok, Err}
use mathlib.Core.List.{List, [], Memᴰ}
use Rattle.laws.specs.Numbers.{Given}
use Rattle.laws.specs.Settled.{Settles}
use Rattle.records.specs.Map.{record_at, records_of, mapped}
use Rattle.records.specs.Order.{size_holds, ordered, order_tests, order_number}
use Rattle.records.specs.Lookup.{holds, holder, beginner}
use Rattle.records.specs.Halving.{Wanted, visits, visits_of, visited, halved, halved_bank}
use Rattle.records.specs.Facts.{Member, FieldsHold, Before, Holds, Says, Distinct, AgreeAt}
use Rattle.records.specs.declared.record.Record.{Record}
use Rattle.records.specs.declared.holder.Why.{Why}

-- The numbers.

-- 7 to 9 are given exactly if every test before passes and that one fails
abbrev pub OrderNumbers : Type 0
OrderNumbers = (map : List ℕ) (n : ℕ) → 0 < n → (order_number map ≡ n) ↔ Given (order_tests map) n

-- 0 is given exactly if 7, 8 and 9 hold
abbrev pub OrderStands : Type 0
OrderStands = (map : List ℕ) → (order_number map ≡ 0) ↔ (ordered map ≡ true)

-- The records of a map.

-- 8
abbrev pub MemberFields : Type 0
MemberFields = (map : List ℕ) → ordered map ≡ true → (r : Record) → Member r map → FieldsHold r

-- 9: of two records the one with the lower number stands before
abbrev pub MembersRise : Type 0
MembersRise =
    (map : List ℕ) → ordered map ≡ true → (i j : ℕ) → i < j → j < length map / 8
    → Before (record_at map i) (record_at map j)

-- The record that holds a location.

-- a location lies in at most one record: one that holds it is what is found
abbrev pub HolderHit : Type 0
HolderHit =
    (map : List ℕ) → ordered map ≡ true → (bank location : ℕ) (r : Record) → Member r map → Holds r bank location
    → holder (records_of map) bank location ≡ Ok r

-- it is missing exactly if no record holds it
abbrev pub HolderNone : Type 0
HolderNone =
    (map : List ℕ) (bank location : ℕ)
    → ((w : Why) × (holder (records_of map) bank location ≡ Err w))
    ↔ ((r : Record) → Member r map → holds r bank location ≡ false)

-- a record is found at its first location, and begins there
abbrev pub FirstFound : Type 0
FirstFound =
    (map : List ℕ) → ordered map ≡ true → (r : Record) → Member r map
    → (holder (records_of map) r.bank r.first ≡ Ok r) × (beginner (records_of map) r.bank r.first ≡ Some r)

-- a bank is mapped exactly if it has a record
abbrev pub MappedMember : Type 0
MappedMember =
    (map : List ℕ) (bank : ℕ)
    → (mapped (records_of map) bank ≡ true) ↔ ((r : Record) × Member r map × (r.bank ≡ bank))

-- Why a location is missing. Paper 02, Item 4.

-- the look-up gives an answer exactly if what that answer says is so
abbrev pub FoundExactly : Type 0
FoundExactly =
    (map : List ℕ) → ordered map ≡ true → (bank location : ℕ) (f : Result Record Why)
    → (holder (records_of map) bank location ≡ f) ↔ Says map bank location f

-- one of the four answers is always so, and no two are
abbrev pub OneAnswer : Type 0
OneAnswer =
    (map : List ℕ) → ordered map ≡ true → (bank location : ℕ)
    → (f : Result Record Why) × Says map bank location f × ((g : Result Record Why) → Says map bank location g → g ≡ f)

-- Halving. Paper 02, Item 3: every answer stays what it was.

-- halving finds what the walk finds
abbrev pub HalvingFinds : Type 0
HalvingFinds =
    (map : List ℕ) → ordered map ≡ true → (bank location : ℕ)
    → halved map bank location ≡ holder (records_of map) bank location

-- and a bank where the walk finds it
abbrev pub HalvingMaps : Type 0
HalvingMaps = (map : List ℕ) → ordered map ≡ true → (bank : ℕ) → halved_bank map bank ≡ mapped (records_of map) bank

-- more fuel than records changes nothing
abbrev pub MoreFuel : Type 0
MoreFuel =
    (map : List ℕ) (wanted : Wanted) (fuel : ℕ) → length map / 8 ≤ fuel
    → visits map wanted fuel 0 (length map / 8) ≡ visits_of map wanted

-- How many records a look-up examines, the length of the list of positions that it visits. Paper 02, Item 5.

-- of fewer than 2 ^ k records at most k are visited
abbrev pub VisitedBound : Type 0
VisitedBound =
    (map : List ℕ) (bank location k : ℕ) → length map / 8 < 2 ^ k → length (visited map bank location) ≤ k

-- and no smaller number would do: at most k for every bank and location, exactly if there are fewer than 2 ^ k records
abbrev pub VisitedExactly : Type 0
VisitedExactly =
    (map : List ℕ) → ordered map ≡ true → (k : ℕ)
    → ((bank location : ℕ) → length (visited map bank location) ≤ k) ↔ (length map / 8 < 2 ^ k)

-- "at most 7 with 64 records": rule 7 allows no more records
abbrev pub VisitedMost : Type 0
VisitedMost =
    (map : List ℕ) → size_holds (length map) ≡ true → (bank location : ℕ) → length (visited map bank location) ≤ 7

-- "and 0 with none"
abbrev pub VisitedNone : Type 0
VisitedNone = (map : List ℕ) → length map / 8 ≡ 0 → (bank location : ℕ) → visited map bank location ≡ []

-- each position is that of a record
abbrev pub VisitedBelow : Type 0
VisitedBelow =
    (map : List ℕ) (bank location i : ℕ) → Memᴰ i (visited map bank location) → i < length map / 8

-- and none is visited twice
abbrev pub VisitedDistinct : Type 0
VisitedDistinct = (map : List ℕ) (bank location : ℕ) → Distinct (visited map bank location)

-- the list tells the truth about what is examined: a map of that length that agrees at these positions has the same list
abbrev pub VisitedTells : Type 0
VisitedTells =
    (map other : List ℕ) → length map ≡ length other → (bank location : ℕ)
    → AgreeAt map other (visited map bank location)
    → visited map bank location ≡ visited other bank location

-- and, if both pass 7, 8 and 9, the same answer with the same reason
abbrev pub AnswerTells : Type 0
AnswerTells =
    (map other : List ℕ) → ordered map ≡ true → ordered other ≡ true → length map ≡ length other
    → (bank location : ℕ) → AgreeAt map other (visited map bank location)
    → holder (records_of map) bank location ≡ holder (records_of other) bank location

-- What the public call promises of its result r; answers that meet the same promise are equal.

abbrev pub CheckOrderPromise : List ℕ → ℕ → Type 0
CheckOrderPromise map r = r ≡ order_number map

abbrev pub OrderSettled : Type 0
OrderSettled = (map : List ℕ) → Settles (CheckOrderPromise map)
