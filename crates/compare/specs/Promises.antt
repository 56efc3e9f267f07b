-- What is proved of the comparison. The proofs stand in proofs/.
-- Assumes nothing.
use Rattle.std.specs.Prelude.{◌≡◌, ◌↔◌, false, ℕ, ◌+◌, ◌-◌, ◌*◌, ◌/◌, ◌≤◌, ◌<◌, length, get_or, replicate, Result, Ok}
use mathlib.Core.List.{List, [], ◌∷◌, Memᴰ, map as each}
use Rattle.laws.specs.Bits.{bits}
use Rattle.laws.specs.Numbers.{Given}
use Rattle.laws.specs.Parts.{part}
use Rattle.records.specs.Map.{record_at, records_of}
use Rattle.records.specs.Facts.{Member}
use Rattle.records.specs.declared.record.Record.{Record}
use Rattle.banks.specs.Rules.{head_bytes_hold, check_number}
use Rattle.banks.specs.Values.{value_of}
use Rattle.banks.specs.Facts.{Stands}
use Rattle.compare.specs.Compare.{differing, compare_tests, compare_number, compare_of, count_in, output_of, compare_word}
use Rattle.compare.specs.Carry.{differences, old_bytes, new_bytes, carried_all, BroughtTo}
use Rattle.refusals.specs.Numbers.{number_in}
use Rattle.refusals.specs.declared.refusal.Refusal.{Refusal}

-- The numbers.

-- 7 to 11 and 15 are given exactly if every test before passes and that one fails
abbrev pub CompareNumbers : Type 0
CompareNumbers =
    (map old new : List ℕ) (room n : ℕ) → 0 < n
    → (compare_number map old new room ≡ n) ↔ Given (compare_tests map old new room) n

-- 0 is given exactly if both stores stand, each with the other for the image, and there are 24 bytes for each differing value:
-- room of exactly the list is enough, and no difference needs no room
abbrev pub CompareStands : Type 0
CompareStands =
    (map old new : List ℕ) (room : ℕ)
    → (compare_number map old new room ≡ 0)
    ↔ (Stands map old (length new) × Stands map new (length old) × (24 * length (differing map old new) ≤ room))

-- after the first store passes, the second can only give 11, and does exactly if its byte at 0x00 of some bank breaks the rule
abbrev pub SecondGives11 : Type 0
SecondGives11 =
    (map old new : List ℕ) → check_number map old (length new) ≡ 0 → (n : ℕ) → 0 < n
    → (check_number map new (length old) ≡ n) ↔ ((n ≡ 11) × (head_bytes_hold (records_of map) new ≡ false))

-- The list.

-- a position is listed exactly if it is that of a record and the bytes of its value differ
abbrev pub DifferingExactly : Type 0
DifferingExactly =
    (map old new : List ℕ) (i : ℕ)
    → Memᴰ i (differing map old new)
    ↔ ((i < length map / 8) × (value_of (record_at map i) old ≡ value_of (record_at map i) new → ⊥))

-- a value is listed exactly if it is in the map and its bytes differ
abbrev pub ValuesListed : Type 0
ValuesListed =
    (map old new : List ℕ) (r : Record)
    → Memᴰ r (each (record_at map) (differing map old new)) ↔ (Member r map × (value_of r old ≡ value_of r new → ⊥))

-- each position lies below those behind it
abbrev pub Rises : List ℕ → Type 0
Rises [] = Unit {0}
Rises (i ∷ l) = ((j : ℕ) → Memᴰ j l → i < j) × Rises l

-- positions rise strictly: each once, in map order
abbrev pub ListRises : Type 0
ListRises = (map old new : List ℕ) → Rises (differing map old new)

-- 24 bytes that are the difference of the value r: bank, first location, width, kind, four zeros, old bytes, new bytes, each 8,
-- zero filled at the end
pub record Difference (d : List ℕ) (r : Record) (old new : List ℕ) : Type 0 where
  pub as_long : length d ≡ 24
  pub bank : get_or d 0 0 ≡ r.bank
  pub first : get_or d 1 0 ≡ r.first
  pub width : get_or d 2 0 ≡ r.width
  pub kind : get_or d 3 0 ≡ r.kind
  pub zeros : part 4 4 d ≡ replicate 4 0
  pub old_bytes_lem : part 8 r.width d ≡ value_of r old
  pub old_filled : part (8 + r.width) (8 - r.width) d ≡ replicate (8 - r.width) 0
  pub new_bytes_lem : part 16 r.width d ≡ value_of r new
  pub new_filled : part (16 + r.width) (8 - r.width) d ≡ replicate (8 - r.width) 0

-- number 0: record k of the output is the difference of the value at the k-th listed position
abbrev pub OutputShows : Type 0
OutputShows =
    (map old new before : List ℕ) → compare_number map old new (length before) ≡ 0
    → (k : ℕ) → k < length (differing map old new)
    → Difference (part (24 * k) 24 (output_of map old new before)) (record_at map (get_or (differing map old new) k 0)) old new

-- What stays.

-- number 0: bytes past the list stay, and the output is as long as it was
pub record StaysPast (map old new before : List ℕ) : Type 0 where
  pub stays :
      (j : ℕ) → 24 * length (differing map old new) ≤ j → get_or (output_of map old new before) j 0 ≡ get_or before j 0
  pub as_long : length (output_of map old new before) ≡ length before

abbrev pub PastStays : Type 0
PastStays = (map old new before : List ℕ) → compare_number map old new (length before) ≡ 0 → StaysPast map old new before

-- a refusal: its number, no count, and every byte of the output as it was
abbrev pub CompareRefuses : Type 0
CompareRefuses =
    (map old new before : List ℕ) → 0 < compare_number map old new (length before)
    → (number_in (compare_of map old new (length before)) ≡ compare_number map old new (length before))
    × (count_in (compare_of map old new (length before)) ≡ 0) × (output_of map old new before ≡ before)

-- whatever is handed in, the count is at most 64
abbrev pub CompareMost : Type 0
CompareMost = (map old new : List ℕ) (room : ℕ) → count_in (compare_of map old new room) ≤ 64

-- What makes it useful.

-- number 0: each difference's new bytes, put onto the old store, give every value of the new one
abbrev pub NewFromOld : Type 0
NewFromOld =
    (map old new before : List ℕ) → compare_number map old new (length before) ≡ 0
    → BroughtTo map old new
    (carried_all map new_bytes (differences (output_of map old new before) (length (differing map old new))) old)

-- and its old bytes, put onto the new store, give every value of the old one
abbrev pub OldFromNew : Type 0
OldFromNew =
    (map old new before : List ℕ) → compare_number map old new (length before) ≡ 0
    → BroughtTo map new old
    (carried_all map old_bytes (differences (output_of map old new before) (length (differing map old new))) new)

-- As one number.

-- number | count << 8: each part stands in its bits
pub record CompareBack (w : ℕ) (c : Result ℕ Refusal) : Type 0 where
  pub number : bits w 7 0 ≡ number_in c
  pub count : bits w 31 8 ≡ count_in c

abbrev pub CompareShows : Type 0
CompareShows =
    (map old new : List ℕ) (room : ℕ) → compare_number map old new room ≡ 0
    → CompareBack (compare_word (compare_of map old new room)) (Ok (length (differing map old new)))

-- a refusal is its number alone
abbrev pub CompareAlone : Type 0
CompareAlone =
    (map old new : List ℕ) (room : ℕ) → 0 < compare_number map old new room
    → compare_word (compare_of map old new room) ≡ compare_number map old new room

-- What each public call promises of its result r and of the output, which was `before`. Results that meet the same promise are
-- equal, and so are the outputs.

-- result and output are these
pub record Compares {A : Type 0} (r : A) (output : List ℕ) (answer : A) (written : List ℕ) : Type 0 where
  pub answers : r ≡ answer
  pub leaves : output ≡ written

abbrev pub ComparePromise : List ℕ → List ℕ → List ℕ → List ℕ → Result ℕ Refusal → List ℕ → Type 0
ComparePromise map old new before r output =
    Compares r output (compare_of map old new (length before)) (output_of map old new before)

abbrev pub CompareWordPromise : List ℕ → List ℕ → List ℕ → List ℕ → ℕ → List ℕ → Type 0
CompareWordPromise map old new before r output =
    Compares r output (compare_word (compare_of map old new (length before))) (output_of map old new before)

abbrev pub SettlesCompared : {A : Type 0} → (A → List ℕ → Type 0) → Type 0
SettlesCompared {A} promise =
    (r s : A) (output other : List ℕ) → promise r output → promise s other → (r ≡ s) × (output ≡ other)

abbrev pub CompareSettled : Type 0
CompareSettled = (map old new before : List ℕ) → SettlesCompared (ComparePromise map old new before)

abbrev pub CompareWordSettled : Type 0
CompareWordSettled = (map old new before : List ℕ) → SettlesCompared (CompareWordPromise map old new before)
