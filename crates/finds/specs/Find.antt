-- The find calls: which value holds a location, or why none does, and how many records the look-up examines. Paper 02, Items 4
-- and 5; the numbers are those of paper 01.
-- Assumes nothing.
use Rattle.std.specs.Prelude.{ℕ, ◌+◌, ◌*◌, ◌^◌, ◌&&◌, List, [], ◌∷◌, ◌++◌, leb, eqb, length, if◌then◌else◌, Result, Ok, Err}
use Rattle.laws.specs.Numbers.{Test, test, first_failing}
use Rattle.records.specs.Map.{records_of}
use Rattle.records.specs.Order.{order_tests, order_number}
use Rattle.records.specs.Lookup.{holder}
use Rattle.records.specs.Halving.{visited}
use Rattle.records.specs.declared.record.Record.{Record}
use Rattle.records.specs.declared.holder.Why.{Why}
use Rattle.records.specs.declared.holder.Why.TheVariants.{Absent, Hole, Past}
use Rattle.refusals.specs.Numbers.{refusal_of}
use Rattle.refusals.specs.declared.refusal.Refusal.{Refusal}
use Rattle.finds.specs.declared.found.Finding.{Finding}

-- the answer, and the length of the list of record positions that the halving rule visits
abbrev pub accepted_find : List ℕ → ℕ → ℕ → Finding
accepted_find map bank location =
    record { found = holder (records_of map) bank location; count = length (visited map bank location) }

-- 7, 8, 9, then the answer; a refusal has neither answer nor count: nothing was looked up
unfoldable pub find_of : List ℕ → ℕ → ℕ → Result Finding Refusal
find_of map bank location =
    if eqb (order_number map) 0 then Ok (accepted_find map bank location) else Err (refusal_of (order_number map))

-- As one number, for banks and locations of any size.

-- what: 0 a value holds it, 1 bank absent, 2 hole, 3 past the bank's last one
abbrev pub what : Result Record Why → ℕ
what (Ok r) = 0
what (Err Absent) = 1
what (Err (Hole n)) = 2
what (Err Past) = 3

-- the location: of a value its first one, of a hole the next mapped one; else 0
abbrev pub place : Result Record Why → ℕ
place (Ok r) = r.first
place (Err Absent) = 0
place (Err (Hole n)) = n
place (Err Past) = 0

-- the width of a value; else 0
abbrev pub width : Result Record Why → ℕ
width (Ok r) = r.width
width (Err w) = 0

-- what << 8 | location << 16 | width << 24
unfoldable pub found_word : Result Record Why → ℕ
found_word f = what f * 2 ^ 8 + place f * 2 ^ 16 + width f * 2 ^ 24

-- and count << 32, the number being 0
abbrev pub answer_word : Finding → ℕ
answer_word x = found_word x.found + x.count * 2 ^ 32

-- 7, 8, 9, then 6: a bank or location that is no byte
abbrev pub find_tests : List ℕ → ℕ → ℕ → List Test
find_tests map bank location = order_tests map ++ test 6 (leb bank 255 && leb location 255) ∷ []

unfoldable pub find_number : List ℕ → ℕ → ℕ → ℕ
find_number map bank location = first_failing (find_tests map bank location)

-- a refusal is its number alone
unfoldable pub find_word : List ℕ → ℕ → ℕ → ℕ
find_word map bank location =
    if eqb (find_number map bank location) 0 then answer_word (accepted_find map bank location)
    else find_number map bank location
