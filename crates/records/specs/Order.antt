-- The rules 7 to 9 of a map, each over everything. Paper 01, "Map, store, reset image" and "Refusal numbers".
-- Assumes nothing.
use Rattle.std.specs.Prelude.{ℕ, ◌+◌, ◌%◌, Bool, true, ◌&&◌, ◌||◌, List, [], ◌∷◌, leb, ltb, eqb, length}
use Rattle.laws.specs.Lists.{every}
use Rattle.laws.specs.Numbers.{Test, test, first_failing}
use Rattle.records.specs.Map.{records_of, writable, locations_end}
use Rattle.records.specs.declared.record.Record.{Record}

-- 7: records of 8 bytes, 0 to 64 of them
unfoldable pub size_holds : ℕ → Bool
size_holds n = eqb (n % 8) 0 && leb n 512

-- lockable 0/1; only kinds 2 and 4 may be lockable
abbrev pub lockable_holds : Record → Bool
lockable_holds r = eqb r.lockable 0 || (eqb r.lockable 1 && writable r)

-- 8: a record's own fields. Bank at most 199; width 1..8; last location at most 0xFE; kinds 0 to 4; lockable; zero
abbrev pub fields_hold : Record → Bool
fields_hold r =
    leb r.bank 199 && (leb 1 r.width && leb r.width 8) && leb (locations_end r) (0xFE + 1) && leb r.kind 4
    && lockable_holds r && eqb r.zero 0

-- 9: p stands before r: a lower bank, or in the same bank a lower first location and no location shared
abbrev pub before : Record → Record → Bool
before p r = ltb p.bank r.bank || (eqb p.bank r.bank && leb (locations_end p) r.first)

-- 9: each record stands before the next
abbrev pub rising_from : Record → List Record → Bool
rising_from p [] = true
rising_from p (r ∷ rs) = before p r && rising_from r rs

abbrev pub rising : List Record → Bool
rising [] = true
rising (r ∷ rs) = rising_from r rs

-- the tests of a map by itself, in paper 01's order
abbrev pub order_tests : List ℕ → List Test
order_tests map =
    test 7 (size_holds (length map))
    ∷ test 8 (every fields_hold (records_of map))
    ∷ test 9 (rising (records_of map))
    ∷ []

unfoldable pub order_number : List ℕ → ℕ
order_number map = first_failing (order_tests map)

-- what a lookup rests on: 7, 8 and 9 hold
unfoldable pub ordered : List ℕ → Bool
ordered map = size_holds (length map) && (every fields_hold (records_of map) && rising (records_of map))
