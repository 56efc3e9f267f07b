-- The rules 10 and 11 of map, store and reset image, each over everything, and the number of all three. Paper 01, "Map,
-- store, reset image" and "Refusal numbers".
-- Assumes nothing.
use Rattle.std.specs.Prelude.{ℕ, ◌+◌, Bool, true, not, ◌&&◌, ◌||◌, List, [], ◌∷◌, ◌++◌, leb, eqb, length, get_or, if◌then◌else◌}
use Rattle.laws.specs.Lists.{every, some}
use Rattle.laws.specs.Numbers.{Test, test, first_failing}
use Rattle.records.specs.Map.{records_of, writable, locations_end, places_end}
use Rattle.records.specs.Order.{ordered, order_tests}
use Rattle.records.specs.declared.record.Record.{Record}

-- 10: a store of n bytes and an image of `size` bytes: equally long, 0 to 4,096 bytes
unfoldable pub lengths_hold : ℕ → ℕ → Bool
lengths_hold n size = eqb n size && leb n 4096

-- 10: a place lies inside a store of n bytes
abbrev pub inside : ℕ → Record → Bool
inside n r = leb (places_end r) n

-- 10: two places share no byte
abbrev pub clear : Record → Record → Bool
clear p r = leb (places_end p) r.offset || leb (places_end r) p.offset

abbrev pub disjoint : List Record → Bool
disjoint [] = true
disjoint (r ∷ rs) = every (clear r) rs && disjoint rs

unfoldable pub places_hold : List Record → ℕ → ℕ → Bool
places_hold rs n size = lengths_hold n size && (every (inside n) rs && disjoint rs)

-- 11: the record of width 1 and kind ROM at 0x00
abbrev pub is_head : Record → Bool
is_head r = eqb r.first 0x00 && eqb r.width 1 && eqb r.kind 0

-- 11: the lock byte at 0x02: width 1, kind 2, not lockable
abbrev pub is_lock : Record → Bool
is_lock r = eqb r.first 0x02 && eqb r.width 1 && eqb r.kind 2 && eqb r.lockable 0

-- some record of the bank is such a one
abbrev pub bank_has : (Record → Bool) → List Record → ℕ → Bool
bank_has such rs bank = some (λ r. eqb r.bank bank && such r) rs

-- 11, what the map itself must have, for the bank of one record: each bank present has a record at 0x00; banks 1 to 199
-- have the lock byte; bank 0 has only kinds 0, 1, 3
unfoldable pub bank_holds : List Record → Record → Bool
bank_holds rs r =
    bank_has is_head rs r.bank && (if eqb r.bank 0 then not (writable r) else bank_has is_lock rs r.bank)

unfoldable pub banks_hold : List Record → Bool
banks_hold rs = every (bank_holds rs) rs

-- 11: a record of the bank ends at or before its last location, as the byte says it
abbrev pub ends_by : ℕ → ℕ → Record → Bool
ends_by bank last r = not (eqb r.bank bank) || leb (locations_end r) (last + 1)

-- 11, the stored byte at 0x00: 3..254 and not below the bank's highest mapped location
unfoldable pub head_byte_holds : List Record → ℕ → ℕ → Bool
head_byte_holds rs bank byte = (leb 3 byte && leb byte 254) && every (ends_by bank byte) rs

unfoldable pub head_holds : List Record → List ℕ → Record → Bool
head_holds rs store r = not (is_head r) || head_byte_holds rs r.bank (get_or store r.offset 0)

unfoldable pub head_bytes_hold : List Record → List ℕ → Bool
head_bytes_hold rs store = every (head_holds rs store) rs

-- 10, of a store and an image of so many bytes
abbrev pub place_tests : List ℕ → ℕ → ℕ → List Test
place_tests map n size = test 10 (places_hold (records_of map) n size) ∷ []

-- 11
abbrev pub bank_tests : List ℕ → List ℕ → List Test
bank_tests map store = test 11 (banks_hold (records_of map) && head_bytes_hold (records_of map) store) ∷ []

-- the tests of map, store and reset image, in paper 01's order: 7 to 9, 10, 11. Of the image only the length counts
abbrev pub check_tests : List ℕ → List ℕ → ℕ → List Test
check_tests map store size = order_tests map ++ place_tests map (length store) size ++ bank_tests map store

unfoldable pub check_number : List ℕ → List ℕ → ℕ → ℕ
check_number map store size = first_failing (check_tests map store size)

-- what a touch of the store rests on: 7 to 10 hold for a store and an image of n bytes
unfoldable pub placed : List ℕ → ℕ → Bool
placed map n = ordered map && places_hold (records_of map) n n
