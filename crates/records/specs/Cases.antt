-- Worked cases: paper 01's bench map and its neighbours at each boundary of 7 to 9, with the number that each must get.
-- One table and one statement.
-- Assumes nothing.
use Rattle.std.specs.Prelude.{◌≡◌, List, [], ◌∷◌, ◌++◌, map, ℕ, replicate}
use Rattle.records.specs.Order.{order_number}
pub use Rattle.records.specs.Bench.{bench_map}

-- a record of the map: bank, first location, width, kind, lockable, zero, store offset
abbrev pub map_row : ℕ → ℕ → ℕ → ℕ → ℕ → ℕ → ℕ → ℕ → List ℕ
map_row bank first width kind lockable blank high low = bank ∷ first ∷ width ∷ kind ∷ lockable ∷ blank ∷ high ∷ low ∷ []

-- the byte at 0x00 and the lock byte of a bank, at the first two places of the store
abbrev pub head_row : ℕ → List ℕ
head_row bank = map_row bank 0x00 1 0 0 0 0 0

abbrev pub lock_row : ℕ → List ℕ
lock_row bank = map_row bank 0x02 1 2 0 0 0 1

-- bank 2 with more values
abbrev pub with : List ℕ → List ℕ
with values = head_row 2 ++ lock_row 2 ++ values

pub record OrderCase : Type 0 where
  pub records : List ℕ
  pub number : ℕ

abbrev gets : List ℕ → ℕ → OrderCase
gets records number = record { records = records; number = number }

abbrev pub order_cases : List OrderCase
order_cases =
    gets bench_map 0
    -- 7: no record, parts of a record, 64 and 65 records
    ∷ gets [] 0
    ∷ gets (replicate 7 0) 7
    ∷ gets (bench_map ++ 0 ∷ []) 7
    ∷ gets (replicate 512 0) 8
    ∷ gets (replicate 520 0) 7
    -- 8: bank, width, last location, kind, lockable, zero
    ∷ gets (head_row 199 ++ lock_row 199) 0
    ∷ gets (head_row 200 ++ lock_row 200) 8
    ∷ gets (with (map_row 2 0x03 0 4 0 0 0 2)) 8
    ∷ gets (with (map_row 2 0x03 1 4 0 0 0 2)) 0
    ∷ gets (with (map_row 2 0x03 8 4 0 0 0 2)) 0
    ∷ gets (with (map_row 2 0x03 9 4 0 0 0 2)) 8
    ∷ gets (with (map_row 2 0xFE 1 4 0 0 0 2)) 0
    ∷ gets (with (map_row 2 0xFF 1 4 0 0 0 2)) 8
    ∷ gets (with (map_row 2 0xF7 8 4 0 0 0 2)) 0
    ∷ gets (with (map_row 2 0xF8 8 4 0 0 0 2)) 8
    ∷ gets (with (map_row 2 0x03 1 5 0 0 0 2)) 8
    ∷ gets (with (map_row 2 0x03 1 2 1 0 0 2)) 0
    ∷ gets (with (map_row 2 0x03 1 4 2 0 0 2)) 8
    ∷ gets (with (map_row 2 0x03 1 0 1 0 0 2)) 8
    ∷ gets (with (map_row 2 0x03 1 1 1 0 0 2)) 8
    ∷ gets (with (map_row 2 0x03 1 3 1 0 0 2)) 8
    ∷ gets (with (map_row 2 0x03 1 4 0 1 0 2)) 8
    -- 9: order of banks and of locations, and locations shared
    ∷ gets (lock_row 2 ++ head_row 2) 9
    ∷ gets (head_row 2 ++ lock_row 2 ++ map_row 3 0x00 1 0 0 0 0 2 ++ map_row 3 0x02 1 2 0 0 0 3) 0
    ∷ gets (map_row 3 0x00 1 0 0 0 0 2 ++ map_row 3 0x02 1 2 0 0 0 3 ++ head_row 2 ++ lock_row 2) 9
    ∷ gets (with (map_row 2 0x02 1 4 0 0 0 2)) 9
    ∷ gets (with (map_row 2 0x03 4 4 0 0 0 2 ++ map_row 2 0x06 1 4 0 0 0 6)) 9
    ∷ gets (with (map_row 2 0x03 4 4 0 0 0 2 ++ map_row 2 0x07 1 4 0 0 0 6)) 0
    -- two rules broken: the lower number
    ∷ gets (0 ∷ []) 7
    ∷ gets (map_row 2 0x03 9 4 0 0 0 2 ++ head_row 2) 8
    ∷ []

-- each case gets its number
unfoldable pub OrderCases : Type 0
OrderCases = map (λ c. order_number c.records) order_cases ≡ map (λ c. c.number) order_cases
