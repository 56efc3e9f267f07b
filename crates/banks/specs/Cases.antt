-- Worked cases: paper 01's bench map and its neighbours at each boundary of 10 and 11, with the number that each must
-- get. One table and one statement.
-- Assumes nothing.
use Rattle.std.specs.Prelude.{◌≡◌, List, [], ◌∷◌, ◌++◌, map, ℕ, length, replicate}
use Rattle.records.specs.Bench.{bench_map}
pub use Rattle.records.specs.Bench.{bench_store}
use Rattle.records.specs.Cases.{map_row, head_row, lock_row, with}
use Rattle.banks.specs.Rules.{check_number}

-- a store whose first byte is the one at 0x00, and n bytes after it
abbrev pub store_with : ℕ → ℕ → List ℕ
store_with byte n = byte ∷ replicate n 0

-- bank 2 with nothing behind its lock byte, and bank 3 with a value at 0xFE; their bytes at 0x00 are at places 0 and 2
abbrev pub unlike_banks : List ℕ
unlike_banks = head_row 2 ++ lock_row 2 ++ map_row 3 0x00 1 0 0 0 0 2 ++ map_row 3 0x02 1 2 0 0 0 3 ++ map_row 3 0xFE 1 4 0 0 0 4

pub record CheckCase : Type 0 where
  pub records : List ℕ
  pub store : List ℕ
  pub size : ℕ
  pub number : ℕ

abbrev checked : List ℕ → List ℕ → ℕ → CheckCase
checked records store number = record { records = records; store = store; size = length store; number = number }

abbrev pub check_cases : List CheckCase
check_cases =
    checked bench_map bench_store 0
    ∷ checked [] [] 0
    -- the boundaries of 7 to 9, from within
    ∷ checked (head_row 199 ++ lock_row 199) (store_with 3 1) 0
    ∷ checked (with (map_row 2 0x03 1 4 0 0 0 2)) (store_with 20 20) 0
    ∷ checked (with (map_row 2 0x03 8 4 0 0 0 2)) (store_with 20 20) 0
    ∷ checked (with (map_row 2 0xFE 1 4 0 0 0 2)) (store_with 254 20) 0
    ∷ checked (with (map_row 2 0xF7 8 4 0 0 0 2)) (store_with 254 20) 0
    ∷ checked (with (map_row 2 0x03 1 2 1 0 0 2)) (store_with 20 20) 0
    ∷ checked (head_row 2 ++ lock_row 2 ++ map_row 3 0x00 1 0 0 0 0 2 ++ map_row 3 0x02 1 2 0 0 0 3) (20 ∷ 0 ∷ store_with 20 20) 0
    ∷ checked (with (map_row 2 0x03 4 4 0 0 0 2 ++ map_row 2 0x07 1 4 0 0 0 6)) (store_with 20 20) 0
    -- 10: lengths, 4,096 and 4,097 bytes, places outside and shared
    ∷ record { records = bench_map; store = bench_store; size = 7; number = 10 }
    ∷ checked bench_map (store_with 6 4095) 0
    ∷ checked bench_map (store_with 6 4096) 10
    ∷ checked bench_map (store_with 6 4) 10
    ∷ checked (with (map_row 2 0x03 1 4 0 0 1 0)) (store_with 20 256) 0
    ∷ checked (with (map_row 2 0x03 1 4 0 0 1 0)) (store_with 20 255) 10
    ∷ checked (with (map_row 2 0x03 2 4 0 0 0 1)) (store_with 20 20) 10
    ∷ checked (with (map_row 2 0x03 4 4 0 0 0 2 ++ map_row 2 0x07 1 4 0 0 0 5)) (store_with 20 20) 10
    ∷ checked (with (map_row 2 0x03 4 4 0 0 0 6 ++ map_row 2 0x07 4 4 0 0 0 3)) (store_with 20 20) 10
    ∷ checked (with (map_row 2 0x03 4 4 0 0 0 6 ++ map_row 2 0x07 4 4 0 0 0 2)) (store_with 20 20) 0
    -- 11: the record at 0x00 and its byte
    ∷ checked (lock_row 2) (store_with 20 20) 11
    ∷ checked (map_row 2 0x01 1 0 0 0 0 0 ++ lock_row 2) (store_with 20 20) 11
    ∷ checked (map_row 2 0x00 2 0 0 0 0 2 ++ lock_row 2) (store_with 20 20) 11
    ∷ checked (map_row 2 0x00 1 1 0 0 0 0 ++ lock_row 2) (store_with 20 20) 11
    ∷ checked (head_row 2 ++ lock_row 2) (store_with 2 1) 11
    ∷ checked (head_row 2 ++ lock_row 2) (store_with 3 1) 0
    ∷ checked (head_row 2 ++ lock_row 2) (store_with 254 1) 0
    ∷ checked (head_row 2 ++ lock_row 2) (store_with 255 1) 11
    ∷ checked bench_map (store_with 5 5) 11
    ∷ checked bench_map (store_with 6 5) 0
    -- 11: two banks, each byte against the highest location of its own bank; and the two bytes exchanged
    ∷ checked unlike_banks (3 ∷ 0 ∷ store_with 254 2) 0
    ∷ checked unlike_banks (254 ∷ 0 ∷ store_with 3 2) 11
    -- 11: the lock byte, and bank 0
    ∷ checked (head_row 2) (store_with 20 20) 11
    ∷ checked (head_row 1 ++ map_row 1 0x03 1 4 0 0 0 2) (store_with 20 20) 11
    ∷ checked (head_row 2 ++ map_row 2 0x02 2 2 0 0 0 1) (store_with 20 20) 11
    ∷ checked (head_row 2 ++ map_row 2 0x02 1 4 0 0 0 1) (store_with 20 20) 11
    ∷ checked (head_row 2 ++ map_row 2 0x02 1 2 1 0 0 1) (store_with 20 20) 11
    ∷ checked (head_row 0) (store_with 3 1) 0
    ∷ checked (head_row 0 ++ map_row 0 0x02 1 1 0 0 0 1 ++ map_row 0 0x03 1 3 0 0 0 2) (store_with 3 2) 0
    ∷ checked (head_row 0 ++ map_row 0 0x02 1 2 0 0 0 1) (store_with 3 1) 11
    ∷ checked (head_row 0 ++ map_row 0 0x03 1 4 0 0 0 1) (store_with 3 1) 11
    -- two rules broken: the lower number
    ∷ checked (0 ∷ []) (store_with 0 4096) 7
    ∷ checked (map_row 2 0x03 9 4 0 0 0 2 ++ head_row 2) [] 8
    ∷ checked (lock_row 2 ++ head_row 2) [] 9
    ∷ checked (lock_row 2) [] 10
    ∷ []

-- each case gets its number
unfoldable pub CheckCases : Type 0
CheckCases = map (λ c. check_number c.records c.store c.size) check_cases ≡ map (λ c. c.number) check_cases
