-- Worked cases: comparisons of paper 01's bench unit and its neighbours, at each boundary, with number, count and output. Two
-- tables and one statement.
-- Assumes nothing.
use Rattle.std.specs.Prelude.{◌≡◌, List, [], ◌∷◌, ◌++◌, map, ℕ, length, replicate}
use Rattle.records.specs.Bench.{bench_map, bench_store, bench_image}
use Rattle.records.specs.Cases.{map_row, head_row, lock_row, with}
use Rattle.banks.specs.Cases.{store_with}
use Rattle.compare.specs.Compare.{compare_of, count_in, output_of, compare_word}
use Rattle.refusals.specs.Numbers.{number_in}

pub record CompareCase : Type 0 where
  pub records : List ℕ
  pub old : List ℕ
  pub new : List ℕ
  pub before : List ℕ
  pub number : ℕ
  pub count : ℕ
  pub output : List ℕ

-- so many bytes of room, each 7
abbrev room : ℕ → List ℕ
room n = replicate n 7

-- the list, and so many bytes that stay
abbrev lists : List ℕ → List ℕ → List ℕ → ℕ → ℕ → List ℕ → CompareCase
lists records old new count stays list =
    record {
      records = records;
      old = old;
      new = new;
      before = room (length (list ++ room stays));
      number = 0;
      count = count;
      output = list ++ room stays;
    }

abbrev refuses : List ℕ → List ℕ → List ℕ → ℕ → ℕ → CompareCase
refuses records old new n number =
    record {
      records = records;
      old = old;
      new = new;
      before = room n;
      number = number;
      count = 0;
      output = room n;
    }

-- the difference of the bench unit's store and its reset image
abbrev pub bench_difference : List ℕ
bench_difference =
    0x02 ∷ 0x03 ∷ 0x04 ∷ 0x04 ∷ 0 ∷ 0 ∷ 0 ∷ 0
    ∷ 0x00 ∷ 0x00 ∷ 0x00 ∷ 0x64 ∷ 0 ∷ 0 ∷ 0 ∷ 0
    ∷ 0x00 ∷ 0x00 ∷ 0x00 ∷ 0x32 ∷ 0 ∷ 0 ∷ 0 ∷ 0 ∷ []

-- the difference of a value of one byte
abbrev one_byte : ℕ → ℕ → ℕ → ℕ → ℕ → List ℕ
one_byte bank first kind old new =
    bank ∷ first ∷ 1 ∷ kind ∷ replicate 4 0 ++ (old ∷ replicate 7 0) ++ (new ∷ replicate 7 0)

-- bank 0 of kinds 0, 1, 3, and bank 1 with the lock byte and a value of width 8; places 3 and 4 are under no record
abbrev pub kinds : List ℕ
kinds =
    map_row 0 0x00 1 0 0 0 0 0 ++ map_row 0 0x03 1 1 0 0 0 1 ++ map_row 0 0x04 1 3 0 0 0 2
    ++ map_row 1 0x00 1 0 0 0 0 5 ++ map_row 1 0x02 1 2 0 0 0 6 ++ map_row 1 0x03 8 4 1 0 0 7

abbrev kinds_old : List ℕ
kinds_old = 10 ∷ 21 ∷ 22 ∷ 23 ∷ 24 ∷ 11 ∷ 0xFF ∷ 1 ∷ 2 ∷ 3 ∷ 4 ∷ 5 ∷ 6 ∷ 7 ∷ 8 ∷ []

abbrev kinds_new : List ℕ
kinds_new = 12 ∷ 31 ∷ 32 ∷ 33 ∷ 34 ∷ 13 ∷ 0x55 ∷ 1 ∷ 2 ∷ 3 ∷ 4 ∷ 5 ∷ 6 ∷ 7 ∷ 9 ∷ []

abbrev kinds_list : List ℕ
kinds_list =
    one_byte 0 0x00 0 10 12 ++ one_byte 0 0x03 1 21 31 ++ one_byte 0 0x04 3 22 32
    ++ one_byte 1 0x00 0 11 13 ++ one_byte 1 0x02 2 0xFF 0x55
    ++ (1 ∷ 0x03 ∷ 8 ∷ 4 ∷ 0 ∷ 0 ∷ 0 ∷ 0
    ∷ 1 ∷ 2 ∷ 3 ∷ 4 ∷ 5 ∷ 6 ∷ 7 ∷ 8 ∷ 1 ∷ 2 ∷ 3 ∷ 4 ∷ 5 ∷ 6 ∷ 7 ∷ 9 ∷ [])

abbrev pub list_cases : List CompareCase
list_cases =
    -- room of exactly the list is enough; bytes past the list stay; old is the first store
    lists bench_map bench_store bench_image 1 0 bench_difference
    ∷ lists bench_map bench_store bench_image 1 3 bench_difference
    -- no difference needs no room; and none with an empty map; bytes under no record are never listed
    ∷ lists bench_map bench_store bench_store 0 0 []
    ∷ lists bench_map bench_store bench_store 0 5 []
    ∷ lists [] (1 ∷ 2 ∷ []) (3 ∷ 4 ∷ []) 0 0 []
    ∷ lists bench_map (bench_store ++ 1 ∷ []) (bench_store ++ 2 ∷ []) 0 0 []
    -- every kind, lock bytes too, in map order; of 8 bytes only the last differs
    ∷ lists kinds kinds_old kinds_new 6 1 kinds_list
    ∷ []

abbrev pub refused_cases : List CompareCase
refused_cases =
    -- 15: one byte short, and none for one
    refuses bench_map bench_store bench_image 23 15
    ∷ refuses bench_map bench_store bench_image 0 15
    ∷ refuses kinds kinds_old kinds_new 143 15
    -- 7, 8, 9; 10: lengths that differ, either way, and a place outside
    ∷ refuses (0 ∷ []) [] [] 24 7
    ∷ refuses (head_row 200 ++ lock_row 200) bench_store bench_image 24 8
    ∷ refuses (lock_row 2 ++ head_row 2) bench_store bench_image 24 9
    ∷ refuses bench_map bench_store (bench_store ++ 0 ∷ []) 24 10
    ∷ refuses bench_map (bench_store ++ 0 ∷ []) bench_store 24 10
    ∷ refuses bench_map (store_with 6 4) (store_with 6 4) 24 10
    -- 11: the byte at 0x00 of the first store, of the second, of both; before 15
    ∷ refuses bench_map (store_with 5 5) bench_store 24 11
    ∷ refuses bench_map bench_store (store_with 5 5) 24 11
    ∷ refuses (with []) (store_with 3 1) (store_with 2 1) 24 11
    ∷ refuses bench_map (store_with 255 5) (store_with 255 5) 24 11
    ∷ refuses bench_map bench_store (store_with 255 5) 0 11
    -- 11: the map itself, which has no lock byte
    ∷ refuses (head_row 2) (store_with 3 0) (store_with 3 0) 24 11
    ∷ []

pub record CompareCases : Type 0 where
  -- the bench unit's store against its reset image
  pub bench : output_of bench_map bench_store bench_image (room 24) ≡ bench_difference
  -- each case gets its number and its count
  pub numbers :
      map (λ c. number_in (compare_of c.records c.old c.new (length c.before))) (list_cases ++ refused_cases)
      ≡ map (λ c. c.number) (list_cases ++ refused_cases)
  pub counts :
      map (λ c. count_in (compare_of c.records c.old c.new (length c.before))) (list_cases ++ refused_cases)
      ≡ map (λ c. c.count) (list_cases ++ refused_cases)
  -- and its output
  pub lists : map (λ c. output_of c.records c.old c.new c.before) list_cases ≡ map (λ c. c.output) list_cases
  pub untouched :
      map (λ c. output_of c.records c.old c.new c.before) refused_cases ≡ map (λ c. c.output) refused_cases
  -- as one number: six values, one, none, and refusals
  pub words :
      (compare_word (compare_of kinds kinds_old kinds_new 144) ≡ 0x600)
      × (compare_word (compare_of bench_map bench_store bench_image 24) ≡ 0x100)
      × (compare_word (compare_of bench_map bench_store bench_store 0) ≡ 0)
      × (compare_word (compare_of bench_map bench_store bench_image 23) ≡ 15)
      × (compare_word (compare_of bench_map bench_store (store_with 5 5) 24) ≡ 11)
