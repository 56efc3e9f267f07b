-- Worked cases: finds in paper 01's bench map and in two banks with holes, at each boundary, and in 64 records, with the answer, its
-- number and its count. Three tables and one statement.
-- Assumes nothing.
use Rattle.std.specs.Prelude.{◌≡◌, List, [], ◌∷◌, ◌++◌, map, ℕ, Result, Ok, Err}
use Rattle.records.specs.Cases.{bench_map, map_row}
use Rattle.records.specs.HalvingCases.{rows}
use Rattle.records.specs.declared.record.Record.{Record}
use Rattle.records.specs.declared.holder.Why.{Why}
use Rattle.records.specs.declared.holder.Why.TheVariants.{Absent, Hole, Past}
use Rattle.refusals.specs.Numbers.{number_of}
use Rattle.refusals.specs.declared.refusal.Refusal.{Refusal}
use Rattle.refusals.specs.declared.refusal.Refusal.TheVariants.{MapSize, RecordFields, RecordOrder}
use Rattle.finds.specs.Find.{find_of, find_word}
use Rattle.finds.specs.declared.found.Finding.{Finding}

-- bank 3 from 0x05 on, a hole in it; then bank 5: it passes 7 to 9, and breaks 11
abbrev pub hole_map : List ℕ
hole_map = map_row 3 0x05 2 0 0 0 0 0 ++ map_row 3 0x0A 8 0 0 0 0 2 ++ map_row 5 0x20 1 0 0 0 0 10

-- the count of an answer
abbrev count_in : Result Finding Refusal → ℕ
count_in (Ok finding) = finding.count
count_in (Err refusal) = 0

pub record FindCase : Type 0 where
  pub records : List ℕ
  pub bank : ℕ
  pub location : ℕ
  pub finding : Result Finding Refusal
  pub word : ℕ

abbrev finds : List ℕ → ℕ → ℕ → Result Record Why → ℕ → ℕ → FindCase
finds records bank location found count word =
    record {
      records = records;
      bank = bank;
      location = location;
      finding = Ok (record { found = found; count = count });
      word = word;
    }

abbrev refuses : List ℕ → Refusal → FindCase
refuses records refusal =
    record {
      records = records;
      bank = 2;
      location = 3;
      finding = Err refusal;
      word = number_of refusal;
    }

-- the records of the bench map, and of the other
abbrev value : ℕ → ℕ → ℕ → ℕ → ℕ → ℕ → Result Record Why
value bank first width kind lockable offset =
    Ok (record {
      bank = bank;
      first = first;
      width = width;
      kind = kind;
      lockable = lockable;
      zero = 0;
      offset = offset;
    })

-- 7, 8, 9
abbrev pub refused_cases : List FindCase
refused_cases =
    refuses (0 ∷ []) MapSize
    ∷ refuses (map_row 200 0x05 2 0 0 0 0 0) RecordFields
    ∷ refuses (map_row 5 0x20 1 0 0 0 0 0 ++ map_row 3 0x05 1 0 0 0 0 1) RecordOrder
    ∷ []

abbrev pub find_cases : List FindCase
find_cases =
    -- number | what << 8 | location << 16 | width << 24 | count << 32
    -- held at its first location, inside, at its last one; past
    finds bench_map 2 0x00 (value 2 0x00 1 0 0 0) 2 0x0201000000
    ∷ finds bench_map 2 0x02 (value 2 0x02 1 2 0 1) 1 0x0101020000
    ∷ finds bench_map 2 0x03 (value 2 0x03 4 4 1 2) 2 0x0204030000
    ∷ finds bench_map 2 0x05 (value 2 0x03 4 4 1 2) 2 0x0204030000
    ∷ finds bench_map 2 0x06 (value 2 0x03 4 4 1 2) 2 0x0204030000
    ∷ finds bench_map 2 0x07 (Err Past) 2 0x0200000300
    ∷ finds bench_map 2 0xFF (Err Past) 2 0x0200000300
    -- a hole between two; absent banks, below and above, and no record at all
    ∷ finds bench_map 2 0x01 (Err (Hole 0x02)) 2 0x0200020200
    ∷ finds bench_map 1 0x03 (Err Absent) 2 0x0200000100
    ∷ finds bench_map 3 0x00 (Err Absent) 2 0x0200000100
    ∷ finds bench_map 200 0x00 (Err Absent) 2 0x0200000100
    ∷ finds [] 2 0x00 (Err Absent) 0 0x0000000100
    -- a hole before all records of its bank, and between; past it, though another bank follows; between the banks
    ∷ finds hole_map 3 0x00 (Err (Hole 0x05)) 2 0x0200050200
    ∷ finds hole_map 3 0x04 (Err (Hole 0x05)) 2 0x0200050200
    ∷ finds hole_map 3 0x07 (Err (Hole 0x0A)) 2 0x02000A0200
    ∷ finds hole_map 3 0x09 (Err (Hole 0x0A)) 2 0x02000A0200
    ∷ finds hole_map 3 0x11 (value 3 0x0A 8 0 0 2) 1 0x01080A0000
    ∷ finds hole_map 3 0x12 (Err Past) 2 0x0200000300
    ∷ finds hole_map 4 0x00 (Err Absent) 2 0x0200000100
    ∷ finds hole_map 5 0x00 (Err (Hole 0x20)) 2 0x0200200200
    ∷ finds hole_map 5 0x21 (Err Past) 2 0x0200000300
    ∷ []

-- 64 records: held by the first, the middle and the last one; before all; between those at 20 and 21
abbrev pub many_cases : List FindCase
many_cases =
    finds (rows 64) 1 0x02 (value 1 0x01 2 0 0 0) 7 0x0702010000
    ∷ finds (rows 64) 1 0x61 (value 1 0x61 2 0 0 0) 1 0x0102610000
    ∷ finds (rows 64) 1 0xBF (value 1 0xBE 2 0 0 0) 6 0x0602BE0000
    ∷ finds (rows 64) 1 0x00 (Err (Hole 0x01)) 7 0x0700010200
    ∷ finds (rows 64) 1 0x3F (Err (Hole 0x40)) 6 0x0600400200
    ∷ []

pub record FindCases : Type 0 where
  -- each case gets its number, its count and its answer
  pub refusals : map (λ c. find_of c.records c.bank c.location) refused_cases ≡ map (λ c. c.finding) refused_cases
  pub counts :
      map (λ c. count_in (find_of c.records c.bank c.location)) find_cases ≡ map (λ c. count_in c.finding) find_cases
  pub findings : map (λ c. find_of c.records c.bank c.location) find_cases ≡ map (λ c. c.finding) find_cases
  pub many : map (λ c. find_of c.records c.bank c.location) many_cases ≡ map (λ c. c.finding) many_cases
  -- and these as one number
  pub words :
      map (λ c. find_word c.records c.bank c.location) (refused_cases ++ find_cases)
      ≡ map (λ c. c.word) (refused_cases ++ find_cases)
  pub many_words : map (λ c. find_word c.records c.bank c.location) many_cases ≡ map (λ c. c.word) many_cases
  -- 6 where a number that is no byte would be cut to one that is found; 7 comes before it
  pub no_byte :
      (find_word bench_map 0x102 0x03 ≡ 6) × (find_word bench_map 2 0x103 ≡ 6) × (find_word (0 ∷ []) 0x102 0x03 ≡ 7)
