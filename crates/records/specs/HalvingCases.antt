-- Worked cases: the positions that halving visits, and how many. Two tables, each with its statement.
-- Assumes nothing.
use Rattle.std.specs.Prelude.{◌≡◌, List, [], ◌∷◌, ◌++◌, map, ℕ, zero, suc, ◌+◌, ◌*◌}
use Rattle.records.specs.Halving.{Wanted, at_location, in_bank, visits_of, sought}
use Rattle.records.specs.Cases.{map_row, head_row, lock_row}

-- n records of bank 1, from number i on: number i holds the locations 3 i + 1 and 3 i + 2; no record holds 3 i
abbrev pub rows_from : ℕ → ℕ → List ℕ
rows_from i zero = []
rows_from i (suc n) = map_row 1 (3 * i + 1) 2 0 0 0 0 0 ++ rows_from (suc i) n

abbrev pub rows : ℕ → List ℕ
rows = rows_from 0

-- two records of each of the banks 1, 3 and 5
abbrev pub three_banks : List ℕ
three_banks = head_row 1 ++ lock_row 1 ++ head_row 3 ++ lock_row 3 ++ head_row 5 ++ lock_row 5

pub record VisitCase : Type 0 where
  pub records : List ℕ
  pub wanted : Wanted
  pub positions : List ℕ

abbrev visiting : List ℕ → Wanted → List ℕ → VisitCase
visiting records wanted positions = record { records = records; wanted = wanted; positions = positions }

abbrev pub visit_cases : List VisitCase
visit_cases =
    -- no record; one: before it, its two locations, behind it; two; three
    visiting [] (at_location 1 0) []
    ∷ visiting (rows 1) (at_location 1 0) (0 ∷ [])
    ∷ visiting (rows 1) (at_location 1 1) (0 ∷ [])
    ∷ visiting (rows 1) (at_location 1 2) (0 ∷ [])
    ∷ visiting (rows 1) (at_location 1 3) (0 ∷ [])
    ∷ visiting (rows 2) (at_location 1 2) (1 ∷ 0 ∷ [])
    ∷ visiting (rows 2) (at_location 1 3) (1 ∷ 0 ∷ [])
    ∷ visiting (rows 2) (at_location 1 4) (1 ∷ [])
    ∷ visiting (rows 2) (at_location 1 6) (1 ∷ [])
    ∷ visiting (rows 3) (at_location 1 1) (1 ∷ 0 ∷ [])
    ∷ visiting (rows 3) (at_location 1 5) (1 ∷ [])
    ∷ visiting (rows 3) (at_location 1 7) (1 ∷ 2 ∷ [])
    -- 64: the first, the middle, the last, number 21; before number 21, where none is; a lower and a higher bank
    ∷ visiting (rows 64) (at_location 1 1) (32 ∷ 16 ∷ 8 ∷ 4 ∷ 2 ∷ 1 ∷ 0 ∷ [])
    ∷ visiting (rows 64) (at_location 1 97) (32 ∷ [])
    ∷ visiting (rows 64) (at_location 1 191) (32 ∷ 48 ∷ 56 ∷ 60 ∷ 62 ∷ 63 ∷ [])
    ∷ visiting (rows 64) (at_location 1 64) (32 ∷ 16 ∷ 24 ∷ 20 ∷ 22 ∷ 21 ∷ [])
    ∷ visiting (rows 64) (at_location 1 63) (32 ∷ 16 ∷ 24 ∷ 20 ∷ 22 ∷ 21 ∷ [])
    ∷ visiting (rows 64) (at_location 0 254) (32 ∷ 16 ∷ 8 ∷ 4 ∷ 2 ∷ 1 ∷ 0 ∷ [])
    ∷ visiting (rows 64) (at_location 2 0) (32 ∷ 48 ∷ 56 ∷ 60 ∷ 62 ∷ 63 ∷ [])
    -- a bank: each of the three, and where none is
    ∷ visiting three_banks (in_bank 1) (3 ∷ 1 ∷ [])
    ∷ visiting three_banks (in_bank 3) (3 ∷ [])
    ∷ visiting three_banks (in_bank 5) (3 ∷ 5 ∷ [])
    ∷ visiting three_banks (in_bank 0) (3 ∷ 1 ∷ 0 ∷ [])
    ∷ visiting three_banks (in_bank 2) (3 ∷ 1 ∷ 2 ∷ [])
    ∷ visiting three_banks (in_bank 4) (3 ∷ 5 ∷ 4 ∷ [])
    ∷ visiting three_banks (in_bank 6) (3 ∷ 5 ∷ [])
    ∷ []

-- each case visits its positions
unfoldable pub VisitCases : Type 0
VisitCases = map (λ c. visits_of c.records c.wanted) visit_cases ≡ map (λ c. c.positions) visit_cases

pub record CountCase : Type 0 where
  pub records : List ℕ
  pub location : ℕ
  pub count : ℕ

abbrev counting : List ℕ → ℕ → ℕ → CountCase
counting records location count = record { records = records; location = location; count = count }

-- in bank 1: none of none, one of one, of three the middle one and another; at most 6 of 32 and of 63, and 7 of 64, for their
-- first; of 64 for the middle, the last, and a location that no record holds
abbrev pub count_cases : List CountCase
count_cases =
    counting [] 1 0
    ∷ counting (rows 1) 1 1
    ∷ counting (rows 3) 5 1
    ∷ counting (rows 3) 6 2
    ∷ counting (rows 32) 1 6
    ∷ counting (rows 63) 1 6
    ∷ counting (rows 64) 1 7
    ∷ counting (rows 64) 97 1
    ∷ counting (rows 64) 191 6
    ∷ counting (rows 64) 63 6
    ∷ []

-- each case counts as many
unfoldable pub CountCases : Type 0
CountCases = map (λ c. (sought c.records 1 c.location).count) count_cases ≡ map (λ c. c.count) count_cases
