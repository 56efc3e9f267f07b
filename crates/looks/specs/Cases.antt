-- Worked cases: looks into paper 01's bench map, at each boundary, with number, place and bytes. One table and one
-- statement.
-- Assumes nothing.
use Rattle.std.specs.Prelude.{◌≡◌, List, [], ◌∷◌, map, ℕ, Result, Ok, Err}
use Rattle.records.specs.Cases.{bench_map}
use Rattle.banks.specs.Cases.{bench_store, store_with}
use Rattle.looks.specs.Look.{look_number, look_of, look_bytes}
use Rattle.refusals.specs.Numbers.{number_in}
use Rattle.refusals.specs.declared.refusal.Refusal.{Refusal}
use Rattle.refusals.specs.declared.refusal.Refusal.TheVariants.{MapSize, BankRules, NoValue}
use Rattle.looks.specs.declared.looked.Place.{Place}

pub record LookCase : Type 0 where
  pub records : List ℕ
  pub store : List ℕ
  pub bank : ℕ
  pub location : ℕ
  pub answer : Result Place Refusal
  pub bytes : List ℕ

abbrev stands : ℕ → ℕ → Result Place Refusal
stands width offset = Ok (record { width = width; offset = offset })

-- a look into the bench map and its store
abbrev bench : ℕ → ℕ → Result Place Refusal → List ℕ → LookCase
bench bank location answer bytes =
    record { records = bench_map; store = bench_store; bank = bank; location = location; answer = answer; bytes = bytes }

abbrev pub look_cases : List LookCase
look_cases =
    bench 2 0x00 (stands 1 0) (0x06 ∷ [])
    ∷ bench 2 0x02 (stands 1 1) (0xFF ∷ [])
    ∷ bench 2 0x03 (stands 4 2) (0x00 ∷ 0x00 ∷ 0x00 ∷ 0x64 ∷ [])
    -- between two values, inside one, past the last, in another bank
    ∷ bench 2 0x01 (Err NoValue) []
    ∷ bench 2 0x04 (Err NoValue) []
    ∷ bench 2 0x07 (Err NoValue) []
    ∷ bench 1 0x00 (Err NoValue) []
    ∷ bench 200 0x00 (Err NoValue) []
    -- 7 to 11 before 14
    ∷ record { records = 0 ∷ []; store = []; bank = 2; location = 0; answer = Err MapSize; bytes = [] }
    ∷ record { records = bench_map; store = store_with 5 5; bank = 2; location = 0; answer = Err BankRules; bytes = [] }
    ∷ []

-- each case gets its number, its place and its bytes
pub record LookCases : Type 0 where
  pub numbers :
      map (λ c. look_number c.records c.store c.bank c.location) look_cases
      ≡ map (λ c. number_in c.answer) look_cases
  pub places :
      map (λ c. look_of c.records c.store c.bank c.location) look_cases ≡ map (λ c. c.answer) look_cases
  pub bytes :
      map (λ c. look_bytes c.records c.store c.bank c.location) look_cases ≡ map (λ c. c.bytes) look_cases
