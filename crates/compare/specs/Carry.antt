-- A list put to use: each difference's new bytes onto a store, or its old ones, at the value that it names.
-- Assumes nothing.
use Rattle.std.specs.Prelude.{ℕ, zero, suc, ◌≤◌, ◌<◌, ◌≡◌, ◌⊎◌, List, [], ◌∷◌, length, get_or, take, drop, Option, Some, None}
use Rattle.laws.specs.Parts.{part}
use Rattle.records.specs.Map.{records_of, places_end}
use Rattle.records.specs.Lookup.{beginner}
use Rattle.records.specs.Facts.{Member}
use Rattle.records.specs.declared.record.Record.{Record}
use Rattle.banks.specs.Values.{value_of, put_value}

-- the first n records of a list, 24 bytes each
abbrev pub differences : List ℕ → ℕ → List (List ℕ)
differences list zero = []
differences list (suc n) = take 24 list ∷ differences (drop 24 list) n

-- the places of a difference from which on its old and its new bytes stand
abbrev pub old_bytes : ℕ
old_bytes = 8

abbrev pub new_bytes : ℕ
new_bytes = 16

-- bytes, put where a value begins; where none does, the store stays
unfoldable pub put_beginning : Option Record → List ℕ → List ℕ → List ℕ
put_beginning (Some r) bytes store = put_value r bytes store
put_beginning None bytes store = store

-- a difference's bytes from a place on, as many as its width says, put at the value of its bank and first location
unfoldable pub carried : List ℕ → ℕ → List ℕ → List ℕ → List ℕ
carried map place d store =
    put_beginning (beginner (records_of map) (get_or d 0 0) (get_or d 1 0)) (part place (get_or d 2 0) d) store

-- one difference after the other
abbrev pub carried_all : List ℕ → ℕ → List (List ℕ) → List ℕ → List ℕ
carried_all map place [] store = store
carried_all map place (d ∷ ds) store = carried_all map place ds (carried map place d store)

-- a store that came of `store`: every value is that of `other`, and bytes under no record are as they were
pub record BroughtTo (map store other after : List ℕ) : Type 0 where
  pub values : (r : Record) → Member r map → value_of r after ≡ value_of r other
  pub unmapped :
      (j : ℕ) → ((r : Record) → Member r map → (j < r.offset) ⊎ (places_end r ≤ j)) → get_or after j 0 ≡ get_or store j 0
  pub as_long : length after ≡ length store
