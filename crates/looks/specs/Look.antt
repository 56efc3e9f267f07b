-- The look calls: the stored bytes of a value that begins at a given bank and location. Paper 01, "Map, store, reset
-- image" and "Refusal numbers": 7 to 11, then 14; a call without an image takes the store for it.
-- Assumes nothing.
use Rattle.std.specs.Prelude.{ℕ, Bool, true, false, List, [], ◌∷◌, ◌++◌, eqb, length, if◌then◌else◌, Option, Some, None, Result, Ok, Err}
use Rattle.laws.specs.Parts.{part}
use Rattle.laws.specs.Numbers.{Test, test, first_failing}
use Rattle.records.specs.Map.{records_of}
use Rattle.records.specs.Lookup.{beginner}
use Rattle.records.specs.declared.record.Record.{Record}
use Rattle.banks.specs.Rules.{check_tests}
use Rattle.refusals.specs.Numbers.{refusal_of}
use Rattle.refusals.specs.declared.refusal.Refusal.{Refusal}
use Rattle.refusals.specs.declared.refusal.Refusal.TheVariants.{NoValue}
use Rattle.looks.specs.declared.looked.Place.{Place}

-- a value was found
abbrev pub is_found : Option Record → Bool
is_found (Some r) = true
is_found None = false

-- 7 to 11, the store standing for the image; then 14: no value begins there
abbrev pub look_tests : List ℕ → List ℕ → ℕ → ℕ → List Test
look_tests map store bank location =
    check_tests map store (length store) ++ test 14 (is_found (beginner (records_of map) bank location)) ∷ []

unfoldable pub look_number : List ℕ → List ℕ → ℕ → ℕ → ℕ
look_number map store bank location = first_failing (look_tests map store bank location)

-- the width and offset of the value, or 14
abbrev pub place_of : Option Record → Result Place Refusal
place_of (Some r) = Ok (record { width = r.width; offset = r.offset })
place_of None = Err NoValue

-- a refusal has no place
unfoldable pub look_of : List ℕ → List ℕ → ℕ → ℕ → Result Place Refusal
look_of map store bank location =
    if eqb (look_number map store bank location) 0 then place_of (beginner (records_of map) bank location)
    else Err (refusal_of (look_number map store bank location))

-- the stored bytes at a place; the empty part on refusal
abbrev pub bytes_at : List ℕ → Result Place Refusal → List ℕ
bytes_at store (Ok place) = part place.offset place.width store
bytes_at store (Err refusal) = []

-- the stored bytes themselves
unfoldable pub look_bytes : List ℕ → List ℕ → ℕ → ℕ → List ℕ
look_bytes map store bank location = bytes_at store (look_of map store bank location)
