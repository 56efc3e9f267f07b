-- What is proved of the looks. The proofs stand in proofs/Looks.antt.
-- Assumes nothing.
use Rattle.std.specs.Prelude.{◌≡◌, ◌↔◌, List, [], ℕ, ◌<◌, length, Result, Ok}
use Rattle.laws.specs.Numbers.{Given}
use Rattle.laws.specs.Settled.{Settles}
use Rattle.records.specs.Facts.{Member}
use Rattle.records.specs.declared.record.Record.{Record}
use Rattle.banks.specs.Values.{value_of}
use Rattle.banks.specs.Facts.{Stands}
use Rattle.looks.specs.Look.{look_tests, look_number, look_of, look_bytes}
use Rattle.refusals.specs.declared.refusal.Refusal.{Refusal}
use Rattle.looks.specs.declared.looked.Place.{Place}

-- 7 to 11 and 14 are given exactly if every test before passes and that one fails
abbrev pub LookNumbers : Type 0
LookNumbers =
    (map store : List ℕ) (bank location n : ℕ) → 0 < n
    → (look_number map store bank location ≡ n) ↔ Given (look_tests map store bank location) n

-- 0 is given exactly if everything stands, the store standing for the image, and a value begins there
abbrev pub LookStands : Type 0
LookStands =
    (map store : List ℕ) (bank location : ℕ)
    → (look_number map store bank location ≡ 0)
    ↔ (Stands map store (length store) × ((r : Record) × Member r map × (r.bank ≡ bank) × (r.first ≡ location)))

-- a look that found the value r
pub record Shows (map store : List ℕ) (bank location : ℕ) (r : Record) : Type 0 where
  pub member : Member r map
  pub its_bank : r.bank ≡ bank
  pub begins : r.first ≡ location
  pub place : look_of map store bank location ≡ Ok (record { width = r.width; offset = r.offset })
  pub bytes : look_bytes map store bank location ≡ value_of r store

-- the number is 0: the value that begins there, its place and its bytes
abbrev pub LookShows : Type 0
LookShows =
    (map store : List ℕ) (bank location : ℕ) → look_number map store bank location ≡ 0
    → (r : Record) × Shows map store bank location r

-- the part is empty exactly if the number is not 0
abbrev pub LookEmpty : Type 0
LookEmpty =
    (map store : List ℕ) (bank location : ℕ)
    → (look_bytes map store bank location ≡ []) ↔ (look_number map store bank location ≡ 0 → ⊥)

-- What each public call promises of its result r, or of the bytes of its part. Answers that meet the same promise are
-- equal; of `look`, the bytes of the part are.

abbrev pub LookAtPromise : List ℕ → List ℕ → ℕ → ℕ → Result Place Refusal → Type 0
LookAtPromise map store bank location r = r ≡ look_of map store bank location

abbrev pub LookNumberPromise : List ℕ → List ℕ → ℕ → ℕ → ℕ → Type 0
LookNumberPromise map store bank location r = r ≡ look_number map store bank location

abbrev pub LookPromise : List ℕ → List ℕ → ℕ → ℕ → List ℕ → Type 0
LookPromise map store bank location bytes = bytes ≡ look_bytes map store bank location

abbrev pub LookAtSettled : Type 0
LookAtSettled = (map store : List ℕ) (bank location : ℕ) → Settles (LookAtPromise map store bank location)

abbrev pub LookNumberSettled : Type 0
LookNumberSettled = (map store : List ℕ) (bank location : ℕ) → Settles (LookNumberPromise map store bank location)

abbrev pub LookSettled : Type 0
LookSettled = (map store : List ℕ) (bank location : ℕ) → Settles (LookPromise map store bank location)
