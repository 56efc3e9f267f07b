-- What the rules 7 to 9 say, as facts about numbers: the floors above lean on these, and not on the tests.
-- Assumes nothing.
use Rattle.std.specs.Prelude.{◌≡◌, ◌⊎◌, true, ℕ, ◌≤◌, ◌<◌, Result, Ok, Err}
use mathlib.Core.List.{List, [], ◌∷◌, Memᴰ}
use Rattle.records.specs.Map.{record_at, records_of, writable, locations_end}
use Rattle.records.specs.declared.record.Record.{Record}
use Rattle.records.specs.declared.holder.Why.{Why}
use Rattle.records.specs.declared.holder.Why.TheVariants.{Absent, Hole, Past}

-- a record of the map
abbrev pub Member : Record → List ℕ → Type 0
Member r map = Memᴰ r (records_of map)

-- 8
pub record FieldsHold (r : Record) : Type 0 where
  pub low_bank : r.bank ≤ 199
  pub some_width : 1 ≤ r.width
  pub most_width : r.width ≤ 8
  pub last : locations_end r ≤ 0xFF
  pub low_kind : r.kind ≤ 4
  pub locks : (r.lockable ≡ 0) ⊎ ((r.lockable ≡ 1) × (writable r ≡ true))

-- 9
abbrev pub Before : Record → Record → Type 0
Before p r = (p.bank < r.bank) ⊎ ((p.bank ≡ r.bank) × (locations_end p ≤ r.first))

-- the location lies in the record
pub record Holds (r : Record) (bank location : ℕ) : Type 0 where
  pub same_bank : r.bank ≡ bank
  pub from : r.first ≤ location
  pub to : location < locations_end r

-- a location is mapped in a bank: some record holds it
abbrev pub MappedAt : List ℕ → ℕ → ℕ → Type 0
MappedAt map bank location = (r : Record) × Member r map × Holds r bank location

-- bank absent: no record has the bank
abbrev pub IsAbsent : List ℕ → ℕ → Type 0
IsAbsent map bank = (r : Record) → Member r map → r.bank ≡ bank → ⊥

-- hole with the next mapped location n in that bank: the location is in no record, n is mapped and above it, and no mapped
-- location lies between
pub record IsHole (map : List ℕ) (bank location n : ℕ) : Type 0 where
  pub unmapped : MappedAt map bank location → ⊥
  pub mapped : MappedAt map bank n
  pub above : location < n
  pub nearest : (k : ℕ) → location < k → k < n → MappedAt map bank k → ⊥

-- past the bank's last one: the bank is present, and every mapped location of it lies below
pub record IsPast (map : List ℕ) (bank location : ℕ) : Type 0 where
  pub present : (r : Record) × Member r map × (r.bank ≡ bank)
  pub below : (k : ℕ) → MappedAt map bank k → k < location

-- what each answer of a look-up says
abbrev pub Says : List ℕ → ℕ → ℕ → Result Record Why → Type 0
Says map bank location (Ok r) = Member r map × Holds r bank location
Says map bank location (Err Absent) = IsAbsent map bank
Says map bank location (Err (Hole n)) = IsHole map bank location n
Says map bank location (Err Past) = IsPast map bank location

-- no position twice
abbrev pub Distinct : List ℕ → Type 0
Distinct [] = Unit {0}
Distinct (i ∷ l) = (Memᴰ i l → ⊥) × Distinct l

-- two maps agree at these positions: the records there are the same
abbrev pub AgreeAt : List ℕ → List ℕ → List ℕ → Type 0
AgreeAt map other l = (i : ℕ) → Memᴰ i l → record_at map i ≡ record_at other i
