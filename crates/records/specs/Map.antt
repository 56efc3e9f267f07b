-- The map: records of 8 bytes. Paper 01, "Map, store, reset image".
-- Assumes nothing.
use Rattle.std.specs.Prelude.{ℕ, ◌+◌, ◌*◌, ◌/◌, Bool, ◌||◌, List, eqb, length, get_or}
use Rattle.laws.specs.Lists.{items, some}
use Rattle.records.specs.declared.record.Record.{Record}

-- record number i: bank, first location, width, kind, lockable, zero, store offset (two bytes, high first)
unfoldable pub record_at : List ℕ → ℕ → Record
record_at map i =
    record {
      bank = get_or map (8 * i) 0;
      first = get_or map (8 * i + 1) 0;
      width = get_or map (8 * i + 2) 0;
      kind = get_or map (8 * i + 3) 0;
      lockable = get_or map (8 * i + 4) 0;
      zero = get_or map (8 * i + 5) 0;
      offset = get_or map (8 * i + 6) 0 * 256 + get_or map (8 * i + 7) 0;
    }

-- the map is records of 8 bytes, no header
unfoldable pub records_of : List ℕ → List Record
records_of map = items (record_at map) 0 (length map / 8)

-- only 2 and 4 are writable
abbrev pub writable : Record → Bool
writable r = eqb r.kind 2 || eqb r.kind 4

-- the location after its last one
abbrev pub locations_end : Record → ℕ
locations_end r = r.first + r.width

-- the store place after its last one
abbrev pub places_end : Record → ℕ
places_end r = r.offset + r.width

-- a bank is mapped: some record has that bank
abbrev pub mapped : List Record → ℕ → Bool
mapped rs bank = some (λ r. eqb r.bank bank) rs
