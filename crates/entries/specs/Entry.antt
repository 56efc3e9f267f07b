-- One record of a trace. Paper 01, "The trace program".
-- Assumes nothing.
use Rattle.std.specs.Prelude.{ℕ, ◌+◌, ◌*◌, ◌/◌, Bool, true, false, List, eqb, length, get_or, if◌then◌else◌}
use Rattle.laws.specs.Lists.{items}
use Rattle.entries.specs.declared.entry.Entry.{Entry}

-- four bytes, high first
abbrev pub four_bytes : ℕ → ℕ → ℕ → ℕ → ℕ
four_bytes a b c d = ((a * 256 + b) * 256 + c) * 256 + d

-- kind 0 frame or 1 power-on; clock and frame of a power-on record are ignored; another kind is unknown
unfoldable pub entry_of : ℕ → ℕ → ℕ → Entry
entry_of kind clock frame =
    if eqb kind 0 then Entry.Frame clock frame
    else if eqb kind 1 then Entry.PowerOn
    else Entry.Broken

-- record number i, of 8 bytes: clock (4, high first), kind, frame (3)
unfoldable pub entry_at : List ℕ → ℕ → Entry
entry_at bytes i =
    entry_of (get_or bytes (8 * i + 4) 0)
    (four_bytes (get_or bytes (8 * i) 0) (get_or bytes (8 * i + 1) 0) (get_or bytes (8 * i + 2) 0) (get_or bytes (8 * i + 3) 0))
    (four_bytes 0 (get_or bytes (8 * i + 5) 0) (get_or bytes (8 * i + 6) 0) (get_or bytes (8 * i + 7) 0))

-- the first n records
abbrev pub entries : List ℕ → ℕ → List Entry
entries bytes n = items (entry_at bytes) 0 n

-- the whole records; an unfinished one behind them is none of them
abbrev pub whole_entries : List ℕ → List Entry
whole_entries bytes = entries bytes (length bytes / 8)

abbrev pub is_broken : Entry → Bool
is_broken (Entry.Frame clock frame) = false
is_broken Entry.PowerOn = false
is_broken Entry.Broken = true
