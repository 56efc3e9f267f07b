-- A value's bytes, and a bank's lock byte. Paper 01, "Map, store, reset image".
-- Assumes nothing.
use Rattle.std.specs.Prelude.{ℕ, ◌-◌, List, ◌++◌, length, get_or, replicate, Result, Ok, Err}
use Rattle.laws.specs.Parts.{part, put}
use Rattle.records.specs.Lookup.{holder}
use Rattle.records.specs.declared.record.Record.{Record}
use Rattle.records.specs.declared.holder.Why.{Why}

-- a value's bytes are its part of the store, from its offset on
unfoldable pub value_of : Record → List ℕ → List ℕ
value_of r store = part r.offset r.width store

-- the store with a value's bytes put at its place
unfoldable pub put_value : Record → List ℕ → List ℕ → List ℕ
put_value r bytes store = put r.offset bytes store

-- eight bytes: the value's, and zeros behind them
abbrev pub padded : List ℕ → List ℕ
padded value = value ++ replicate (8 - length value) 0

-- the byte at the record's place; 0 where there is none
unfoldable pub byte_at : List ℕ → Result Record Why → ℕ
byte_at store (Ok r) = get_or store r.offset 0
byte_at store (Err w) = 0

-- a bank's lock byte: the stored byte at 0x02
unfoldable pub lock_byte : List Record → List ℕ → ℕ → ℕ
lock_byte rs store bank = byte_at store (holder rs bank 0x02)
