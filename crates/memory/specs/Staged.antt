-- An executed write: the byte that is taken, the bytes that are staged, the whole value in the store.
-- Paper 01, "Commands obeyed".
-- Assumes nothing.
use Rattle.std.specs.Prelude.{ℕ, ◌+◌, ◌-◌, Bool, true, false, ◌&&◌, ◌||◌, List, leb, eqb, take, set, replicate, if◌then◌else◌, Result, Ok, Err}
use Rattle.laws.specs.Outcome.{Outcome, leaves}
use Rattle.records.specs.Map.{writable}
use Rattle.records.specs.Lookup.{holder}
use Rattle.records.specs.declared.record.Record.{Record}
use Rattle.records.specs.declared.holder.Why.{Why}
use Rattle.banks.specs.Values.{put_value, lock_byte}
use Rattle.memory.specs.declared.staged.Staged.{Staged}
use Rattle.memory.specs.declared.staged.Wrote.{Wrote}

-- nothing is staged, and whatever is not in use is zero
abbrev pub none_staged : Staged
none_staged = record { count = 0; bank = 0; first = 0; bytes = replicate 8 0 }

-- the location is that of the next byte of the value that is staged
abbrev pub is_next : Staged → Record → ℕ → Bool
is_next g r location =
    (leb 1 g.count && eqb g.bank r.bank && eqb g.first r.first) && eqb location (r.first + g.count)

-- the bank's lock byte is 0x55 where the value is lockable
unfoldable pub unlocked : List Record → List ℕ → Record → Bool
unlocked rs store r = eqb r.lockable 0 || eqb (lock_byte rs store r.bank) 0x55

-- the byte is taken if the location is in a writable value, the bank's lock byte is 0x55 where the value is lockable,
-- and it is a first byte or the next one staged
unfoldable pub taken : List Record → List ℕ → Staged → Record → ℕ → Bool
taken rs store g r location = writable r && unlocked rs store r && (eqb location r.first || is_next g r location)

-- the staged bytes, with byte number k; a first byte is not the next staged one, and so drops what was staged
unfoldable pub bytes_with : Staged → ℕ → ℕ → List ℕ
bytes_with g k byte = if eqb k 0 then set (replicate 8 0) 0 byte else set g.bytes k byte

-- k bytes of the value are staged
abbrev pub staged_of : Record → ℕ → List ℕ → Staged
staged_of r k bytes = record { count = k; bank = r.bank; first = r.first; bytes = bytes }

abbrev pub wrote : Bool → Staged → Wrote
wrote taken g = record { taken = taken; staged = g }

-- a last byte puts the whole value in the store; values of width 1 store at once
unfoldable pub take_byte : List ℕ → Staged → Record → ℕ → ℕ → Outcome Wrote
take_byte store g r k byte =
    if eqb (k + 1) r.width
    then leaves (wrote true none_staged) (put_value r (take r.width (bytes_with g k byte)) store)
    else leaves (wrote true (staged_of r (k + 1) (bytes_with g k byte))) store

-- an executed write that isn't the next staged byte drops staging first
abbrev pub dropped : List ℕ → Outcome Wrote
dropped store = leaves (wrote false none_staged) store

-- a write at a location of the value
unfoldable pub write_found : List Record → List ℕ → Staged → Record → ℕ → ℕ → Outcome Wrote
write_found rs store g r location byte =
    if taken rs store g r location then take_byte store g r (location - r.first) byte else dropped store

unfoldable pub write_at : List Record → List ℕ → Staged → ℕ → ℕ → Result Record Why → Outcome Wrote
write_at rs store g location byte (Ok r) = write_found rs store g r location byte
write_at rs store g location byte (Err w) = dropped store

-- an executed write of the byte at the bank and location
unfoldable pub write_byte : List Record → List ℕ → Staged → ℕ → ℕ → ℕ → Outcome Wrote
write_byte rs store g bank location byte = write_at rs store g location byte (holder rs bank location)
