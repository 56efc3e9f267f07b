-- READ in a mapped bank, and the latch. Paper 01, "Commands obeyed".
-- Assumes nothing.
use Rattle.std.specs.Prelude.{ℕ, ◌-◌, Bool, true, false, ◌&&◌, List, Some, None, leb, eqb, get_or, replicate, if◌then◌else◌, Result, Ok, Err}
use Rattle.records.specs.Lookup.{holder}
use Rattle.records.specs.declared.record.Record.{Record}
use Rattle.records.specs.declared.holder.Why.{Why}
use Rattle.banks.specs.Values.{value_of, padded}
use Rattle.memory.specs.declared.latched.Latch.{Latch}
use Rattle.memory.specs.declared.latched.Shown.{Shown}

-- nothing is latched, and whatever is not in use is zero
abbrev pub none_latched : Latch
none_latched = record { held = false; bank = 0; first = 0; bytes = replicate 8 0 }

abbrev pub latched_of : Record → List ℕ → Latch
latched_of r value = record { held = true; bank = r.bank; first = r.first; bytes = padded value }

-- reading a first or single byte ends any latch; a first byte of width 2 or more latches that value's bytes
unfoldable pub latch_from : Record → List ℕ → Latch
latch_from r value = if leb 2 r.width then latched_of r value else none_latched

-- the latch holds this value's bytes
abbrev pub latches : Latch → Record → Bool
latches l r = l.held && eqb l.bank r.bank && eqb l.first r.first

abbrev pub shown : Latch → ℕ → Shown
shown l byte = record { latch = l; answer = Some byte }

-- byte number k of the value: a later byte of the latched value is answered from the latch
unfoldable pub show_byte : Latch → Record → List ℕ → ℕ → Shown
show_byte l r value k =
    if eqb k 0 then shown (latch_from r value) (get_or value 0 0)
    else if latches l r then shown l (get_or l.bytes k 0)
    else shown l (get_or value k 0)

-- answer the byte, or none if the location is unmapped
unfoldable pub read_at : List ℕ → Latch → ℕ → Result Record Why → Shown
read_at store l location (Ok r) = show_byte l r (value_of r store) (location - r.first)
read_at store l location (Err w) = record { latch = l; answer = None }

unfoldable pub read_byte : List Record → List ℕ → Latch → ℕ → ℕ → Shown
read_byte rs store l bank location = read_at store l location (holder rs bank location)
