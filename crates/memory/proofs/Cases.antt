-- The worked cases, computed.
-- Assumes nothing.
use mathlib.Core.Path.{refl}
use Rattle.laws.specs.Parts.{part, put}
use Rattle.records.specs.Map.{record_at, records_of}
use Rattle.records.specs.Lookup.{holder}
use Rattle.banks.specs.Values.{value_of, put_value, byte_at, lock_byte}
use Rattle.memory.specs.Latched.{latch_from, show_byte, read_at, read_byte}
use Rattle.memory.specs.Filled.{selects, chosen, fresh, filled_of}
use Rattle.memory.specs.Cases.{ResetCases, ReadCases}

pub reset_cases : ResetCases
unfolding ResetCases filled_of chosen selects fresh part put records_of record_at holder value_of put_value byte_at lock_byte
reset_cases = refl

pub read_cases : ReadCases
unfolding ReadCases read_byte read_at show_byte latch_from part records_of record_at holder value_of
read_cases = refl
