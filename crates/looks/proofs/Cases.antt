-- The worked cases, computed.
-- Assumes nothing.
use mathlib.Core.Path.{refl}
use Rattle.laws.specs.Parts.{part}
use Rattle.laws.specs.Numbers.{first_failing}
use Rattle.refusals.specs.Numbers.{refusal_of}
use Rattle.records.specs.Map.{record_at, records_of}
use Rattle.records.specs.Order.{size_holds}
use Rattle.records.specs.Lookup.{holder, if_first, beginner}
use Rattle.banks.specs.Rules.{lengths_hold, places_hold, bank_holds, banks_hold, head_byte_holds, head_holds, head_bytes_hold}
use Rattle.looks.specs.Look.{look_number, look_of, look_bytes}
use Rattle.looks.specs.Cases.{LookCases}

pub look_cases : LookCases
unfolding look_bytes refusal_of look_of look_number first_failing size_holds records_of record_at places_hold lengths_hold banks_hold
    bank_holds head_bytes_hold head_holds head_byte_holds beginner if_first holder part
look_cases = record { numbers = refl; places = refl; bytes = refl }
