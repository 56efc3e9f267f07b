-- The worked cases, computed.
-- Assumes nothing.
use mathlib.Core.Path.{refl}
use Rattle.laws.specs.Numbers.{first_failing}
use Rattle.records.specs.Map.{record_at, records_of}
use Rattle.records.specs.Order.{size_holds}
use Rattle.banks.specs.Rules.{lengths_hold, places_hold, bank_holds, banks_hold, head_byte_holds, head_holds}
use Rattle.banks.specs.Rules.{head_bytes_hold, check_number}
use Rattle.banks.specs.Cases.{CheckCases}

pub check_cases : CheckCases
unfolding CheckCases check_number first_failing size_holds records_of record_at places_hold lengths_hold banks_hold bank_holds
    head_bytes_hold head_holds head_byte_holds
check_cases = refl
