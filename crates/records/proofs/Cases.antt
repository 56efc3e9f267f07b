-- The worked cases, computed.
-- Assumes nothing.
use mathlib.Core.Path.{refl}
use Rattle.laws.specs.Numbers.{first_failing}
use Rattle.records.specs.Map.{record_at, records_of}
use Rattle.records.specs.Order.{size_holds, order_number}
use Rattle.records.specs.Cases.{OrderCases}

pub order_cases : OrderCases
unfolding OrderCases order_number first_failing size_holds records_of record_at
order_cases = refl
