-- The worked cases of halving, computed.
-- Assumes nothing.
use mathlib.Core.Path.{refl}
use Rattle.records.specs.Map.{record_at}
use Rattle.records.specs.Halving.{visits, visited, sought}
use Rattle.records.specs.HalvingCases.{VisitCases, CountCases}

pub visit_cases : VisitCases
unfolding VisitCases visits record_at
visit_cases = refl

pub count_cases : CountCases
unfolding CountCases sought visited visits record_at
count_cases = refl
