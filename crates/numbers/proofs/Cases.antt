-- The worked cases hold: each table is computed.
-- Assumes nothing.
use mathlib.Core.Path.{refl}
use Rattle.numbers.specs.Numbers.{power_number, step_number, start_number}
use Rattle.numbers.specs.Cases.{StateCases, StartCases}
use Rattle.numbers.proofs.Computing.{reading, checking, looking, meaning, storing, keeping, rooms}

pub state_cases : StateCases
unfolding StateCases power_number step_number reading checking looking meaning storing keeping rooms
state_cases = (refl, refl)

pub start_cases : StartCases
unfolding StartCases start_number checking looking
start_cases = refl
