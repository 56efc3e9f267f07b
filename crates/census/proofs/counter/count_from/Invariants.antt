-- What is counted in all is the census and the records from the place on.
-- Assumes nothing.
use Rattle.std.proofs.Common.{◌-◌, length, drop}
use Rattle.census.specs.Census.{census_of}
use Rattle.census.proofs.Going.{Going}
use Rattle.census.proofs.counter.count_from.Given as goal

abbrev pub invariant-loop-census : goal.invariant-loop-census
invariant-loop-census l = Going (census_of (drop l.at l.capture)) l.capture l.census l.place

abbrev pub decreases-loop-census : goal.decreases-loop-census
decreases-loop-census l = length l.capture - l.place
