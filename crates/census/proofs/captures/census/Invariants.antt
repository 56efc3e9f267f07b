-- The reader reads the capture; what is counted in all is the census and the records from the reader's place on.
-- Assumes nothing.
use Rattle.std.proofs.Common.{◌≡◌, ◌-◌, length}
use Rattle.census.specs.Census.{census_of}
use Rattle.census.proofs.Going.{Going}
use Rattle.census.proofs.captures.census.Given as goal

abbrev pub invariant-loop-reader : goal.invariant-loop-reader
invariant-loop-reader l =
    record {
      same : l.reader.capture.now ≡ l.capture;
      going : Going (census_of l.capture) l.reader.capture.now l.census l.reader.at;
    }

abbrev pub decreases-loop-reader : goal.decreases-loop-reader
decreases-loop-reader l = length l.reader.capture.now - l.reader.at
