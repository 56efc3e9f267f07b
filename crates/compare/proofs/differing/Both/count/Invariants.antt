-- Those counted and those among the records to come are all that differ.
-- Assumes nothing.
use Rattle.std.proofs.Common.{◌≡◌, ◌+◌, length}
use Rattle.laws.specs.Counts.{count}
use Rattle.records.specs.Map.{records_of}
use Rattle.compare.specs.Compare.{differs, differing}
use Rattle.compare.proofs.Turns.{AreOf}
use Rattle.compare.proofs.differing.Both.count.Given as goal

abbrev pub invariant-loop-r : goal.invariant-loop-r
invariant-loop-r l =
    record {
      of : AreOf l.self.map.now (records_of l.r-iterator.bytes.now);
      sum :
          length (differing l.self.map.now l.self.old.now l.self.new.now)
          ≡ l.count + count (differs l.self.old.now l.self.new.now) (records_of l.r-iterator.bytes.now);
    }
