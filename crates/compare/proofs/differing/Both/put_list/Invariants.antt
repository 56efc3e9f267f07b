-- The list is written up to `at`, with some records to come.
-- Assumes nothing.
use Rattle.records.specs.Map.{records_of}
use Rattle.compare.proofs.Turns.{AreOf, Goes}
use Rattle.compare.proofs.differing.Both.put_list.Given as goal

abbrev pub invariant-loop-r : goal.invariant-loop-r
invariant-loop-r l =
    record {
      of : AreOf l.self.map.now (records_of l.r-iterator.bytes.now);
      goes :
          Goes l.self.map.now l.self.old.now l.self.new.now l.fn.output (records_of l.r-iterator.bytes.now) l.at l.output;
    }
