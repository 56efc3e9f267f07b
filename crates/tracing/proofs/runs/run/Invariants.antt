-- As many records are answered as turns are taken, and what holds from turn to turn holds.
-- Assumes nothing.
use Rattle.std.proofs.Common.{◌≡◌}
use Rattle.refusals.specs.Numbers.{number_in}
use Rattle.tracing.proofs.Turning.{Goes}
use Rattle.tracing.proofs.runs.run.Given as goal

abbrev pub invariant-loop : goal.invariant-loop
invariant-loop l =
    record {
      as_many : l.ran.count ≡ l.counter;
      goes :
          Goes l.map l.image l.records l.initial.store l.initial.output l.store l.output l.initial.ran.state l.n
          (number_in l.checked) l.ran;
    }
