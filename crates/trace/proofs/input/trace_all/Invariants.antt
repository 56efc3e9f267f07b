use Rattle.tracing.specs.Flow.{Flows}
use Rattle.trace.proofs.input.trace_all.Given as goal

abbrev pub invariant-loop : goal.invariant-loop
invariant-loop l = Flows l.flow
