use Rattle.std.proofs.Common.{◌<◌}
use Rattle.ledger.proofs.input.count_all.Given as goal

abbrev pub invariant-loop : goal.invariant-loop
invariant-loop l = l.kept < 8
