-- The counts below `k` stand, with 1 added where that is the class.
-- Assumes nothing.
use Rattle.std.proofs.Common.{◌+◌, eqb, get_or}
use mir.Val.{bool_byte}
use Rattle.census.proofs.Filled.{Filled}
use Rattle.census.proofs.counts.one_more.Given as goal

abbrev pub invariant-loop-k : goal.invariant-loop-k
invariant-loop-k l = Filled 15 (λ k. get_or l.counts k 0 + bool_byte (eqb l.class k)) l.after l.k
