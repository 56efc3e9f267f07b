-- The sums below `k` stand.
-- Assumes nothing.
use Rattle.std.proofs.Common.{◌+◌, ◌%◌, ◌^◌, get_or}
use Rattle.census.specs.Census.{count_at}
use Rattle.census.proofs.Filled.{Filled}
use Rattle.census.proofs.added.added_to.Given as goal

abbrev pub invariant-loop-k : goal.invariant-loop-k
invariant-loop-k l = Filled 16 (λ k. (get_or l.counts k 0 + count_at l.census k) % 2 ^ 64) l.sums l.k
