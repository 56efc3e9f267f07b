-- All 16 sums stand.
-- Assumes nothing.
use Rattle.std.proofs.Common.{◌+◌, ◌%◌, ◌^◌, get_or}
use Rattle.census.specs.Census.{count_at, added_to}
use Rattle.census.proofs.Filled.{filled_all}
use Rattle.census.proofs.added.added_to.Goals as goal

pub returns : goal.returns
unfolding added_to
returns c =
    filled_all 16 (λ k. (get_or c.args.counts k 0 + count_at c.args.census k) % 2 ^ 64) _ _ c.loop-k-test.false
    c.loop-k.invariant
