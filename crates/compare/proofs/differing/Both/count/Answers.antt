-- A record to come is of the map, and one more differs, or not.
-- Assumes nothing.
use Rattle.std.proofs.Common.{arith}
use Rattle.compare.proofs.Turns.{is_of, are_of, counted}
use Rattle.compare.proofs.differing.Both.count.Goals as goal

pub is_different-requires : goal.is_different-requires
is_different-requires c = is_of _ c.in-Some.ensures.steps c.loop-r.invariant.of

pub loop-r-preserved-then-is_different : goal.loop-r-preserved-then-is_different
loop-r-preserved-then-is_different c =
    let turn = c.in-Some.ensures.steps in
    record {
      of = are_of _ turn c.loop-r.invariant.of;
      sum = omega (arith, c.loop-r.invariant.sum, counted _ _ turn _ c.if-is_different.ensures);
    }

pub loop-r-preserved : goal.loop-r-preserved
loop-r-preserved c =
    let turn = c.in-Some.ensures.steps in
    record {
      of = are_of _ turn c.loop-r.invariant.of;
      sum = omega (arith, c.loop-r.invariant.sum, counted _ _ turn _ c.if-is_different.ensures);
    }
