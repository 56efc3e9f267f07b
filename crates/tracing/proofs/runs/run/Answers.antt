-- A turn of the run, and its two ends: no turn is left, or 13 has ended it.
-- Assumes nothing.
use Rattle.std.proofs.Common.{refl, ◌∙◌, ap, inl, inr, arith, ◌+◌}
use Rattle.tracing.proofs.Turning.{goes_first, begins, goes_again, ran}
use Rattle.tracing.proofs.runs.run.Goals as goal

pub loop-init : goal.loop-init
loop-init c =
    record {
      as_many = refl;
      goes = goes_first _ _ _ _ _ _ _ _ c.room_for-n.ensures c.check_power-checked.ensures;
    }

pub turn-ran-requires : goal.turn-ran-requires
turn-ran-requires c =
    let inv = c.loop.invariant in
    let more = c.loop-test.true in
    begins _ _ _ _ _ _ _ _ _ _ _ inv.goes (omega (arith, inv.as_many)) c.if-ran.false

pub loop-preserved : goal.loop-preserved
loop-preserved c =
    let inv = c.loop.invariant in
    let more = c.loop-test.true in
    record {
      as_many = c.turn-ran.ensures.one_more ∙ ap (λ k. k + 1) inv.as_many;
      goes =
          goes_again _ _ _ _ _ _ _ _ _ _ _ inv.goes (omega (arith, inv.as_many)) _ _ _ c.turn-ran.ensures c.turn-ran.auto.store
          c.turn-ran.auto.output;
    }

pub returns-after-loop : goal.returns-after-loop
returns-after-loop c =
    let inv = c.loop.invariant in
    let none = c.loop-test.false in
    rw (← c.room_for-n.ensures) (ran _ _ _ _ _ _ _ _ _ _ _ inv.goes (inl (omega (arith, inv.as_many))))

pub returns-then-ran : goal.returns-then-ran
returns-then-ran c =
    rw (← c.room_for-n.ensures) (ran _ _ _ _ _ _ _ _ _ _ _ c.loop.invariant.goes (inr c.if-ran.true))
