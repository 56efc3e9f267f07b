-- `faces::unit_calls::run_face` meets its contract.
-- Assumes nothing.
use Rattle.faces.proofs.Run.{run_unshaped, run_shaped}
use Rattle.std.proofs.Common.{not, ap}
use Rattle.faces.proofs.unit_calls.run_face.Goals as goal

pub returns-then-not-shape_holds : goal.returns-then-not-shape_holds
returns-then-not-shape_holds c =
    run_unshaped _ _ _ _ _ _ c.shape_holds.ensures _ c.run.ensures (ap not c.if-not-shape_holds.true) c.unfit.ensures

pub returns : goal.returns
returns c =
    run_shaped _ _ _ _ _ _ c.shape_holds.ensures _ c.run-ran.ensures (ap not c.if-not-shape_holds.false) c.unpack-kept.ensures c.pack.ensures
