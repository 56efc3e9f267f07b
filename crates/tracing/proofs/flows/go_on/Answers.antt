-- `tracing::flows::go_on` meets its contract.
-- Assumes nothing.
use mathlib.Core.Path.{refl}
use Rattle.tracing.proofs.Flowing.{goes_on}
use Rattle.std.proofs.Common.{refl}
use Rattle.tracing.proofs.flows.go_on.Goals as goal

pub returns : goal.returns
returns c =
    goes_on _ _ _ _ _ _ _
    c.requires
    c.run-ran.result _ _ _ _ _ _ c.run-ran.ensures c.run-ran.auto.output
    c.keep_rest-kept.ensures refl refl
