-- `banks::stored::Stored::lock_byte` meets its contract.
-- Assumes nothing.
use mathlib.Core.Path.{sym, ◌∙◌}
use native.Mathlib.Omega.{arith}
use Rattle.banks.proofs.Places.{holder_within}
use Rattle.banks.proofs.stored.Stored.lock_byte.Goals as goal

pub bounds-self-r : goal.bounds-self-r
bounds-self-r c =
    omega (arith, holder_within _ _ _ _ c.args.self.placed _ (rw c.map.ensures at (sym c.lookup.ensures ∙ c.in-Ok.is)))
