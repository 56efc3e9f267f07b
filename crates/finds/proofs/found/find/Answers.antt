-- A map that breaks 7, 8 or 9.
-- Assumes nothing.
use Rattle.std.proofs.lemmas.Result.{err_from_is_err_and}
use Rattle.finds.proofs.Finds.{find_refused}
use Rattle.finds.proofs.found.find.Goals as goal

pub returns-in_err-map : goal.returns-in_err-map
returns-in_err-map c =
    let p = err_from_is_err_and c.from_residual.result c.from_residual.ensures.1 in
    rw (p.1, p.2) (find_refused c.args.map.now c.args.bank c.args.location _ c.in_err-map.ensures.number)
