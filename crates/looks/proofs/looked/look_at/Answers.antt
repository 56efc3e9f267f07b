-- 7 to 11.
-- Assumes nothing.
use Rattle.std.proofs.lemmas.Result.{err_from_is_err_and}
use Rattle.looks.proofs.Looks.{look_refused}
use Rattle.looks.proofs.looked.look_at.Goals as goal

pub returns-in_err-check_sizes : goal.returns-in_err-check_sizes
returns-in_err-check_sizes c =
    let a = c.args in
    let p = err_from_is_err_and c.from_residual.result c.from_residual.ensures.1 in
    rw (p.1, p.2) (look_refused a.map.now a.store.now a.bank a.location _ c.in_err-check_sizes.ensures)
