-- A refusal by 7 to 11, one by 15, and the list.
-- Assumes nothing.
use Rattle.std.proofs.Common.{refl, sym, arith}
use Rattle.std.proofs.lemmas.Result.{err_from_is_err_and}
use Rattle.refusals.proofs.Told.{not_none}
use Rattle.compare.proofs.Numbered.{number_refused, number_15, number_0, refuses, lists}
use Rattle.compare.proofs.compared.compare.Goals as goal

pub returns-in_err-both : goal.returns-in_err-both
returns-in_err-both c =
    let a = c.args in
    let p = err_from_is_err_and c.from_residual.result c.from_residual.ensures.1 in
    let told = c.in_err-both.ensures.number in
    rw (p.1, p.2)
    (refuses a.map.now a.old.now a.new.now a.output.now _
    (number_refused a.map.now a.old.now a.new.now _ _ (not_none _ _ refl) told))

pub returns-then-output-count : goal.returns-then-output-count
returns-then-output-count c =
    let a = c.args in
    let none = sym c.in_ok-both.ensures.number in
    let same = c.in_ok-both.ensures.same in
    let count = rw (same.0, same.1, same.2) at c.count-count.ensures in
    let short = c.if-output-count.true in
    refuses a.map.now a.old.now a.new.now a.output.now _ (number_15 a.map.now a.old.now a.new.now _ none (omega arith))

pub returns : goal.returns
returns c =
    let a = c.args in
    let none = sym c.in_ok-both.ensures.number in
    let same = c.in_ok-both.ensures.same in
    let count = rw (same.0, same.1, same.2) at c.count-count.ensures in
    let enough = c.if-output-count.false in
    lists a.map.now a.old.now a.new.now a.output.now
    (number_0 a.map.now a.old.now a.new.now _ none (omega arith)) _ count _ (rw (same.0, same.1, same.2) at c.put_list.ensures)
