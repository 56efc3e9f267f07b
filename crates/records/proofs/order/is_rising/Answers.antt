-- `records::order::is_rising` meets its contract.
-- Assumes nothing.
use Rattle.std.proofs.Common.{rules}
use Rattle.records.proofs.Walk.{sorted_is}
use Rattle.records.proofs.order.is_rising.Goals as goal

pub returns : goal.returns
returns c = sorted_is c.is_sorted_by.ensures.runs c.records.ensures (λ x y b q k. search rules)
