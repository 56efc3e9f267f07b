-- `banks::rules::all_end_by` meets its contract.
-- Assumes nothing.
use Rattle.std.proofs.Common.{rules}
use Rattle.records.proofs.Walk.{all_is}
use Rattle.banks.proofs.rules.all_end_by.Goals as goal

pub returns : goal.returns
returns c = all_is _ c.all.ensures.runs c.records.ensures (λ x b q k. search rules)
