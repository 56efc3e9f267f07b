-- `banks::rules::head_bytes_hold` meets its contract.
-- Assumes nothing.
use Rattle.std.proofs.Common.{rules}
use Rattle.records.proofs.Walk.{all_is}
use Rattle.banks.specs.Rules.{head_bytes_hold}
use Rattle.banks.proofs.rules.head_bytes_hold.Goals as goal

pub returns : goal.returns
unfolding head_bytes_hold
returns c = all_is _ c.all.ensures.runs c.records.ensures (λ x b q k. search rules)
