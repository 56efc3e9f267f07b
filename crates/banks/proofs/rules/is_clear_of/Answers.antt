-- `banks::rules::is_clear_of` meets its contract.
-- Assumes nothing.
use Rattle.std.proofs.Common.{rules, refl}
use Rattle.records.proofs.Walk.{all_is}
use Rattle.banks.proofs.rules.is_clear_of.Goals as goal

pub returns : goal.returns
returns c = all_is _ c.all.ensures.runs refl (λ x b q k. search rules)
