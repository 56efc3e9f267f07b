-- `faces::unit_calls::start_face` meets its contract.
-- Assumes nothing.
use Rattle.std.proofs.Common.{arith}
use Rattle.faces.proofs.NoByte.{start_over}
use Rattle.faces.proofs.unit_calls.start_face.Goals as goal

pub returns-in_default : goal.returns-in_default
returns-in_default c =
    start_over _ _ _ _ _ (let h = c.in_default.ensures in omega arith) _ c.reply_word.ensures c.refusal_then.ensures
