-- `faces::unit_calls::power_on_face` meets its contract.
-- Assumes nothing.
use Rattle.faces.specs.Face.{power_on_face}
use Rattle.faces.proofs.Faced.{unshaped}
use Rattle.faces.proofs.unit_calls.power_on_face.Goals as goal

pub returns-in-Err : goal.returns-in-Err
unfolding power_on_face
returns-in-Err c = unshaped _ _ _ _ _ _ c.reply_word.ensures c.in-Err.ensures
