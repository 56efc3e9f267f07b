-- `faces::unit_calls::look_face` meets its contract.
-- Assumes nothing.
use Rattle.std.proofs.Common.{arith}
use Rattle.faces.proofs.NoByte.{look_over}
use Rattle.faces.proofs.unit_calls.look_face.Goals as goal
use Rattle.faces.proofs.unit_calls.look_face.Goals.{in_default-via-in-Ok+in_default, in_default-via-in_default}

pub returns-in_default : goal.returns-in_default
returns-in_default c =
    elim c.in_default.branch [
      | in_default-via-in-Ok+in_default w ↦
          look_over _ _ _ _ (λ p q. w.in_default.ensures' (omega arith)) _ c.look_word.ensures c.refusal_then.ensures
      | in_default-via-in_default w ↦
          look_over _ _ _ _ (λ p q. let h = rw w.in_default.is-0 at c.try_from.ensures in h (omega arith)) _ c.look_word.ensures c.refusal_then.ensures
    ]
