-- Each number is given exactly if: from the number of an answer to the answer.
-- Assumes nothing.
use mathlib.Core.Path.{refl}
use Rattle.frames.proofs.Exactly.{answers}
use Rattle.composing.specs.Compose.{compose_of, compose_power_of}
use Rattle.composing.specs.Refusals.{Exactly}
use Rattle.composing.proofs.Composed.{composer_numbers, power_numbers}

pub exactly : Exactly
exactly =
    record {
      compose_event = λ e. answers (compose_of e) _ (composer_numbers e) refl;
      compose_power = λ short groups. answers (compose_power_of short groups) _ (power_numbers short groups) refl;
    }
