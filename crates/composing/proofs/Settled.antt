-- Results that meet the same promise are equal.
-- Assumes nothing.
use Rattle.laws.proofs.Settled.{settles}
use Rattle.composing.specs.Compose.{compose_of, compose_power_of}
use Rattle.composing.specs.Promises.{Settled}

pub settled : Settled
settled =
    record {
      compose_event = λ e. settles (compose_of e);
      compose_power = λ short groups. settles (compose_power_of short groups);
    }
