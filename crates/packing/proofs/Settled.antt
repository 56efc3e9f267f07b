-- Results that meet the same promise are equal.
-- Assumes nothing.
use Rattle.laws.proofs.Settled.{settles}
use Rattle.packing.specs.StateBytes.{state_bytes, state_of, shape_holds}
use Rattle.packing.specs.Promises.{Settled}

pub settled : Settled
settled =
    record {
      pack = λ s. settles (state_bytes s);
      unpack = λ b. settles (state_of b);
      shape_holds_lem = λ b. settles (shape_holds b);
    }
