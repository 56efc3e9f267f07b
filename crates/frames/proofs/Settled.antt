-- Results that meet the same promise are equal.
-- Assumes nothing.
use Rattle.laws.proofs.Settled.{settles}
use Rattle.frames.specs.Read.{read_of}
use Rattle.frames.specs.Write.{write_of}
use Rattle.frames.specs.Promises.{Settled}

pub settled : Settled
settled =
    record {
      read = λ f. settles (read_of f);
      write = λ m. settles (write_of m);
    }
