-- Results that meet the same promise are equal.
-- Assumes nothing.
use Rattle.laws.proofs.Settled.{settles}
use Rattle.words.specs.Word.{word_of, message_of}
use Rattle.words.specs.Promises.{Settled}

pub settled : Settled
settled =
    record {
      word_of_lem = λ x. settles (word_of x);
      message_of_lem = λ w. settles (message_of w);
    }
