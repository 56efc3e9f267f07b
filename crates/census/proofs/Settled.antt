-- Results that meet the same promise are equal, for each call.
-- Assumes nothing.
use Rattle.std.proofs.Common.{sym, ◌∙◌}
use Rattle.laws.proofs.Settled.{settles}
use Rattle.census.specs.Promises.{AddSettled, CensusSettled}

pub add_settled : AddSettled
add_settled capture before r s after other p q = (p.number ∙ sym q.number, p.counts ∙ sym q.counts)

pub census_settled : CensusSettled
census_settled =
    record {
      class = λ reading r s p q. p.0 ∙ sym q.0;
      count_from = λ capture at. settles _;
      census = λ capture. settles _;
      new = λ capture. settles _;
      entry = λ reader. settles _;
      moved = λ reader. settles _;
      rest = λ reader. settles _;
    }
