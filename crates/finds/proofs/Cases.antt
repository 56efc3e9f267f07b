-- The worked cases, computed.
-- Assumes nothing.
use mathlib.Core.Path.{refl}
use Rattle.laws.specs.Numbers.{first_failing}
use Rattle.refusals.specs.Numbers.{refusal_of}
use Rattle.records.specs.Map.{record_at, records_of}
use Rattle.records.specs.Order.{size_holds, order_number}
use Rattle.records.specs.Lookup.{nearer, next, why, holder}
use Rattle.records.specs.Halving.{visits, visited}
use Rattle.finds.specs.Find.{find_of, found_word, find_number, find_word}
use Rattle.finds.specs.Cases.{FindCases}

pub find_cases : FindCases
unfolding find_of refusal_of found_word find_number find_word order_number first_failing size_holds records_of record_at holder why next nearer visited visits
find_cases =
    record {
      refusals = refl;
      counts = refl;
      findings = refl;
      many = refl;
      words = refl;
      many_words = refl;
      no_byte = (refl, refl, refl);
    }
