-- The worked cases, computed.
-- Assumes nothing.
use mathlib.Core.Path.{refl}
use Rattle.laws.specs.Parts.{part}
use Rattle.laws.specs.Numbers.{first_failing}
use Rattle.refusals.specs.Numbers.{refusal_of}
use Rattle.records.specs.Map.{record_at, records_of}
use Rattle.records.specs.Order.{size_holds}
use Rattle.banks.specs.Rules.{lengths_hold, places_hold, bank_holds, banks_hold, head_byte_holds, head_holds, head_bytes_hold}
use Rattle.banks.specs.Values.{value_of}
use Rattle.compare.specs.Compare.{differs, differing, difference_of, list_of, compare_number, compare_of, listed_over, output_of}
use Rattle.compare.specs.Compare.{compare_word}
use Rattle.compare.specs.Cases.{CompareCases}

pub compare_cases : CompareCases
unfolding compare_word refusal_of compare_of output_of listed_over list_of difference_of differing differs compare_number value_of part first_failing
    size_holds records_of record_at places_hold lengths_hold banks_hold bank_holds head_bytes_hold head_holds head_byte_holds
compare_cases = record {
  bench = refl;
  numbers = refl;
  counts = refl;
  lists = refl;
  untouched = refl;
  words = (refl, refl, refl, refl, refl);
}
