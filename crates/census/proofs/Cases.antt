-- The worked cases, computed.
-- Assumes nothing.
use Rattle.std.proofs.Common.{refl}
use Rattle.laws.specs.Bits.{bits}
use Rattle.frames.specs.Kind.{kind_of}
use Rattle.frames.specs.Values.{target_at}
use Rattle.frames.specs.Read.{address_of, target_of, command_of, scheme_of, field_of, power_of, other_of, event_of, read_of}
use Rattle.entries.specs.Entry.{entry_of, entry_at}
use Rattle.census.specs.Class.{refused_class, frame_class}
use Rattle.census.specs.Census.{counted_all, unfinished, entries_of, census_of, added_to}
use Rattle.census.specs.Reader.{next_at, place_after}
use Rattle.census.specs.Cases.{CensusCases}

pub census_cases : CensusCases
unfolding bits kind_of target_at address_of target_of command_of scheme_of field_of power_of other_of event_of read_of entry_of entry_at
    refused_class frame_class counted_all unfinished entries_of census_of added_to next_at place_after
census_cases =
    record {
      classes = refl;
      instances = refl;
      no_frame = refl;
      empty = refl;
      whole = refl;
      unknown_first = refl;
      unknown_between = refl;
      unfinished = refl;
      one_byte = refl;
      from_second = refl;
      from_within = refl;
      added = refl;
      stands = refl;
      behind = refl;
    }
