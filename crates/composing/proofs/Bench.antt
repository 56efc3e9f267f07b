-- The bench sheet holds: each line is computed.
-- Assumes nothing.
use mathlib.Core.Path.{refl}
use lib.ListN.{drop}
use lib.Count.{count_trailing_zeros}
use Rattle.laws.specs.Bits.{bits}
use Rattle.frames.specs.Kind.{kind_of}
use Rattle.frames.specs.Values.{target_at, scheme_at}
use Rattle.frames.specs.Read.{address_of, target_of, command_of, scheme_of, field_of, power_of, other_of, event_of, read_of}
use Rattle.frames.specs.Write.{event_fits, bytes_frame, event_frame, power_frame, write_of}
use Rattle.composing.specs.Compose.{or_missing, source_fits, shipped_of, or_blank, lowest_group, event_by, compose_of}
use Rattle.composing.specs.Compose.{power_fits, compose_power_of}
use Rattle.composing.specs.Bench.{AllHold, sheet, SheetHolds}

pub sheet_holds : SheetHolds
unfolding count_trailing_zeros bits kind_of target_at scheme_at address_of target_of command_of scheme_of field_of power_of other_of
    event_of read_of event_fits bytes_frame event_frame power_frame write_of or_missing source_fits shipped_of or_blank
    lowest_group event_by compose_of power_fits compose_power_of
sheet_holds = ((refl, refl), ((refl, refl), ((refl, refl), ((refl, refl), ((refl, refl), rest)))))
  where
    rest : AllHold (drop 5 sheet)
    rest = ((refl, refl), ((refl, refl), ((refl, refl), ((refl, refl), (refl, tt)))))
