-- The worked cases, computed.
-- Assumes nothing.
use mathlib.Core.Path.{refl}
use lib.Count.{count_trailing_zeros}
use Rattle.frames.specs.Values.{scheme_at}
use Rattle.frames.specs.Write.{event_fits, event_frame, power_frame, write_of}
use Rattle.composing.specs.Compose.{or_missing, source_fits, shipped_of, or_blank, lowest_group, event_by, compose_of}
use Rattle.composing.specs.Compose.{power_fits, compose_power_of}
use Rattle.composing.specs.Cases.{ComposeCases}

pub compose_cases : ComposeCases
unfolding count_trailing_zeros scheme_at event_fits event_frame power_frame write_of or_missing source_fits shipped_of or_blank
    lowest_group event_by compose_of power_fits compose_power_of
compose_cases = record { events = refl; power_events = refl }
