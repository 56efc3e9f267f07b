-- The worked cases, computed.
-- Assumes nothing.
use mathlib.Core.Path.{refl}
use Rattle.entries.specs.Entry.{entry_of, entry_at}
use Rattle.entries.specs.Cases.{Cases}

pub cases : Cases
unfolding entry_of entry_at
cases = record { frame = refl; power_on = refl; unknown = refl }
