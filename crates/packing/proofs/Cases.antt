-- The worked cases, computed.
-- Assumes nothing.
use mathlib.Core.Path.{refl}
use Rattle.laws.specs.Bits.{bits}
use Rattle.laws.specs.Parts.{part}
use Rattle.rooms.specs.State.{with_who, with_registers, with_waiting, with_door, with_latch}
use Rattle.packing.specs.StateBytes.{four_of, state_bytes, four_at, state_of, shape_holds}
use Rattle.packing.specs.Cases.{Cases}

pub cases : Cases
unfolding bits part four_of state_bytes four_at state_of shape_holds with_who with_registers with_waiting with_door with_latch
cases =
    record {
      places = (refl, refl);
      flags = (refl, refl, refl, refl, refl, refl);
      behind = (refl, refl, refl);
    }
