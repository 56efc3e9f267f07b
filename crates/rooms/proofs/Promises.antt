-- A powered-on state, and what SET SHORT ADDRESS takes.
-- Assumes nothing.
use mathlib.Core.Path.{ap}
use Rattle.std.specs.Prelude.{if◌then◌else◌}
use Rattle.rooms.specs.Due.{short_due}
use Rattle.rooms.specs.Promises.{PoweredOn, ShortTakesAddress}
use Rattle.rooms.specs.declared.due.Due.TheVariants.{Nothing, Becomes}
use Rattle.rooms.proofs.Dues.{short_same}
use Rattle.rooms.proofs.Powered.{powered_who, powered_registers, powered_waiting, powered_door, powered_latch}

pub powered_on_lem : PoweredOn
powered_on_lem s =
    record {
      who_is = powered_who s;
      dtr0 = rw (powered_registers s);
      dtr1 = rw (powered_registers s);
      dtr2 = rw (powered_registers s);
      none_waiting = rw (powered_waiting s);
      not_enabled = rw (powered_door s);
      none_staged = rw (powered_door s);
      none_latched = rw (powered_latch s);
    }

pub short_takes_address : ShortTakesAddress
unfolding short_due
short_takes_address who dtr0 =
    ap (λ taken. if taken then Becomes (record { address = dtr0; groups = who.groups }) else Nothing) (short_same dtr0)
