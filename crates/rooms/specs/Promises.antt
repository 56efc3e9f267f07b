-- What is proved of the rooms and of what is due. Paper 01, "State and clock" and "Commands obeyed".
-- Proved in proofs/Promises.antt.
-- Assumes nothing.
use Rattle.std.specs.Prelude.{ℕ, ◌≡◌, false, if◌then◌else◌}
use Rattle.hearing.specs.declared.heard.Who.{Who}
use Rattle.rooms.specs.State.{powered_on}
use Rattle.rooms.specs.Rules.{address_holds}
use Rattle.rooms.specs.Due.{short_due}
use Rattle.rooms.specs.declared.state.State.{State}
use Rattle.rooms.specs.declared.due.Due.TheVariants.{Nothing, Becomes}

-- DTRs 0; nothing waiting, enabled, staged or latched; address and groups as given
pub record StatePowered (who : Who) (s : State) : Type 0 where
  pub who_is : s.who ≡ who
  pub dtr0 : s.registers.dtr0 ≡ 0
  pub dtr1 : s.registers.dtr1 ≡ 0
  pub dtr2 : s.registers.dtr2 ≡ 0
  pub none_waiting : s.waiting.held ≡ false
  pub not_enabled : s.door.enabled ≡ false
  pub none_staged : s.door.staged.count ≡ 0
  pub none_latched : s.latch.held ≡ false

-- after a power-on, address and groups are those from before it
abbrev pub PoweredOn : Type 0
PoweredOn = (s : State) → StatePowered s.who (powered_on s)

-- SET SHORT ADDRESS takes exactly what may be an address
abbrev pub ShortTakesAddress : Type 0
ShortTakesAddress = (who : Who) (dtr0 : ℕ)
    → short_due who dtr0
    ≡ (if address_holds dtr0 then Becomes (record { address = dtr0; groups = who.groups }) else Nothing)
