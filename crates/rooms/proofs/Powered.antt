-- Each room after a power-on: the laws by which callers know it.
-- Assumes nothing.
use mathlib.Core.Path.{◌≡◌, refl}
use Rattle.memory.specs.Latched.{none_latched}
use Rattle.hearing.specs.Pairs.{none_waits}
use Rattle.hearing.specs.declared.heard.Who.{Who}
use Rattle.rooms.specs.State.{with_who, with_registers, with_waiting, with_door, with_latch, zero_registers, shut_door}
use Rattle.rooms.specs.State.{powered_on}
use Rattle.rooms.specs.declared.state.State.{State}

module _ (s : State) where
  -- address and groups stay
  pub powered_who : (powered_on s).who ≡ s.who
  unfolding powered_on with_registers with_waiting with_door with_latch
  powered_who = refl

  pub powered_registers : (powered_on s).registers ≡ zero_registers
  unfolding powered_on with_registers with_waiting with_door with_latch
  powered_registers = refl

  pub powered_waiting : (powered_on s).waiting ≡ none_waits
  unfolding powered_on with_waiting with_door with_latch
  powered_waiting = refl

  pub powered_door : (powered_on s).door ≡ shut_door
  unfolding powered_on with_door with_latch
  powered_door = refl

  pub powered_latch : (powered_on s).latch ≡ none_latched
  unfolding powered_on with_latch
  powered_latch = refl

-- a start gives its address and groups
pub named_who : (s : State) (who : Who) → (with_who s who).who ≡ who
unfolding with_who
named_who s who = refl
