-- The state in rooms: one setter for each room, and what stands in a room that is not in use.
-- Paper 01, "State and clock".
-- Assumes nothing.
use Rattle.std.specs.Prelude.{Bool, true, false}
use Rattle.memory.specs.Staged.{none_staged}
use Rattle.memory.specs.Latched.{none_latched}
use Rattle.memory.specs.declared.latched.Latch.{Latch}
use Rattle.hearing.specs.Pairs.{none_waits}
use Rattle.hearing.specs.declared.heard.Who.{Who}
use Rattle.hearing.specs.declared.heard.Waiting.{Waiting}
use Rattle.rooms.specs.declared.state.Registers.{Registers}
use Rattle.rooms.specs.declared.state.Door.{Door}
use Rattle.rooms.specs.declared.state.State.{State}

unfoldable pub with_who : State → Who → State
with_who s x = record { who = x; registers = s.registers; waiting = s.waiting; door = s.door; latch = s.latch }

unfoldable pub with_registers : State → Registers → State
with_registers s x = record { who = s.who; registers = x; waiting = s.waiting; door = s.door; latch = s.latch }

unfoldable pub with_waiting : State → Waiting → State
with_waiting s x = record { who = s.who; registers = s.registers; waiting = x; door = s.door; latch = s.latch }

unfoldable pub with_door : State → Door → State
with_door s x = record { who = s.who; registers = s.registers; waiting = s.waiting; door = x; latch = s.latch }

unfoldable pub with_latch : State → Latch → State
with_latch s x = record { who = s.who; registers = s.registers; waiting = s.waiting; door = s.door; latch = x }

-- DTRs 0
abbrev pub zero_registers : Registers
zero_registers = record { dtr0 = 0; dtr1 = 0; dtr2 = 0 }

-- open or shut, and nothing staged
abbrev pub empty_door : Bool → Door
empty_door enabled = record { enabled = enabled; staged = none_staged }

-- closing drops staging
abbrev pub shut_door : Door
shut_door = empty_door false

abbrev pub open_door : Door
open_door = empty_door true

-- DTRs 0; nothing waiting, enabled, staged or latched. What is not named stays: address and groups
unfoldable pub powered_on : State → State
powered_on s = with_latch (with_door (with_waiting (with_registers s zero_registers) none_waits) shut_door) none_latched

-- all zeros
unfoldable pub zero_state : State
zero_state =
    record {
      who = record { address = 0; groups = 0 };
      registers = zero_registers;
      waiting = none_waits;
      door = shut_door;
      latch = none_latched;
    }
