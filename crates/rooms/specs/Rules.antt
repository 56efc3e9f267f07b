-- 12: the rules of a state. Paper 01, "State and clock".
-- Assumes nothing.
use Rattle.std.specs.Prelude.{ℕ, Bool, true, false, not, ◌&&◌, ◌||◌, List, leb, eqb, if◌then◌else◌}
use Rattle.records.specs.declared.record.Record.{Record}
use Rattle.memory.specs.Rules.{staged_holds, latch_holds}
use Rattle.hearing.specs.Meaning.{meaning_of}
use Rattle.hearing.specs.declared.meaning.Meaning.{Meaning}
use Rattle.hearing.specs.declared.meaning.Meaning.TheVariants.{Foreign, NotObeyed, AtOnce, NeedsPair}
use Rattle.rooms.specs.declared.state.State.{State}

-- the address is 0..63 or 255
abbrev pub address_holds : ℕ → Bool
address_holds address = leb address 63 || eqb address 255

abbrev pub needs_pair : Meaning → Bool
needs_pair Foreign = false
needs_pair NotObeyed = false
needs_pair (AtOnce once) = false
needs_pair (NeedsPair twice) = true

-- a waiting frame is a pair command for the unit, and write-enable is then closed; what is not in use is zero
unfoldable pub waiting_holds : State → Bool
waiting_holds s =
    if s.waiting.held then needs_pair (meaning_of s.who s.waiting.frame) && not s.door.enabled
    else eqb s.waiting.frame 0 && eqb s.waiting.clock 0

-- staged bytes exist only while enabled
unfoldable pub door_holds : List Record → List ℕ → State → Bool
door_holds rs store s = (s.door.enabled || eqb s.door.staged.count 0) && staged_holds rs store s.door.staged

unfoldable pub state_holds : List Record → List ℕ → State → Bool
state_holds rs store s =
    address_holds s.who.address && (waiting_holds s && (door_holds rs store s && latch_holds rs s.latch))
