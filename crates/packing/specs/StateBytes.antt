-- A state as 96 bytes, high bytes first, and back.
-- Assumes nothing.
use Rattle.std.specs.Prelude.{ℕ, ◌+◌, ◌-◌, Bool, ◌&&◌, List, [], ◌∷◌, ◌++◌, leb, eqb, get_or, drop, replicate, if◌then◌else◌}
use Rattle.laws.specs.Bits.{bits}
use Rattle.laws.specs.Lists.{every}
use Rattle.laws.specs.Parts.{part}
use Rattle.memory.specs.declared.latched.Latch.{Latch}
use Rattle.hearing.specs.declared.heard.Who.{Who}
use Rattle.hearing.specs.declared.heard.Waiting.{Waiting}
use Rattle.rooms.specs.State.{zero_state, with_who, with_registers, with_waiting, with_door, with_latch}
use Rattle.rooms.specs.declared.state.Registers.{Registers}
use Rattle.rooms.specs.declared.state.Door.{Door}
use Rattle.rooms.specs.declared.state.State.{State}
use Rattle.entries.specs.Entry.{four_bytes}

-- 0/1
abbrev pub flag : Bool → ℕ
flag b = if b then 1 else 0

-- a number's four bytes, high first
unfoldable pub four_of : ℕ → List ℕ
four_of n = bits n 31 24 ∷ bits n 23 16 ∷ bits n 15 8 ∷ bits n 7 0 ∷ []

-- 0 address; 1..4 groups
abbrev pub who_bytes : Who → List ℕ
who_bytes who = who.address ∷ four_of who.groups

-- 5, 6, 7 DTR0..2
abbrev pub registers_bytes : Registers → List ℕ
registers_bytes d = d.dtr0 ∷ d.dtr1 ∷ d.dtr2 ∷ []

-- 8 waiting (0/1); 9..12 its frame; 13..16 its clock
abbrev pub waiting_bytes : Waiting → List ℕ
waiting_bytes w = flag w.held ∷ four_of w.frame ++ four_of w.clock

-- 17 write-enable (0/1); 18 staged count; 19 its bank; 20 its first location; 21..28 staged bytes
abbrev pub door_bytes : Door → List ℕ
door_bytes d = flag d.enabled ∷ d.staged.count ∷ d.staged.bank ∷ d.staged.first ∷ d.staged.bytes

-- 29 latched (0/1); 30 its bank; 31 its first location; 32..39 latched bytes
abbrev pub latch_bytes : Latch → List ℕ
latch_bytes l = flag l.held ∷ l.bank ∷ l.first ∷ l.bytes

-- where the bytes in use end: from here to 95 all are zero, kept for what comes later
abbrev pub used : ℕ
used = 40

unfoldable pub state_bytes : State → List ℕ
state_bytes s =
    who_bytes s.who
    ++ (registers_bytes s.registers
    ++ (waiting_bytes s.waiting ++ (door_bytes s.door ++ (latch_bytes s.latch ++ replicate (96 - used) 0))))

-- the four bytes from place i on, as a number
unfoldable pub four_at : List ℕ → ℕ → ℕ
four_at b i = four_bytes (get_or b i 0) (get_or b (i + 1) 0) (get_or b (i + 2) 0) (get_or b (i + 3) 0)

abbrev pub flag_at : List ℕ → ℕ → Bool
flag_at b i = eqb (get_or b i 0) 1

-- the same places, read
abbrev pub who_at : List ℕ → Who
who_at b = record { address = get_or b 0 0; groups = four_at b 1 }

abbrev pub registers_at : List ℕ → Registers
registers_at b = record { dtr0 = get_or b 5 0; dtr1 = get_or b 6 0; dtr2 = get_or b 7 0 }

abbrev pub waiting_at : List ℕ → Waiting
waiting_at b = record { held = flag_at b 8; frame = four_at b 9; clock = four_at b 13 }

abbrev pub door_at : List ℕ → Door
door_at b =
    record {
      enabled = flag_at b 17;
      staged = record { count = get_or b 18 0; bank = get_or b 19 0; first = get_or b 20 0; bytes = part 21 8 b };
    }

abbrev pub latch_at : List ℕ → Latch
latch_at b = record { held = flag_at b 29; bank = get_or b 30 0; first = get_or b 31 0; bytes = part 32 8 b }

-- a room that has no places of its own is zero
unfoldable pub state_of : List ℕ → State
state_of b =
    with_latch
    (with_door (with_waiting (with_registers (with_who zero_state (who_at b)) (registers_at b)) (waiting_at b)) (door_at b))
    (latch_at b)

-- no flag over 1, and no byte behind those in use that is not zero
unfoldable pub shape_holds : List ℕ → Bool
shape_holds b =
    leb (get_or b 8 0) 1 && leb (get_or b 17 0) 1 && leb (get_or b 29 0) 1 && every (λ x. eqb x 0) (drop used b)
