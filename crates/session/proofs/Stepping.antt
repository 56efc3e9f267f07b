-- One frame of a session, for a unit with that address: what its step leaves.
-- Assumes nothing.
use Prim.Native.Nat.{ℕ, ◌+◌, ◌%◌, ◌^◌, ◌≤◌}
use mathlib.Core.Path.{◌≡◌, refl, ◌∙◌}
use mathlib.Core.Bool.{true}
use mathlib.Core.List.{List}
use native.Mathlib.Omega.{arith}
use borrow.Author.Tests.{eq-eqb, ne_eqb, le-leb}
use Rattle.std.specs.Prelude.{Some, None}
use Rattle.laws.specs.Outcome.{leaves}
use Rattle.records.specs.Map.{mapped}
use Rattle.records.specs.declared.record.Record.{Record}
use Rattle.memory.specs.Staged.{none_staged, wrote, write_byte}
use Rattle.memory.specs.declared.staged.Staged.{Staged}
use Rattle.hearing.specs.Meaning.{meaning_of}
use Rattle.hearing.specs.Pairs.{heard_at, passed, in_time, completes, none_waits, waits_for}
use Rattle.hearing.specs.declared.heard.Heard.{Heard}
use Rattle.hearing.specs.declared.meaning.Once.TheVariants.{DirectWriteMemory, SetDtr}
use Rattle.hearing.specs.declared.meaning.Twice.TheVariants.{EnableWriteMemory}
use Rattle.hearing.specs.declared.meaning.Meaning.TheVariants.{AtOnce, NeedsPair}
use Rattle.hearing.proofs.ForHistory.{none_completes, one_completes}
use Rattle.rooms.specs.State.{with_registers, with_waiting, with_door, shut_door}
use Rattle.rooms.specs.Due.{with_dtr, write_due, once_due, pair_due, due_by, due_of}
use Rattle.rooms.specs.Reply.{quiet, answering}
use Rattle.rooms.specs.declared.state.State.{State}
use Rattle.rooms.specs.declared.state.Registers.{Registers}
use Rattle.unit.specs.Step.{cleared, raised, written, done, frame_step}

-- DTR1 is this bank, and DTR0 this location
abbrev pub pointing : State → ℕ → ℕ → Registers
pointing s bank location = record { dtr0 = location; dtr1 = bank; dtr2 = s.registers.dtr2 }

-- DTR1 is heard
abbrev pub told : State → ℕ → State
told s bank =
    record {
      who = s.who;
      registers = pointing s bank s.registers.dtr0;
      waiting = none_waits;
      door = s.door;
      latch = s.latch;
    }

-- ENABLE is heard once
abbrev pub asked : State → ℕ → Heard → State
asked s bank heard =
    record {
      who = s.who;
      registers = pointing s bank s.registers.dtr0;
      waiting = waits_for heard;
      door = shut_door;
      latch = s.latch;
    }

-- write-enable is open
abbrev pub open_at : State → ℕ → ℕ → Staged → State
open_at s bank location g =
    record {
      who = s.who;
      registers = pointing s bank location;
      waiting = none_waits;
      door = record { enabled = true; staged = g };
      latch = s.latch;
    }

module _ (rs : List Record) (store image : List ℕ) (s : State) (bank : ℕ) (heard : Heard) where
  -- DTR1: any waiting frame is cleared, whatever it is, and the door is as it was
  pub dtr1_step : meaning_of s.who heard.frame ≡ AtOnce (SetDtr 1 bank)
      → frame_step rs store image s heard ≡ leaves (answering (told s bank) None) store
  unfolding frame_step due_of due_by once_due done cleared quiet answering with_dtr with_registers with_waiting
  dtr1_step e = rw e

  -- ENABLE, where none waits: it waits itself, and the door is shut
  pub first_step : meaning_of s.who heard.frame ≡ NeedsPair EnableWriteMemory
      → frame_step rs store image (told s bank) heard ≡ leaves (answering (asked s bank heard) None) store
  unfolding frame_step due_of due_by done cleared quiet answering with_waiting with_door
  first_step e = rw (e, none_completes heard)

  -- ENABLE again, in time: the door is open, with nothing staged
  pub second_step : (first : Heard) → meaning_of s.who heard.frame ≡ NeedsPair EnableWriteMemory
      → completes (waits_for first) heard ≡ true
      → frame_step rs store image (asked s bank first) heard
      ≡ leaves (answering (open_at s bank s.registers.dtr0 none_staged) None) store
  unfolding frame_step due_of due_by pair_due done cleared quiet answering with_waiting with_door
  second_step first e p = rw (e, p)

  -- DIRECT WRITE: DTR0 rises from its offset
  pub write_step : (at location byte : ℕ) (g : Staged) → mapped rs bank ≡ true → (location ≡ 0xFF → ⊥)
      → meaning_of s.who heard.frame ≡ AtOnce (DirectWriteMemory location byte)
      → (after : Staged) (left : List ℕ) → write_byte rs store g bank location byte ≡ leaves (wrote true after) left
      → frame_step rs store image (open_at s bank at g) heard
      ≡ leaves (answering (open_at s bank (location + 1) after) (Some byte)) left
  unfolding frame_step due_of due_by once_due write_due done cleared written raised answering with_dtr with_registers with_waiting with_door
  write_step at location byte g m n e after left w = rw (e, m, w, ne_eqb location 0xFF n)

-- the same frame again, in time, is a pair
pub in_time_lem : (first second frame : ℕ) → passed first second ≤ 100
    → completes (waits_for (heard_at first frame)) (heard_at second frame) ≡ true
unfolding in_time
in_time_lem first second frame h =
    one_completes (heard_at first frame) (heard_at second frame)
    ∙ rw (eq-eqb frame frame refl, le-leb (passed first second) 100 h)

-- 1 ms later is in time, whether the clock runs over or not
pub one_later : (clock : ℕ) → passed (clock % 2 ^ 32) ((clock + 1) % 2 ^ 32) ≤ 100
unfolding passed
one_later clock = omega arith
