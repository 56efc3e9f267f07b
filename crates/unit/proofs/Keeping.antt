-- Accepted stays accepted: what start, power-on and a frame step leave keeps the rules 7 to 12.
-- Assumes nothing.
use Prim.Native.Nat.{ℕ}
use mathlib.Core.Path.{◌≡◌, refl}
use mathlib.Core.Bool.{Bool, true, false, ◌||◌}
use mathlib.Core.List.{List}
use lib.Dec.{eqb}
use lib.ListN.{length}
use Rattle.laws.specs.Outcome.{Outcome}
use Rattle.laws.proofs.Tests.{both}
use Rattle.laws.proofs.Sides.{and_right}
use Rattle.records.specs.Map.{records_of}
use Rattle.records.specs.declared.record.Record.{Record}
use Rattle.banks.specs.Rules.{placed}
use Rattle.memory.specs.Rules.{staged_holds, latch_holds}
use Rattle.memory.proofs.StagedRoom.{none_staged_holds, write_keeps_rule}
use Rattle.memory.proofs.LatchRoom.{read_keeps_rule}
use Rattle.hearing.specs.Meaning.{meaning_of}
use Rattle.hearing.specs.declared.heard.Who.{Who}
use Rattle.hearing.specs.declared.heard.Heard.{Heard}
use Rattle.rooms.specs.State.{with_who, with_registers, with_waiting, with_door, with_latch, shut_door, open_door}
use Rattle.rooms.specs.Rules.{address_holds, needs_pair, waiting_holds, door_holds, state_holds}
use Rattle.rooms.specs.Reply.{quiet, answering}
use Rattle.rooms.specs.declared.state.Registers.{Registers}
use Rattle.rooms.specs.declared.state.State.{State}
use Rattle.rooms.specs.declared.reply.Stepped.{Stepped}
use Rattle.rooms.specs.declared.due.Due.{Due}
use Rattle.rooms.specs.declared.due.Due.TheVariants.{Nothing, Waits, Opens, Resets, Becomes, Loads, Answers}
use Rattle.rooms.specs.declared.due.Due.TheVariants.{Writes, Reads}
use Rattle.rooms.proofs.Dues.{Cases, by_due}
use Rattle.unit.specs.Step.{cleared, raised, written, read_by, done, frame_step}

-- ---- the rules of a state, one by one

pub record RulesHold (rs : List Record) (store : List ℕ) (s : State) : Type 0 where
  pub address : address_holds s.who.address ≡ true
  pub waiting : waiting_holds s ≡ true
  pub door : door_holds rs store s ≡ true
  pub latch : latch_holds rs s.latch ≡ true

pub rules_hold : (rs : List Record) (store : List ℕ) (s : State) → state_holds rs store s ≡ true → RulesHold rs store s
unfolding state_holds
rules_hold rs store s h =
    let a = both (address_holds s.who.address) _ h in
    let w = both (waiting_holds s) _ a.1 in
    let d = both (door_holds rs store s) _ w.1 in
    record { address = a.0; waiting = w.0; door = d.0; latch = d.1 }

pub state_holds_lem : (rs : List Record) (store : List ℕ) (s : State) → RulesHold rs store s → state_holds rs store s ≡ true
unfolding state_holds
state_holds_lem rs store s h = rw (h.address, h.waiting, h.door, h.latch)

-- ---- a frame step keeps rule 12

-- nothing is staged behind a shut door, nor behind one just opened
pub shut_holds : (rs : List Record) (store : List ℕ) (s : State) → s.door ≡ shut_door → door_holds rs store s ≡ true
unfolding door_holds
shut_holds rs store s e = rw e (none_staged_holds rs store)

open_holds : (rs : List Record) (store : List ℕ) (s : State) → s.door ≡ open_door → door_holds rs store s ≡ true
unfolding door_holds
open_holds rs store s e = rw e (none_staged_holds rs store)

pub door_staged : (rs : List Record) (store : List ℕ) (s : State) → door_holds rs store s ≡ true
    → staged_holds rs store s.door.staged ≡ true
unfolding door_holds
door_staged rs store s e = and_right (s.door.enabled || eqb s.door.staged.count 0) _ e

module _ (map store image : List ℕ) (s : State) (heard : Heard) (place : placed map (length store) ≡ true)
    (h : RulesHold (records_of map) store s) where
  abbrev acted : Bool → Due → Outcome Stepped
  acted closing due = done (records_of map) store image (cleared s closing) heard due

  -- what is done leaves a state that keeps the rules
  unfoldable Kept : Bool → Due → Type 0
  Kept closing due = RulesHold (records_of map) (acted closing due).store (acted closing due).answer.state

  heard_door : (closing : Bool) → door_holds (records_of map) store (cleared s closing) ≡ true
  unfolding cleared with_waiting with_door door_holds
  heard_door true = none_staged_holds (records_of map) store
  heard_door false = h.door

  staged : staged_holds (records_of map) store s.door.staged ≡ true
  staged = door_staged (records_of map) store s h.door

  pub heard_staged : (closing : Bool) → staged_holds (records_of map) store (cleared s closing).door.staged ≡ true
  heard_staged closing = door_staged (records_of map) store (cleared s closing) (heard_door closing)

  nothing : (closing : Bool) → Kept closing Nothing
  unfolding Kept cleared done quiet with_waiting with_door waiting_holds
  nothing true = record { address = h.address; waiting = refl; door = heard_door true; latch = h.latch }
  nothing false = record { address = h.address; waiting = refl; door = heard_door false; latch = h.latch }

  answers : (closing : Bool) (byte : ℕ) → Kept closing (Answers byte)
  unfolding Kept done answering quiet
  answers closing byte = nothing closing

  loads : (registers : Registers) → Kept false (Loads registers)
  unfolding Kept cleared done quiet with_waiting with_registers waiting_holds door_holds
  loads registers = record { address = h.address; waiting = refl; door = h.door; latch = h.latch }

  waits : needs_pair (meaning_of s.who heard.frame) ≡ true → Kept true Waits
  unfolding Kept cleared done quiet with_waiting with_door waiting_holds
  waits e =
      record { address = h.address; waiting = rw e; door = shut_holds (records_of map) store _ refl; latch = h.latch }

  opens : Kept true Opens
  unfolding Kept cleared done quiet with_waiting with_door waiting_holds
  opens =
      record {
        address = h.address;
        waiting = refl;
        door = open_holds (records_of map) store (acted true Opens).answer.state refl;
        latch = h.latch;
      }

  -- the store changes, and behind the shut door nothing is staged
  resets : (dtr0 : ℕ) → Kept true (Resets dtr0)
  unfolding Kept cleared done quiet with_waiting with_door waiting_holds
  resets dtr0 =
      record { address = h.address; waiting = refl; door = shut_holds (records_of map) _ _ refl; latch = h.latch }

  -- nothing waits for the old address or groups
  becomes : (who : Who) → address_holds who.address ≡ true → Kept true (Becomes who)
  unfolding Kept cleared done quiet with_waiting with_door with_who waiting_holds
  becomes who e =
      record { address = e; waiting = refl; door = shut_holds (records_of map) store _ refl; latch = h.latch }

  writes : s.door.enabled ≡ true → (bank location byte : ℕ) (replying : Bool)
      → Kept false (Writes bank location byte replying)
  unfolding Kept cleared done written answering raised with_waiting with_door with_registers waiting_holds door_holds
  writes e bank location byte replying =
      record {
        address = h.address;
        waiting = refl;
        door = rw e (write_keeps_rule map store place s.door.staged staged bank location byte);
        latch = h.latch;
      }

  reads : (bank location : ℕ) → Kept true (Reads bank location)
  unfolding Kept cleared done read_by answering raised with_waiting with_door with_registers with_latch waiting_holds
  reads bank location =
      record {
        address = h.address;
        waiting = refl;
        door = shut_holds (records_of map) store _ refl;
        latch = read_keeps_rule map store place s.latch h.latch bank location;
      }

  all_kept : Cases (records_of map) s heard Kept
  all_kept =
      record {
        nothing = nothing;
        waits = waits;
        opens = opens;
        resets = resets;
        becomes = λ who a. becomes who (a h.address);
        loads = loads;
        answers = answers;
        writes = writes;
        reads = reads;
      }

  pub frame_keeps : RulesHold (records_of map) (frame_step (records_of map) store image s heard).store
      (frame_step (records_of map) store image s heard).answer.state
  unfolding Kept frame_step
  frame_keeps = by_due (records_of map) s heard Kept all_kept
