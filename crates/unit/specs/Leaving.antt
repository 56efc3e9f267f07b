-- What a frame leaves alone: a foreign one, one between two halves, and each command.
-- Paper 01, "Commands obeyed". Proved in proofs/Foreign.antt and proofs/Leaving.antt.
-- Assumes nothing.
use Rattle.std.specs.Prelude.{ℕ, ◌+◌, ◌≡◌, Bool, true, false, List, None, Result, Ok, Err, if◌then◌else◌}
use Rattle.laws.specs.Outcome.{Outcome, leaves}
use Rattle.refusals.specs.declared.refusal.Refusal.{Refusal}
use Rattle.frames.specs.Read.{read_of}
use Rattle.frames.specs.declared.message.Message.{Message}
use Rattle.records.specs.Map.{records_of}
use Rattle.records.specs.declared.record.Record.{Record}
use Rattle.hearing.specs.Meaning.{meaning_of, closes}
use Rattle.hearing.specs.Pairs.{none_waits, waits_for}
use Rattle.hearing.specs.declared.heard.Heard.{Heard}
use Rattle.hearing.specs.declared.meaning.Meaning.TheVariants.{Foreign}
use Rattle.rooms.specs.State.{with_waiting, with_door, shut_door, open_door}
use Rattle.rooms.specs.Rules.{state_holds}
use Rattle.rooms.specs.Due.{due_of}
use Rattle.rooms.specs.Reply.{quiet}
use Rattle.rooms.specs.declared.state.State.{State}
use Rattle.rooms.specs.declared.reply.Stepped.{Stepped}
use Rattle.rooms.specs.declared.due.Due.{Due}
use Rattle.rooms.specs.declared.due.Due.TheVariants.{Nothing, Waits, Opens, Resets, Becomes, Loads, Answers}
use Rattle.rooms.specs.declared.due.Due.TheVariants.{Writes, Reads}
use Rattle.unit.specs.Step.{frame_step, step_of}
use Rattle.unit.specs.Promises.{number_of}

-- a foreign frame changes nothing but the waiting frame, and nothing at all where none waits
pub record PassesBy (rs : List Record) (store image : List ℕ) (s : State) (heard : Heard) : Type 0 where
  pub clears : frame_step rs store image s heard ≡ leaves (quiet (with_waiting s none_waits)) store
  pub changes_nothing : state_holds rs store s ≡ true → s.waiting.held ≡ false
      → frame_step rs store image s heard ≡ leaves (quiet s) store

abbrev pub ForeignPassesBy : Type 0
ForeignPassesBy = (rs : List Record) (store image : List ℕ) (s : State) (heard : Heard)
    → meaning_of s.who heard.frame ≡ Foreign → PassesBy rs store image s heard

-- what is read is an event, or a reserved frame: no command
abbrev pub no_command : Result Message Refusal → Bool
no_command (Ok (Message.Command address target opcode)) = false
no_command (Ok (Message.Special number first second)) = false
no_command (Ok (Message.Event scheme high low information)) = true
no_command (Ok (Message.Power group short)) = true
no_command (Err refusal) = true

-- the outcome of a frame that is heard after another outcome
abbrev pub next : List ℕ → List ℕ → Outcome Stepped → Heard → Outcome Stepped
next map image o heard = step_of map o.store image o.answer.state heard

-- three accepted frames: a first half, which waits; an event or a reserved frame; the first frame again
pub record Interrupted (map store image : List ℕ) (s : State) (first between again : Heard) : Type 0 where
  pub is_first : due_of (records_of map) s first ≡ Waits
  pub is_between : no_command (read_of between.frame) ≡ true
  pub is_again : again.frame ≡ first.frame
  pub accepted : number_of (step_of map store image s first) ≡ 0
  pub then_accepted : number_of (next map image (step_of map store image s first) between) ≡ 0
  pub last_accepted : number_of (next map image (next map image (step_of map store image s first) between) again) ≡ 0

-- the frame executes nothing: it waits, write-enable is closed, and all else is what it was before the three
pub record OnlyWaits (rs : List Record) (s : State) (store : List ℕ) (again : Heard) (before after : Outcome Stepped)
    : Type 0 where
  pub due : due_of rs before.answer.state again ≡ Waits
  pub closed : after.answer.state.door ≡ shut_door
  pub store_stays : after.store ≡ store
  pub waits : after ≡ leaves (quiet (with_waiting (with_door s shut_door) (waits_for again))) store

-- an event or a reserved frame between two halves breaks the pair, whatever the clocks
abbrev pub EventBreaksPair : Type 0
EventBreaksPair = (map store image : List ℕ) (s : State) (first between again : Heard)
    → Interrupted map store image s first between again
    → let two : Outcome Stepped = next map image (step_of map store image s first) between in
    OnlyWaits (records_of map) s store again two (next map image two again)

-- the rooms that a frame leaves as they were
abbrev pub WhoStays : State → Outcome Stepped → Type 0
WhoStays s o = o.answer.state.who ≡ s.who

abbrev pub RegistersStay : State → Outcome Stepped → Type 0
RegistersStay s o = o.answer.state.registers ≡ s.registers

-- DTR0 rises by one from the location unless 0xFF; DTR1 and DTR2 stay
pub record Dtr0Rises (location : ℕ) (s : State) (o : Outcome Stepped) : Type 0 where
  pub rises : (location ≡ 0xFF → ⊥) → o.answer.state.registers.dtr0 ≡ location + 1
  pub stops : location ≡ 0xFF → o.answer.state.registers.dtr0 ≡ 0xFF
  pub dtr1 : o.answer.state.registers.dtr1 ≡ s.registers.dtr1
  pub dtr2 : o.answer.state.registers.dtr2 ≡ s.registers.dtr2

abbrev pub NoneWaits : Outcome Stepped → Type 0
NoneWaits o = o.answer.state.waiting ≡ none_waits

abbrev pub DoorStays : State → Outcome Stepped → Type 0
DoorStays s o = o.answer.state.door ≡ s.door

abbrev pub DoorShut : Outcome Stepped → Type 0
DoorShut o = o.answer.state.door ≡ shut_door

-- shut where the command closes write-enable
abbrev pub DoorBy : Bool → State → Outcome Stepped → Type 0
DoorBy closing s o = o.answer.state.door ≡ (if closing then shut_door else s.door)

abbrev pub LatchStays : State → Outcome Stepped → Type 0
LatchStays s o = o.answer.state.latch ≡ s.latch

abbrev pub StoreStays : List ℕ → Outcome Stepped → Type 0
StoreStays store o = o.store ≡ store

abbrev pub Unanswered : Outcome Stepped → Type 0
Unanswered o = o.answer.reply ≡ Ok None

-- what each frame leaves alone, by what it makes happen: a room that is not named may differ
abbrev pub Leaves : State → List ℕ → Heard → Bool → Outcome Stepped → Due → Type 0
Leaves s store heard closing o Nothing =
    WhoStays s o × RegistersStay s o × NoneWaits o × DoorBy closing s o × LatchStays s o × StoreStays store o
    × Unanswered o
-- it waits itself
Leaves s store heard closing o Waits =
    WhoStays s o × RegistersStay s o × (o.answer.state.waiting ≡ waits_for heard) × DoorShut o × LatchStays s o
    × StoreStays store o × Unanswered o
-- the door is opened, with nothing staged
Leaves s store heard closing o Opens =
    WhoStays s o × RegistersStay s o × NoneWaits o × (o.answer.state.door ≡ open_door) × LatchStays s o
    × StoreStays store o × Unanswered o
-- only the store, and the door by closing
Leaves s store heard closing o (Resets dtr0) =
    WhoStays s o × RegistersStay s o × NoneWaits o × DoorShut o × LatchStays s o × Unanswered o
-- only address or groups, and the door by closing
Leaves s store heard closing o (Becomes who) =
    RegistersStay s o × NoneWaits o × DoorShut o × LatchStays s o × StoreStays store o × Unanswered o
-- only the DTRs
Leaves s store heard closing o (Loads registers) =
    WhoStays s o × NoneWaits o × DoorStays s o × LatchStays s o × StoreStays store o × Unanswered o
-- only the answer, and the door where the query closes
Leaves s store heard closing o (Answers byte) =
    WhoStays s o × RegistersStay s o × NoneWaits o × DoorBy closing s o × LatchStays s o × StoreStays store o
-- DTR0, staging, the store, the answer except in the no-reply form; writes don't touch the latch, nor close
Leaves s store heard closing o (Writes bank location byte replying) =
    WhoStays s o × Dtr0Rises location s o × NoneWaits o × (o.answer.state.door.enabled ≡ s.door.enabled)
    × LatchStays s o × (replying ≡ false → Unanswered o)
-- DTR0, the latch, the answer, and the door by closing
Leaves s store heard closing o (Reads bank location) =
    WhoStays s o × Dtr0Rises location s o × NoneWaits o × DoorShut o × StoreStays store o

abbrev pub FramesLeave : Type 0
FramesLeave = (rs : List Record) (store image : List ℕ) (s : State) (heard : Heard) (due : Due)
    → due_of rs s heard ≡ due
    → Leaves s store heard (closes (meaning_of s.who heard.frame)) (frame_step rs store image s heard) due
