-- What closes write-enable. Paper 02, Item 6: of every frame step; and worked, in one table with one statement. Proved in
-- proofs/Closing.antt.
-- Assumes nothing.
use Rattle.std.specs.Prelude.{ℕ, ◌≡◌, ◌⊎◌, ◌↔◌, Bool, true, false, List, [], ◌∷◌, ◌++◌, map, if◌then◌else◌}
use Rattle.records.specs.declared.record.Record.{Record}
use Rattle.hearing.specs.Promises.{CommandFor, OneOfEleven}
use Rattle.hearing.specs.declared.heard.Heard.{Heard}
use Rattle.hearing.specs.declared.heard.Who.{Who}
use Rattle.rooms.specs.State.{shut_door}
use Rattle.rooms.specs.Due.{due_of}
use Rattle.rooms.specs.declared.state.State.{State}
use Rattle.rooms.specs.declared.state.Door.{Door}
use Rattle.rooms.specs.declared.due.Due.TheVariants.{Opens}
use Rattle.unit.specs.Step.{frame_step}
use Rattle.unit.specs.Run.{Run, run_of}
use Rattle.unit.specs.Bench.{bench_map, bench_store, bench_image, bench_who, at, none, answer}

-- the door behind a frame
abbrev pub door_after : List Record → List ℕ → List ℕ → State → Heard → Door
door_after rs store image s heard = (frame_step rs store image s heard).answer.state.door

pub record ClosesDoor (rs : List Record) (store image : List ℕ) (s : State) (heard : Heard) : Type 0 where
  -- every command for the unit closes it, except the eleven that keep it (and an ENABLE pair, which opens it); closing
  -- drops staging
  pub shut : CommandFor s.who heard.frame → (OneOfEleven s.who heard.frame → ⊥)
      → (due_of rs s heard ≡ Opens → ⊥) → door_after rs store image s heard ≡ shut_door
  -- it is open exactly if an ENABLE pair opened it, or it was open and the frame is one of the eleven, or no command for
  -- the unit
  pub enabled : ((door_after rs store image s heard).enabled ≡ true)
      ↔ ((due_of rs s heard ≡ Opens) ⊎ ((s.door.enabled ≡ true)
      × (OneOfEleven s.who heard.frame ⊎ (CommandFor s.who heard.frame → ⊥))))

-- for every map, store, image and state, accepted or not, and every frame
abbrev pub EveryCommandCloses : Type 0
EveryCommandCloses = (rs : List Record) (store image : List ℕ) (s : State) (heard : Heard)
    → ClosesDoor rs store image s heard

-- ---- worked: each line runs the bench unit. ENABLE, DTR1 2 and DTR0 2, then the line's frames, then a write of 0x55 to
-- the lock byte and QUERY CONTENT DTR0, these two and ENABLE by broadcast

-- who the unit is, what it hears while write-enable is open, and whether it is open afterwards
pub record Meeting : Type 0 where
  pub who : Who
  pub frames : List ℕ
  pub enabled : Bool

-- address 5, no groups
abbrev closed : List ℕ → Meeting
closed frames = record { who = bench_who; frames = frames; enabled = false }

abbrev kept : List ℕ → Meeting
kept frames = record { who = bench_who; frames = frames; enabled = true }

-- address 5, device group 0; no address
abbrev grouped : Who
grouped = record { address = 5; groups = 1 }

abbrev unaddressed : Who
unaddressed = record { address = 255; groups = 0 }

abbrev pub meetings : List Meeting
meetings =
    -- QUERY DEVICE STATUS, to short 5 and by broadcast; opcodes that 000 leaves undefined
    closed (0x0BFE30 ∷ [])
    ∷ closed (0xFFFE30 ∷ [])
    ∷ closed (0x0BFE02 ∷ [])
    ∷ closed (0x0BFEFF ∷ [])
    -- unlisted send-twice commands, IDENTIFY DEVICE and RESET: once and twice
    ∷ closed (0x0BFE00 ∷ [])
    ∷ closed (0x0BFE00 ∷ 0x0BFE00 ∷ [])
    ∷ closed (0x0BFE10 ∷ [])
    ∷ closed (0x0BFE10 ∷ 0x0BFE10 ∷ [])
    -- an instance command: by number, group and type; instance broadcast with the opcode of QUERY CONTENT DTR0
    ∷ closed (0x0B0015 ∷ [])
    ∷ closed (0x0B8215 ∷ [])
    ∷ closed (0x0BC315 ∷ [])
    ∷ closed (0x0BFF36 ∷ [])
    -- a feature command: by number, group and type; feature broadcast, device feature, feature at instance broadcast
    ∷ closed (0x0B2036 ∷ [])
    ∷ closed (0x0BA136 ∷ [])
    ∷ closed (0x0B7F36 ∷ [])
    ∷ closed (0x0BF936 ∷ [])
    ∷ closed (0x0BFC36 ∷ [])
    ∷ closed (0x0BFD36 ∷ [])
    -- an unlisted special command: TERMINATE; 0xC1 beside the listed ones; 0xC3 with the bytes of QUERY CONTENT DTR0
    ∷ closed (0xC10000 ∷ [])
    ∷ closed (0xC12255 ∷ [])
    ∷ closed (0xC13355 ∷ [])
    ∷ closed (0xC3FE36 ∷ [])
    ∷ closed (0xCB0202 ∷ [])
    ∷ closed (0xDFFE36 ∷ [])
    -- a reserved instance byte and reserved address bytes
    ∷ kept (0x0B4015 ∷ [])
    ∷ kept (0x0BFB30 ∷ [])
    ∷ kept (0xE1FE30 ∷ [])
    ∷ kept (0xFBFE30 ∷ [])
    -- a command for others: another address, a group that the unit is not in, broadcast unaddressed
    ∷ kept (0x0DFE30 ∷ [])
    ∷ kept (0x81FE30 ∷ [])
    ∷ kept (0xFDFE30 ∷ [])
    -- an event, a power cycle, a malformed one, a reserved event
    ∷ kept (0x828805 ∷ [])
    ∷ kept (0xFEE000 ∷ [])
    ∷ kept (0xFEE001 ∷ [])
    ∷ kept (0xC08000 ∷ [])
    -- one that keeps it does not open it again
    ∷ closed (0x0BFE30 ∷ 0x0DFE30 ∷ 0xC13102 ∷ [])
    -- the group, or no address, makes these for the unit
    ∷ record { who = grouped; frames = 0x81FE30 ∷ []; enabled = false }
    ∷ record { who = unaddressed; frames = 0xFDFE30 ∷ []; enabled = false }
    ∷ record { who = unaddressed; frames = 0x0BFE30 ∷ []; enabled = true }
    ∷ []

abbrev opened : List ℕ
opened = 0xFFFE15 ∷ 0xFFFE15 ∷ 0xC70202 ∷ []

abbrev run_with : Who → List ℕ → Run
run_with who frames = run_of bench_map bench_store bench_image who (map (at 0) frames)

-- up to the line's frames, and to the end
abbrev pub met : Meeting → Run
met m = run_with m.who (opened ++ m.frames)

abbrev pub written_to : Meeting → Run
written_to m = run_with m.who (opened ++ m.frames ++ 0xC12055 ∷ 0xFFFE36 ∷ [])

-- no answer to any of these frames
abbrev unanswered : List ℕ → List ℕ
unanswered [] = []
unanswered (f ∷ fs) = none ++ unanswered fs

-- open: the write is taken, answers itself, and DTR0 rises to 3; closed: it is not executed
abbrev pub answers : Meeting → List ℕ
answers m =
    unanswered (opened ++ m.frames) ++ (if m.enabled then answer 0x55 ++ answer 0x03 else none ++ answer 0x02)

-- and the lock byte is 0x55, or stays 0xFF
abbrev pub store_left : Meeting → List ℕ
store_left m = 0x06 ∷ (if m.enabled then 0x55 else 0xFF) ∷ 0x00 ∷ 0x00 ∷ 0x00 ∷ 0x64 ∷ []

-- QUERY DEVICE STATUS between two bytes of the value: the third is not executed, and after a new ENABLE neither it nor
-- the fourth is taken, since staging was dropped
abbrev pub between : Run
between =
    run_with bench_who
    (opened ++ 0xC12055 ∷ 0xC12001 ∷ 0xC12002 ∷ 0x0BFE30 ∷ 0xC12003 ∷ 0xFFFE15 ∷ 0xFFFE15 ∷ 0xC12003 ∷ 0xC12004 ∷ [])

abbrev pub between_answers : List ℕ
between_answers =
    unanswered opened ++ answer 0x55 ++ answer 0x01 ++ answer 0x02 ++ none ++ none ++ none ++ none ++ none ++ none

pub record ClosingHolds : Type 0 where
  -- each line is answered so, and leaves this store
  pub output : map (λ m. (written_to m).output) meetings ≡ map answers meetings
  pub store : map (λ m. (written_to m).store) meetings ≡ map store_left meetings
  -- write-enable is as the line says, and none of its frames waits
  pub enabled : map (λ m. (met m).state.door.enabled) meetings ≡ map (λ m. m.enabled) meetings
  pub waits : map (λ m. (met m).state.waiting.held) meetings ≡ map (λ m. false) meetings
  -- cut between two bytes, the value is what it was
  pub between_output : between.output ≡ between_answers
  pub between_store : between.store ≡ 0x06 ∷ 0x55 ∷ 0x00 ∷ 0x00 ∷ 0x00 ∷ 0x64 ∷ []
