-- What the calls of the unit answer and leave, over a state of 96 bytes.
-- Assumes nothing.
use Rattle.std.specs.Prelude.{ℕ, ◌/◌, ◌≡◌, false, List, [], ◌∷◌, ◌++◌, Err, length, drop, if◌then◌else◌}
use Rattle.laws.specs.Numbers.{test, first_failing}
use Rattle.laws.specs.Outcome.{Outcome}
use Rattle.refusals.specs.Numbers.{refusal_of}
use Rattle.banks.specs.Rules.{check_tests}
use Rattle.hearing.specs.Pairs.{heard_at}
use Rattle.rooms.specs.Reply.{Reply}
use Rattle.rooms.specs.declared.reply.Stepped.{Stepped}
use Rattle.unit.specs.Step.{step_of, power_on_of, start_of}
use Rattle.entries.specs.Entry.{is_broken}
use Rattle.entries.specs.declared.entry.Entry.{Entry}
use Rattle.tracing.specs.Trace.{broken, Traced, traced_of}
use Rattle.packing.specs.StateBytes.{state_bytes, state_of, shape_holds}
use Rattle.faces.specs.Answers.{reply_word}

-- what a call of the unit comes to: its reply, the state's bytes, the store
pub record Faced : Type 0 where
  pub reply : Reply
  pub state : List ℕ
  pub store : List ℕ

abbrev pub faced_by : Outcome Stepped → Faced
faced_by o = record { reply = o.answer.reply; state = state_bytes o.answer.state; store = o.store }

-- 7 to 11, then a number that the call gives in any case
unfoldable pub then_number : List ℕ → List ℕ → ℕ → ℕ → ℕ
then_number map store size own = first_failing (check_tests map store size ++ test own false ∷ [])

-- bytes that are no state's break a rule of a state: 7 to 11, then 12
abbrev pub shape_number : List ℕ → List ℕ → ℕ → ℕ
shape_number map store size = then_number map store size 12

-- what comes of the state that the bytes say; where they are no state's, state and store stay
abbrev pub on_bytes : List ℕ → List ℕ → ℕ → List ℕ → Outcome Stepped → Faced
on_bytes map store size bytes o =
    if shape_holds bytes then faced_by o
    else record { reply = Err (refusal_of (shape_number map store size)); state = bytes; store = store }

unfoldable pub frame_face : List ℕ → List ℕ → List ℕ → List ℕ → ℕ → ℕ → Faced
frame_face map store image bytes frame clock =
    on_bytes map store (length image) bytes
    (step_of map store image (state_of bytes) (heard_at clock frame))

unfoldable pub power_on_face : List ℕ → List ℕ → List ℕ → List ℕ → Faced
power_on_face map store image bytes = on_bytes map store (length image) bytes (power_on_of map store image (state_of bytes))

-- a start looks at no state. The address is any number: 6, if it is not 0..63 or 255
unfoldable pub start_face : List ℕ → List ℕ → List ℕ → ℕ → ℕ → Faced
start_face map store image address groups =
    faced_by (start_of map store image (record { address = address; groups = groups }))

-- the answer, the state's bytes and the store are those
pub record Faces (answer : ℕ) (state store : List ℕ) (f : Faced) : Type 0 where
  pub answers : answer ≡ reply_word f.reply
  pub state_is : state ≡ f.state
  pub leaves : store ≡ f.store

-- what a run of records comes to: what it writes, the state's bytes, the store
pub record RunFaced : Type 0 where
  pub output : List ℕ
  pub state : List ℕ
  pub store : List ℕ

-- each record gets the number, and no answer; one of unknown kind gets 13, and ends the run
abbrev pub refused_run : ℕ → List Entry → List ℕ
refused_run number [] = []
refused_run number (e ∷ es) = if is_broken e then broken else number ∷ 0 ∷ 0 ∷ 0 ∷ refused_run number es

abbrev pub run_by : Traced → RunFaced
run_by t = record { output = t.output; state = state_bytes t.state; store = t.store }

-- what comes of the state that the bytes say; where they are no state's, state and store stay
abbrev pub run_on : List ℕ → List ℕ → ℕ → List ℕ → List Entry → Traced → RunFaced
run_on map store size bytes es t =
    if shape_holds bytes then run_by t
    else record { output = refused_run (shape_number map store size) es; state = bytes; store = store }

unfoldable pub run_face : List ℕ → List ℕ → List ℕ → List ℕ → List Entry → RunFaced
run_face map store image bytes es =
    run_on map store (length image) bytes es (traced_of map image store (state_of bytes) es)

-- how many records were answered, the state's bytes, the store, and every byte of the output
pub record RunFaces (count : ℕ) (state store output before : List ℕ) (f : RunFaced) : Type 0 where
  pub counts : count ≡ length f.output / 4
  pub state_is : state ≡ f.state
  pub leaves : store ≡ f.store
  pub writes : output ≡ f.output ++ drop (length f.output) before
