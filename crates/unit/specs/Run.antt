-- A list of inputs, each handed to the public calls, and what is written for each. Paper 01, "The trace program".
-- Assumes nothing.
use Rattle.std.specs.Prelude.{ℕ, List, [], ◌∷◌, ◌++◌, if◌then◌else◌}
use Rattle.laws.specs.Outcome.{Outcome}
use Rattle.refusals.specs.Numbers.{number_in}
use Rattle.hearing.specs.declared.heard.Who.{Who}
use Rattle.hearing.specs.declared.heard.Heard.{Heard}
use Rattle.rooms.specs.declared.state.State.{State}
use Rattle.rooms.specs.Reply.{Reply, answered, answer_byte}
use Rattle.rooms.specs.declared.reply.Stepped.{Stepped}
use Rattle.unit.specs.Step.{step_of, power_on_of, start_of}

-- an input of a history: a power-on, or a frame with its clock
pub data Input : Type 0 where
  power_on : Input
  hears : Heard → Input

unfoldable pub input_of : List ℕ → List ℕ → List ℕ → State → Input → Outcome Stepped
input_of map image store s power_on = power_on_of map store image s
input_of map image store s (hears heard) = step_of map store image s heard

-- per record four bytes: number or 0, answered 0/1, answer or 0, zero
unfoldable pub output_of : Reply → List ℕ
output_of reply = number_in reply ∷ (if answered reply then 1 else 0) ∷ answer_byte reply ∷ 0 ∷ []

pub record Run : Type 0 where
  pub output : List ℕ
  pub state : State
  pub store : List ℕ

abbrev pub in_front : List ℕ → Run → Run
in_front output run = record { output = output ++ run.output; state = run.state; store = run.store }

-- the first input first; a refused one leaves state and store, and the next goes on from there
abbrev pub run_from : List ℕ → List ℕ → List ℕ → State → List Input → Run
run_from map image store s [] = record { output = []; state = s; store = store }
run_from map image store s (x ∷ xs) =
    let o : Outcome Stepped = input_of map image store s x in
    in_front (output_of o.answer.reply) (run_from map image o.store o.answer.state xs)

-- from a start
unfoldable pub run_of : List ℕ → List ℕ → List ℕ → Who → List Input → Run
run_of map store image who xs =
    run_from map image (start_of map store image who).store (start_of map store image who).answer.state xs
