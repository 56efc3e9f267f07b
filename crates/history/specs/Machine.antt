-- A machine that is started, hears frames and is powered on; what it comes to after a history; and ours.
-- Assumes nothing.
use Rattle.std.specs.Prelude.{◌≡◌, List, [], ◌∷◌, ℕ}
use Rattle.laws.specs.Outcome.{Outcome}
use Rattle.hearing.specs.declared.heard.Who.{Who}
use Rattle.hearing.specs.declared.heard.Heard.{Heard}
use Rattle.rooms.specs.declared.state.State.{State}
use Rattle.rooms.specs.declared.reply.Stepped.{Stepped}
use Rattle.unit.specs.Run.{Input, power_on, hears}
use Rattle.unit.specs.Step.{start_of, step_of, power_on_of}
use Rattle.unit.specs.Promises.{number_of}

-- what a call leaves: its number (0: accepted), the state and the store
pub record Left (S : Type 0) : Type 0 where
  pub number : ℕ
  pub state : S
  pub store : List ℕ

-- what a start is told: map, store, reset image, address and groups
pub record Start : Type 0 where
  pub map : List ℕ
  pub store : List ℕ
  pub image : List ℕ
  pub who : Who

-- a frame step and a power-on are lent the store as it is then, not the start's
pub record Machine (S : Type 0) : Type 0 where
  pub starts : Start → Left S
  pub steps : (map store image : List ℕ) → S → Heard → Left S
  pub powers_on : (map store image : List ℕ) → S → Left S

module _ {S : Type 0} (machine : Machine S) (start : Start) where
  -- after a start and the inputs of h, the newest first
  abbrev pub left_after : List Input → Left S
  left_after [] = machine.starts start
  left_after (power_on ∷ h) = machine.powers_on start.map (left_after h).store start.image (left_after h).state
  left_after (hears x ∷ h) = machine.steps start.map (left_after h).store start.image (left_after h).state x

  -- the start and each input of h accepted
  abbrev pub Accepted : List Input → Type 0
  Accepted [] = (left_after []).number ≡ 0
  Accepted (x ∷ h) = ((left_after (x ∷ h)).number ≡ 0) × Accepted h

-- an outcome of the public calls
abbrev pub left_by : Outcome Stepped → Left State
left_by o = record { number = number_of o; state = o.answer.state; store = o.store }

-- ours: the very definitions that the promises of start, step and power_on cite
unfoldable pub unit_machine : Machine State
unit_machine = record {
  starts = λ start. left_by (start_of start.map start.store start.image start.who);
  steps = λ map store image s x. left_by (step_of map store image s x);
  powers_on = λ map store image s. left_by (power_on_of map store image s);
}
