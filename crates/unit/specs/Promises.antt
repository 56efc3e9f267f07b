-- What is proved of start, power-on and frame step as calls: results are settled, each reply has the number of
-- its tests, a refusal changes nothing. Paper 01, "Refusal numbers" and "How the promises are judged".
-- Proved in proofs/Numbers.antt.
-- Assumes nothing.
use Rattle.std.specs.Prelude.{ℕ, ◌<◌, ◌≡◌, Err, List, length}
use Rattle.laws.specs.Outcome.{Outcome, Gives}
use Rattle.refusals.specs.Numbers.{number_in, refusal_of}
use Rattle.records.specs.Map.{records_of}
use Rattle.hearing.specs.declared.heard.Who.{Who}
use Rattle.hearing.specs.declared.heard.Heard.{Heard}
use Rattle.rooms.specs.State.{with_who, zero_state}
use Rattle.rooms.specs.declared.state.State.{State}
use Rattle.rooms.specs.declared.reply.Stepped.{Stepped}
use Rattle.numbers.specs.Numbers.{start_number, power_number, step_number}
use Rattle.unit.specs.Step.{start_of, power_on_of, power_step, step_of, frame_step}

-- what each public call promises of its answer r and of the store that is left
abbrev pub StartPromise : List ℕ → List ℕ → List ℕ → Who → Stepped → List ℕ → Type 0
StartPromise map store image who r left = Gives r left (start_of map store image who)

abbrev pub PowerOnPromise : List ℕ → List ℕ → List ℕ → State → Stepped → List ℕ → Type 0
PowerOnPromise map store image s r left = Gives r left (power_on_of map store image s)

abbrev pub StepPromise : List ℕ → List ℕ → List ℕ → State → Heard → Stepped → List ℕ → Type 0
StepPromise map store image s heard r left = Gives r left (step_of map store image s heard)

-- two results that meet one promise have the same answer and leave the same store
abbrev pub SettlesBoth : (Stepped → List ℕ → Type 0) → Type 0
SettlesBoth promise = (a b : Stepped) (s t : List ℕ) → promise a s → promise b t → (a ≡ b) × (s ≡ t)

-- results meeting the same promise are equal
pub record Settled (map store image : List ℕ) : Type 0 where
  pub start : (who : Who) → SettlesBoth (StartPromise map store image who)
  pub power_on : (s : State) → SettlesBoth (PowerOnPromise map store image s)
  pub step : (s : State) (heard : Heard) → SettlesBoth (StepPromise map store image s heard)

-- the number in the reply of an outcome
abbrev pub number_of : Outcome Stepped → ℕ
number_of o = number_in o.answer.reply

-- each call's reply has the number of its tests
pub record Replies (map store image : List ℕ) : Type 0 where
  pub start : (who : Who) → number_of (start_of map store image who) ≡ start_number map store (length image) who
  pub power_on : (s : State) → number_of (power_on_of map store image s) ≡ power_number map store (length image) s
  pub step : (s : State) (heard : Heard)
      → number_of (step_of map store image s heard) ≡ step_number map store (length image) s heard

-- a refusal returns the number, and no answer: it is the refusal with that number, which holds none; state and store
-- stay, byte for byte
pub record Refuses (o : Outcome Stepped) (number : ℕ) (s : State) (store : List ℕ) : Type 0 where
  pub returns : number_of o ≡ number
  pub refuses : o.answer.reply ≡ Err (refusal_of number)
  pub state_stays : o.answer.state ≡ s
  pub store_stays : o.store ≡ store

pub record Refused (map store image : List ℕ) (n : ℕ) : Type 0 where
  -- a refused start's state is all zeros
  pub start : (who : Who) → start_number map store (length image) who ≡ n
      → Refuses (start_of map store image who) n zero_state store
  pub power_on : (s : State) → power_number map store (length image) s ≡ n
      → Refuses (power_on_of map store image s) n s store
  pub step : (s : State) (heard : Heard) → step_number map store (length image) s heard ≡ n
      → Refuses (step_of map store image s heard) n s store

-- number 0: the call does what its definition for an accepted map, store and state says
pub record Does (map store image : List ℕ) : Type 0 where
  pub start : (who : Who) → start_number map store (length image) who ≡ 0
      → start_of map store image who ≡ power_step (records_of map) store image (with_who zero_state who)
  pub power_on : (s : State) → power_number map store (length image) s ≡ 0
      → power_on_of map store image s ≡ power_step (records_of map) store image s
  pub step : (s : State) (heard : Heard) → step_number map store (length image) s heard ≡ 0
      → step_of map store image s heard ≡ frame_step (records_of map) store image s heard

abbrev pub CallsSettled : Type 0
CallsSettled = (map store image : List ℕ) → Settled map store image

abbrev pub CallsReply : Type 0
CallsReply = (map store image : List ℕ) → Replies map store image

abbrev pub CallsRefused : Type 0
CallsRefused = (map store image : List ℕ) (n : ℕ) → 0 < n → Refused map store image n

abbrev pub CallsAccepted : Type 0
CallsAccepted = (map store image : List ℕ) → Does map store image
