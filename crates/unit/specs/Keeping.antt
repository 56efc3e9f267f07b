-- What start, power-on and frame steps keep: other values, bytes under no record, and every rule; and what a power-on
-- and a RESET MEMORY BANK put. Paper 01, "Map, store, reset image", "State and clock" and "Commands obeyed". Proved in
-- proofs/Accepted.antt and proofs/Resets.antt.
-- Assumes nothing.
use Rattle.std.specs.Prelude.{ℕ, ◌<◌, ◌≤◌, ◌≡◌, ◌⊎◌, ◌↔◌, Bool, true, false, List, [], ◌∷◌, None, Ok, ltb, length, get_or}
use Rattle.laws.specs.Lists.{every}
use Rattle.laws.specs.Outcome.{Outcome}
use Rattle.records.specs.Map.{records_of, writable, places_end, mapped}
use Rattle.records.specs.Facts.{Member}
use Rattle.records.specs.declared.record.Record.{Record}
use Rattle.banks.specs.Rules.{is_lock}
use Rattle.banks.specs.Values.{value_of, lock_byte}
use Rattle.memory.specs.Promises.{ChangesOnly}
use Rattle.memory.specs.Reset.{StoreReset}
use Rattle.hearing.specs.Meaning.{meaning_of}
use Rattle.hearing.specs.Pairs.{completes}
use Rattle.hearing.specs.declared.heard.Who.{Who}
use Rattle.hearing.specs.declared.heard.Heard.{Heard}
use Rattle.hearing.specs.declared.meaning.Twice.TheVariants.{ResetMemoryBank}
use Rattle.hearing.specs.declared.meaning.Meaning.TheVariants.{NeedsPair}
use Rattle.rooms.specs.State.{with_who, zero_state}
use Rattle.rooms.specs.Due.{due_of}
use Rattle.rooms.specs.Promises.{StatePowered}
use Rattle.rooms.specs.declared.state.State.{State}
use Rattle.rooms.specs.declared.reply.Stepped.{Stepped}
use Rattle.rooms.specs.declared.due.Due.TheVariants.{Resets}
use Rattle.numbers.specs.Numbers.{start_number, power_number, step_number}
use Rattle.unit.specs.Step.{start_of, power_on_of, power_step, step_of}
use Rattle.unit.specs.Run.{Input, power_on, hears, input_of}
use Rattle.unit.specs.Promises.{number_of}

-- ---- the store. `ChangesOnly` is memory's: every value stays but those named, and so do each value that is not
-- writable, each byte under no record, and how long the store is

-- accepted or refused: start and power-on change RAM-RW values only, a frame step writable ones only
pub record StoreKept (map store image : List ℕ) : Type 0 where
  pub start : (who : Who) → ChangesOnly map store (start_of map store image who).store (λ r. r.kind ≡ 2)
  pub power_on : (s : State) → ChangesOnly map store (power_on_of map store image s).store (λ r. r.kind ≡ 2)
  pub step : (s : State) (heard : Heard)
      → ChangesOnly map store (step_of map store image s heard).store (λ r. writable r ≡ true)

abbrev pub CallsKeepStore : Type 0
CallsKeepStore = (map store image : List ℕ) → StoreKept map store image

-- one writable value, and nothing but it, may have changed
pub record OneValue (map store after : List ℕ) : Type 0 where
  pub value : Record
  pub member : Member value map
  pub writes : writable value ≡ true
  pub only : ChangesOnly map store after (λ r. r ≡ value)

-- in a frame step that is no reset at most one value's bytes change
abbrev pub OneValueChanges : Type 0
OneValueChanges = (map store image : List ℕ) (s : State) (heard : Heard)
    → ((dtr0 : ℕ) → due_of (records_of map) s heard ≡ Resets dtr0 → ⊥)
    → ((step_of map store image s heard).store ≡ store) ⊎ OneValue map store (step_of map store image s heard).store

-- ---- power-on

pub record StorePowered (map store image after : List ℕ) : Type 0 where
  -- lock bytes 0xFF: of each such record, and of each mapped bank from 1 on
  pub locks : (r : Record) → Member r map → is_lock r ≡ true → value_of r after ≡ 0xFF ∷ []
  pub lock_bytes : (bank : ℕ) → 0 < bank → mapped (records_of map) bank ≡ true
      → lock_byte (records_of map) after bank ≡ 0xFF
  -- other RAM-RW values from the reset image
  pub ram : (r : Record) → Member r map → is_lock r ≡ false → r.kind ≡ 2 → value_of r after ≡ value_of r image
  -- kinds 0, 1, 3, 4 stay, and so do bytes under no record
  pub others : (r : Record) → Member r map → (r.kind ≡ 2 → ⊥) → value_of r after ≡ value_of r store
  pub unmapped : (j : ℕ) → ((r : Record) → Member r map → (j < r.offset) ⊎ (places_end r ≤ j))
      → get_or after j 0 ≡ get_or store j 0

-- an outcome that is a power-on of a state, with this address and these groups
pub record PowersOn (map store image : List ℕ) (s : State) (who : Who) (o : Outcome Stepped) : Type 0 where
  pub acts : o ≡ power_step (records_of map) store image s
  pub unanswered : o.answer.reply ≡ Ok None
  pub state_is : StatePowered who o.answer.state
  pub store_is : StorePowered map store image o.store

-- start takes address and groups and acts as a power-on; a later power-on does the same and keeps address and groups
pub record Powered (map store image : List ℕ) : Type 0 where
  pub start : (who : Who) → start_number map store (length image) who ≡ 0
      → PowersOn map store image (with_who zero_state who) who (start_of map store image who)
  pub power_on : (s : State) → power_number map store (length image) s ≡ 0
      → PowersOn map store image s s.who (power_on_of map store image s)

abbrev pub CallsPowerOn : Type 0
CallsPowerOn = (map store image : List ℕ) → Powered map store image

-- ---- RESET MEMORY BANK

-- the frame ends a RESET MEMORY BANK pair for the unit, with this DTR0
pub record ResetPair (s : State) (heard : Heard) (dtr0 : ℕ) : Type 0 where
  pub means : meaning_of s.who heard.frame ≡ NeedsPair ResetMemoryBank
  pub pair : completes s.waiting heard ≡ true
  pub by_dtr0 : s.registers.dtr0 ≡ dtr0

-- such a frame, and no other, makes a reset due
abbrev pub ResetDue : Type 0
ResetDue = (rs : List Record) (s : State) (heard : Heard) (dtr0 : ℕ)
    → (due_of rs s heard ≡ Resets dtr0) ↔ ResetPair s heard dtr0

-- accepted, it leaves the store that memory's `StoreReset` tells, half-sentence by half-sentence
abbrev pub StepResets : Type 0
StepResets = (map store image : List ℕ) (s : State) (heard : Heard) → step_number map store (length image) s heard ≡ 0
    → (dtr0 : ℕ) → ResetPair s heard dtr0 → StoreReset map store image dtr0 (step_of map store image s heard).store

-- ---- the rules

-- map, store and state that an accepted call leaves pass 7 to 12 again
abbrev pub PassesAgain : List ℕ → List ℕ → Outcome Stepped → Type 0
PassesAgain map image o = power_number map o.store (length image) o.answer.state ≡ 0

pub record AcceptedAgain (map store image : List ℕ) : Type 0 where
  pub start : (who : Who) → start_number map store (length image) who ≡ 0
      → PassesAgain map image (start_of map store image who)
  pub power_on : (s : State) → power_number map store (length image) s ≡ 0
      → PassesAgain map image (power_on_of map store image s)
  pub step : (s : State) (heard : Heard) → step_number map store (length image) s heard ≡ 0
      → PassesAgain map image (step_of map store image s heard)
  -- so the next frame is accepted if it is a frame: a number below 16,777,216
  pub next : (s : State) (heard : Heard) → power_number map store (length image) s ≡ 0 → heard.frame < 16777216
      → step_number map store (length image) s heard ≡ 0

abbrev pub CallsAcceptedAgain : Type 0
CallsAcceptedAgain = (map store image : List ℕ) → AcceptedAgain map store image

-- each of a list of inputs is accepted, one after the other
abbrev pub AllAccepted : List ℕ → List ℕ → List ℕ → State → List Input → Type 0
AllAccepted map image store s [] = Unit {0}
AllAccepted map image store s (x ∷ xs) =
    let o : Outcome Stepped = input_of map image store s x in
    (number_of o ≡ 0) × AllAccepted map image o.store o.answer.state xs

-- a power-on, or a frame: a number below 16,777,216
abbrev pub is_input : Input → Bool
is_input power_on = true
is_input (hears heard) = ltb heard.frame 16777216

-- after an accepted start no power-on and no frame is ever refused: who runs many frames checks once
abbrev pub RunAccepted : Type 0
RunAccepted = (map store image : List ℕ) (who : Who) → start_number map store (length image) who ≡ 0
    → (xs : List Input) → every is_input xs ≡ true
    → AllAccepted map image (start_of map store image who).store (start_of map store image who).answer.state xs
