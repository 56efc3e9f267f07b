-- What is proved of the numbers: settled, given exactly if, in order. Paper 01, "Refusal numbers" and "How the
-- promises are judged". Proved in proofs/Numbers.antt.
-- Assumes nothing.
use Rattle.std.specs.Prelude.{ℕ, ◌<◌, ◌≡◌, true, List, ltb, length, if◌then◌else◌}
use Rattle.laws.specs.Lists.{every}
use Rattle.laws.specs.Numbers.{Test, Given}
use Rattle.laws.specs.Settled.{Settles}
use Rattle.records.specs.Map.{records_of}
use Rattle.banks.specs.Rules.{check_number}
use Rattle.hearing.specs.declared.heard.Heard.{Heard}
use Rattle.hearing.specs.declared.heard.Who.{Who}
use Rattle.rooms.specs.Rules.{address_holds, state_holds}
use Rattle.rooms.specs.declared.state.State.{State}
use Rattle.numbers.specs.Numbers.{start_tests, start_number, power_tests, power_number, heard_number, step_tests}
use Rattle.numbers.specs.Numbers.{step_number}

-- what each call promises of the number r in its result
abbrev pub CheckStartPromise : List ℕ → List ℕ → List ℕ → Who → ℕ → Type 0
CheckStartPromise map store image who r = r ≡ start_number map store (length image) who

abbrev pub CheckPowerPromise : List ℕ → List ℕ → List ℕ → State → ℕ → Type 0
CheckPowerPromise map store image s r = r ≡ power_number map store (length image) s

abbrev pub CheckHeardPromise : List ℕ → List ℕ → State → Heard → ℕ → Type 0
CheckHeardPromise map store s heard r = r ≡ heard_number map store s heard

abbrev pub CheckStepPromise : List ℕ → List ℕ → List ℕ → State → Heard → ℕ → Type 0
CheckStepPromise map store image s heard r = r ≡ step_number map store (length image) s heard

-- results meeting the same promise are equal
pub record Settled (map store image : List ℕ) : Type 0 where
  pub start_number_lem : (who : Who) → Settles (CheckStartPromise map store image who)
  pub power_number_lem : (s : State) → Settles (CheckPowerPromise map store image s)
  pub heard_number_lem : (s : State) (heard : Heard) → Settles (CheckHeardPromise map store s heard)
  pub step_number_lem : (s : State) (heard : Heard) → Settles (CheckStepPromise map store image s heard)

-- a number is given exactly if every test before its own passes and its own fails; 0 exactly if all pass
pub record GivenBy (number : ℕ) (tests : List Test) : Type 0 where
  pub exactly_if : (n : ℕ) → 0 < n → (number ≡ n → Given tests n) × (Given tests n → number ≡ n)
  pub none_exactly_if :
      (number ≡ 0 → every (λ t. t.passes) tests ≡ true) × (every (λ t. t.passes) tests ≡ true → number ≡ 0)

pub record Numbered (map store image : List ℕ) : Type 0 where
  -- start tests 7 to 11, then 6; a later power-on 7 to 12; a frame step 7 to 12, then 1
  pub start : (who : Who) → GivenBy (start_number map store (length image) who) (start_tests map store (length image) who)
  pub power_on : (s : State) → GivenBy (power_number map store (length image) s) (power_tests map store (length image) s)
  pub step : (s : State) (heard : Heard)
      → GivenBy (step_number map store (length image) s heard) (step_tests map store (length image) s heard)

-- the order of the tests: in each call 7 to 11 come first; then 6 at a start, 12 at a power-on, 12 and 1 at a step
pub record OrderOfTests (map store : List ℕ) (size : ℕ) : Type 0 where
  pub start_first : (who : Who) → 0 < check_number map store size
      → start_number map store size who ≡ check_number map store size
  pub power_first : (s : State) → 0 < check_number map store size
      → power_number map store size s ≡ check_number map store size
  pub step_first : (s : State) (heard : Heard) → 0 < check_number map store size
      → step_number map store size s heard ≡ check_number map store size
  pub start_then : (who : Who) → check_number map store size ≡ 0
      → start_number map store size who ≡ (if address_holds who.address then 0 else 6)
  pub power_then : (s : State) → check_number map store size ≡ 0
      → power_number map store size s ≡ (if state_holds (records_of map) store s then 0 else 12)
  pub step_then : (s : State) (heard : Heard) → check_number map store size ≡ 0
      → step_number map store size s heard
      ≡ (if state_holds (records_of map) store s then (if ltb heard.frame 16777216 then 0 else 1) else 12)
  -- so a step has the number of a power-on, or where that is 0 the number of what is heard: who runs many frames tests
  -- 7 to 12 once, and then each frame
  pub step_powered : (s : State) (heard : Heard) → 0 < power_number map store size s
      → step_number map store size s heard ≡ power_number map store size s
  pub step_heard : (s : State) (heard : Heard) → power_number map store size s ≡ 0
      → step_number map store size s heard ≡ heard_number map store s heard

abbrev pub NumbersSettled : Type 0
NumbersSettled = (map store image : List ℕ) → Settled map store image

abbrev pub CallsNumbered : Type 0
CallsNumbered = (map store image : List ℕ) → Numbered map store image

abbrev pub TestsInOrder : Type 0
TestsInOrder = (map store : List ℕ) (size : ℕ) → OrderOfTests map store size
