-- The numbers of the unit's calls: a list of tests for each, in paper 01's order. Paper 01, "Refusal numbers".
-- Assumes nothing.
use Rattle.std.specs.Prelude.{ℕ, List, [], ◌∷◌, ◌++◌, ltb}
use Rattle.laws.specs.Numbers.{Test, test, first_failing}
use Rattle.records.specs.Map.{records_of}
use Rattle.banks.specs.Rules.{check_tests}
use Rattle.hearing.specs.declared.heard.Heard.{Heard}
use Rattle.hearing.specs.declared.heard.Who.{Who}
use Rattle.rooms.specs.Rules.{address_holds, state_holds}
use Rattle.rooms.specs.declared.state.State.{State}

-- a later power-on tests 7 to 12
abbrev pub power_tests : List ℕ → List ℕ → ℕ → State → List Test
power_tests map store size s = check_tests map store size ++ test 12 (state_holds (records_of map) store s) ∷ []

unfoldable pub power_number : List ℕ → List ℕ → ℕ → State → ℕ
power_number map store size s = first_failing (power_tests map store size s)

-- a frame then 1: what is heard is tested where map, store and state have passed 7 to 12
abbrev pub heard_tests : List ℕ → List ℕ → State → Heard → List Test
heard_tests map store s heard = test 1 (ltb heard.frame 16777216) ∷ []

unfoldable pub heard_number : List ℕ → List ℕ → State → Heard → ℕ
heard_number map store s heard = first_failing (heard_tests map store s heard)

-- a frame step tests 7 to 12, then what is heard
abbrev pub step_tests : List ℕ → List ℕ → ℕ → State → Heard → List Test
step_tests map store size s heard = power_tests map store size s ++ heard_tests map store s heard

unfoldable pub step_number : List ℕ → List ℕ → ℕ → State → Heard → ℕ
step_number map store size s heard = first_failing (step_tests map store size s heard)

-- start tests 7 to 11, then 6
abbrev pub start_tests : List ℕ → List ℕ → ℕ → Who → List Test
start_tests map store size who = check_tests map store size ++ test 6 (address_holds who.address) ∷ []

unfoldable pub start_number : List ℕ → List ℕ → ℕ → Who → ℕ
start_number map store size who = first_failing (start_tests map store size who)
