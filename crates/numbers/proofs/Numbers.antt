-- The numbers of the calls: settled, given exactly if, and in order.
-- Assumes nothing.
use Prim.Native.Nat.{ℕ, ◌<◌}
use mathlib.Core.Path.{◌≡◌, refl, ◌∙◌}
use mathlib.Core.Bool.{Bool, true, false}
use mathlib.Core.List.{List, [], ◌∷◌, ◌++◌}
use native.Mathlib.Omega.{arith}
use lib.Dec.{ltb}
use lib.ListN.{length, drop}
use Rattle.std.specs.Prelude.{if◌then◌else◌}
use Rattle.laws.specs.Numbers.{Test, test, first_failing, numbered}
use Rattle.laws.proofs.Numbers.{exactly_if, none_exactly_if}
use Rattle.laws.proofs.Joined.{joined_none, joined_some}
use Rattle.laws.proofs.Settled.{settles}
use Rattle.records.specs.Map.{records_of}
use Rattle.banks.specs.Rules.{check_tests, check_number}
use Rattle.hearing.specs.declared.heard.Heard.{Heard}
use Rattle.hearing.specs.declared.heard.Who.{Who}
use Rattle.rooms.specs.Rules.{address_holds, state_holds}
use Rattle.rooms.specs.declared.state.State.{State}
use Rattle.numbers.specs.Numbers.{start_tests, start_number, power_tests, power_number, heard_tests, heard_number}
use Rattle.numbers.specs.Numbers.{step_tests, step_number}
use Rattle.numbers.specs.Promises.{GivenBy, NumbersSettled, CallsNumbered, TestsInOrder}

pub numbers_settled : NumbersSettled
numbers_settled map store image =
    record {
      start_number_lem = λ who. settles (start_number map store (length image) who);
      power_number_lem = λ s. settles (power_number map store (length image) s);
      heard_number_lem = λ s heard. settles (heard_number map store s heard);
      step_number_lem = λ s heard. settles (step_number map store (length image) s heard);
    }

given_by : (tests : List Test) → numbered tests ≡ true → GivenBy (first_failing tests) tests
given_by tests k = record { exactly_if = exactly_if tests; none_exactly_if = none_exactly_if tests k }

pub calls_numbered : CallsNumbered
unfolding start_number power_number step_number
calls_numbered map store image =
    record {
      start = λ who. given_by (start_tests map store (length image) who) refl;
      power_on = λ s. given_by (power_tests map store (length image) s) refl;
      step = λ s heard. given_by (step_tests map store (length image) s heard) refl;
    }

-- the tests behind 7 to 11
abbrev pub starts_behind : Who → List Test
starts_behind who = test 6 (address_holds who.address) ∷ []

abbrev pub powers_behind : List ℕ → List ℕ → State → List Test
powers_behind map store s = test 12 (state_holds (records_of map) store s) ∷ []

-- 7 to 11 give their number, or the tests behind them do
module _ (map store : List ℕ) (size : ℕ) (us : List Test) where
  checks_first : 0 < check_number map store size
      → first_failing (check_tests map store size ++ us) ≡ check_number map store size
  unfolding check_number
  checks_first h = joined_some (check_tests map store size) us (check_number map store size) h refl

  checks_passed : check_number map store size ≡ 0 → first_failing (check_tests map store size ++ us) ≡ first_failing us
  unfolding check_number
  checks_passed e = joined_none (check_tests map store size) us refl e

module _ (map store : List ℕ) (size : ℕ) (s : State) where
  power_first : 0 < check_number map store size → power_number map store size s ≡ check_number map store size
  unfolding power_number
  power_first = checks_first map store size (drop 5 (power_tests map store size s))

  power_then : check_number map store size ≡ 0
      → power_number map store size s ≡ (if state_holds (records_of map) store s then 0 else 12)
  unfolding power_number first_failing
  power_then = checks_passed map store size (powers_behind map store s)

  -- 7 to 12 give their number, or what is heard does
  module _ (heard : Heard) where
    step_powered : 0 < power_number map store size s → step_number map store size s heard ≡ power_number map store size s
    unfolding power_number step_number
    step_powered h = joined_some (power_tests map store size s) (heard_tests map store s heard) _ h refl

    step_heard : power_number map store size s ≡ 0 → step_number map store size s heard ≡ heard_number map store s heard
    unfolding power_number heard_number step_number
    step_heard e = joined_none (power_tests map store size s) (heard_tests map store s heard) refl e

    step_first : 0 < check_number map store size → step_number map store size s heard ≡ check_number map store size
    step_first h = step_powered (rw (power_first h) h) ∙ power_first h

    step_then : check_number map store size ≡ 0
        → step_number map store size s heard
        ≡ (if state_holds (records_of map) store s then (if ltb heard.frame 16777216 then 0 else 1) else 12)
    unfolding heard_number first_failing
    step_then e = go (state_holds (records_of map) store s) (power_then e)
      where
        go : (b : Bool) → power_number map store size s ≡ (if b then 0 else 12)
            → step_number map store size s heard ≡ (if b then (if ltb heard.frame 16777216 then 0 else 1) else 12)
        go true q = step_heard q
        go false q = step_powered (omega arith) ∙ q

pub tests_in_order : TestsInOrder
unfolding start_number first_failing
tests_in_order map store size =
    record {
      start_first = λ who. checks_first map store size (starts_behind who);
      power_first = power_first map store size;
      step_first = step_first map store size;
      start_then = λ who. checks_passed map store size (starts_behind who);
      power_then = power_then map store size;
      step_then = step_then map store size;
      step_powered = step_powered map store size;
      step_heard = step_heard map store size;
    }
