-- The numbers of the calls, one test behind the other; and what number 0 says of map, store and image.
-- Assumes nothing.
use mathlib.Core.Path.{◌≡◌, refl, sym, ◌∙◌}
use mathlib.Core.List.{List}
use Prim.Native.Nat.{ℕ, zero, suc, ◌<◌}
use native.Mathlib.Omega.{arith}
use borrow.Author.Tests.{lt-ltb}
use Rattle.std.specs.Prelude.{if◌then◌else◌}
use Rattle.laws.specs.Numbers.{first_failing}
use Rattle.refusals.specs.Numbers.{number_of, refusal_of}
use Rattle.refusals.proofs.Among.{number_among}
use Rattle.records.specs.Map.{records_of}
use Rattle.banks.specs.Rules.{check_number}
use Rattle.banks.specs.Facts.{Stands}
use Rattle.banks.proofs.Standing.{check_stands}
use Rattle.hearing.specs.declared.heard.Heard.{Heard}
use Rattle.hearing.specs.declared.heard.Who.{Who}
use Rattle.rooms.specs.Rules.{address_holds, state_holds}
use Rattle.rooms.specs.declared.state.State.{State}
use Rattle.numbers.specs.Numbers.{start_tests, start_number, power_tests, power_number, heard_tests, heard_number}
use Rattle.numbers.specs.Numbers.{step_tests, step_number}
use Rattle.numbers.proofs.Numbers.{tests_in_order}

-- a number that is not 0 is that of the call, if the tests before it come first
first_by : {k m : ℕ} (n : ℕ) → n ≡ k → (n ≡ 0 → ⊥) → (0 < k → m ≡ k) → n ≡ m
first_by n e ne first = e ∙ sym (first (omega arith))

-- and where the call's is 0, so is that of the tests that come first
none_by : (k m : ℕ) → (0 < k → m ≡ k) → m ≡ 0 → k ≡ 0
none_by zero m first e = refl
none_by (suc k) m first e = sym (first (omega arith)) ∙ e

module _ (map store : List ℕ) (size : ℕ) where
  -- 7 to 11, then 12
  pub power_first : (s : State) (n : ℕ) → n ≡ check_number map store size → (n ≡ 0 → ⊥)
      → n ≡ power_number map store size s
  power_first s n e ne = first_by n e ne ((tests_in_order map store size).power_first s)

  pub power_then : (s : State) (n : ℕ) → n ≡ check_number map store size → n ≡ 0
      → power_number map store size s ≡ (if state_holds (records_of map) store s then 0 else 12)
  power_then s n e z = (tests_in_order map store size).power_then s (sym e ∙ z)

  -- 7 to 11, then 6
  pub start_first : (who : Who) (n : ℕ) → n ≡ check_number map store size → (n ≡ 0 → ⊥)
      → n ≡ start_number map store size who
  start_first who n e ne = first_by n e ne ((tests_in_order map store size).start_first who)

  pub start_then : (who : Who) (n : ℕ) → n ≡ check_number map store size → n ≡ 0
      → start_number map store size who ≡ (if address_holds who.address then 0 else 6)
  start_then who n e z = (tests_in_order map store size).start_then who (sym e ∙ z)

  -- 7 to 12, then what is heard
  pub step_first : (s : State) (heard : Heard) (n : ℕ) → n ≡ power_number map store size s → (n ≡ 0 → ⊥)
      → n ≡ step_number map store size s heard
  step_first s heard n e ne = first_by n e ne ((tests_in_order map store size).step_powered s heard)

  pub step_then : (s : State) (heard : Heard) (n : ℕ) → n ≡ power_number map store size s → n ≡ 0
      → step_number map store size s heard ≡ heard_number map store s heard
  step_then s heard n e z = (tests_in_order map store size).step_heard s heard (sym e ∙ z)

  pub checked : check_number map store size ≡ 0 → Stands map store size
  checked e = (check_stands map store size).0 e

  pub powered : (s : State) → power_number map store size s ≡ 0 → Stands map store size
  powered s e = checked (none_by _ _ ((tests_in_order map store size).power_first s) e)

  pub started : (who : Who) → start_number map store size who ≡ 0 → Stands map store size
  started who e = checked (none_by _ _ ((tests_in_order map store size).start_first who) e)

  -- number 0 of a step: that of a power-on is 0, and that of what is heard
  pub step_passed : (s : State) (heard : Heard) → step_number map store size s heard ≡ 0
      → (power_number map store size s ≡ 0) × (heard_number map store s heard ≡ 0)
  step_passed s heard e =
      let p = none_by _ _ ((tests_in_order map store size).step_powered s heard) e in
      (p, sym ((tests_in_order map store size).step_heard s heard p) ∙ e)

  pub stepped : (s : State) (heard : Heard) → step_number map store size s heard ≡ 0 → Stands map store size
  stepped s heard e = powered s (step_passed s heard e).0

-- each of these numbers is a refusal's, where it is not 0
module _ (map store : List ℕ) (size n : ℕ) (some : n ≡ 0 → ⊥) where
  pub start_refuses : (who : Who) → start_number map store size who ≡ n → number_of (refusal_of n) ≡ n
  unfolding start_number
  start_refuses who e = number_among (start_tests map store size who) refl n e some

  pub power_refuses : (s : State) → power_number map store size s ≡ n → number_of (refusal_of n) ≡ n
  unfolding power_number
  power_refuses s e = number_among (power_tests map store size s) refl n e some

  pub heard_refuses : (s : State) (heard : Heard) → heard_number map store s heard ≡ n → number_of (refusal_of n) ≡ n
  unfolding heard_number
  heard_refuses s heard e = number_among (heard_tests map store s heard) refl n e some

  pub step_refuses : (s : State) (heard : Heard) → step_number map store size s heard ≡ n → number_of (refusal_of n) ≡ n
  unfolding step_number
  step_refuses s heard e = number_among (step_tests map store size s heard) refl n e some

-- a number below 16,777,216 is a frame
pub frame_passes : (map store : List ℕ) (s : State) (heard : Heard) → heard.frame < 16777216
    → heard_number map store s heard ≡ 0
unfolding heard_number first_failing
frame_passes map store s heard l = rw (lt-ltb heard.frame 16777216 l)
