-- What number 0 says of map, store and state: 7 to 11 stand, and the rules of a state hold; and back.
-- Assumes nothing.
use Prim.Native.Nat.{ℕ, zero, suc}
use mathlib.Core.Path.{◌≡◌, refl, sym, ◌∙◌}
use mathlib.Core.Bool.{true}
use mathlib.Core.List.{List, ◌++◌}
use native.Mathlib.Omega.{arith}
use Rattle.laws.specs.Lists.{every}
use Rattle.laws.specs.Numbers.{Test, first_failing, numbered}
use Rattle.laws.proofs.Sides.{and_left}
use Rattle.laws.proofs.Numbers.{none_exactly_if}
use Rattle.laws.proofs.Joined.{joined_none, joined_some}
use Rattle.records.specs.Map.{records_of}
use Rattle.banks.specs.Rules.{check_tests, check_number}
use Rattle.banks.specs.Facts.{Stands}
use Rattle.banks.proofs.Standing.{check_stands}
use Rattle.hearing.specs.declared.heard.Heard.{Heard}
use Rattle.hearing.specs.declared.heard.Who.{Who}
use Rattle.rooms.specs.Rules.{address_holds, state_holds}
use Rattle.rooms.specs.declared.state.State.{State}
use Rattle.numbers.specs.Numbers.{start_number, power_number, heard_number, step_number}
use Rattle.numbers.proofs.Numbers.{starts_behind, powers_behind, tests_in_order}
use Rattle.numbers.proofs.Behind.{step_passed}
use Rattle.unit.proofs.Keeping.{RulesHold, rules_hold, state_holds_lem}

first_none : (ts us : List Test) → first_failing (ts ++ us) ≡ 0 → first_failing ts ≡ 0
first_none ts us e = go (first_failing ts) refl
  where
    go : (k : ℕ) → first_failing ts ≡ k → k ≡ 0
    go zero q = refl
    go (suc k) q = sym (joined_some ts us (suc k) (omega arith) q) ∙ e

last_none : (ts us : List Test) → numbered ts ≡ true → first_failing (ts ++ us) ≡ 0 → first_failing us ≡ 0
last_none ts us k e = sym (joined_none ts us k (first_none ts us e)) ∙ e

-- map, store and state keep 7 to 12
pub record Sound (map store : List ℕ) (size : ℕ) (s : State) : Type 0 where
  pub standing : Stands map store size
  pub rules : RulesHold (records_of map) store s

module _ (map store : List ℕ) (size : ℕ) where
  -- what the tests behind 7 to 11 say
  parted : (us : List Test) → numbered us ≡ true → first_failing (check_tests map store size ++ us) ≡ 0
      → Stands map store size × (every (λ t. t.passes) us ≡ true)
  unfolding check_number
  parted us k e =
      let ts = check_tests map store size in
      ((check_stands map store size).0 (first_none ts us e), (none_exactly_if us k).0 (last_none ts us refl e))

  joined : (us : List Test) → numbered us ≡ true → Stands map store size → every (λ t. t.passes) us ≡ true
      → first_failing (check_tests map store size ++ us) ≡ 0
  unfolding check_number
  joined us k S e =
      joined_none (check_tests map store size) us refl ((check_stands map store size).1 S) ∙ (none_exactly_if us k).1 e

  pub start_sound : (who : Who) → start_number map store size who ≡ 0
      → Stands map store size × (address_holds who.address ≡ true)
  unfolding start_number
  start_sound who e =
      let p = parted (starts_behind who) refl e in
      (p.0, and_left (address_holds who.address) true p.1)

  pub power_sound : (s : State) → power_number map store size s ≡ 0 → Sound map store size s
  unfolding power_number
  power_sound s e =
      let rs = records_of map in
      let p = parted (powers_behind map store s) refl e in
      record { standing = p.0; rules = rules_hold rs store s (and_left (state_holds rs store s) true p.1) }

  pub step_sound : (s : State) (heard : Heard) → step_number map store size s heard ≡ 0 → Sound map store size s
  step_sound s heard e = power_sound s (step_passed map store size s heard e).0

  pub sound_power : (s : State) → Sound map store size s → power_number map store size s ≡ 0
  unfolding power_number
  sound_power s h =
      joined (powers_behind map store s) refl h.standing
      (rw (state_holds_lem (records_of map) store s h.rules))

  pub sound_step : (s : State) (heard : Heard) → Sound map store size s → heard_number map store s heard ≡ 0
      → step_number map store size s heard ≡ 0
  sound_step s heard h e = (tests_in_order map store size).step_heard s heard (sound_power s h) ∙ e
