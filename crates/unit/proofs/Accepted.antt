-- Start, power-on and frame step, accepted or refused: what they leave of the store, and that accepted stays accepted.
-- Assumes nothing.
use Prim.Native.Nat.{ℕ}
use mathlib.Core.Path.{◌≡◌, refl, ◌∙◌}
use mathlib.Core.Logic.{◌⊎◌, inl}
use mathlib.Core.Bool.{true}
use mathlib.Core.List.{List, [], ◌∷◌}
use borrow.Author.Tests.{ltb-true}
use lib.ListN.{length}
use Rattle.laws.specs.Lists.{every}
use Rattle.laws.specs.Outcome.{Outcome}
use Rattle.laws.proofs.Tests.{if_eq, both}
use Rattle.records.specs.Map.{writable}
use Rattle.memory.specs.Promises.{ChangesOnly}
use Rattle.rooms.specs.State.{with_who, zero_state}
use Rattle.rooms.specs.declared.state.State.{State}
use Rattle.rooms.specs.declared.reply.Stepped.{Stepped}
use Rattle.rooms.proofs.Powered.{named_who}
use Rattle.numbers.specs.Numbers.{power_number}
use Rattle.numbers.proofs.Behind.{frame_passes}
use Rattle.unit.specs.Step.{start_of, power_on_of, step_of, unless}
use Rattle.unit.specs.Keeping.{CallsKeepStore, OneValue, OneValueChanges, CallsPowerOn}
use Rattle.unit.specs.Keeping.{PassesAgain, CallsAcceptedAgain, AllAccepted, is_input, RunAccepted}
use Rattle.unit.specs.Run.{Input, power_on, hears, input_of}
use Rattle.unit.specs.Promises.{number_of}
use Rattle.unit.proofs.Numbers.{calls_accepted, calls_reply}
use Rattle.unit.proofs.Sound.{start_sound, power_sound, step_sound, sound_power, sound_step}
use Rattle.unit.proofs.Changes.{unchanged, changes, frame_sound, powered_changes, powered_sound, powers_on}

-- a refused call leaves the store
unless_store : (P : List ℕ → Type 0) (n : ℕ) (s : State) (store : List ℕ) (o : Outcome Stepped)
    → P store → (n ≡ 0 → P o.store) → P (unless n s store o).store
unless_store P n s store o base accepted = if_eq (λ (x : Outcome Stepped). P x.store) n 0 accepted (λ e. base)

pub store_kept : CallsKeepStore
unfolding start_of power_on_of step_of
store_kept map store image =
    let size = length image in
    record {
      start = λ who.
          unless_store (λ after. ChangesOnly map store after (λ r. r.kind ≡ 2)) _ zero_state store _
          (unchanged map store _)
          (λ e. powered_changes map store image (with_who zero_state who) (start_sound map store size who e).0);
      power_on = λ s.
          unless_store (λ after. ChangesOnly map store after (λ r. r.kind ≡ 2)) _ s store _
          (unchanged map store _)
          (λ e. powered_changes map store image s (power_sound map store size s e).standing);
      step = λ s heard.
          unless_store (λ after. ChangesOnly map store after (λ r. writable r ≡ true)) _ s store _
          (unchanged map store _)
          (λ e. (changes map store image s heard (step_sound map store size s heard e)).writable_only);
    }

pub one_value_changes : OneValueChanges
unfolding step_of
one_value_changes map store image s heard no-reset =
    unless_store (λ after. (after ≡ store) ⊎ OneValue map store after) _ s store _ (inl refl)
    (λ e. (changes map store image s heard (step_sound map store (length image) s heard e)).one no-reset)

pub calls_power_on : CallsPowerOn
calls_power_on map store image =
    let accepted = calls_accepted map store image in
    record {
      start = λ who e.
          powers_on map store image (with_who zero_state who) (start_sound map store (length image) who e).0
          who (named_who zero_state who) _ (accepted.start who e);
      power_on = λ s e.
          powers_on map store image s (power_sound map store (length image) s e).standing s.who refl _
          (accepted.power_on s e);
    }

pub accepted_again : CallsAcceptedAgain
accepted_again map store image =
    let size = length image in
    let accepted = calls_accepted map store image in
    record {
      start = λ who e.
          let k = start_sound map store size who e in
          rw (accepted.start who e)
          (sound_power map _ size _
          (powered_sound map store image (with_who zero_state who) k.0 (rw (named_who zero_state who) k.1)));
      power_on = λ s e.
          let k = power_sound map store size s e in
          rw (accepted.power_on s e)
          (sound_power map _ size _ (powered_sound map store image s k.standing k.rules.address));
      step = λ s heard e.
          let k = step_sound map store size s heard e in
          rw (accepted.step s heard e) (sound_power map _ size _ (frame_sound map store image s heard k));
      next = λ s heard e l.
          sound_step map store size s heard (power_sound map store size s e) (frame_passes map store s heard l);
    }

module _ (map image : List ℕ) where
  -- an input that is one, where 7 to 12 hold: it is accepted, and they hold again
  one_accepted : (store : List ℕ) (s : State) → power_number map store (length image) s ≡ 0 → (x : Input)
      → is_input x ≡ true
      → (number_of (input_of map image store s x) ≡ 0) × PassesAgain map image (input_of map image store s x)
  unfolding input_of
  one_accepted store s e power_on i =
      ((calls_reply map store image).power_on s ∙ e, (accepted_again map store image).power_on s e)
  one_accepted store s e (hears heard) i =
      let n = (accepted_again map store image).next s heard e (ltb-true heard.frame 16777216 i) in
      ((calls_reply map store image).step s heard ∙ n, (accepted_again map store image).step s heard n)

  all_accepted : (store : List ℕ) (s : State) → power_number map store (length image) s ≡ 0 → (xs : List Input)
      → every is_input xs ≡ true → AllAccepted map image store s xs
  all_accepted store s e [] i = tt
  all_accepted store s e (x ∷ xs) i =
      let b = both (is_input x) (every is_input xs) i in
      let k = one_accepted store s e x b.0 in
      let o = input_of map image store s x in
      (k.0, all_accepted o.store o.answer.state k.1 xs b.1)

pub run_accepted : RunAccepted
run_accepted map store image who e xs i = all_accepted map image _ _ ((accepted_again map store image).start who e) xs i
