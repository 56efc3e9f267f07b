-- A call of the unit, faced: where the bytes are no state's, and where they are.
-- Assumes nothing.
use Prim.Native.Nat.{ℕ, zero, suc, ◌<◌}
use mathlib.Core.Path.{◌≡◌, refl, sym, ap, ◌∙◌}
use mathlib.Core.Bool.{Bool, true, false}
use mathlib.Core.List.{List, [], ◌∷◌, ◌++◌}
use native.Mathlib.Omega.{arith}
use Rattle.std.specs.Prelude.{Err}
use Rattle.laws.specs.Numbers.{Test, test, first_failing}
use Rattle.laws.specs.Outcome.{Outcome, Gives}
use Rattle.laws.proofs.Joined.{joined_none, joined_some}
use Rattle.refusals.specs.Numbers.{number_of}
use Rattle.refusals.specs.declared.refusal.Refusal.{Refusal}
use Rattle.refusals.proofs.Told.{refusal_is}
use Rattle.banks.specs.Rules.{check_tests, check_number}
use Rattle.rooms.specs.declared.reply.Stepped.{Stepped}
use Rattle.packing.specs.StateBytes.{state_bytes, shape_holds}
use Rattle.faces.specs.Answers.{reply_word}
use Rattle.faces.specs.Face.{faced_by, then_number, shape_number, on_bytes, Faces}

-- 7 to 11 come first, then the call's own number
module _ (map store : List ℕ) (size own n : ℕ) (e : n ≡ check_number map store size) where
  pub then_first : (n ≡ 0 → ⊥) → n ≡ then_number map store size own
  unfolding check_number then_number
  then_first h = sym (joined_some (check_tests map store size) (test own false ∷ []) n (omega arith) (sym e))

  pub then_own : n ≡ 0 → own ≡ then_number map store size own
  unfolding check_number then_number first_failing
  then_own z = sym (joined_none (check_tests map store size) (test own false ∷ []) refl (sym e ∙ z))

-- it is a number
pub then_some : (map store : List ℕ) (size own : ℕ) → 0 < own → 0 < then_number map store size own
then_some map store size own h = go (check_number map store size) refl
  where
    go : (n : ℕ) → check_number map store size ≡ n → 0 < then_number map store size own
    go zero e = omega (arith, then_own map store size own 0 (sym e) refl)
    go (suc n) e = omega (arith, then_first map store size own (suc n) (sym e) (λ z. omega arith))

-- 7 to 11 and one test more, which do not all pass
pub then_is : (map store : List ℕ) (size own : ℕ) (last : Bool) →
    (first_failing (check_tests map store size ++ test own last ∷ []) ≡ 0 → ⊥) →
    first_failing (check_tests map store size ++ test own last ∷ []) ≡ then_number map store size own
unfolding then_number first_failing
then_is map store size own false h = refl
then_is map store size own true h = go (first_failing tests) refl
  where
    tests : List Test
    tests = check_tests map store size

    go : (n : ℕ) → first_failing tests ≡ n →
        first_failing (tests ++ test own true ∷ []) ≡ first_failing (tests ++ test own false ∷ [])
    go zero e = absurd (h (joined_none tests (test own true ∷ []) refl e))
    go (suc n) e =
        joined_some tests (test own true ∷ []) (suc n) (omega arith) e
        ∙ sym (joined_some tests (test own false ∷ []) (suc n) (omega arith) e)

pub faced : {stepped : Stepped} {answer : ℕ} {state store : List ℕ} {o : Outcome Stepped} →
    Gives stepped store o → state ≡ state_bytes stepped.state → answer ≡ reply_word stepped.reply →
    Faces answer state store (faced_by o)
faced g p q =
    record {
      answers = q ∙ ap (λ (s : Stepped). reply_word s.reply) g.answer;
      state_is = p ∙ ap (λ (s : Stepped). state_bytes s.state) g.answer;
      leaves = g.store;
    }

-- where the bytes are no state's, and where they are
module _ (map before : List ℕ) (size : ℕ) (bytes : List ℕ) (o : Outcome Stepped) where
  pub unshaped : {answer : ℕ} (refusal : Refusal) → answer ≡ reply_word (Err refusal) →
      (shape_holds bytes ≡ false) × (number_of refusal ≡ shape_number map before size) →
      Faces answer bytes before (on_bytes map before size bytes o)
  unshaped refusal g e =
      rw e.0
      (record {
        answers = g ∙ ap (λ (e : Refusal). reply_word (Err e)) (refusal_is refusal _ e.1);
        state_is = refl;
        leaves = refl;
      })

  pub shaped_as : shape_holds bytes ≡ true → {stepped : Stepped} {answer : ℕ} {state store : List ℕ} →
      Gives stepped store o → state ≡ state_bytes stepped.state → answer ≡ reply_word stepped.reply →
      Faces answer state store (on_bytes map before size bytes o)
  shaped_as t g p q = rw t (faced g p q)
