-- One check is enough: what a record leaves passes 7 to 12 as what it found did.
-- Assumes nothing.
use Prim.Native.Nat.{ℕ}
use mathlib.Core.Path.{◌≡◌, refl, ap, sym, ◌∙◌}
use mathlib.Core.Logic.{⊎_elim}
use mathlib.Core.Bool.{false, true≢false}
use mathlib.Core.List.{List}
use native.Mathlib.Nat.{eq-zero-or-pos}
use native.Mathlib.Omega.{arith}
use borrow.Author.Tests.{ne_eqb}
use lib.ListN.{length}
use Rattle.std.specs.Prelude.{Result, Ok, Err}
use Rattle.laws.specs.Outcome.{Gives}
use Rattle.refusals.specs.Numbers.{number_of, number_in, refusal_of}
use Rattle.refusals.specs.declared.refusal.Refusal.{Refusal}
use Rattle.refusals.proofs.Told.{numbers_in_range, refusal_is, not_none}
use Rattle.records.specs.Map.{records_of}
use Rattle.banks.specs.Rules.{check_number}
use Rattle.banks.specs.Facts.{Stands}
use Rattle.banks.proofs.Standing.{stands}
use Rattle.hearing.specs.Pairs.{heard_at}
use Rattle.hearing.specs.declared.heard.Heard.{Heard}
use Rattle.rooms.specs.Reply.{refusing}
use Rattle.rooms.specs.declared.state.State.{State}
use Rattle.rooms.specs.declared.reply.Stepped.{Stepped}
use Rattle.numbers.specs.Numbers.{power_number, heard_number, step_number}
use Rattle.numbers.proofs.Numbers.{tests_in_order}
use Rattle.unit.specs.Step.{frame_step, power_step, step_of, power_on_of}
use Rattle.unit.proofs.Numbers.{calls_accepted, calls_refused}
use Rattle.unit.proofs.Accepted.{accepted_again}
use Rattle.entries.specs.Entry.{is_broken}
use Rattle.entries.specs.declared.entry.Entry.{Entry}
use Rattle.tracing.specs.Run.{turn_of}
use Rattle.tracing.specs.Promises.{OneCheck}

module _ (map store : List ℕ) (size : ℕ) (s : State) where
  -- 7 to 12 are passed, so 7 to 11 are
  pub check_passed : power_number map store size s ≡ 0 → check_number map store size ≡ 0
  check_passed e =
      ⊎_elim (λ z. z) (λ h. absurd (omega (arith, (tests_in_order map store size).power_first s h)))
      (eq-zero-or-pos (check_number map store size))

  -- a frame is accepted, so 7 to 12 are passed
  power_passed : (heard : Heard) → step_number map store size s heard ≡ 0 → power_number map store size s ≡ 0
  power_passed heard e =
      ⊎_elim (λ z. z) (λ h. absurd (omega (arith, (tests_in_order map store size).step_powered s heard h)))
      (eq-zero-or-pos (power_number map store size s))

pub one_check : OneCheck
unfolding turn_of refusing
one_check map image store s (Entry.Frame clock frame) =
    let heard = heard_at clock frame in
    let n = step_number map store (length image) s heard in
    ⊎_elim
    (λ z. (accepted_again map store image).step s heard z ∙ sym (power_passed map store (length image) s heard z))
    (λ h. let r = (calls_refused map store image n h).step s heard refl in rw (r.state_stays, r.store_stays))
    (eq-zero-or-pos n)
one_check map image store s Entry.PowerOn =
    let n = power_number map store (length image) s in
    ⊎_elim
    (λ z. (accepted_again map store image).power_on s z ∙ sym z)
    (λ h. let r = (calls_refused map store image n h).power_on s refl in rw (r.state_stays, r.store_stays))
    (eq-zero-or-pos n)
one_check map image store s Entry.Broken = refl

-- what the check says of a record's step
module _ (map image store : List ℕ) (s : State) (e : Entry) (said : Result Unit Refusal)
    (checked : number_in said ≡ power_number map store (length image) s) where
  -- a refusal: the public call would refuse with it
  pub turn_refused : is_broken e ≡ false → (refusal : Refusal) → said ≡ Err refusal → (r : Stepped)
      → r ≡ refusing s refusal → Gives r store (turn_of map image store s e)
  unfolding turn_of step_of power_on_of
  turn_refused known refusal f r q = go e known
    where
      n : ℕ
      n = power_number map store (length image) s

      w : number_of refusal ≡ n
      w = ap number_in (sym f) ∙ checked

      step_number_lem : (heard : Heard) → step_number map store (length image) s heard ≡ n
      step_number_lem heard =
          (tests_in_order map store (length image)).step_powered s heard (omega (arith, w, (numbers_in_range refusal).0))

      same : r ≡ refusing s (refusal_of n)
      same = q ∙ ap (refusing s) (refusal_is refusal n w)

      go : (e : Entry) → is_broken e ≡ false → Gives r store (turn_of map image store s e)
      go (Entry.Frame clock frame) k =
          rw (step_number_lem (heard_at clock frame), ne_eqb n 0 (not_none refusal n w)) (record { answer = same; store = refl })
      go Entry.PowerOn k = rw (ne_eqb n 0 (not_none refusal n w)) (record { answer = same; store = refl })
      go Entry.Broken k = absurd (true≢false k)

  -- none: it would do what is done
  module _ (f : said ≡ Ok tt) where
    passed : power_number map store (length image) s ≡ 0
    passed = sym checked ∙ ap number_in f

    pub stands_there : Stands map store (length image)
    stands_there = stands map store (length image) (check_passed map store (length image) s passed)

    pub turn_powers : e ≡ Entry.PowerOn → turn_of map image store s e ≡ power_step (records_of map) store image s
    unfolding turn_of
    turn_powers q = rw q ((calls_accepted map store image).power_on s passed)

    -- and a frame then goes by what is said of what is heard
    module _ (clock frame : ℕ) (q : e ≡ Entry.Frame clock frame) (heard : Heard) (h : heard ≡ heard_at clock frame) where
      step_is : step_number map store (length image) s heard ≡ heard_number map store s heard
      step_is = (tests_in_order map store (length image)).step_heard s heard passed

      pub turn_unheard : (refusal : Refusal) → number_of refusal ≡ heard_number map store s heard → (r : Stepped)
          → r ≡ refusing s refusal → Gives r store (turn_of map image store s e)
      unfolding turn_of step_of
      turn_unheard refusal w r p =
          rw (q, ← h, step_is, ne_eqb _ 0 (not_none refusal _ w))
          (record { answer = p ∙ ap (refusing s) (refusal_is refusal _ w); store = refl })

      pub turn_hears : 0 ≡ heard_number map store s heard
          → turn_of map image store s e ≡ frame_step (records_of map) store image s heard
      unfolding turn_of
      turn_hears y = rw (q, ← h) ((calls_accepted map store image).step s heard (step_is ∙ sym y))
