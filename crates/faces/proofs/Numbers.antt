-- The numbers of the calls over a state of 96 bytes, and that a refusal leaves everything.
-- Assumes nothing.
use Prim.Native.Nat.{ℕ, ◌<◌}
use mathlib.Core.Path.{◌≡◌, refl, sym, ap, ◌∙◌}
use mathlib.Core.Bool.{Bool, true, false}
use mathlib.Core.List.{List, [], ◌∷◌, ◌++◌}
use native.Mathlib.Omega.{arith}
use lib.ListN.{length, replicate}
use Rattle.std.specs.Prelude.{is_err}
use Rattle.laws.specs.Bits.{bits}
use Rattle.laws.specs.Numbers.{Test, test, first_failing, numbered}
use Rattle.laws.specs.Outcome.{Outcome}
use Rattle.laws.proofs.Joined.{joined_some}
use Rattle.laws.proofs.Numbers.{exactly_if, none_exactly_if}
use Rattle.refusals.specs.Numbers.{number_of, number_in, refusal_of}
use Rattle.refusals.proofs.Among.{number_among}
use Rattle.banks.specs.Rules.{check_tests}
use Rattle.hearing.specs.Pairs.{heard_at}
use Rattle.rooms.specs.State.{zero_state}
use Rattle.rooms.specs.declared.state.State.{State}
use Rattle.rooms.specs.declared.reply.Stepped.{Stepped}
use Rattle.numbers.specs.Numbers.{heard_tests, step_number, power_number, start_number}
use Rattle.numbers.specs.Promises.{GivenBy}
use Rattle.unit.specs.Step.{step_of, power_on_of}
use Rattle.unit.specs.Promises.{number_of as reply_number, Refuses as UnitRefuses}
use Rattle.unit.proofs.Numbers.{calls_refused, calls_reply}
use Rattle.packing.specs.StateBytes.{four_of, state_bytes, state_of, shape_holds}
use Rattle.packing.proofs.Round.{bytes_back}
use Rattle.faces.specs.Face.{faced_by, then_number, on_bytes, frame_face, power_on_face, start_face}
use Rattle.faces.proofs.Faced.{then_some}
use Rattle.faces.specs.Promises.{frame_tests, power_on_tests, FacesNumbered, Refuses, FacesRefused}

given_by : (n : ℕ) (ts : List Test) → n ≡ first_failing ts → numbered ts ≡ true → GivenBy n ts
given_by n ts e k =
    rw e (record { exactly_if = exactly_if ts; none_exactly_if = none_exactly_if ts k })

-- the number of bytes that are no state's is that of a refusal
pub shape_again : (map store : List ℕ) (size : ℕ) →
    number_of (refusal_of (then_number map store size 12)) ≡ then_number map store size 12
unfolding then_number
shape_again map store size =
    number_among (check_tests map store size ++ test 12 false ∷ []) refl _ refl
    (λ z. let some = then_some map store size 12 (omega arith) in omega arith)

module _ (map store image : List ℕ) where
  -- by the bytes: a state's or not
  pub frame_number : (bytes : List ℕ) (frame clock : ℕ) (shaped : Bool) → shape_holds bytes ≡ shaped →
      number_in (frame_face map store image bytes frame clock).reply
      ≡ first_failing (frame_tests map store (length image) bytes frame clock)
  unfolding frame_face step_number then_number
  frame_number bytes frame clock true e =
      rw e ((calls_reply map store image).step (state_of bytes) (heard_at clock frame))
  frame_number bytes frame clock false e =
      rw e
      (shape_again map store (length image)
      ∙ sym
      (joined_some (check_tests map store (length image) ++ test 12 false ∷ [])
      (heard_tests map store (state_of bytes) (heard_at clock frame)) _
      (then_some map store (length image) 12 (omega arith)) refl))

  pub power_on_number : (bytes : List ℕ) (shaped : Bool) → shape_holds bytes ≡ shaped →
      number_in (power_on_face map store image bytes).reply
      ≡ first_failing (power_on_tests map store (length image) bytes)
  unfolding power_on_face power_number then_number
  power_on_number bytes true e = rw e ((calls_reply map store image).power_on (state_of bytes))
  power_on_number bytes false e = rw e (shape_again map store (length image))

pub faces_numbered : FacesNumbered
unfolding start_face start_number
faces_numbered map store image =
    record {
      start = λ address groups. given_by _ _ ((calls_reply map store image).start _) refl;
      frame = λ bytes frame clock. given_by _ _ (frame_number map store image bytes frame clock _ refl) refl;
      power_on = λ bytes. given_by _ _ (power_on_number map store image bytes _ refl) refl;
    }

-- what the unit refuses is refused
refuses : (o : Outcome Stepped) (n : ℕ) (s : State) (store bytes : List ℕ) →
    UnitRefuses o n s store → state_bytes s ≡ bytes → Refuses (faced_by o) bytes store
refuses o n s store bytes r e =
    record {
      refuses = ap is_err r.refuses;
      state_stays = ap state_bytes r.state_stays ∙ e;
      store_stays = r.store_stays;
    }

-- bytes that are no state's, and bytes that are
on_bytes_lem : (map store bytes : List ℕ) (size : ℕ) (o : Outcome Stepped) (shaped : Bool) → shape_holds bytes ≡ shaped →
    0 < number_in (on_bytes map store size bytes o).reply →
    (shape_holds bytes ≡ true → 0 < reply_number o → Refuses (faced_by o) bytes store) →
    Refuses (on_bytes map store size bytes o) bytes store
on_bytes_lem map store bytes size o true e h f = rw e (f e (rw e at h))
on_bytes_lem map store bytes size o false e h f =
    rw e (record { refuses = refl; state_stays = refl; store_stays = refl })

zero_bytes : state_bytes zero_state ≡ replicate 96 0
unfolding state_bytes four_of bits zero_state
zero_bytes = refl

pub faces_refused : FacesRefused
unfolding start_face frame_face power_on_face
faces_refused map store image =
    record {
      start = λ address groups h.
          refuses _ _ zero_state store _
          ((calls_refused map store image _ h).start _ (sym ((calls_reply map store image).start _)))
          zero_bytes;
      frame = λ bytes b frame clock h.
          let heard = heard_at clock frame in
          on_bytes_lem map store bytes (length image) (step_of map store image (state_of bytes) heard) _ refl h
          (λ t k. refuses _ _ (state_of bytes) store bytes
          ((calls_refused map store image _ k).step (state_of bytes) heard
          (sym ((calls_reply map store image).step (state_of bytes) heard)))
          (bytes_back bytes b t));
      power_on = λ bytes b h.
          on_bytes_lem map store bytes (length image) (power_on_of map store image (state_of bytes)) _ refl h
          (λ t k. refuses _ _ (state_of bytes) store bytes
          ((calls_refused map store image _ k).power_on (state_of bytes)
          (sym ((calls_reply map store image).power_on (state_of bytes))))
          (bytes_back bytes b t));
    }
