-- C's unit is ours, as bytes: after every history that C can be told.
-- Assumes nothing.
use mathlib.Core.Path.{◌≡◌, refl}
use mathlib.Core.Bool.{true, ◌&&◌}
use mathlib.Core.List.{List, [], ◌∷◌}
use Prim.Native.Nat.{ℕ}
use borrow.Author.Tests.{ltb-true}
use Rattle.laws.specs.Outcome.{Outcome}
use Rattle.laws.proofs.Tests.{both}
use Rattle.hearing.specs.declared.heard.Heard.{Heard}
use Rattle.rooms.specs.declared.state.State.{State}
use Rattle.rooms.specs.declared.reply.Stepped.{Stepped}
use Rattle.unit.specs.Step.{step_of, power_on_of}
use Rattle.unit.specs.Run.{Input, power_on, hears}
use Rattle.history.specs.Machine.{Start, left_after, left_by, unit_machine}
use Rattle.packing.specs.StateBytes.{state_bytes}
use Rattle.packing.proofs.Round.{state_back}
use Rattle.faces.specs.Face.{Faced, faced_by, start_face, frame_face, power_on_face}
use Rattle.lifted.specs.Machine.{fits, faced_left, c_machine}
use Rattle.lifted.specs.Promises.{Tellable, Follows, FollowsUnit}
use Rattle.lifted.proofs.Fitting.{Fits, Heard32, start_fits, step_fits, power_fits_lem}

-- a call on the bytes of a state that they hold is the call on that state
module _ (map store image : List ℕ) (s : State) (h : Fits s) where
  pub frame_as : (x : Heard) →
      frame_face map store image (state_bytes s) x.frame x.clock ≡ faced_by (step_of map store image s x)
  unfolding frame_face
  frame_as x = let b = state_back s h.held in rw (b.1, b.0)

  pub power_as : power_on_face map store image (state_bytes s) ≡ faced_by (power_on_of map store image s)
  unfolding power_on_face
  power_as = let b = state_back s h.held in rw (b.1, b.0)

pub heard_32 : (x : Heard) → (fits x.frame && fits x.clock) ≡ true → Heard32 x
heard_32 x t =
    let b = both (fits x.frame) (fits x.clock) t in
    record { frame = ltb-true x.frame _ b.0; clock = ltb-true x.clock _ b.1 }

outcome_follows : (f : Faced) (o : Outcome Stepped) → f ≡ faced_by o → Follows (faced_left f) (left_by o)
outcome_follows f o e = rw e (record { number = refl; state = refl; store = refl })

-- and its state fits
record FollowsFit (start : Start) (h : List Input) : Type 0 where
  follows : Follows (left_after c_machine start h) (left_after unit_machine start h)
  fits_there : Fits (left_after unit_machine start h).state

module _ (start : Start) where
  follows_fit : (h : List Input) → Tellable start h → FollowsFit start h
  unfolding c_machine unit_machine start_face
  follows_fit [] t = record {
    follows = rw t (record { number = refl; state = refl; store = refl });
    fits_there =
        start_fits start.map start.store start.image start.who
        (ltb-true start.who.groups _ (both (fits start.who.address) _ t).1);
  }
  follows_fit (power_on ∷ h) t =
      let i = follows_fit h t in
      let store = (left_after unit_machine start h).store in
      let s = (left_after unit_machine start h).state in
      record {
        follows =
            rw (i.follows.store, i.follows.state)
            (outcome_follows _ (power_on_of start.map store start.image s)
            (power_as start.map store start.image s i.fits_there));
        fits_there = power_fits_lem start.map store start.image s i.fits_there;
      }
  follows_fit (hears x ∷ h) t =
      let i = follows_fit h t.1 in
      let store = (left_after unit_machine start h).store in
      let s = (left_after unit_machine start h).state in
      record {
        follows =
            rw (t.0, i.follows.store, i.follows.state)
            (outcome_follows _ (step_of start.map store start.image s x)
            (frame_as start.map store start.image s i.fits_there x));
        fits_there = step_fits start.map store start.image x (heard_32 x t.0) s i.fits_there;
      }

pub follows_unit : FollowsUnit
follows_unit start h t = (follows_fit start h t).follows
