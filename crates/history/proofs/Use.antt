-- Demand 3 joined to use, proved of our unit.
-- Assumes nothing.
use mathlib.Core.Path.{◌≡◌, refl, sym, ◌∙◌}
use mathlib.Core.Bool.{Bool, true, false}
use mathlib.Core.List.Memᴰ
use mathlib.Core.List.{List, [], ◌∷◌}
use Prim.Native.Nat.{ℕ, ◌≤◌}
use native.Mathlib.Omega.{arith}
use lib.Dec.{ltb}
use lib.ListN.{length}
use borrow.Author.Tests.{ltb-true, ltb-false, le-ltb}
use Rattle.std.specs.Prelude.{if◌then◌else◌}
use Rattle.laws.specs.Numbers.{first_failing}
use Rattle.hearing.specs.declared.heard.Heard.{Heard}
use Rattle.rooms.specs.declared.state.State.{State}
use Rattle.numbers.specs.Numbers.{power_number, step_number, heard_number}
use Rattle.numbers.proofs.Numbers.{tests_in_order}
use Rattle.unit.specs.Run.{Input, power_on, hears}
use Rattle.unit.specs.Step.{step_of}
use Rattle.unit.specs.Promises.{Refuses}
use Rattle.unit.proofs.Accepted.{accepted_again}
use Rattle.unit.proofs.Numbers.{calls_reply, calls_refused}
use Rattle.history.specs.Writing.{past}
use Rattle.history.specs.Machine.{Start, unit_machine}
use Rattle.history.specs.Use.{AllFrames, without_refused, AllWhole, NextNumbered, SameWithout}
use Rattle.history.specs.Use.{AlwaysWhole, RefusedExactly, RefusedChangeNothing}
use Rattle.history.proofs.Agree.{Runs, at}
use Rattle.history.proofs.Demand.{unit_demand}
use Rattle.history.proofs.Follow.{past_accepted}

-- a number that is no frame is refused by 1
too_large : (map store : List ℕ) (size : ℕ) (s : State) (x : Heard) → power_number map store size s ≡ 0
    → 16777216 ≤ x.frame → step_number map store size s x ≡ 1
unfolding heard_number first_failing
too_large map store size s x e l =
    (tests_in_order map store size).step_heard s x e ∙ rw (le-ltb x.frame 16777216 l)

module _ (start : Start) (A : Runs start []) where
  -- map, store and state pass 7 to 12
  abbrev Passes : List Input → Type 0
  Passes h = power_number start.map (at start h).store (length start.image) (at start h).state ≡ 0

  -- a refused frame leaves what was there
  stays : (h : List Input) (x : Heard) → Passes h → 16777216 ≤ x.frame
      → Refuses (step_of start.map (at start h).store start.image (at start h).state x) 1
      (at start h).state (at start h).store
  stays h x e l =
      (calls_refused start.map (at start h).store start.image 1 (omega arith)).step (at start h).state x
      (too_large start.map (at start h).store (length start.image) (at start h).state x e l)

  -- so they do after every list
  passes : (h : List Input) → Passes h
  unfolding unit_machine
  passes [] =
      (accepted_again start.map start.store start.image).start start.who
      (sym ((calls_reply start.map start.store start.image).start start.who) ∙ A)
  passes (power_on ∷ h) =
      (accepted_again start.map (at start h).store start.image).power_on (at start h).state (passes h)
  passes (hears x ∷ h) = go (passes h) (ltb x.frame 16777216) refl
    where
      go : Passes h → (b : Bool) → ltb x.frame 16777216 ≡ b → Passes (hears x ∷ h)
      go e true b =
          let again = accepted_again start.map (at start h).store start.image in
          again.step (at start h).state x (again.next (at start h).state x e (ltb-true _ _ b))
      go e false b = let R = stays h x e (ltb-false _ _ b) in rw (R.store_stays, R.state_stays) e

  numbered : (h : List Input) → NextNumbered unit_machine start h
  unfolding unit_machine
  numbered h =
      let reply = calls_reply start.map (at start h).store start.image in
      let again = accepted_again start.map (at start h).store start.image in
      record {
        powering = reply.power_on (at start h).state ∙ passes h;
        frame = λ x l. reply.step (at start h).state x ∙ again.next (at start h).state x (passes h) l;
        refused = λ x l. (stays h x (passes h) l).returns;
      }

  all_run : (h : List Input) → AllFrames h → Runs start h
  all_run [] fits = A
  all_run (power_on ∷ h) fits = ((numbered h).powering, all_run h (λ x m. fits x (Memᴰ.tail m)))
  all_run (hears x ∷ h) fits =
      ((numbered h).frame x (fits x (Memᴰ.head refl)), all_run h (λ y m. fits y (Memᴰ.tail m)))

  all_whole : (h : List Input) → Runs start h → AllWhole unit_machine start h
  all_whole h B v m wr = unit_demand start h B v m wr

  -- ---- refused frames

  kept_run : (h : List Input) → Runs start (without_refused h)
  unfolding without_refused
  kept_run [] = A
  kept_run (power_on ∷ h) = ((numbered (without_refused h)).powering, kept_run h)
  kept_run (hears x ∷ h) = go (kept_run h) (ltb x.frame 16777216) refl
    where
      go : Runs start (without_refused h) → (b : Bool) → ltb x.frame 16777216 ≡ b
          → Runs start (if b then hears x ∷ without_refused h else without_refused h)
      go B true b = ((numbered (without_refused h)).frame x (ltb-true _ _ b), B)
      go B false b = B

  record Equal (h g : List Input) : Type 0 where
    state_is : (at start h).state ≡ (at start g).state
    store_is : (at start h).store ≡ (at start g).store

  equal : (h : List Input) → Equal h (without_refused h)
  unfolding unit_machine without_refused
  equal [] = record { state_is = refl; store_is = refl }
  equal (power_on ∷ h) =
      let E = equal h in
      record { state_is = rw (E.state_is, E.store_is); store_is = rw (E.state_is, E.store_is) }
  equal (hears x ∷ h) = go (equal h) (ltb x.frame 16777216) refl
    where
      go : Equal h (without_refused h) → (b : Bool) → ltb x.frame 16777216 ≡ b
          → Equal (hears x ∷ h) (if b then hears x ∷ without_refused h else without_refused h)
      go E true b = record { state_is = rw (E.state_is, E.store_is); store_is = rw (E.state_is, E.store_is) }
      go E false b =
          let R = stays h x (passes h) (ltb-false _ _ b) in
          record { state_is = R.state_stays ∙ E.state_is; store_is = R.store_stays ∙ E.store_is }

  same_without : (h : List Input) → SameWithout unit_machine start h
  same_without h = record {
    state_is = (equal h).state_is;
    store_is = (equal h).store_is;
    accepted = kept_run h;
    whole = all_whole (without_refused h) (kept_run h);
  }

pub always_whole : AlwaysWhole unit_machine
always_whole start A h fits =
    let B : Runs start h = all_run start A h fits in
    (B, λ i. all_whole start A (past h i) (past_accepted unit_machine start h B i))

pub refused_exactly : RefusedExactly unit_machine
refused_exactly start A h = numbered start A h

pub refused_change_nothing : RefusedChangeNothing unit_machine
refused_change_nothing start A h i = same_without start A (past h i)
