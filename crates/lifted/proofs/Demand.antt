-- The demand goes from a machine to one that leaves the same stores; and so to C's.
-- Assumes nothing.
use mathlib.Core.Path.{◌≡◌, refl, sym, ap, ◌∙◌}
use mathlib.Core.Bool.{Bool, true, false}
use mathlib.Core.List.{List, [], ◌∷◌}
use Prim.Native.Nat.{ℕ, zero, suc, ◌-◌}
use native.Mathlib.Omega.{arith}
use lib.ListN.{length, drop}
use Rattle.records.specs.declared.record.Record.{Record}
use Rattle.banks.specs.Values.{value_of}
use Rattle.unit.specs.Run.{Input, power_on, hears}
use Rattle.history.specs.Writing.{past}
use Rattle.history.specs.Machine.{Left, Machine, Start, left_after, Accepted, unit_machine}
use Rattle.history.specs.Demand.{bytes_of, Whole, Demand, ReadOnlyStay}
use Rattle.history.proofs.Demand.{unit_demand, unit_read_only}
use Rattle.faces.specs.Face.{Faced, start_face, frame_face}
use Rattle.lifted.specs.Machine.{call_left, c_machine}
use Rattle.lifted.specs.Promises.{Tellable, AcceptsAsUnit, DemandInC, ReadOnlyStayInC}
use Rattle.lifted.proofs.Following.{follows_unit}

-- what the one accepts the other accepts, and leaves the same store
pub record Leads {S T : Type 0} (m : Machine S) (n : Machine T) : Type 0 where
  pub accepts : (start : Start) (h : List Input) → Accepted n start h → Accepted m start h
  pub leaves : (start : Start) (h : List Input) → Accepted n start h
      → (left_after n start h).store ≡ (left_after m start h).store

-- an earlier point of an accepted history
drop_accepted : {S : Type 0} (n : Machine S) (start : Start) (h : List Input) (k : ℕ)
    → Accepted n start h → Accepted n start (drop k h)
drop_accepted n start [] zero A = A
drop_accepted n start [] (suc k) A = A
drop_accepted n start (x ∷ h) zero A = A
drop_accepted n start (x ∷ h) (suc k) A = drop_accepted n start h k A.1

begin_accepted : {S : Type 0} (n : Machine S) (start : Start) (h : List Input)
    → Accepted n start h → Accepted n start []
begin_accepted n start [] A = A
begin_accepted n start (x ∷ h) A = begin_accepted n start h A.1

module _ {S T : Type 0} (m : Machine S) (n : Machine T) (L : Leads m n) where
  -- the same bytes of a value
  same : (start : Start) (v : Record) (h : List Input) → Accepted n start h → bytes_of n start v h ≡ bytes_of m start v h
  same start v h A = ap (value_of v) (L.leaves start h A)

  same_past : (start : Start) (v : Record) (h : List Input) (i : ℕ) → Accepted n start h
      → bytes_of n start v (past h i) ≡ bytes_of m start v (past h i)
  unfolding past
  same_past start v h i A = same start v (drop (length h - i) h) (drop_accepted n start h (length h - i) A)

  whole_by : (start : Start) (v : Record) (h : List Input) → Accepted n start h → Whole m start v h → Whole n start v h
  whole_by start v h A W =
      let left = L.leaves start [] (begin_accepted n start h A) in
      let here = same start v h A in
      record {
        value = rw (left, here) W.value;
        one = λ bs r. here ∙ W.one bs (rw left at r);
        complete = λ bs w. here ∙ W.complete bs w;
        cut_short = λ bs w i lo hi. same_past start v h i A ∙ W.cut_short bs w i lo hi
            ∙ sym (same_past start v h (w.place 0) A);
        cut = λ x B no. same start v (x ∷ h) B ∙ W.cut x (L.accepts start (x ∷ h) B) no ∙ sym here;
        unchanged = λ i l no. here ∙ W.unchanged i l no ∙ sym (same_past start v h i A);
      }

  pub demand_by : Demand m → Demand n
  demand_by D start h A v mem wr = whole_by start v h A (D start h (L.accepts start h A) v mem wr)

  pub read_only_by : ReadOnlyStay m → ReadOnlyStay n
  read_only_by D start h A v mem wr = same start v h A ∙ D start h (L.accepts start h A) v mem wr

-- ---- C's machine

-- what was accepted was told
told_by : (told : Bool) (bytes store : List ℕ) (f : Faced) → (call_left told bytes store f).number ≡ 0 → told ≡ true
told_by true bytes store f e = refl
told_by false bytes store f e = absurd (omega arith)

was_told : (start : Start) (h : List Input) → Accepted c_machine start h → Tellable start h
unfolding c_machine
was_told start [] A =
    told_by _ _ _ (start_face start.map start.store start.image start.who.address start.who.groups) A
was_told start (power_on ∷ h) A = was_told start h A.1
was_told start (hears x ∷ h) A =
    let l : Left (List ℕ) = left_after c_machine start h in (
      told_by _ _ _ (frame_face start.map l.store start.image l.state x.frame x.clock) A.0,
      was_told start h A.1,
    )

unit_accepts : (start : Start) (h : List Input)
    → Tellable start h → Accepted c_machine start h → Accepted unit_machine start h
unit_accepts start [] t A = sym (follows_unit start [] t).number ∙ A
unit_accepts start (power_on ∷ h) t A =
    (sym (follows_unit start (power_on ∷ h) t).number ∙ A.0, unit_accepts start h t A.1)
unit_accepts start (hears x ∷ h) t A =
    (sym (follows_unit start (hears x ∷ h) t).number ∙ A.0, unit_accepts start h t.1 A.1)

c_accepts : (start : Start) (h : List Input)
    → Tellable start h → Accepted unit_machine start h → Accepted c_machine start h
c_accepts start [] t A = (follows_unit start [] t).number ∙ A
c_accepts start (power_on ∷ h) t A =
    ((follows_unit start (power_on ∷ h) t).number ∙ A.0, c_accepts start h t A.1)
c_accepts start (hears x ∷ h) t A =
    ((follows_unit start (hears x ∷ h) t).number ∙ A.0, c_accepts start h t.1 A.1)

pub accepts_as_unit : AcceptsAsUnit
accepts_as_unit start h =
    ((λ A. let t = was_told start h A in (t, unit_accepts start h t A)), c_accepts start h)

leads : Leads unit_machine c_machine
leads = record {
  accepts = λ start h A. ((accepts_as_unit start h).0 A).1;
  leaves = λ start h A. (follows_unit start h (was_told start h A)).store;
}

pub demand_in_c : DemandInC
demand_in_c = demand_by unit_machine c_machine leads unit_demand

pub read_only_stay_in_c : ReadOnlyStayInC
read_only_stay_in_c = read_only_by unit_machine c_machine leads unit_read_only
