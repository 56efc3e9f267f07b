-- Demand 3, proved of our unit.
-- Assumes nothing.
use mathlib.Core.Path.{◌≡◌, refl, ap, ◌∙◌}
use mathlib.Core.Bool.{true}
use mathlib.Core.List.{List, [], ◌∷◌, reverse_aux}
use Prim.Native.Nat.{ℕ}
use lib.ListN.{length}
use borrow.Author.Tests.{eq-eqb}
use Rattle.records.specs.Map.{writable}
use Rattle.records.specs.Facts.{Member, FieldsHold}
use Rattle.records.specs.declared.record.Record.{Record}
use Rattle.banks.specs.Rules.{is_lock}
use Rattle.banks.specs.Values.{value_of}
use Rattle.banks.specs.Facts.{Stands, LockRecord}
use Rattle.banks.proofs.ForHistory.{lock_of}
use Rattle.memory.proofs.ForHistoryFilled.{fresh_lock, power-value}
use Rattle.unit.specs.Run.{Input, power_on, hears, input_of, run_from, run_of}
use Rattle.history.specs.Lock.{lock}
use Rattle.history.specs.Machine.{Start, unit_machine}
use Rattle.history.specs.Demand.{Whole, Demand, ReadOnlyStay, LockByGrammar, InOrder}
use Rattle.history.proofs.Agree.{records, Runs, at, start_store, start_stands}
use Rattle.history.proofs.Effects.{none_of_lock, lock_step}
use Rattle.history.proofs.Follow.{others_follow}
use Rattle.history.proofs.Growing.{progress_length}
use Rattle.history.proofs.Invariant.{fields, invariant, rest}
use Rattle.history.proofs.Progress.{ok_for, progress, value}
use Rattle.history.proofs.Valued.{at_value, value_at}

module _ (start : Start) where
  module _ (v : Record) (m : Member v start.map) (wr : writable v ≡ true) where
    left : List ℕ
    left = (at start []).store

    -- the store holds the grammar's value
    holds : (h : List Input) → Runs start h
        → value_of v (at start h).store ≡ value (records start) start.who v start.image left h
    unfolding left
    holds h A = (invariant start h A).values v m wr

    whole : (h : List Input) → Runs start h → Whole unit_machine start v h
    unfolding left
    whole h A =
        let F : FieldsHold v = fields start h A v m in
        others_follow unit_machine start v F.some_width
        (λ g B. rw (holds g B) (value_at (records start) start.who start.image left v F g))
        (λ g B bs r. holds g B ∙ at_value (records start) start.who start.image left v F g bs r) h A

-- our unit meets the demand
pub unit_demand : Demand unit_machine
unit_demand start h A v m wr = whole start v m wr h A

-- and keeps what is not writable
pub unit_read_only : ReadOnlyStay unit_machine
unit_read_only start h A v m wr = rest start h A v m wr

-- ---- the lock byte

module _ (start : Start) (v : Record) (m : Member v start.map) (is : is_lock v ≡ true) where
  K : LockRecord start.map v.bank v
  K = lock_of start.map v m is

  lock_left : (A : Runs start []) → value_of v (at start []).store ≡ 0xFF ∷ []
  lock_left A =
      let S : Stands start.map start.store (length start.image) = start_stands start [] A in
      ap (value_of v) (start_store start A)
      ∙ power-value start.map start.store start.image S.in_place S.as_long v m
      ∙ rw (eq-eqb v.kind 2 K.its_kind) (fresh_lock start.image v is)

  -- as a function of the list, the lock record's value is its one byte
  lock_value : (h : List Input) → Runs start h
      → value (records start) start.who v start.image (at start []).store h
      ≡ lock (records start) start.who h v.bank ∷ []
  unfolding value lock ok_for
  lock_value [] A = lock_left A
  lock_value (x ∷ h) A =
      let F : FieldsHold v = fields start h A.1 v m in
      let none : progress (records start) start.who v h ≡ [] =
      none_of_lock K (progress (records start) start.who v h) (progress_length v F (records start) start.who h) in
      rw (lock_value h A.1, none, eq-eqb v.lockable 0 K.no_lock) (lock_step K start.image _ _)

pub lock_by_grammar : LockByGrammar
lock_by_grammar start h A v m is =
    rw (lock_value start v m is h A) at
    (value_at (records start) start.who start.image (at start []).store v (fields start h A v m) h)

-- ---- the list in the order of time

run_at : (start : Start) (xs h : List Input)
    → (run_from start.map start.image (at start h).store (at start h).state xs).store
    ≡ (at start (reverse_aux xs h)).store
unfolding unit_machine input_of
run_at start [] h = refl
run_at start (power_on ∷ xs) h = run_at start xs (power_on ∷ h)
run_at start (hears x ∷ xs) h = run_at start xs (hears x ∷ h)

pub in_order : InOrder
unfolding run_of unit_machine
in_order start xs = run_at start xs []
