-- At every point the unit's staged bytes, lock bytes and values are what the grammar, as functions, says.
-- Assumes nothing.
use mathlib.Core.Path.{◌≡◌, refl, sym, ap, ◌∙◌}
use mathlib.Core.Bool.{true, false}
use mathlib.Core.List.{List, [], ◌∷◌}
use Prim.Native.Nat.{ℕ}
use lib.ListN.{length}
use Rattle.records.specs.Map.{writable}
use Rattle.records.specs.Facts.{Member, FieldsHold}
use Rattle.records.specs.declared.record.Record.{Record}
use Rattle.records.proofs.Members.{member_fields}
use Rattle.banks.specs.Values.{value_of, lock_byte}
use Rattle.banks.specs.Facts.{Stands}
use Rattle.memory.specs.Staged.{none_staged, unlocked}
use Rattle.memory.specs.Rules.{staged_holds}
use Rattle.memory.specs.declared.staged.Staged.{Staged}
use Rattle.memory.specs.declared.filled.Filling.TheVariants.{PowerOn}
use Rattle.memory.proofs.ForHistoryFilled.{filled_stays}
use Rattle.memory.proofs.ForHistoryStaged.{staged_for, none_staged_for, unfinished_short, unlocked_by}
use Rattle.unit.specs.Run.{Input}
use Rattle.unit.proofs.ForHistory.{Ready}
use Rattle.history.specs.Deeds.{Deed}
use Rattle.history.specs.Context.{deed_after}
use Rattle.history.specs.Lock.{lock, lock_by}
use Rattle.history.specs.Machine.{Start}
use Rattle.history.proofs.Agree.{records, Runs, at, Done, done_by, start_staged, start_store, ready}
use Rattle.history.proofs.Agree.{start_stands}
use Rattle.history.proofs.Progress.{ok_for, ripe, progress, value}
use Rattle.history.proofs.Effects.{lock_shut, deed_rest, deed_staged, deed_value, deed_lock}

unlocked_ok : (rs : List Record) (store : List ℕ) (v : Record)
    → unlocked rs store v ≡ ok_for v (lock_byte rs store v.bank)
unfolding ok_for
unlocked_ok rs store v = unlocked_by rs store v

module _ (start : Start) where
  pub fields : (h : List Input) → Runs start h → (v : Record) → Member v start.map → FieldsHold v
  fields h A v m = member_fields start.map (start_stands start h A).in_order v m

  pub record Invariant (h : List Input) : Type 0 where
    pub ties : (v : Record) → Member v start.map → writable v ≡ true
        → staged_for v (at start h).state.door.staged ≡ progress (records start) start.who v h
    pub locks : (v : Record) → Member v start.map → writable v ≡ true
        → lock_byte (records start) (at start h).store v.bank ≡ lock (records start) start.who h v.bank
    pub values : (v : Record) → Member v start.map → writable v ≡ true
        → value_of v (at start h).store ≡ value (records start) start.who v start.image (at start []).store h

  pub invariant : (h : List Input) → Runs start h → Invariant h
  unfolding ripe value lock
  invariant [] A =
      let S : Stands start.map start.store (length start.image) = start_stands start [] A in
      let g : (at start []).state.door.staged ≡ none_staged = start_staged start A in
      record {
        ties = λ v m wr. rw g (none_staged_for v ∙ sym (unfinished_short v [] (fields [] A v m).some_width));
        locks = λ v m wr. rw (start_store start A) (lock_shut start.map start.image start.store S v m wr);
        values = λ v m wr. refl;
      }
  invariant (x ∷ h) A =
      let I : Invariant h = invariant h A.1 in
      let s : List ℕ = (at start h).store in
      let g : Staged = (at start h).state.door.staged in
      let d : Deed = deed_after (records start) start.who h x in
      let D : Done start x h = done_by start x h A in
      let R : Ready start.map s start.image (at start h).state = ready start x h A in
      let S : Stands start.map s (length start.image) = R.stands in
      let H : staged_holds (records start) s g ≡ true = R.staged_holds_lem in
      record {
        ties = λ v m wr. ap (staged_for v) D.staged_is ∙ deed_staged start.map start.image s S g H v m wr d
            ∙ rw (unlocked_ok (records start) s v, I.ties v m wr, I.locks v m wr);
        locks = λ v m wr. ap (λ (z : List ℕ). lock_byte (records start) z v.bank) D.store_is
            ∙ deed_lock start.map start.image s S g H v m wr d
            ∙ ap (λ (z : ℕ). lock_by v.bank z d) (I.locks v m wr);
        values = λ v m wr. ap (value_of v) D.store_is ∙ deed_value start.map start.image s S g H v m wr d
            ∙ rw (unlocked_ok (records start) s v, I.ties v m wr, I.locks v m wr, I.values v m wr);
      }

  -- a value that is not writable is what it was before the start
  pub rest : (h : List Input) → Runs start h → (v : Record) → Member v start.map → writable v ≡ false
      → value_of v (at start h).store ≡ value_of v start.store
  rest [] A v m wr =
      let S : Stands start.map start.store (length start.image) = start_stands start [] A in
      ap (value_of v) (start_store start A)
      ∙ filled_stays start.map start.store start.image S.in_place S.as_long v m PowerOn wr
  rest (x ∷ h) A v m wr =
      let s : List ℕ = (at start h).store in
      let R : Ready start.map s start.image (at start h).state = ready start x h A in
      ap (value_of v) (done_by start x h A).store_is
      ∙ deed_rest start.map start.image s R.stands (at start h).state.door.staged R.staged_holds_lem v m wr
      (deed_after (records start) start.who h x)
      ∙ rest h A.1 v m wr
