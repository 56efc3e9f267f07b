-- Lock bytes after a fill, and with them the rule of staged bytes.
-- Assumes nothing.
use Prim.Native.Nat.{ℕ}
use mathlib.Core.Path.{◌≡◌, refl, ap, sym, ◌∙◌}
use mathlib.Core.Logic.{⊎_elim}
use mathlib.Core.Bool.{Bool, true, false, ◌||◌}
use mathlib.Core.List.{List}
use native.Mathlib.Omega.{arith}
use borrow.Author.Tests.{eq-eqb, eqb-false, lt-ltb, le-leb}
use lib.Dec.{eqb}
use lib.ListN.{get_or}
use Rattle.std.specs.Prelude.{if◌then◌else◌, Ok}
use Rattle.laws.proofs.Sides.{chosen}
use Rattle.laws.proofs.PartBytes.{first_byte}
use Rattle.records.specs.Map.{records_of}
use Rattle.records.specs.Lookup.{holder}
use Rattle.records.specs.declared.record.Record.{Record}
use Rattle.records.proofs.Locations.{holds_is, holder_at, beginner_at, mapped_member}
use Rattle.banks.specs.Rules.{is_lock}
use Rattle.banks.specs.Values.{value_of, byte_at, lock_byte}
use Rattle.banks.specs.Facts.{LockRecord}
use Rattle.banks.proofs.HeadsAndLocks.{has_lock, writable_bank}
use Rattle.memory.specs.Staged.{unlocked}
use Rattle.memory.specs.Filled.{fresh, filled_of}
use Rattle.memory.specs.Filled as filled
use Rattle.memory.specs.Rules.{staged_in, staged_holds}
use Rattle.memory.specs.Promises.{locks_bank, FillLocks, FillKeepsRule}
use Rattle.memory.specs.declared.staged.Staged.{Staged}
use Rattle.memory.specs.declared.filled.Filling.{Filling}
use Rattle.memory.specs.declared.filled.Filling.TheVariants.{PowerOn, Reset}
use Rattle.memory.proofs.StagedRoom.{StagedOf, staged_said}
use Rattle.memory.proofs.Fills.{lock_fresh, fill_value}

-- a lock record, by its fields
module _ (map : List ℕ) (bank : ℕ) (l : Record) (q : LockRecord map bank l) where
  is_lock_lem : is_lock l ≡ true
  is_lock_lem =
      rw (
        eq-eqb l.first 0x02 q.its_first,
        eq-eqb l.width 1 q.its_width,
        eq-eqb l.kind 2 q.its_kind,
        eq-eqb l.lockable 0 q.no_lock,
      )

  -- a fill that chooses the lock record is one that locks the bank
  lock_chosen : (store : List ℕ) (filling : Filling)
      → filled.chosen (records_of map) store filling l ≡ locks_bank (records_of map) store filling bank
  unfolding filled.chosen locks_bank
  lock_chosen store PowerOn = eq-eqb l.kind 2 q.its_kind
  lock_chosen store (Reset dtr0) = rw (eq-eqb l.kind 2 q.its_kind, q.its_bank)

  -- the lock byte is the lock record's byte
  pub lock_byte_lem : holder (records_of map) bank 0x02 ≡ Ok l → (store : List ℕ)
      → lock_byte (records_of map) store bank ≡ get_or (value_of l store) 0 0
  unfolding lock_byte byte_at value_of
  lock_byte_lem h store = rw h (sym (first_byte l.offset l.width store (omega (arith, q.its_width))))

  byte_after : holder (records_of map) bank 0x02 ≡ Ok l → (store image : List ℕ) (b : Bool)
      → get_or (if b then fresh image l else value_of l store) 0 0
      ≡ (if b then 0xFF else lock_byte (records_of map) store bank)
  byte_after h store image true = ap (λ (bs : List ℕ). get_or bs 0 0) (lock_fresh image l is_lock_lem)
  byte_after h store image false = sym (lock_byte_lem h store)

pub fill_locks : FillLocks
fill_locks map store image s filling bank h m =
    let rs = records_of map in
    let x = has_lock map s.in_order s.banks bank h m in
    let v = fill_value map store image s.in_place s.as_long filling x.0 x.1.member in
    lock_byte_lem map bank x.0 x.1 x.2 (filled_of rs store image filling)
    ∙ ap (λ (bs : List ℕ). get_or bs 0 0) v
    ∙ ap (λ (b : Bool). get_or (if b then fresh image x.0 else value_of x.0 store) 0 0)
    (lock_chosen map bank x.0 x.1 store filling)
    ∙ byte_after map bank x.0 x.1 x.2 store image (locks_bank rs store filling bank)

-- staged bytes keep their rule in a store in which their value is still unlocked
staged_through : (rs : List Record) (store after : List ℕ) (g : Staged) → staged_holds rs store g ≡ true
    → ((g.count ≡ 0 → ⊥) → (r : Record) → StagedOf rs store g r → unlocked rs after r ≡ true)
    → staged_holds rs after g ≡ true
unfolding staged_holds staged_in
staged_through rs store after g e opens =
    ⊎_elim (λ q. rw q.0 q.1)
    (λ q.
    let n = eqb-false g.count 0 q.0 in
    let x = staged_said rs store g e n in
    let t = x.1 in
    rw (
      q.0,
      t.begins,
      lt-ltb g.count x.0.width t.not_all,
      t.writes,
      le-leb 2 x.0.width (omega (arith, t.not_all)),
      opens n x.0 t,
    ) t.zero)
    (chosen (eqb g.count 0) e)

pub fill_keeps_rule : FillKeepsRule
unfolding unlocked
fill_keeps_rule map store image s filling g e c =
    let rs = records_of map in
    let after = filled_of (records_of map) store image filling in
    staged_through rs store after g e
    (λ n r t.
    let h = holder_at g.bank g.first rs r (beginner_at rs g.bank g.first r t.begins).0 in
    let b = (holds_is r g.bank g.first h.1).same_bank in
    let not-locked : locks_bank rs store filling r.bank ≡ false =
    ⊎_elim (λ z. absurd (n z)) (λ z. ap (locks_bank rs store filling) b ∙ z) c in
    let same : lock_byte rs after r.bank ≡ lock_byte rs store r.bank =
    fill_locks map store image s filling r.bank (writable_bank map s.banks r h.0 t.writes)
    ((mapped_member map r.bank).1 (r, h.0, refl))
    ∙ rw not-locked in
    ap (λ (x : ℕ). eqb r.lockable 0 || eqb x 0x55) same ∙ t.opens)
