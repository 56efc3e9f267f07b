-- Rule 11: a bank's records at 0x00 and 0x02, as the look-up meets them.
-- Assumes nothing.
use mathlib.Core.Path.{◌≡◌, ap, sym, ◌∙◌}
use mathlib.Core.Logic.{⊎_elim}
use mathlib.Core.Bool.{Bool, true, false, not, ◌&&◌, false≢true}
use mathlib.Core.List.{List}
use Prim.Native.Nat.{ℕ}
use native.Mathlib.Omega.{arith}
use borrow.Author.Tests.{eqb-true, eqb-false, eq-eqb, ne_eqb}
use lib.Dec.{eqb}
use Rattle.std.specs.Prelude.{if◌then◌else◌, Ok, Err}
use Rattle.laws.proofs.Tests.{both, and_of, clash, denied}
use Rattle.laws.proofs.Items.{every_at}
use Rattle.laws.proofs.Sides.{and_left, and_right, chosen, same_test}
use Rattle.laws.proofs.Members.{some_at, some_of}
use Rattle.records.specs.Map.{records_of, writable}
use Rattle.records.specs.Order.{ordered}
use Rattle.records.specs.Lookup.{holder}
use Rattle.records.specs.Facts.{Member, Holds}
use Rattle.records.specs.declared.record.Record.{Record}
use Rattle.records.specs.declared.holder.Why.{Why}
use Rattle.records.proofs.Locations.{holds_is, is_holding, holder_at, holder_none, holder_hit, mapped_member}
use Rattle.banks.specs.Rules.{is_head, is_lock, bank_has, bank_holds, banks_hold}
use Rattle.banks.specs.Facts.{LockRecord}
use Rattle.banks.specs.Promises.{HasLock, WritableBank}

-- a test that only a record of width 1 at that location passes
abbrev Single : (Record → Bool) → ℕ → Type 0
Single such location = (r : Record) → such r ≡ true → (r.first ≡ location) × (r.width ≡ 1)

pub single_head : Single is_head 0x00
single_head r e = (search (and_left, and_right, eqb-true), search (and_left, and_right, eqb-true))

-- the byte at 0x00 is not writable
pub head_fixed : (r : Record) → is_head r ≡ true → writable r ≡ false
head_fixed r e = let rom : r.kind ≡ 0 = search (and_left, and_right, eqb-true) in rw rom

pub single_lock : Single is_lock 0x02
single_lock r e = (search (and_left, and_right, eqb-true), search (and_left, and_right, eqb-true))

module _ (such : Record → Bool) (location : ℕ) (single : Single such location) (map : List ℕ) (bank : ℕ) where
  -- the bank's record that passes the test, and that it holds the location
  pub has_this : bank_has such (records_of map) bank ≡ true
      → (r : Record) × Member r map × Holds r bank location × (such r ≡ true)
  has_this e =
      let x = some_at (λ r. eqb r.bank bank && such r) (records_of map) e in
      let b = both (eqb x.0.bank bank) (such x.0) x.2 in
      let s = single x.0 b.1 in
      let f = s.0 in
      let w = s.1 in
      (x.0, x.1, record { same_bank = eqb-true x.0.bank bank b.0; from = omega arith; to = omega arith }, b.1)

  -- it is the one that the look-up finds there
  pub has_at : ordered map ≡ true → (r : Record) → holder (records_of map) bank location ≡ Ok r
      → bank_has such (records_of map) bank ≡ such r
  has_at o r e =
      let k = holder_at bank location (records_of map) r e in
      same_test (bank_has such (records_of map) bank) (such r)
      (λ t.
      let x = has_this t in
      let same : x.0 ≡ r = cc (holder_hit map o bank location x.0 x.1 x.2) in
      ap such (sym same) ∙ x.3)
      (λ t.
      some_of (λ x. eqb x.bank bank && such x) (records_of map) r k.0
      (and_of (eqb r.bank bank) (such r) (eq-eqb r.bank bank (holds_is r bank location k.1).same_bank) t))

  pub has_none : (w : Why) → holder (records_of map) bank location ≡ Err w → bank_has such (records_of map) bank ≡ false
  has_none w e =
      same_test (bank_has such (records_of map) bank) false
      (λ t.
      let x = has_this t in
      sym (holder_none bank location (records_of map) w e x.0 x.1) ∙ is_holding x.0 bank location x.2)
      (λ t. absurd (false≢true t))

lock_is : (map : List ℕ) (bank : ℕ) (r : Record) → Member r map → r.bank ≡ bank → is_lock r ≡ true
    → LockRecord map bank r
lock_is map bank r m b t =
    record {
      member = m;
      its_bank = b;
      its_first = search (and_left, and_right, eqb-true);
      its_width = search (and_left, and_right, eqb-true);
      its_kind = search (and_left, and_right, eqb-true);
      no_lock = search (and_left, and_right, eqb-true);
    }

-- what rule 11 says of the bank of a record
bank_said : (map : List ℕ) → banks_hold (records_of map) ≡ true → (r : Record) → Member r map
    → (if eqb r.bank 0 then not (writable r) else bank_has is_lock (records_of map) r.bank) ≡ true
unfolding banks_hold bank_holds
bank_said map b r m =
    and_right (bank_has is_head (records_of map) r.bank) _
    (every_at (bank_holds (records_of map)) (records_of map) b r m)

pub has_lock : HasLock
has_lock map o b bank h e =
    let x = (mapped_member map bank).0 e in
    let other : (x.0.bank ≡ 0 → ⊥) = λ z. omega (arith, x.2) in
    let some = rw (ne_eqb x.0.bank 0 other, x.2) at (bank_said map b x.0 x.1) in
    let l = has_this is_lock 0x02 single_lock map bank some in
    (l.0, lock_is map bank l.0 l.1 l.2.same_bank l.3, holder_hit map o bank 0x02 l.0 l.1 l.2)

pub writable_bank : WritableBank
writable_bank map b r m w =
    ⊎_elim
    (λ q. clash (writable r) w (denied (writable r) q.1))
    (λ q. let some : (r.bank ≡ 0 → ⊥) = eqb-false r.bank 0 q.0 in omega arith)
    (chosen (eqb r.bank 0) (bank_said map b r m))
