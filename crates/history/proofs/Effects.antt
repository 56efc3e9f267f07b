-- What a deed does to the unit's staged bytes and to its store, seen from one value.
-- Assumes nothing.
use mathlib.Core.Path.{◌≡◌, refl, sym, ◌∙◌}
use mathlib.Core.Bool.{Bool, true, false, ◌&&◌}
use mathlib.Core.List.{List, [], ◌∷◌}
use Prim.Native.Nat.{ℕ, ◌<◌}
use native.Mathlib.Omega.{arith}
use lib.Dec.{ltb, eqb}
use lib.ListN.{length}
use borrow.Author.Tests.{eq-eqb}
use Rattle.std.specs.Prelude.{if◌then◌else◌}
use Rattle.records.specs.Map.{records_of, writable}
use Rattle.records.specs.Facts.{Member}
use Rattle.records.specs.declared.record.Record.{Record}
use Rattle.records.proofs.Members.{member_fields}
use Rattle.banks.specs.Values.{value_of, lock_byte}
use Rattle.banks.specs.Facts.{Stands, LockRecord}
use Rattle.banks.proofs.ForHistory.{lock_record, is_lock_lem, lock_value}
use Rattle.memory.specs.Rules.{staged_holds}
use Rattle.memory.specs.Staged.{none_staged, unlocked}
use Rattle.memory.specs.Filled.{selects, filled_of}
use Rattle.memory.specs.declared.staged.Staged.{Staged}
use Rattle.memory.specs.declared.filled.Filling.TheVariants.{PowerOn, Reset}
use Rattle.memory.proofs.Changes.{write_changes_only}
use Rattle.memory.proofs.Fills.{fill_changes_only}
use Rattle.memory.proofs.ForHistoryFilled.{fresh_lock, reset_value, power-value, filled_stays}
use Rattle.memory.proofs.ForHistoryStaged.{staged_for, none_staged_for, taking, unfinished, unfinished_short, finished}
use Rattle.memory.proofs.ForHistoryStaged.{staged_short, write_seen, write_stays, unlocked_by}
use Rattle.history.specs.Deeds.{Deed, opens, resets, puts, spares, breaks, powers}
use Rattle.history.specs.Lock.{lock_by}
use Rattle.history.proofs.Agree.{staged_by, store_by}
use Rattle.history.proofs.Progress.{ripe_by, value_by}

none_length : (bs : List ℕ) → length bs < 1 → bs ≡ []
none_length [] h = refl
none_length (b ∷ bs) h = absurd (omega arith)

module _ {map : List ℕ} {bank : ℕ} {r : Record} (K : LockRecord map bank r) where
  -- nothing of a lock byte is staged
  pub none_of_lock : (bs : List ℕ) → length bs < r.width → bs ≡ []
  none_of_lock bs h = none_length bs (rw K.its_width at h)

  -- the lock record's value moves as the grammar's lock byte
  pub lock_step : (image : List ℕ) (byte : ℕ) (d : Deed)
      → value_by image r (byte ∷ []) [] true byte d ≡ lock_by r.bank byte d ∷ []
  unfolding value_by lock_by taking finished
  lock_step image byte opens = refl
  lock_step image byte (resets dtr0) = rw (fresh_lock image r (is_lock_lem K))
      (go (selects dtr0 r.bank && eqb byte 0x55))
    where
      go : (b : Bool) → (if b then 0xFF ∷ [] else byte ∷ []) ≡ (if b then 0xFF else byte) ∷ []
      go true = refl
      go false = refl
  lock_step image byte (puts k location c) = rw (K.its_first, K.its_width) (go (eqb r.bank k) (eqb 0x02 location))
    where
      go : (y z : Bool)
          → (if ltb (length (if y && true then if z then c ∷ [] else [] else [])) 1 then byte ∷ []
          else if y && true then if z then c ∷ [] else [] else []) ≡ (if y && z then c else byte) ∷ []
      go true true = refl
      go true false = refl
      go false z = refl
  lock_step image byte spares = refl
  lock_step image byte breaks = refl
  lock_step image byte powers = rw (fresh_lock image r (is_lock_lem K), eq-eqb r.kind 2 K.its_kind)

module _ (map image store : List ℕ) (A : Stands map store (length image)) where
  -- the lock byte of v's bank, in a store that is as long: the one byte of the lock record's value
  lock_read : (v : Record) → Member v map → writable v ≡ true → (after : List ℕ) → length after ≡ length store
      → (r : Record) × LockRecord map v.bank r × (value_of r after ≡ lock_byte (records_of map) after v.bank ∷ [])
  lock_read v m wr after l =
      let L = lock_record map A.in_order A.banks v m wr in
      (L.0, L.1, lock_value map after (rw l A.in_place) v.bank L.0 L.1)

  first_of : (after : List ℕ) (bank : ℕ) (bs : List ℕ) (b : ℕ) → bs ≡ lock_byte (records_of map) after bank ∷ []
      → bs ≡ b ∷ []
      → lock_byte (records_of map) after bank ≡ b
  first_of after bank bs b e f = cc

  -- after a power-on the lock bytes are 0xFF
  pub lock_shut : (v : Record) → Member v map → writable v ≡ true
      → lock_byte (records_of map) (filled_of (records_of map) store image PowerOn) v.bank ≡ 0xFF
  lock_shut v m wr =
      let F : List ℕ = filled_of (records_of map) store image PowerOn in
      let L = lock_read v m wr F (fill_changes_only map store image A.in_place A.as_long PowerOn).as_long in
      let K : LockRecord map v.bank L.0 = L.1 in
      let f : value_of L.0 F ≡ 0xFF ∷ [] =
      power-value map store image A.in_place A.as_long L.0 K.member
      ∙ rw (eq-eqb L.0.kind 2 K.its_kind) (fresh_lock image L.0 (is_lock_lem K)) in
      first_of F v.bank (value_of L.0 F) 0xFF L.2 f

  module _ (g : Staged) (holding : staged_holds (records_of map) store g ≡ true) where
    deed_length : (d : Deed) → length (store_by (records_of map) image store g d) ≡ length store
    unfolding store_by
    deed_length opens = refl
    deed_length (resets dtr0) = (fill_changes_only map store image A.in_place A.as_long (Reset dtr0)).as_long
    deed_length (puts bank location byte) = (write_changes_only map store
        A.in_place g holding bank location byte).as_long
    deed_length spares = refl
    deed_length breaks = refl
    deed_length powers = (fill_changes_only map store image A.in_place A.as_long PowerOn).as_long

    module _ (v : Record) (m : Member v map) where
      -- a value that is not writable stays
      pub deed_rest : writable v ≡ false → (d : Deed)
          → value_of v (store_by (records_of map) image store g d) ≡ value_of v store
      unfolding store_by
      deed_rest wr opens = refl
      deed_rest wr (resets dtr0) = filled_stays map store image A.in_place A.as_long v m (Reset dtr0) wr
      deed_rest wr (puts bank location byte) = write_stays map store A.in_place g holding bank location byte v m wr
      deed_rest wr spares = refl
      deed_rest wr breaks = refl
      deed_rest wr powers = filled_stays map store image A.in_place A.as_long v m PowerOn wr

      none : staged_for v none_staged ≡ unfinished v []
      none = none_staged_for v ∙ sym (unfinished_short v [] (member_fields map A.in_order v m).some_width)

      pub deed_staged : writable v ≡ true → (d : Deed)
          → staged_for v (staged_by (records_of map) store g d)
          ≡ unfinished v (ripe_by v (staged_for v g) (unlocked (records_of map) store v) d)
      unfolding staged_by ripe_by
      deed_staged wr opens = none
      deed_staged wr (resets dtr0) = none
      deed_staged wr (puts bank location byte) = (write_seen map store
          A.in_place g holding bank location byte v m wr).staged
      deed_staged wr spares = sym (unfinished_short v (staged_for v g)
          (staged_short map store A.in_place g holding v m))
      deed_staged wr breaks = none
      deed_staged wr powers = none

      pub deed_value : writable v ≡ true → (d : Deed)
          → value_of v (store_by (records_of map) image store g d)
          ≡ value_by image v (value_of v store) (staged_for v g) (unlocked (records_of map) store v)
          (lock_byte (records_of map) store v.bank) d
      unfolding store_by value_by
      deed_value wr opens = refl
      deed_value wr (resets dtr0) = reset_value map store image A.in_place A.as_long v m dtr0 wr
      deed_value wr (puts bank location byte) = (write_seen map store
          A.in_place g holding bank location byte v m wr).stored
      deed_value wr spares = refl
      deed_value wr breaks = refl
      deed_value wr powers = power-value map store image A.in_place A.as_long v m

    pub deed_lock : (v : Record) → Member v map → writable v ≡ true → (d : Deed)
        → lock_byte (records_of map) (store_by (records_of map) image store g d) v.bank
        ≡ lock_by v.bank (lock_byte (records_of map) store v.bank) d
    deed_lock v m wr d =
        let after : List ℕ = store_by (records_of map) image store g d in
        let L = lock_read v m wr after (deed_length d) in
        let r : Record = L.0 in
        let K : LockRecord map v.bank r = L.1 in
        let byte : ℕ = lock_byte (records_of map) store v.bank in
        let one : value_of r store ≡ byte ∷ [] = lock_value map store A.in_place v.bank r K in
        let w : writable r ≡ true = rw K.its_kind in
        let n : staged_for r g ≡ [] = none_of_lock K (staged_for r g)
        (staged_short map store A.in_place g holding r K.member) in
        let u : unlocked (records_of map) store r ≡ true = unlocked_by (records_of map) store r ∙ rw K.no_lock in
        let e : value_of r after
        ≡ value_by image r (value_of r store) (staged_for r g) (unlocked (records_of map) store r)
        (lock_byte (records_of map) store r.bank) d = deed_value r K.member w d in
        let f : value_of r after ≡ lock_by v.bank byte d ∷ [] = (rw (one, n, u, K.its_bank) at e)
        ∙ lock_step K image byte d ∙ rw K.its_bank in
        first_of after v.bank (value_of r after) (lock_by v.bank byte d) L.2 f
