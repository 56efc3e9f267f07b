-- What is told of a reset tells every byte: those of each value, and those under no record.
-- Assumes nothing.
use Prim.Native.Nat.{ℕ, ◌+◌, ◌-◌, ◌≤◌, ◌<◌}
use mathlib.Core.Path.{◌≡◌, refl, ap, sym, ◌∙◌}
use mathlib.Core.Logic.{◌⊎◌, inl, inr}
use mathlib.Core.Bool.{Bool, true, false}
use mathlib.Core.List.{List, [], ◌∷◌, Memᴰ}
use native.Mathlib.Omega.{arith}
use borrow.Author.Tests.{eqb-true, eqb-false, ltb-true, ltb-false}
use lib.Dec.{eqb, ltb}
use lib.ListN.{length, get_or}
use lib.Seq.{get_or-take, get_or-drop}
use Rattle.std.proofs.lemmas.Grind.{same_number_lists}
use Rattle.std.specs.Prelude.{Ok}
use Rattle.laws.specs.Parts.{part}
use Rattle.laws.proofs.Parts.{length_part}
use Rattle.records.specs.Map.{records_of, places_end}
use Rattle.records.specs.Lookup.{holder}
use Rattle.records.specs.Facts.{Member}
use Rattle.records.specs.declared.record.Record.{Record}
use Rattle.records.proofs.Members.{member_fields}
use Rattle.records.proofs.Locations.{holder_hit, mapped_member}
use Rattle.banks.specs.Values.{value_of, lock_byte}
use Rattle.banks.specs.Facts.{Stands, LockRecord}
use Rattle.banks.proofs.Places.{member_inside}
use Rattle.banks.proofs.HeadsAndLocks.{has_lock}
use Rattle.memory.specs.Reset.{BankReset, StoreReset, ResetSettled}
use Rattle.memory.proofs.Locks.{lock_byte_lem}

-- ---- lists

same_or_not : (m n : ℕ) → (m ≡ n) ⊎ (m ≡ n → ⊥)
same_or_not m n = go (eqb m n) refl
  where
    go : (b : Bool) → eqb m n ≡ b → (m ≡ n) ⊎ (m ≡ n → ⊥)
    go true e = inl (eqb-true m n e)
    go false e = inr (eqb-false m n e)

single : (bs : List ℕ) → length bs ≡ 1 → bs ≡ get_or bs 0 0 ∷ []
single [] l = absurd (omega arith)
single (b ∷ []) l = refl
single (b ∷ c ∷ bs) l = absurd (omega arith)

-- a byte of a value
value_byte : (r : Record) (store : List ℕ) (j : ℕ) → r.offset ≤ j → j < places_end r
    → get_or (value_of r store) (j - r.offset) 0 ≡ get_or store j 0
unfolding value_of part
value_byte r store j h k =
    let back : r.offset + (j - r.offset) ≡ j = omega arith in
    get_or-take r.width _ (j - r.offset) 0 (omega arith) ∙ get_or-drop r.offset store (j - r.offset) 0
    ∙ ap (λ (i : ℕ). get_or store i 0) back

-- ---- a byte is a value's, or under no record

record Under (rs : List Record) (j : ℕ) : Type 0 where
  value : Record
  member : Memᴰ value rs
  from : value.offset ≤ j
  to : j < places_end value

abbrev Clear : List Record → ℕ → Type 0
Clear rs j = (r : Record) → Memᴰ r rs → (j < r.offset) ⊎ (places_end r ≤ j)

clear_more : (r : Record) (rs : List Record) (j : ℕ) → (j < r.offset) ⊎ (places_end r ≤ j) → Clear rs j
    → Clear (r ∷ rs) j
clear_more r rs j h c q (Memᴰ.head e) = rw e h
clear_more r rs j h c q (Memᴰ.tail i) = c q i

under_more : (r : Record) (rs : List Record) (j : ℕ) → Under rs j → Under (r ∷ rs) j
under_more r rs j u = record { value = u.value; member = Memᴰ.tail u.member; from = u.from; to = u.to }

under_or_clear : (rs : List Record) (j : ℕ) → Under rs j ⊎ Clear rs j
under_or_clear [] j = inr (λ r. elim [ ])
under_or_clear (r ∷ rs) j = go (ltb j r.offset) refl (ltb j (places_end r)) refl (under_or_clear rs j)
  where
    go : (b : Bool) → ltb j r.offset ≡ b → (c : Bool) → ltb j (places_end r) ≡ c → Under rs j ⊎ Clear rs j
        → Under (r ∷ rs) j ⊎ Clear (r ∷ rs) j
    go b p c q (inl u) = inl (under_more r rs j u)
    go true p c q (inr n) = inr (clear_more r rs j (inl (ltb-true j r.offset p)) n)
    go false p false q (inr n) = inr (clear_more r rs j (inr (ltb-false j (places_end r) q)) n)
    go false p true q (inr n) =
        inl (record {
          value = r;
          member = Memᴰ.head refl;
          from = ltb-false j r.offset p;
          to = ltb-true j (places_end r) q;
        })

module _ (map store image : List ℕ) (S : Stands map store (length image)) (dtr0 : ℕ) where
  abbrev rs : List Record
  rs = records_of map

  abbrev Tells : List ℕ → Type 0
  Tells after = StoreReset map store image dtr0 after

  -- every store that is told has these bytes of the value
  record Told (r : Record) : Type 0 where
    bytes : List ℕ
    are : (after : List ℕ) → Tells after → value_of r after ≡ bytes

  -- the value at 0x02 of a bank from 1 on is its lock byte
  lock_value : (r : Record) → Member r map → 1 ≤ r.bank → r.first ≡ 0x02 → (after : List ℕ) → Tells after
      → lock_byte rs after r.bank ≡ 0xFF → value_of r after ≡ 0xFF ∷ []
  unfolding value_of
  lock_value r m h e after t l =
      let f = member_fields map S.in_order r m in
      let x = has_lock map S.in_order S.banks r.bank h ((mapped_member map r.bank).1 (r, m, refl)) in
      let here : holder rs r.bank 0x02 ≡ Ok r =
      holder_hit map S.in_order r.bank 0x02 r m
      (record { same_bank = refl; from = omega arith; to = omega (arith, f.some_width) }) in
      let there : holder rs r.bank 0x02 ≡ Ok x.0 = x.2 in
      let same : x.0 ≡ r = cc in
      let q : LockRecord map r.bank r = rw same at x.1 in
      let n = member_inside map (length store) S.in_place r m in
      let w = t.as_long in
      let one : length (value_of r after) ≡ 1 =
      length_part r.offset r.width after (omega arith) ∙ q.its_width in
      single (value_of r after) one
      ∙ ap (λ (b : ℕ). b ∷ []) (sym (lock_byte_lem map r.bank r q here after) ∙ l)

  -- a value of a bank that is reset
  bank_told : (r : Record) → Member r map → 1 ≤ r.bank
      → ((after : List ℕ) → Tells after → BankReset map image after r.bank) → Told r
  bank_told r m h f = go (same_or_not r.first 0x02) (same_or_not r.kind 2) (same_or_not r.kind 4)
    where
      go : (r.first ≡ 0x02) ⊎ (r.first ≡ 0x02 → ⊥) → (r.kind ≡ 2) ⊎ (r.kind ≡ 2 → ⊥)
          → (r.kind ≡ 4) ⊎ (r.kind ≡ 4 → ⊥) → Told r
      go (inl e) k w =
          record { bytes = 0xFF ∷ []; are = λ after t. lock_value r m h e after t (f after t).lock }
      go (inr n) (inl k) w = record { bytes = value_of r image; are = λ after t. (f after t).ram r m refl n k }
      go (inr n) (inr k) (inl w) = record { bytes = value_of r image; are = λ after t. (f after t).nvm r m refl n w }
      go (inr n) (inr k) (inr w) = record { bytes = value_of r store; are = λ after t. t.read_only r m k w }

  told : (r : Record) → Member r map → Told r
  told r m =
      go (same_or_not (lock_byte rs store r.bank) 0x55) (same_or_not r.bank 0) (same_or_not dtr0 0)
      (same_or_not r.bank dtr0)
    where
      stays : ((after : List ℕ) → Tells after → value_of r after ≡ value_of r store) → Told r
      stays f = record { bytes = value_of r store; are = f }

      go : (lock_byte rs store r.bank ≡ 0x55) ⊎ (lock_byte rs store r.bank ≡ 0x55 → ⊥)
          → (r.bank ≡ 0) ⊎ (r.bank ≡ 0 → ⊥) → (dtr0 ≡ 0) ⊎ (dtr0 ≡ 0 → ⊥)
          → (r.bank ≡ dtr0) ⊎ (r.bank ≡ dtr0 → ⊥) → Told r
      go (inr n) z d b = stays (λ after t. t.locked_stays r.bank n r m refl)
      go (inl l) (inl z) d b = stays (λ after t. t.bank_0_stays r m z)
      go (inl l) (inr z) (inl d) b =
          bank_told r m (omega arith) (λ after t. t.each_bank d r.bank (omega arith) l)
      go (inl l) (inr z) (inr d) (inl b) =
          bank_told r m (omega arith) (λ after t. rw b (t.one_bank (omega arith) (rw (← b) l)))
      go (inl l) (inr z) (inr d) (inr b) = stays (λ after t. t.others_stay (omega arith) r.bank b r m refl)

  same_byte : (a b : List ℕ) → Tells a → Tells b → (j : ℕ) → Under rs j ⊎ Clear rs j → get_or a j 0 ≡ get_or b j 0
  same_byte a b A B j (inl u) =
      let t = told u.value u.member in
      sym (value_byte u.value a j u.from u.to)
      ∙ ap (λ (bs : List ℕ). get_or bs (j - u.value.offset) 0) (t.are a A ∙ sym (t.are b B))
      ∙ value_byte u.value b j u.from u.to
  same_byte a b A B j (inr n) = A.unmapped j n ∙ sym (B.unmapped j n)

pub reset_settled : ResetSettled
reset_settled map store image S dtr0 a b A B =
    same_number_lists a b (A.as_long ∙ sym B.as_long)
    (λ j h. same_byte map store image S dtr0 a b A B j (under_or_clear (records_of map) j))
