-- Values in the store: one that is put, what stays, and that the checks go on holding.
-- Assumes nothing.
use mathlib.Core.Path.{◌≡◌, refl, ap, sym, ◌∙◌}
use mathlib.Core.Logic.{◌⊎◌, inl, inr, ⊎_elim}
use mathlib.Core.Bool.{Bool, true, false, not, ◌||◌}
use mathlib.Core.List.{List}
use Prim.Native.Nat.{ℕ, ◌+◌, ◌≤◌, ◌<◌}
use native.Mathlib.Omega.{arith}
use lib.ListN.{length, get_or}
use Rattle.laws.specs.Parts.{part, put}
use Rattle.laws.proofs.Members.{every_same}
use Rattle.laws.proofs.Parts.{part_stays, part_put, length_put}
use Rattle.laws.proofs.PartBytes.{first_byte, byte_stays}
use Rattle.records.specs.Map.{records_of, places_end}
use Rattle.records.specs.Lookup.{holder}
use Rattle.records.specs.Facts.{Member}
use Rattle.records.specs.declared.record.Record.{Record}
use Rattle.records.specs.declared.holder.Why.{Why}
use Rattle.std.specs.Prelude.{Result, Ok, Err}
use Rattle.records.proofs.Members.{member_fields}
use Rattle.records.proofs.Locations.{holder_at}
use Rattle.banks.specs.Rules.{placed, is_head, head_byte_holds, head_holds, head_bytes_hold, check_number}
use Rattle.banks.specs.Values.{value_of, put_value, byte_at, lock_byte}
use Rattle.banks.specs.Facts.{Apart}
use Rattle.banks.specs.Promises.{ValuePut, CheckStays, CheckStaysPut}
use Rattle.banks.proofs.Places.{placed_ordered, member_inside, members_apart}
use Rattle.banks.proofs.HeadsAndLocks.{single_head}

-- the byte at a value's place is the first of its bytes
value_byte : (r : Record) (store : List ℕ) → 0 < r.width → get_or (value_of r store) 0 0 ≡ get_or store r.offset 0
unfolding value_of
value_byte r store h = first_byte r.offset r.width store h

module _ (map store bytes : List ℕ) (r : Record) (p : placed map (length store) ≡ true) (m : Member r map)
    (w : length bytes ≡ r.width) where
  there : value_of r (put_value r bytes store) ≡ bytes
  unfolding value_of put_value
  there =
      let h = member_inside map (length store) p r m in
      ap (λ (n : ℕ). part r.offset n (put r.offset bytes store)) (sym w) ∙ part_put r.offset bytes store
      (omega arith)

  others : (s : Record) → Member s map → (s ≡ r → ⊥) → value_of s (put_value r bytes store) ≡ value_of s store
  unfolding value_of put_value
  others s k n =
      part_stays s.offset s.width bytes store r.offset
      (⊎_elim (λ e. absurd (n e)) (away s) (members_apart map (length store) p s r k m))
    where
      away : (s : Record) → Apart s r → (r.offset + length bytes ≤ s.offset) ⊎ (s.offset + s.width ≤ r.offset)
      away s (inl h) = inr h
      away s (inr h) = inl (omega arith)

  unmapped : (j : ℕ) → ((s : Record) → Member s map → (j < s.offset) ⊎ (places_end s ≤ j)) → get_or
      (put_value r bytes store) j 0 ≡ get_or store j 0
  unfolding put_value
  unmapped j h = byte_stays r.offset j bytes store (⊎_elim (λ k. inl k) (λ k. inr (omega arith)) (h r m))

  locks : (bank : ℕ) → (holder (records_of map) bank 0x02 ≡ Ok r → ⊥) → lock_byte (records_of map)
      (put_value r bytes store) bank ≡ lock_byte (records_of map) store bank
  unfolding lock_byte byte_at
  locks bank n = go (holder (records_of map) bank 0x02) refl
    where
      go : (f : Result Record Why) → holder (records_of map) bank 0x02 ≡ f → byte_at (put_value r bytes store) f ≡ byte_at store f
      go (Err w) e = refl
      go (Ok l) e =
          let k = (holder_at bank 0x02 (records_of map) l e).0 in
          let f = member_fields map (placed_ordered map (length store) p) l k in
          sym (value_byte l (put_value r bytes store) (omega arith))
          ∙ ap (λ (v : List ℕ). get_or v 0 0) (others l k (λ q. n (e ∙ ap Ok q))) ∙ value_byte l store (omega arith)

pub value_put : ValuePut
unfolding put_value
value_put map store bytes r p m w =
    record {
      there = there map store bytes r p m w;
      others = others map store bytes r p m w;
      unmapped = unmapped map store bytes r p m w;
      locks = locks map store bytes r p m w;
      as_long = length_put r.offset bytes store;
    }

-- rule 11 reads the store only at 0x00
head_stays : (rs : List Record) (s t : List ℕ) (r : Record) → (is_head r ≡ true → value_of r s ≡ value_of r t)
    → head_holds rs s r ≡ head_holds rs t r
unfolding head_holds
head_stays rs s t r h = go (is_head r) refl
  where
    go : (b : Bool) → is_head r ≡ b → (not b || head_byte_holds rs r.bank
        (get_or s r.offset 0)) ≡ (not b || head_byte_holds rs r.bank (get_or t r.offset 0))
    go false e = refl
    go true e =
        let w = (single_head r e).1 in
        ap (head_byte_holds rs r.bank)
        (sym (value_byte r s (omega arith)) ∙ ap (λ (v : List ℕ). get_or v 0 0) (h e) ∙ value_byte r t (omega arith))

pub check_stays : CheckStays
unfolding check_number head_bytes_hold
check_stays map s t size n h =
    rw (
      n,
      every_same (head_holds (records_of map) s) (head_holds (records_of map) t) (records_of map)
          (λ r m. head_stays (records_of map) s t r (h r m)),
    )

pub check_stays_put : CheckStaysPut
check_stays_put map store bytes size r p m w k =
    let put = value_put map store bytes r p m w in
    check_stays map (put_value r bytes store) store size put.as_long
    (λ s i h. put.others s i (λ e. k (ap (λ (x : Record). x.first) (sym e) ∙ (single_head s h).0)))
