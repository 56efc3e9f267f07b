-- The store after a fill, value by value.
-- Assumes nothing.
use Prim.Native.Nat.{ℕ, ◌≤◌, ◌<◌}
use mathlib.Core.Path.{◌≡◌, refl, ap, sym, ◌∙◌}
use mathlib.Core.Logic.{◌⊎◌, inl, inr, ⊎_elim}
use mathlib.Core.Bool.{Bool, true, false}
use mathlib.Core.List.{List, [], ◌∷◌, Memᴰ}
use native.Mathlib.Omega.{arith}
use borrow.Author.Tests.{ne_eqb}
use lib.Dec.{eqb}
use lib.ListN.{length, get_or}
use Rattle.std.specs.Prelude.{if◌then◌else◌}
use Rattle.laws.proofs.Tests.{if_by, clash}
use Rattle.laws.proofs.Choosing.{if_yes, if_no, refuted}
use Rattle.laws.proofs.Sides.{and_left, or_left}
use Rattle.laws.proofs.Parts.{length_put, length_part}
use Rattle.records.specs.Map.{records_of, writable, places_end}
use Rattle.records.specs.Facts.{Member}
use Rattle.records.specs.declared.record.Record.{Record}
use Rattle.records.proofs.Members.{member_fields}
use Rattle.banks.specs.Rules.{placed, is_lock}
use Rattle.banks.specs.Values.{value_of, put_value}
use Rattle.banks.specs.Facts.{Apart, PutLeaves}
use Rattle.banks.proofs.Places.{placed_ordered, member_inside, members_apart}
use Rattle.banks.proofs.HeadsAndLocks.{head_fixed, single_lock}
use Rattle.banks.proofs.Values.{value_put, check_stays}
use Rattle.memory.specs.Filled.{chosen, fresh, filled_by, filled_of}
use Rattle.memory.specs.Promises.{ChangesOnly, FillingSettled, FillValue, FillChangesOnly, PowerOnKeeps}
use Rattle.memory.specs.declared.filled.Filling.{Filling}
use Rattle.memory.specs.declared.filled.Filling.TheVariants.{PowerOn, Reset}

pub filling_settled : FillingSettled
filling_settled PowerOn PowerOn n v = refl
filling_settled PowerOn (Reset d) n v = absurd (omega arith)
filling_settled (Reset d) PowerOn n v = absurd (omega arith)
filling_settled (Reset d) (Reset e) n v = cc

-- only a writable value is chosen
pub chosen_writable : (rs : List Record) (store : List ℕ) (filling : Filling) (r : Record)
    → chosen rs store filling r ≡ true → writable r ≡ true
unfolding chosen
chosen_writable rs store PowerOn r e = or_left (eqb r.kind 2) (eqb r.kind 4) e
chosen_writable rs store (Reset dtr0) r e = search (and_left)

-- a lock byte becomes 0xFF, another value takes the reset image
pub lock_fresh : (image : List ℕ) (r : Record) → is_lock r ≡ true → fresh image r ≡ 0xFF ∷ []
unfolding fresh
lock_fresh image r e = sym (if_yes (is_lock r) (value_of r image) {x = 0xFF ∷ []} {z = 0xFF ∷ []} e refl)

pub other_fresh : (image : List ℕ) (r : Record) → is_lock r ≡ false → fresh image r ≡ value_of r image
unfolding fresh
other_fresh image r e = sym (if_no (is_lock r) (0xFF ∷ []) e refl)

module _ (map store image : List ℕ) (p : placed map (length store) ≡ true) (k : length image ≡ length store)
    (such : Record → Bool) where
  fresh_length : (r : Record) → Member r map → length (fresh image r) ≡ r.width
  unfolding value_of
  fresh_length r m = go (is_lock r) refl
    where
      go : (b : Bool) → is_lock r ≡ b → length (fresh image r) ≡ r.width
      go true e = ap length (lock_fresh image r e) ∙ sym (single_lock r e).1
      go false e =
          let h = member_inside map (length store) p r m in
          ap length (other_fresh image r e) ∙ length_part r.offset r.width image (omega arith)

  -- the records of a part of the map
  abbrev Some : List Record → Type 0
  Some rs = (r : Record) → Memᴰ r rs → Member r map

  abbrev filled : List Record → List ℕ
  filled rs = filled_by such image store rs

  pub filled_length : (rs : List Record) → length (filled rs) ≡ length store
  unfolding put_value
  filled_length [] = refl
  filled_length (r ∷ rs) =
      if_by (λ (s : List ℕ). length s ≡ length store) (such r)
      (λ t. length_put r.offset (fresh image r) (filled rs) ∙ filled_length rs) (λ t. filled_length rs)

  put : (r : Record) (rs : List Record) → Member r map → PutLeaves map (filled rs) (fresh image r) r
  put r rs m =
      value_put map (filled rs) (fresh image r) r (ap (placed map) (filled_length rs) ∙ p) m (fresh_length r m)

  -- a value that is not chosen stays
  stays : (v : Record) → Member v map → such v ≡ false → (rs : List Record) → Some rs
      → value_of v (filled rs) ≡ value_of v store
  stays v m n [] some = refl
  stays v m n (r ∷ rs) some =
      let rest = stays v m n rs (λ q i. some q (Memᴰ.tail i)) in
      if_by (λ (s : List ℕ). value_of v s ≡ value_of v store) (such r)
      (λ t. (put r rs (some r (Memᴰ.head refl))).others v m (λ e. clash (such v) (ap such e ∙ t) n) ∙ rest)
      (λ t. rest)

  -- a value that is chosen takes its fresh bytes
  anew : (v : Record) → such v ≡ true → (rs : List Record) → Some rs → Memᴰ v rs
      → value_of v (filled rs) ≡ fresh image v
  anew v c [] some x'' = elim x'' [ ]
  anew v c (r ∷ rs) some (Memᴰ.head e) =
      rw (ap such (sym e) ∙ c)
      (rw e (put r rs (some r (Memᴰ.head refl))).there)
  anew v c (r ∷ rs) some (Memᴰ.tail i) =
      let rest = anew v c rs (λ q j. some q (Memᴰ.tail j)) i in
      let m = some v (Memᴰ.tail i) in
      let now = put r rs (some r (Memᴰ.head refl)) in
      let f = member_fields map (placed_ordered map (length store) p) v m in
      if_by (λ (s : List ℕ). value_of v s ≡ fresh image v) (such r)
      (λ t.
      ⊎_elim (λ e. rw e now.there) (λ a. now.others v m (λ e. apart_not v r a e f.some_width) ∙ rest)
      (members_apart map (length store) p v r m (some r (Memᴰ.head refl))))
      (λ t. rest)
    where
      apart_not : (v r : Record) → Apart v r → v ≡ r → 1 ≤ v.width → ⊥
      apart_not v r (inl h) e w = omega (arith, ap (λ (q : Record). q.offset) e)
      apart_not v r (inr h) e w = omega (arith, ap (λ (q : Record). q.offset) e, ap (λ (q : Record). q.width) e)

  pub filled_value : (v : Record) → Member v map
      → value_of v (filled (records_of map)) ≡ (if such v then fresh image v else value_of v store)
  filled_value v m =
      if_by (λ (s : List ℕ). value_of v (filled (records_of map)) ≡ s) (such v)
      (λ t. anew v t (records_of map) (λ q i. i) m) (λ t. stays v m t (records_of map) (λ q i. i))

  unmapped : (j : ℕ) → ((r : Record) → Member r map → (j < r.offset) ⊎ (places_end r ≤ j))
      → (rs : List Record) → Some rs → get_or (filled rs) j 0 ≡ get_or store j 0
  unmapped j h [] some = refl
  unmapped j h (r ∷ rs) some =
      let rest = unmapped j h rs (λ q i. some q (Memᴰ.tail i)) in
      if_by (λ (s : List ℕ). get_or s j 0 ≡ get_or store j 0) (such r)
      (λ t. (put r rs (some r (Memᴰ.head refl))).unmapped j h ∙ rest) (λ t. rest)

  pub filled_changes : ((r : Record) → such r ≡ true → writable r ≡ true)
      → ChangesOnly map store (filled (records_of map)) (λ r. such r ≡ true)
  filled_changes w =
      let after : List ℕ = filled (records_of map) in
      let only : (r : Record) → Member r map → (such r ≡ true → ⊥) → value_of r after ≡ value_of r store =
      λ r m n. stays r m (refuted (such r) n) (records_of map) (λ q i. i) in
      let read_only : (r : Record) → Member r map → writable r ≡ false → value_of r after ≡ value_of r store =
      λ r m n. only r m (λ t. clash (writable r) (w r t) n) in
      record {
        as_long = filled_length (records_of map);
        others = only;
        read_only = read_only;
        unmapped = λ j h. unmapped j h (records_of map) (λ q i. i);
        checks =
            λ size.
            check_stays map after store size (filled_length (records_of map)) (λ r m h. read_only r m (head_fixed r h));
      }

pub fill_value : FillValue
unfolding filled_of
fill_value map store image p k filling r m = filled_value map store image p k (chosen (records_of map) store filling) r m

pub fill_changes_only : FillChangesOnly
unfolding filled_of
fill_changes_only map store image p k filling =
    filled_changes map store image p k (chosen (records_of map) store filling)
    (chosen_writable (records_of map) store filling)

pub power_on_keeps : PowerOnKeeps
unfolding chosen
power_on_keeps map store image p k r m n = fill_value map store image p k PowerOn r m ∙ rw (ne_eqb r.kind 2 n)
