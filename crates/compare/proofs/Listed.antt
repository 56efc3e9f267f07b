-- Which values are listed and what is written for them, position by position, as a loop meets them.
-- Assumes nothing.
use Prim.Native.Nat.{ℕ, zero, suc, ◌+◌, ◌-◌, ◌*◌, ◌/◌, ◌≤◌, ◌<◌}
use mathlib.Core.Path.{◌≡◌, refl, ap, sym, ◌∙◌}
use mathlib.Core.Bool.{Bool, true, false, not, false≢true}
use mathlib.Core.List.Memᴰ
use mathlib.Core.List.{List, [], ◌∷◌, ◌++◌, map as each, Memᴰ}
use native.Mathlib.Omega.{arith}
use native.Mathlib.Nat.{zero-add}
use mir.Val.{bool_byte}
use lib.ListN.{length, replicate, length-append, length-replicate}
use Rattle.std.specs.Prelude.{if◌then◌else◌}
use Rattle.laws.specs.Lists.{items}
use Rattle.laws.specs.Counts.{below, count}
use Rattle.laws.proofs.Copies.{lent}
use Rattle.laws.proofs.Members.{items_member}
use Rattle.laws.proofs.Sides.{failed, passed}
use Rattle.laws.proofs.Tests.{if_by}
use Rattle.records.specs.Map.{record_at, records_of, places_end}
use Rattle.records.specs.Facts.{Member}
use Rattle.records.specs.declared.record.Record.{Record}
use Rattle.records.proofs.Members.{member_fields}
use Rattle.records.proofs.Walk.{member}
use Rattle.banks.specs.Values.{value_of, padded}
use Rattle.banks.proofs.ForHistory.{length_value}
use Rattle.banks.proofs.Places.{placed_ordered, member_inside}
use Rattle.compare.proofs.Same.{same_is}
use Rattle.compare.specs.Compare.{differs, those, differing, difference_of, joined, list_of, BothPlaced, difference_if}

-- ---- one value

-- the value's place lies in both stores, and it has at most 8 bytes
pub record InBoth (r : Record) (old new : List ℕ) : Type 0 where
  pub in_old : places_end r ≤ length old
  pub in_new : places_end r ≤ length new
  pub narrow : r.width ≤ 8

-- a record of the map
pub in_both : (map old new : List ℕ) → BothPlaced map old new → (r : Record) → Member r map → InBoth r old new
in_both map old new p r m =
    let inside = member_inside map (length old) p.0 r m in
    let long = p.1 in
    record {
      in_old = inside;
      in_new = omega arith;
      narrow = (member_fields map (placed_ordered map (length old) p.0) r m).most_width;
    }

pub length_padded : (v : List ℕ) → length v ≤ 8 → length (padded v) ≡ 8
length_padded v h =
    length-append v (replicate (8 - length v) 0) ∙ ap (λ (n : ℕ). length v + n) (length-replicate (8 - length v) 0)
    ∙ omega arith

-- whatever its bytes are
length_shown : (r : Record) (v w : List ℕ) → length v ≤ 8 → length w ≤ 8
    → length ((r.bank ∷ r.first ∷ r.width ∷ r.kind ∷ 0 ∷ 0 ∷ 0 ∷ 0 ∷ []) ++ padded v ++ padded w) ≡ 24
length_shown r v w h k =
    let a = length_padded v h in
    let b = length_padded w k in
    omega (arith, length-append (padded v) (padded w))

pub length_difference : (old new : List ℕ) (r : Record) → InBoth r old new → length (difference_of old new r) ≡ 24
unfolding difference_of
length_difference old new r h =
    let narrow = h.narrow in
    let a : length (value_of r old) ≤ 8 = omega (arith, length_value r old h.in_old) in
    let b : length (value_of r new) ≤ 8 = omega (arith, length_value r new h.in_new) in
    search (length_shown r, a, b)

-- what is written for a value that differs, or not
module _ (old new : List ℕ) (r : Record) {b : Bool} (e : b ≡ differs old new r) where
  pub is_listed : not b ≡ false → difference_if old new r ≡ difference_of old new r
  unfolding difference_if
  is_listed t = rw (passed e t)

  pub is_not_listed : not b ≡ true → difference_if old new r ≡ []
  unfolding difference_if
  is_not_listed t = rw (failed e t)

-- of a value of the map: what its comparison rests on, and what is written for it
pub ruleset compared = (lent, same_is, in_both)

pub ruleset one_value = (in_both, is_listed, is_not_listed, length_difference)

-- ---- all values

length_items : (item : ℕ → ℕ) (i n : ℕ) → length (items item i n) ≡ n
length_items item i zero = refl
length_items item i (suc n) = ap suc (length_items item (suc i) n)

-- the numbers below a bound are its members
pub items_is : (n i j : ℕ) → Memᴰ j (items (λ i. i) i n) → (i ≤ j) × (j < i + n)
items_is zero i j m = elim m [ ]
items_is (suc n) i j (Memᴰ.head e) = (omega arith, omega arith)
items_is (suc n) i j (Memᴰ.tail m) =
    let x = items_is n (suc i) j m in
    (omega arith, omega arith)

pub below_is : (n i : ℕ) → Memᴰ i (below n) → i < n
below_is n i m = omega (arith, items_is n 0 i m)

is_below : (n i : ℕ) → i < n → Memᴰ i (below n)
is_below n i h = Memᴰ.cast (sym (zero-add i)) (items_member (λ i. i) 0 n i h)

-- of a list those that pass a test are the members that do
pub of_those : (f : ℕ → Bool) (l : List ℕ) (i : ℕ) → Memᴰ i (those f l) → Memᴰ i l × (f i ≡ true)
of_those f [] i m = elim m [ ]
of_those f (j ∷ l) i m = go (of_those f l i) (f j) refl m
  where
    go : (Memᴰ i (those f l) → Memᴰ i l × (f i ≡ true)) → (b : Bool) → f j ≡ b
        → Memᴰ i (if b then j ∷ those f l else those f l)
        → Memᴰ i (j ∷ l) × (f i ≡ true)
    go behind true t (Memᴰ.head e) = (Memᴰ.head e, ap f e ∙ t)
    go behind true t (Memᴰ.tail k) = (Memᴰ.tail (behind k).0, (behind k).1)
    go behind false t k = (Memᴰ.tail (behind k).0, (behind k).1)

to_those : (f : ℕ → Bool) (l : List ℕ) (i : ℕ) → Memᴰ i l → f i ≡ true → Memᴰ i (those f l)
to_those f [] i m t = elim m [ ]
to_those f (j ∷ l) i m t = go (λ k. to_those f l i k t) (f j) refl m
  where
    go : (Memᴰ i l → Memᴰ i (those f l)) → (b : Bool) → f j ≡ b → Memᴰ i (j ∷ l)
        → Memᴰ i (if b then j ∷ those f l else those f l)
    go behind true q (Memᴰ.head e) = Memᴰ.head e
    go behind true q (Memᴰ.tail k) = Memᴰ.tail (behind k)
    go behind false q (Memᴰ.head e) = absurd (false≢true (sym q ∙ ap f (sym e) ∙ t))
    go behind false q (Memᴰ.tail k) = behind k

-- a test as a number is 0 or 1
pub bool_byte_lem : (b : Bool) → bool_byte b ≤ 1
bool_byte_lem true = omega arith
bool_byte_lem false = omega arith

-- the records of a map are those at the positions below their number
pub items_each : (item : ℕ → Record) (i n : ℕ) → items item i n ≡ each item (items (λ i. i) i n)
items_each item i zero = refl
items_each item i (suc n) = ap (λ (l : List Record). item i ∷ l) (items_each item (suc i) n)

-- what is written for some records
abbrev pub written : List ℕ → List ℕ → List Record → List ℕ
written old new [] = []
written old new (r ∷ rs) = difference_if old new r ++ written old new rs

module _ (map old new : List ℕ) where
  abbrev listed : ℕ → Bool
  listed i = differs old new (record_at map i)

  -- what is written for positions
  abbrev pub bytes : List ℕ → List ℕ
  bytes l = joined (λ i. difference_of old new (record_at map i)) l

  length_rest : (l : List ℕ) → length (those listed l) ≤ length l
  length_rest [] = omega arith
  length_rest (i ∷ l) =
      let less = length_rest l in
      if_by (λ (m : List ℕ). length m ≤ suc (length l)) (listed i) {x = i ∷ those listed l} {y = those listed l}
      (λ t. omega arith) (λ t. omega arith)

  pub length_differing : length (differing map old new) ≤ length map / 8
  unfolding differing
  length_differing = omega (arith, length_rest (below (length map / 8)), length_items (λ (i : ℕ). i) 0 (length map / 8))

  -- a listed position is that of a record of the map
  pub listed_is : (i : ℕ) → Memᴰ i (differing map old new) → (i < length map / 8) × (listed i ≡ true)
  unfolding differing
  listed_is i m =
      let x = of_those listed (below (length map / 8)) i m in
      (below_is (length map / 8) i x.0, x.1)

  pub is_in_list : (i : ℕ) → i < length map / 8 → listed i ≡ true → Memᴰ i (differing map old new)
  unfolding differing
  is_in_list i h t = to_those listed (below (length map / 8)) i (is_below (length map / 8) i h) t

  pub of_map : (i : ℕ) → Memᴰ i (differing map old new) → Member (record_at map i) map
  of_map i m = member map (length map / 8) i refl (listed_is i m).0 (record_at map i) refl

  -- 24 bytes for each
  length_bytes : (l : List ℕ) → ((i : ℕ) → Memᴰ i l → InBoth (record_at map i) old new) → length (bytes l) ≡ 24 * length l
  length_bytes [] h = refl
  length_bytes (i ∷ l) h =
      let rest = length_bytes l (λ j m. h j (Memᴰ.tail m)) in
      let one = length_difference old new (record_at map i) (h i (Memᴰ.head refl)) in
      omega (arith, length-append (difference_of old new (record_at map i)) (bytes l))

  pub length_list : BothPlaced map old new → length (list_of map old new) ≡ 24 * length (differing map old new)
  unfolding list_of
  length_list p = length_bytes (differing map old new) (λ i m. in_both map old new p (record_at map i) (of_map i m))

  -- the same of the records themselves, one after the other: how many differ
  count_each : (l : List ℕ) → length (those listed l) ≡ count (differs old new) (each (record_at map) l)
  count_each [] = refl
  count_each (i ∷ l) = go (count_each l) (listed i)
    where
      go : length (those listed l) ≡ count (differs old new) (each (record_at map) l) → (b : Bool)
          → length (if b then i ∷ those listed l else those listed l)
          ≡ (if b then suc (count (differs old new) (each (record_at map) l)) else count (differs old new) (each (record_at map) l))
      go behind true = ap suc behind
      go behind false = behind

  pub counted_all : length (differing map old new) ≡ count (differs old new) (records_of map)
  unfolding differing records_of
  counted_all =
      count_each (below (length map / 8)) ∙ ap (count (differs old new)) (sym (items_each (record_at map) 0 (length map / 8)))

  -- and what is written for them
  written_each : (l : List ℕ) → bytes (those listed l) ≡ written old new (each (record_at map) l)
  unfolding difference_if
  written_each [] = refl
  written_each (i ∷ l) = go (written_each l) (listed i)
    where
      go : bytes (those listed l) ≡ written old new (each (record_at map) l) → (b : Bool)
          → bytes (if b then i ∷ those listed l else those listed l)
          ≡ (if b then difference_of old new (record_at map i) else []) ++ written old new (each (record_at map) l)
      go behind true = ap (λ (w : List ℕ). difference_of old new (record_at map i) ++ w) behind
      go behind false = behind

  pub written_all : list_of map old new ≡ written old new (records_of map)
  unfolding list_of differing records_of
  written_all =
      written_each (below (length map / 8)) ∙ ap (written old new) (sym (items_each (record_at map) 0 (length map / 8)))
