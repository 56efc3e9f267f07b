-- What the list shows: which values, in which order, each in its bytes; and what stays behind it.
-- Assumes nothing.
use Prim.Native.Nat.{ℕ, zero, suc, ◌+◌, ◌-◌, ◌*◌, ◌/◌, ◌≤◌, ◌<◌}
use mathlib.Core.Path.{◌≡◌, refl, ap, sym, ◌∙◌, subst}
use mathlib.Core.Bool.{Bool, true, false, not, false≢true}
use mathlib.Core.List.{List, [], ◌∷◌, ◌++◌, append-nil, append_assoc}
use mathlib.Core.List.Memᴰ
use mathlib.Core.List.{Memᴰ}
use native.Mathlib.Omega.{arith}
use lib.ListN.{length, get_or, replicate, take, drop, length-append, length-drop, length-replicate}
use lib.Seq.{take_at, drop_at, drop-drop, get_or-append-add, get_or-drop}
use Rattle.std.specs.Prelude.{if◌then◌else◌}
use Rattle.laws.specs.Lists.{items}
use Rattle.laws.specs.Counts.{below}
use Rattle.laws.specs.Parts.{part}
use Rattle.laws.proofs.Tests.{not_denied}
use Rattle.records.specs.Map.{record_at, records_of}
use Rattle.records.specs.Facts.{Member}
use Rattle.records.specs.declared.record.Record.{Record}
use Rattle.banks.specs.Values.{value_of, padded}
use Rattle.banks.proofs.ForHistory.{length_value}
use Rattle.compare.specs.Compare.{differs, those, differing, difference_of, list_of, listed_over, compare_number, output_of}
use Rattle.compare.specs.Compare.{BothPlaced, same}
use Rattle.compare.specs.Promises.{DifferingExactly, ValuesListed, Rises, ListRises, Difference, OutputShows, PastStays}
use Rattle.compare.proofs.Same.{same_equal, equal_same}
use Rattle.compare.proofs.Listed.{InBoth, items_each, in_both, length_padded, length_difference, items_is, below_is, of_those, listed_is}
use Rattle.compare.proofs.Listed.{is_in_list, of_map, bytes, length_list}
use Rattle.compare.proofs.Numbered.{both_placed, accepted}

-- ---- which values

-- a value differs exactly if its bytes do
module _ (old new : List ℕ) (r : Record) where
  pub is_different : differs old new r ≡ true → value_of r old ≡ value_of r new → ⊥
  unfolding differs
  is_different t e = false≢true (sym (ap not (equal_same (value_of r old) (value_of r new) e)) ∙ t)

  pub not_different : differs old new r ≡ false → value_of r old ≡ value_of r new
  unfolding differs
  not_different t = same_equal (value_of r old) (value_of r new) (not_denied (same (value_of r old) (value_of r new)) t)

  different : (value_of r old ≡ value_of r new → ⊥) → differs old new r ≡ true
  unfolding differs
  different n = go (same (value_of r old) (value_of r new)) refl
    where
      go : (b : Bool) → same (value_of r old) (value_of r new) ≡ b → not b ≡ true
      go true e = absurd (n (same_equal (value_of r old) (value_of r new) e))
      go false e = refl

pub differing_exactly : DifferingExactly
differing_exactly map old new i = (
  λ m.
      let x = listed_is map old new i m in
      (x.0, is_different old new (record_at map i) x.1),
  λ x. is_in_list map old new i x.0 (different old new (record_at map i) x.1),
)

numbered : (map : List ℕ) (r : Record) → Member r map → (i : ℕ) × Memᴰ i (below (length map / 8)) × (record_at map i ≡ r)
unfolding records_of
numbered map r m =
    Memᴰ.of_map (record_at map) (below (length map / 8))
    (subst (λ (l : List Record). Memᴰ r l) (items_each (record_at map) 0 (length map / 8)) m)

pub values_listed : ValuesListed
values_listed map old new r = (
  λ m.
      let x = Memᴰ.of_map (record_at map) (differing map old new) m in
      let k = is_different old new (record_at map x.0) (listed_is map old new x.0 x.1).1 in (
        Memᴰ.cast (sym x.2) (of_map map old new x.0 x.1),
        subst (λ (s : Record). value_of s old ≡ value_of s new → ⊥) x.2 k,
      ),
  λ q.
      let x = numbered map r q.0 in
      let k = subst (λ (s : Record). value_of s old ≡ value_of s new → ⊥) (sym x.2) q.1 in
      let l = is_in_list map old new x.0 (below_is _ _ x.1) (different old new (record_at map x.0) k) in
      Memᴰ.cast (sym x.2) (Memᴰ.map (record_at map) l),
)

-- ---- in which order

rises_items : (i n : ℕ) → Rises (items (λ i. i) i n)
rises_items i zero = tt
rises_items i (suc n) = (λ j m. (items_is n (suc i) j m).0, rises_items (suc i) n)

rises_those : (f : ℕ → Bool) (l : List ℕ) → Rises l → Rises (those f l)
rises_those f [] h = tt
rises_those f (i ∷ l) h = go (rises_those f l h.1) (f i)
  where
    go : Rises (those f l) → (b : Bool) → Rises (if b then i ∷ those f l else those f l)
    go behind true = (λ j m. h.0 j (of_those f l j m).0, behind)
    go behind false = behind

pub list_rises : ListRises
unfolding differing
list_rises map old new = rises_those _ (below (length map / 8)) (rises_items 0 (length map / 8))

-- ---- each in its bytes

-- a value's bytes, and the zeros behind them
module _ (v rest : List ℕ) (n : ℕ) (h : length v ≡ n) where
  apart : padded v ++ rest ≡ v ++ (replicate (8 - length v) 0 ++ rest)
  apart = append_assoc v (replicate (8 - length v) 0) rest

  front : take n (padded v ++ rest) ≡ v
  front = ap (take n) apart ∙ take_at v _ n h

  filled : take (8 - n) (drop n (padded v ++ rest)) ≡ replicate (8 - n) 0
  filled =
      ap (λ (l : List ℕ). take (8 - n) (drop n l)) apart ∙ ap (take (8 - n)) (drop_at v _ n h)
      ∙ rw h (take_at (replicate (8 - n) 0) rest (8 - n) (length-replicate (8 - n) 0))

pub shows : (old new : List ℕ) (r : Record) → InBoth r old new → Difference (difference_of old new r) r old new
unfolding difference_of part
shows old new r h =
    let narrow = h.narrow in
    let o = value_of r old in
    let n = value_of r new in
    let o-long = length_value r old h.in_old in
    let n-long = length_value r new h.in_new in
    let second : drop 8 (padded o ++ padded n) ≡ padded n ++ [] =
    drop_at (padded o) (padded n) 8 (length_padded o (omega arith)) ∙ sym (append-nil (padded n)) in
    record {
      as_long = length_difference old new r h;
      bank = refl;
      first = refl;
      width = refl;
      kind = refl;
      zeros = refl;
      old_bytes_lem = front o (padded n) r.width o-long;
      old_filled = ap (take (8 - r.width)) (sym (drop-drop r.width 8 (difference_of old new r))) ∙ filled o (padded n) r.width o-long;
      new_bytes_lem = ap (take r.width) second ∙ front n [] r.width n-long;
      new_filled =
          ap (take (8 - r.width)) (sym (drop-drop r.width 16 (difference_of old new r)))
          ∙ ap (λ (l : List ℕ). take (8 - r.width) (drop r.width l)) second ∙ filled n [] r.width n-long;
    }

-- one behind the other
module _ (map old new : List ℕ) where
  abbrev pub difference : ℕ → List ℕ
  difference i = difference_of old new (record_at map i)

  module _ (i : ℕ) (l rest : List ℕ) (h : InBoth (record_at map i) old new) where
    pub first_of : take 24 (bytes map old new (i ∷ l) ++ rest) ≡ difference i
    first_of =
        ap (take 24) (append_assoc (difference i) (bytes map old new l) rest)
        ∙ take_at (difference i) _ 24 (length_difference old new (record_at map i) h)

    pub behind_first : drop 24 (bytes map old new (i ∷ l) ++ rest) ≡ bytes map old new l ++ rest
    behind_first =
        ap (drop 24) (append_assoc (difference i) (bytes map old new l) rest)
        ∙ drop_at (difference i) _ 24 (length_difference old new (record_at map i) h)

  shown_at : (l rest : List ℕ) → ((i : ℕ) → Memᴰ i l → InBoth (record_at map i) old new) → (k : ℕ) → k < length l
      → (part (24 * k) 24 (bytes map old new l ++ rest) ≡ difference (get_or l k 0)) × Memᴰ (get_or l k 0) l
  unfolding part
  shown_at [] rest h k q = absurd (omega arith)
  shown_at (i ∷ l) rest h zero q = (first_of i l rest (h i (Memᴰ.head refl)), Memᴰ.head refl)
  shown_at (i ∷ l) rest h (suc k) q =
      let x = shown_at l rest (λ j m. h j (Memᴰ.tail m)) k (omega arith) in
      let e : 24 * suc k ≡ 24 + 24 * k = omega arith in (
        ap (λ (n : ℕ). take 24 (drop n (bytes map old new (i ∷ l) ++ rest))) e
            ∙ ap (take 24) (sym (drop-drop (24 * k) 24 (bytes map old new (i ∷ l) ++ rest)))
            ∙ ap (λ (m : List ℕ). take 24 (drop (24 * k) m)) (behind_first i l rest (h i (Memᴰ.head refl)))
            ∙ x.0,
        Memᴰ.tail x.1,
      )

  -- the listed ones
  module _ (p : BothPlaced map old new) where
    pub all_in_both : (i : ℕ) → Memᴰ i (differing map old new) → InBoth (record_at map i) old new
    all_in_both i m = in_both map old new p (record_at map i) (of_map map old new i m)

-- ---- the output

module _ (map old new before : List ℕ) (e : compare_number map old new (length before) ≡ 0) where
  pub written : output_of map old new before ≡ bytes map old new (differing map old new)
      ++ drop (length (list_of map old new)) before
  unfolding output_of listed_over list_of
  written = rw e

  pub both : BothPlaced map old new
  both = both_placed map old new (accepted map old new (length before) e).0

pub output_shows : OutputShows
output_shows map old new before e k h =
    let p = both map old new before e in
    let x = shown_at map old new (differing map old new) (drop (length (list_of map old new)) before)
    (all_in_both map old new p) k h in
    rw (written map old new before e, x.0)
    (shows old new (record_at map (get_or (differing map old new) k 0))
    (all_in_both map old new p (get_or (differing map old new) k 0) x.1))

-- behind a list stands what was there
behind_list : (list before : List ℕ) (j : ℕ) → length list ≤ j
    → get_or (list ++ drop (length list) before) j 0 ≡ get_or before j 0
behind_list list before j h =
    let e : j ≡ length list + (j - length list) = omega arith in
    ap (λ (n : ℕ). get_or (list ++ drop (length list) before) n 0) e
    ∙ get_or-append-add list (drop (length list) before) (j - length list) 0
    ∙ get_or-drop (length list) before (j - length list) 0 ∙ ap (λ (n : ℕ). get_or before n 0) (sym e)

pub past_stays : PastStays
unfolding output_of listed_over
past_stays map old new before e =
    let long = length_list map old new (both map old new before e) in
    let room = (accepted map old new (length before) e).2 in
    let list = list_of map old new in
    record {
      stays = λ j h. rw e (behind_list list before j (omega arith));
      as_long = rw e (length-append list (drop (length list) before) ∙ omega (arith, length-drop (length list) before));
    }
