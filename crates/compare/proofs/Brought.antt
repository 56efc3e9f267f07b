-- The list put to use: each difference's bytes, put at the value that it names, bring every value over.
-- Assumes nothing.
use Prim.Native.Nat.{ℕ, ◌≤◌, ◌<◌}
use mathlib.Core.Path.{◌≡◌, refl, ap, sym, ◌∙◌, subst}
use mathlib.Core.Logic.{◌⊎◌, inl, inr, ⊎_elim}
use mathlib.Core.Bool.{Bool, true, false}
use mathlib.Core.List.Memᴰ
use mathlib.Core.List.{List, [], ◌∷◌, ◌++◌, map as each, Memᴰ}
use native.Mathlib.Omega.{arith}
use lib.ListN.{length, get_or}
use Rattle.laws.specs.Parts.{part}
use Rattle.records.specs.Map.{record_at, places_end}
use Rattle.records.specs.Facts.{Member}
use Rattle.records.specs.declared.record.Record.{Record}
use Rattle.records.proofs.Locations.{first_found}
use Rattle.records.proofs.Members.{member_fields}
use Rattle.banks.specs.Rules.{placed}
use Rattle.banks.specs.Values.{value_of, put_value}
use Rattle.banks.specs.Facts.{Apart, PutLeaves}
use Rattle.banks.proofs.ForHistory.{length_value}
use Rattle.banks.proofs.Places.{placed_ordered, member_inside, members_apart}
use Rattle.banks.proofs.Values.{value_put}
use Rattle.compare.specs.Compare.{differs, differing, compare_number, output_of}
use Rattle.compare.specs.Carry.{differences, old_bytes, new_bytes, put_beginning, carried, carried_all, BroughtTo}
use Rattle.compare.specs.Promises.{Difference, NewFromOld, OldFromNew}
use Rattle.compare.proofs.Listed.{InBoth, bytes, of_map}
use Rattle.compare.proofs.Numbered.{accepted}
use Rattle.compare.proofs.Shown.{is_different, not_different, values_listed, shows, difference, first_of, behind_first}
use Rattle.compare.proofs.Shown.{all_in_both, written, both}

-- the records of the output are the differences of the listed positions
differences_of : (map old new : List ℕ) (l rest : List ℕ) → ((i : ℕ) → Memᴰ i l → InBoth (record_at map i) old new)
    → differences (bytes map old new l ++ rest) (length l) ≡ each (difference map old new) l
differences_of map old new [] rest h = refl
differences_of map old new (i ∷ l) rest h =
    let this = h i (Memᴰ.head refl) in
    rw (first_of map old new i l rest this, behind_first map old new i l rest this)
    (ap (λ (ds : List (List ℕ)). difference map old new i ∷ ds)
    (differences_of map old new l rest (λ j m. h j (Memᴰ.tail m))))

-- a difference that names the value r and has at a place its bytes of the store t
record Names (map t : List ℕ) (place : ℕ) (d : List ℕ) (r : Record) : Type 0 where
  member : Member r map
  bank : get_or d 0 0 ≡ r.bank
  first : get_or d 1 0 ≡ r.first
  width : get_or d 2 0 ≡ r.width
  bytes : part place r.width d ≡ value_of r t

-- what comes of a store by the differences of some values: these and what was brought over before are those of t
record Brings (map t store : List ℕ) (rs : List Record) (after : List ℕ) : Type 0 where
  values : (r : Record) → Member r map → Memᴰ r rs ⊎ (value_of r store ≡ value_of r t) → value_of r after ≡ value_of r t
  unmapped :
      (j : ℕ) → ((r : Record) → Member r map → (j < r.offset) ⊎ (places_end r ≤ j)) → get_or after j 0 ≡ get_or store j 0
  as_long : length after ≡ length store

module _ (map t : List ℕ) (p : placed map (length t) ≡ true) where
  carries : (place : ℕ) (d : List ℕ) (r : Record) → Names map t place d r → (store : List ℕ)
      → carried map place d store ≡ put_value r (value_of r t) store
  unfolding carried put_beginning
  carries place d r n store =
      rw (n.bank, n.first, n.width, (first_found map (placed_ordered map (length t) p) r n.member).1, n.bytes)

  -- two values that lie apart are not one
  not_one : (r x : Record) → Member r map → Apart r x → r ≡ x → ⊥
  not_one r x k (inl h) e =
      let wide = member_fields map (placed_ordered map (length t) p) r k in
      omega (arith, ap (λ (y : Record). y.offset) e)
  not_one r x k (inr h) e =
      let wide = member_fields map (placed_ordered map (length t) p) r k in
      omega (arith, ap (λ (y : Record). y.offset) e, ap (λ (y : Record). y.width) e)

  module _ (store : List ℕ) (n : length store ≡ length t) (x : Record) (m : Member x map) where
    leaves : PutLeaves map store (value_of x t) x
    leaves =
        value_put map store (value_of x t) x (rw n p) m (length_value x t (member_inside map (length t) p x m))

    there : (r : Record) → r ≡ x → value_of r (put_value x (value_of x t) store) ≡ value_of r t
    there r e = rw e leaves.there

    -- x is brought over, and what was before stays so
    one_more : (r : Record) → Member r map → (rs : List Record) → Memᴰ r (x ∷ rs) ⊎ (value_of r store ≡ value_of r t)
        → Memᴰ r rs ⊎ (value_of r (put_value x (value_of x t) store) ≡ value_of r t)
    one_more r k rs (inl (Memᴰ.head e)) = inr (there r e)
    one_more r k rs (inl (Memᴰ.tail i)) = inl i
    one_more r k rs (inr e) =
        inr (⊎_elim (there r) (λ a. leaves.others r k (not_one r x k a) ∙ e) (members_apart map (length t) p r x k m))

  brings : (place : ℕ) (d : ℕ → List ℕ) (l : List ℕ) → ((i : ℕ) → Memᴰ i l → Names map t place (d i) (record_at map i))
      → (store : List ℕ) → length store ≡ length t
      → Brings map t store (each (record_at map) l) (carried_all map place (each d l) store)
  brings place d [] h store n =
      record { values = λ r k q. ⊎_elim (λ i. absurd (Memᴰ.not-nil i)) (λ e. e) q; unmapped = λ j q. refl; as_long = refl }
  brings place d (i ∷ l) h store n =
      let x = record_at map i in
      let this = h i (Memᴰ.head refl) in
      let put = leaves store n x this.member in
      let behind = brings place d l (λ j m. h j (Memᴰ.tail m)) (put_value x (value_of x t) store) (put.as_long ∙ n) in
      subst (λ (s : List ℕ). Brings map t store (each (record_at map) (i ∷ l)) (carried_all map place (each d l) s))
      (sym (carries place (d i) x this store))
      (record {
        values = λ r k q. behind.values r k (one_more store n x this.member r k (each (record_at map) l) q);
        unmapped = λ j q. behind.unmapped j q ∙ put.unmapped j q;
        as_long = behind.as_long ∙ put.as_long;
      })

-- a value is listed, or the same in both
listed_or_same : (map old new : List ℕ) (r : Record) → Member r map
    → Memᴰ r (each (record_at map) (differing map old new)) ⊎ (value_of r old ≡ value_of r new)
listed_or_same map old new r m = go (differs old new r) refl
  where
    go : (b : Bool) → differs old new r ≡ b
        → Memᴰ r (each (record_at map) (differing map old new)) ⊎ (value_of r old ≡ value_of r new)
    go true e = inl ((values_listed map old new r).1 (m, is_different old new r e))
    go false e = inr (not_different old new r e)

module _ (map old new before : List ℕ) (e : compare_number map old new (length before) ≡ 0) where
  abbrev list : List ℕ
  list = differing map old new

  ds : differences (output_of map old new before) (length list) ≡ each (difference map old new) list
  ds =
      ap (λ (o : List ℕ). differences o (length list)) (written map old new before e)
      ∙ differences_of map old new list _ (all_in_both map old new (both map old new before e))

  shown : (i : ℕ) → Memᴰ i list → Difference (difference map old new i) (record_at map i) old new
  shown i m = shows old new (record_at map i) (all_in_both map old new (both map old new before e) i m)

  -- the store t, by the bytes that the differences have at a place; a value that is not listed is that of t already
  to : (place : ℕ) (t store : List ℕ) → placed map (length t) ≡ true → length store ≡ length t
      → ((i : ℕ) → Memᴰ i list → part place (record_at map i).width (difference map old new i) ≡ value_of (record_at map i) t)
      → ((r : Record) → Member r map → Memᴰ r (each (record_at map) list) ⊎ (value_of r store ≡ value_of r t))
      → BroughtTo map store t (carried_all map place (differences (output_of map old new before) (length list)) store)
  to place t store p n v same =
      let x = brings map t p place (difference map old new) list
      (λ i m. let d = shown i m in
      record { member = of_map map old new i m; bank = d.bank; first = d.first; width = d.width; bytes = v i m })
      store n in
      rw ds (record { values = λ r m. x.values r m (same r m); unmapped = x.unmapped; as_long = x.as_long })

pub new_from_old : NewFromOld
new_from_old map old new before e =
    let new-stands = (accepted map old new (length before) e).1 in
    to map old new before e new_bytes new old new-stands.in_place new-stands.as_long
    (λ i m. (shown map old new before e i m).new_bytes_lem) (listed_or_same map old new)

pub old_from_new : OldFromNew
old_from_new map old new before e =
    let old-stands = (accepted map old new (length before) e).0 in
    to map old new before e old_bytes old new old-stands.in_place old-stands.as_long
    (λ i m. (shown map old new before e i m).old_bytes_lem)
    (λ r m. ⊎_elim (λ i. inl i) (λ q. inr (sym q)) (listed_or_same map old new r m))
