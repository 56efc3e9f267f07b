-- Halving: what it visits are records of the map, and in an ordered map it finds what the walk finds.
-- Assumes nothing.
use Prim.Native.Nat.{ℕ, zero, suc, ◌+◌, ◌≤◌, ◌<◌, ◌-◌, ◌/◌}
use mathlib.Core.Path.{◌≡◌, refl, ap, sym, subst, ◌∙◌}
use mathlib.Core.Logic.{◌⊎◌, inl, inr, ⊎_elim}
use mathlib.Core.Bool.{Bool, true, false, ◌&&◌}
use mathlib.Core.List.Memᴰ
use mathlib.Core.List.{List, [], ◌∷◌, Memᴰ, map as each}
use native.Mathlib.Omega.{arith}
use borrow.Author.Tests.{lt-ltb, le-ltb, eq-eqb, ne_eqb, ltb-true, ltb-false, eqb-true, eqb-false}
use lib.Dec.{ltb, eqb}
use lib.ListN.{length}
use Rattle.laws.specs.Lists.{items}
use Rattle.laws.proofs.Tests.{if_by, if_lt, both, and_of, clash}
use Rattle.laws.proofs.Sides.{either, or_left, or_right, same_test}
use Rattle.laws.proofs.Members.{some_at, some_of}
use Rattle.records.specs.Map.{record_at, records_of}
use Rattle.records.specs.Order.{ordered}
use Rattle.records.specs.Lookup.{holds, why, holder}
use Rattle.records.specs.Facts.{Member, Before, Holds}
use Rattle.records.specs.Halving.{Wanted, at_location, in_bank, middle, visits, visits_of, visited, halved, halved_bank}
use Rattle.records.specs.Promises.{HalvingFinds, HalvingMaps}
use Rattle.records.specs.declared.record.Record.{Record}
use Rattle.std.specs.Prelude.{Result, Ok, Err}
use Rattle.records.specs.declared.holder.Why.{Why}
use Rattle.records.proofs.Walk.{member}
use Rattle.records.proofs.Members.{rises, members_rise}
use Rattle.records.proofs.Locations.{holds_is, holder_at, holder_none, none_holder, rising_hit}
use Rattle.records.proofs.Reasons.{neither, Among, Near, tells_one, tells_near, why_tells}

-- a test comes out one way or the other, and two numbers stand in one of three ways
pub true_or_false : (b : Bool) → (b ≡ true) ⊎ (b ≡ false)
true_or_false true = inl refl
true_or_false false = inr refl

compare : (i j : ℕ) → (i < j) ⊎ ((i ≡ j) ⊎ (j < i))
compare zero zero = inr (inl refl)
compare zero (suc j) = inl (omega arith)
compare (suc i) zero = inr (inr (omega arith))
compare (suc i) (suc j) =
    ⊎_elim (λ h. inl (omega arith)) (λ k. inr (⊎_elim (λ e. inl (omega arith)) (λ h. inr (omega arith)) k)) (compare i j)

-- a record of the map has a number
items_number : (item : ℕ → Record) (i n : ℕ) (r : Record) → Memᴰ r (items item i n)
    → (k : ℕ) × (k < i + n) × (r ≡ item k)
items_number item i zero r q = absurd (Memᴰ.not-nil q)
items_number item i (suc n) r q =
    ⊎_elim
    (λ e. (i, omega arith, e))
    (λ m. let x = items_number item (suc i) n r m in (x.0, omega arith, x.2))
    (Memᴰ.cases_cons q)

numbered : (map : List ℕ) (r : Record) → Member r map → (k : ℕ) × (k < length map / 8) × (r ≡ record_at map k)
unfolding records_of
numbered map r m = let x = items_number (record_at map) 0 (length map / 8) r m in (x.0, omega arith, x.2)

-- of the records at the positions l, one that is Q
record Reached (map : List ℕ) (Q : Record → Type 0) (l : List ℕ) : Type 0 where
  at : Record
  among : Memᴰ at (each (record_at map) l)
  is : Q at

module _ (map : List ℕ) (s : Wanted) where
  -- what holds of no position, and with each position below n of one more, holds of those visited
  visits_below : (P : List ℕ → Type 0) (n : ℕ) → P [] → ((m : ℕ) (l : List ℕ) → m < n → P l → P (m ∷ l))
      → (fuel low high : ℕ) → high ≤ n → P (visits map s fuel low high)
  unfolding visits
  visits_below P n none more zero low high h = none
  visits_below P n none more (suc fuel) low high h =
      let m = middle low high in
      if_lt P low high
      (λ lt.
      more m _ (omega arith)
      (if_by P (s.here (record_at map m))
      (λ e. none)
      (λ e.
      if_by P (s.left (record_at map m))
      (λ k. visits_below P n none more fuel _ _ (omega arith))
      (λ k. visits_below P n none more fuel _ _ h))))
      (λ ge. none)

  -- what is visited are records of the map
  visits_members : (r : Record) → Memᴰ r (each (record_at map) (visits_of map s)) → Member r map
  visits_members r =
      visits_below (λ l. Memᴰ r (each (record_at map) l) → Member r map) (length map / 8)
      (λ q. absurd (Memᴰ.not-nil q))
      (λ m l h f q. ⊎_elim (λ e. member map (length map / 8) m refl h r e) f (Memᴰ.cases_cons q))
      _ _ _ (omega arith)

  -- a record Q stands at j; then each record is Q, or sends to the side of j
  abbrev Guides : (Record → Type 0) → ℕ → ℕ → Type 0
  Guides Q n j =
      (i : ℕ) → i < n
      → let r = record_at map i in
      (s.here r ≡ true → Q r)
      × (s.here r ≡ false → s.left r ≡ true → Q r ⊎ (j < i)) × (s.here r ≡ false → s.left r ≡ false → Q r ⊎ (i < j))

  -- then one that is Q is visited
  reaches : (Q : Record → Type 0) (n j : ℕ) → Guides Q n j
      → (fuel low high : ℕ) → high - low ≤ fuel → high ≤ n → low ≤ j → j < high
      → Reached map Q (visits map s fuel low high)
  unfolding visits
  reaches Q n j g zero low high k h a b = absurd (omega arith)
  reaches Q n j g (suc fuel) low high k h a b =
      let m = middle low high in
      let r = record_at map m in
      if_lt (Reached map Q) low high
      (λ lt.
      let guide = g m (omega arith) in
      let here : (l : List ℕ) → Q r → Reached map Q (m ∷ l) = λ l q.
      record { at = r; among = Memᴰ.head refl; is = q } in
      let later : (l : List ℕ) → Reached map Q l → Reached map Q (m ∷ l) = λ l x.
      record { at = x.at; among = Memᴰ.tail x.among; is = x.is } in
      if_by (λ (l : List ℕ). Reached map Q (m ∷ l)) (s.here r)
      (λ e. here [] (guide.0 e))
      (λ e.
      if_by (λ (l : List ℕ). Reached map Q (m ∷ l)) (s.left r)
      (λ u.
      ⊎_elim (here _)
      (λ before. later _ (reaches Q n j g fuel _ _ (omega arith) (omega arith) a (omega arith)))
      (guide.1 e u))
      (λ u.
      ⊎_elim (here _)
      (λ behind. later _ (reaches Q n j g fuel _ _ (omega arith) h (omega arith) b))
      (guide.2 e u))))
      (λ ge. absurd (omega arith))

  -- against a record where what is wanted is not: left of it if a record before has it, else right
  abbrev Sides : Type 0
  Sides =
      (p r : Record) → s.here p ≡ true → s.here r ≡ false
      → (Before p r → s.left r ≡ true) × (Before r p → s.left r ≡ false)

  abbrev Here : Record → Type 0
  Here r = s.here r ≡ true

  guides : ordered map ≡ true → Sides → (j : ℕ) → j < length map / 8 → Here (record_at map j)
      → Guides Here (length map / 8) j
  guides o side j l t i k =
      let p = record_at map j in
      let r = record_at map i in
      let same : i ≡ j → Here r = λ e. rw e t in (
        λ e. e,
        λ f u.
            ⊎_elim (λ q. clash (s.left r) u ((side p r t f).1 (members_rise map o i j q l)))
            (⊎_elim (λ e. inl (same e)) inr)
            (compare i j),
        λ f u.
            ⊎_elim inr
            (⊎_elim (λ e. inl (same e)) (λ q. clash (s.left r) ((side p r t f).0 (members_rise map o j i q k)) u))
            (compare i j),
      )

  -- in an ordered map, what some record has, some record that is visited has
  found : ordered map ≡ true → Sides → (r : Record) → Member r map → Here r → Reached map Here (visits_of map s)
  found o side r m t =
      let i = numbered map r m in
      let t : Here (record_at map i.0) = rw (sym i.2) t in
      let below = i.1 in
      reaches Here (length map / 8) i.0 (guides o side i.0 below t) _ _ _ (omega arith) (omega arith) (omega arith)
      (omega arith)

-- a location
pub location_left : (bank location : ℕ) (p r : Record) → Holds p bank location → Before p r
    → (at_location bank location).left r ≡ true
location_left bank location p r h (inl b) = let lower : bank < r.bank = omega arith in search (or_left, lt-ltb)
location_left bank location p r h (inr b) =
    let same : bank ≡ r.bank = omega arith in
    let before : location < r.first = omega arith in
    search (or_right, and_of, eq-eqb, lt-ltb)

location_right : (bank location : ℕ) (p r : Record) → Holds p bank location → Before r p
    → (at_location bank location).left r ≡ false
location_right bank location p r h (inl b) =
    rw (le-ltb bank r.bank (omega arith), ne_eqb bank r.bank (λ e. absurd (omega arith)))
location_right bank location p r h (inr b) =
    rw (le-ltb bank r.bank (omega arith), eq-eqb bank r.bank (omega arith), le-ltb location r.first (omega arith))

location_sides : (map : List ℕ) (bank location : ℕ) → Sides map (at_location bank location)
location_sides map bank location p r t f =
    let h = holds_is p bank location t in
    (location_left bank location p r h, location_right bank location p r h)

-- a bank
bank_left : (bank : ℕ) (p r : Record) → p.bank ≡ bank → (r.bank ≡ bank → ⊥) → Before p r → (in_bank bank).left r ≡ true
bank_left bank p r e n (inl b) = let lower : bank < r.bank = omega arith in search lt-ltb
bank_left bank p r e n (inr b) = absurd (n (omega arith))

bank_right : (bank : ℕ) (p r : Record) → p.bank ≡ bank → (r.bank ≡ bank → ⊥) → Before r p → (in_bank bank).left r ≡ false
bank_right bank p r e n (inl b) = le-ltb bank r.bank (omega arith)
bank_right bank p r e n (inr b) = absurd (n (omega arith))

bank_sides : (map : List ℕ) (bank : ℕ) → Sides map (in_bank bank)
bank_sides map bank p r t f =
    let e = eqb-true p.bank bank t in
    let n = eqb-false r.bank bank f in
    (bank_left bank p r e n, bank_right bank p r e n)

pub halving_maps : HalvingMaps
unfolding halved_bank
halving_maps map o bank =
    let here : Record → Bool = (in_bank bank).here in
    let seen = each (record_at map) (visits_of map (in_bank bank)) in
    same_test _ _
    (λ e.
    let x = some_at here seen e in
    some_of here (records_of map) x.0 (visits_members map (in_bank bank) x.0 x.1) x.2)
    (λ e.
    let x = some_at here (records_of map) e in
    let y = found map (in_bank bank) o (bank_sides map bank) x.0 x.1 x.2 in
    some_of here seen y.at y.among y.is)

-- left of a record, as numbers
pub location_is_left : (bank location : ℕ) (r : Record) → (at_location bank location).left r ≡ true
    → (bank < r.bank) ⊎ ((bank ≡ r.bank) × (location < r.first))
location_is_left bank location r e =
    ⊎_elim
    (λ t. inl (ltb-true bank r.bank t))
    (λ t.
    let b = both (eqb bank r.bank) (ltb location r.first) t in
    inr (eqb-true bank r.bank b.0, ltb-true location r.first b.1))
    (either (ltb bank r.bank) _ e)

pub location_not_left : (bank location : ℕ) (r : Record) → (at_location bank location).left r ≡ false
    → (r.bank ≤ bank) × (bank ≡ r.bank → r.first ≤ location)
location_not_left bank location r e =
    let n = neither (ltb bank r.bank) _ e in (
      ltb-false bank r.bank n.0,
      λ s.
          ltb-false location r.first
          (subst (λ (a : Bool). (a && ltb location r.first) ≡ false) (eq-eqb bank r.bank s) n.1),
    )

-- Of a record of the bank, one that is visited in its place is as near.
abbrev AsFar : ℕ → Record → Record → Type 0
AsFar location x r = location < x.first → (location < r.first) × (r.first ≤ x.first)

module _ (bank location : ℕ) (x r : Record) (b : x.bank ≡ bank) where
  abbrev AsNear : Type 0
  AsNear = (r.bank ≡ bank) × AsFar location x r

  near_above : Before r x → (bank < r.bank) ⊎ ((bank ≡ r.bank) × (location < r.first)) → AsNear
  near_above (inl k) (inl l) = absurd (omega arith)
  near_above (inl k) (inr l) = absurd (omega arith)
  near_above (inr k) (inl l) = absurd (omega arith)
  near_above (inr k) (inr l) = (omega arith, λ h. (omega arith, omega arith))

  near_below : Before x r → (r.bank ≤ bank) × (bank ≡ r.bank → r.first ≤ location) → AsNear
  near_below (inl k) l = absurd (omega arith)
  near_below (inr k) l = let low = l.1 (omega arith) in (omega arith, λ h. absurd (omega arith))

guides_near : (map : List ℕ) → ordered map ≡ true → (bank location : ℕ)
    → ((r : Record) → Member r map → holds r bank location ≡ false)
    → (j : ℕ) → j < length map / 8 → (b : (record_at map j).bank ≡ bank)
    → Guides map (at_location bank location) (λ r. AsNear bank location (record_at map j) r b) (length map / 8) j
guides_near map o bank location none j l b i k =
    let x = record_at map j in
    let r = record_at map i in
    let same : i ≡ j → AsNear bank location x r b = λ e. rw e (b, λ h. (h, omega arith)) in (
      λ e. clash (holds r bank location) e (none r (member map (length map / 8) i refl k r refl)),
      λ f u.
          ⊎_elim
          (λ q. inl (near_above bank location x r b (members_rise map o i j q l) (location_is_left bank location r u)))
          (⊎_elim (λ e. inl (same e)) inr)
          (compare i j),
      λ f u.
          ⊎_elim inr
          (⊎_elim (λ e. inl (same e)) (λ q.
          inl (near_below bank location x r b (members_rise map o j i q k) (location_not_left bank location r u))))
          (compare i j),
    )

-- where no record holds the location, one that is as near as any record of the bank is visited
visits_near : (map : List ℕ) → ordered map ≡ true → (bank location : ℕ)
    → ((r : Record) → Member r map → holds r bank location ≡ false)
    → (x : Record) → Member x map → x.bank ≡ bank
    → Near bank location (Among bank location (each (record_at map) (visits_of map (at_location bank location)))) x
visits_near map o bank location none x m b =
    let i = numbered map x m in
    let y = record_at map i.0 in
    let c : y.bank ≡ bank = rw (sym i.2) b in
    let below = i.1 in
    let n = length map / 8 in
    let v = reaches map (at_location bank location) (λ r. AsNear bank location y r c) n i.0
    (guides_near map o bank location none i.0 below c) n 0 n (omega arith) (omega arith) (omega arith) (omega arith) in
    (v.at, v.among, v.is.0, subst (λ (z : Record). AsFar location z v.at) (sym i.2) v.is.1)

pub halving_finds : HalvingFinds
unfolding halved visited
halving_finds map o bank location = go (holder seen bank location) refl
  where
    wanted : Wanted
    wanted = at_location bank location

    seen : List Record
    seen = each (record_at map) (visits_of map wanted)

    none_holds : (w : Why) → holder seen bank location ≡ Err w → (r : Record) → Member r map
        → holds r bank location ≡ false
    none_holds w e r m =
        ⊎_elim
        (λ t.
        let x = found map wanted o (location_sides map bank location) r m t in
        clash (holds x.at bank location) x.is (holder_none bank location seen w e x.at x.among))
        (λ f. f)
        (true_or_false (holds r bank location))

    go : (f : Result Record Why) → holder seen bank location ≡ f → f ≡ holder (records_of map) bank location
    go (Ok r) e =
        let x = holder_at bank location seen r e in
        sym (rising_hit bank location (records_of map) (rises map o) r (visits_members map wanted r x.0) x.1)
    go (Err w) e =
        let none = none_holds w e in
        let reason = tells_near bank location (Among bank location seen) (Among bank location (records_of map))
        (visits_members map wanted) (visits_near map o bank location none) (why seen bank location)
        (why_tells bank location seen) in
        sym e ∙ none_holder bank location seen (holder_none bank location seen w e)
        ∙ ap Err (tells_one bank location (Among bank location (records_of map)) _ _ reason
        (why_tells bank location (records_of map)))
        ∙ sym (none_holder bank location (records_of map) none)
