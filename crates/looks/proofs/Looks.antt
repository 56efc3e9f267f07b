-- The look calls: their number, and the place of the value.
-- Assumes nothing.
use mathlib.Core.Path.{◌≡◌, refl, ap, sym, ◌∙◌}
use mathlib.Core.Bool.{true}
use mathlib.Core.List.{List, [], ◌∷◌}
use Prim.Native.Nat.{ℕ, zero, suc, ◌+◌, ◌-◌, ◌≤◌, ◌<◌}
use native.Mathlib.Omega.{arith}
use native.Mathlib.Nat.{add-sub_cancel_left}
use borrow.Author.Tests.{ne_eqb}
use lib.Dec.{eqb}
use lib.ListN.{length, take, drop}
use Rattle.std.specs.Prelude.{if◌then◌else◌, Option, Some, None, Ok, Err}
use Rattle.laws.specs.Numbers.{Test, test, first_failing}
use Rattle.laws.specs.Parts.{part}
use Rattle.laws.proofs.Numbers.{exactly_if}
use Rattle.laws.proofs.Parts.{length_part}
use Rattle.laws.proofs.Settled.{settles}
use Rattle.laws.proofs.Joined.{joined_none, joined_some}
use Rattle.records.specs.Map.{records_of}
use Rattle.records.specs.Order.{ordered}
use Rattle.records.specs.Lookup.{beginner}
use Rattle.records.specs.Facts.{Member}
use Rattle.records.specs.declared.record.Record.{Record}
use Rattle.refusals.specs.Numbers.{number_of, number_in, refusal_of}
use Rattle.refusals.specs.declared.refusal.Refusal.{Refusal}
use Rattle.refusals.proofs.Told.{refusal_is, not_none, numbers_in_range}
use Rattle.refusals.proofs.Among.{number_among}
use Rattle.records.proofs.Members.{member_fields}
use Rattle.records.proofs.Locations.{holds_is, holder_at, beginner_at, first_found}
use Rattle.banks.specs.Rules.{check_tests, check_number}
use Rattle.banks.specs.Values.{value_of}
use Rattle.banks.proofs.Places.{member_inside, holder_within}
use Rattle.banks.proofs.Standing.{stands, is_standing}
use Rattle.looks.specs.Look.{is_found, look_tests, look_number, place_of, look_of, bytes_at, look_bytes}
use Rattle.looks.specs.Promises.{Shows, LookNumbers, LookStands, LookShows, LookEmpty}
use Rattle.looks.specs.Promises.{LookAtSettled, LookNumberSettled, LookSettled}
use Rattle.looks.specs.declared.looked.Place.{Place}

-- a number and a place, as one
placed_or_14 : (f : Option Record) (n : ℕ) → n ≡ (if is_found f then 0 else 14)
    → (if eqb n 0 then place_of f else Err (refusal_of n)) ≡ place_of f
unfolding refusal_of
placed_or_14 (Some r) n e = rw e
placed_or_14 None n e = rw e

module _ (map store : List ℕ) (bank location : ℕ) where
  -- what comes after 7 to 11
  abbrev last_test : List Test
  last_test = test 14 (is_found (beginner (records_of map) bank location)) ∷ []

  -- 7 to 11 are broken: that number
  refused_number : (n : ℕ) → 0 < n → check_number map store (length store) ≡ n → look_number map store bank location ≡ n
  unfolding check_number look_number
  refused_number n h e = joined_some (check_tests map store (length store)) last_test n h e

  -- 7 to 11 hold: 0 or 14
  pub sound_number : check_number map store (length store) ≡ 0
      → look_number map store bank location ≡ (if is_found (beginner (records_of map) bank location) then 0 else 14)
  unfolding check_number look_number first_failing
  sound_number e = joined_none (check_tests map store (length store)) last_test refl e

  pub look_refused : (e : Refusal) → number_of e ≡ check_number map store (length store)
      → Err e ≡ look_of map store bank location
  unfolding look_of
  look_refused e q =
      let n = refused_number (number_of e) (numbers_in_range e).0 (sym q) in
      rw (n, ne_eqb (number_of e) 0 (not_none e _ refl)) (ap Err (refusal_is e _ refl))

  pub look_sound : check_number map store (length store) ≡ 0
      → look_of map store bank location ≡ place_of (beginner (records_of map) bank location)
  unfolding look_of
  look_sound e =
      placed_or_14 (beginner (records_of map) bank location) (look_number map store bank location) (sound_number e)

  told : (look_number map store bank location ≡ 0 → ⊥)
      → number_in (look_of map store bank location) ≡ look_number map store bank location
  unfolding look_of look_number
  told h = rw (ne_eqb (look_number map store bank location) 0 h) (number_among (look_tests map store bank location) refl _ refl h)

  pub look_number_is : number_in (look_of map store bank location) ≡ look_number map store bank location
  look_number_is = go (check_number map store (length store)) refl
    where
      of_found : (f : Option Record) → number_in (place_of f) ≡ (if is_found f then 0 else 14)
      of_found (Some r) = refl
      of_found None = refl

      go : (n : ℕ) → check_number map store (length store) ≡ n
          → number_in (look_of map store bank location) ≡ look_number map store bank location
      go zero e = rw (look_sound e, sound_number e) (of_found (beginner (records_of map) bank location))
      go (suc n) e = told (λ z. absurd (omega (arith, refused_number (suc n) (omega arith) e)))

  -- of a place, and of a refusal
  pub look_0 : (p : Place) → Ok p ≡ look_of map store bank location → 0 ≡ look_number map store bank location
  look_0 p e = ap number_in e ∙ look_number_is

  pub look_some : (e : Refusal) → Err e ≡ look_of map store bank location → number_of e ≡ look_number map store bank location
  look_some e q = ap number_in q ∙ look_number_is

  -- the place lies in the store
  pub look_inside : (p : Place) → Ok p ≡ look_of map store bank location → p.offset + p.width ≤ length store
  look_inside p e = go (check_number map store (length store)) refl
    where
      of_found : check_number map store (length store) ≡ 0 → (f : Option Record) → beginner (records_of map) bank location ≡ f
          → Ok p ≡ place_of f → p.offset + p.width ≤ length store
      of_found z (Some r) q h =
          let same : p ≡ record { width = r.width; offset = r.offset } = cc in
          let inside = (holder_within map (length store) bank location (stands map store (length store) z).in_place r
          (beginner_at (records_of map) bank location r q).0).inside in
          rw same inside
      of_found z None q h = cc

      go : (n : ℕ) → check_number map store (length store) ≡ n → p.offset + p.width ≤ length store
      go zero z = of_found z (beginner (records_of map) bank location) refl (e ∙ look_sound z)
      go (suc n) z = absurd (omega (arith, look_0 p e, refused_number (suc n) (omega arith) z))

  -- the part that a call hands out is that place's bytes
  pub look_part : (p : Place) → Ok p ≡ look_of map store bank location
      → take (p.offset + p.width - p.offset) (drop p.offset store) ≡ look_bytes map store bank location
  unfolding look_bytes part
  look_part p e =
      ap (λ (n : ℕ). take n (drop p.offset store)) (add-sub_cancel_left p.offset p.width) ∙ ap (bytes_at store) e

  pub look_none : (e : Refusal) → Err e ≡ look_of map store bank location → [] ≡ look_bytes map store bank location
  unfolding look_bytes
  look_none e q = ap (bytes_at store) q

  -- a look with number 0 passed 7 to 11
  pub look_checked : look_number map store bank location ≡ 0 → check_number map store (length store) ≡ 0
  look_checked e = go (check_number map store (length store)) refl
    where
      go : (n : ℕ) → check_number map store (length store) ≡ n → n ≡ 0
      go zero q = refl
      go (suc n) q = sym (refused_number (suc n) (omega arith) q) ∙ e

pub look_numbers : LookNumbers
unfolding look_number
look_numbers map store bank location n h = exactly_if (look_tests map store bank location) n h

pub look_shows : LookShows
unfolding look_bytes value_of
look_shows map store bank location e = go (beginner (records_of map) bank location) refl
  where
    sound : check_number map store (length store) ≡ 0
    sound = look_checked map store bank location e

    go : (f : Option Record) → beginner (records_of map) bank location ≡ f → (r : Record) × Shows map store bank location r
    go (Some r) q =
        let b = beginner_at (records_of map) bank location r q in
        let k = holder_at bank location (records_of map) r b.0 in
        let place = look_sound map store bank location sound ∙ ap place_of q in (
          r,
          record {
            member = k.0;
            its_bank = (holds_is r bank location k.1).same_bank;
            begins = b.1;
            place = place;
            bytes = rw place;
          },
        )
    go None q =
        let n = ap {B = ℕ} (λ f. if is_found f then 0 else 14) q in
        absurd (omega (arith, sym e ∙ sound_number map store bank location sound ∙ n))

-- a value has at least one byte
some_byte : (map store : List ℕ) (bank location : ℕ) → look_bytes map store bank location ≡ []
    → look_number map store bank location ≡ 0 → ⊥
unfolding value_of
some_byte map store bank location b e =
    let x = look_shows map store bank location e in
    let s = stands map store (length store) (look_checked map store bank location e) in
    let f = member_fields map s.in_order x.0 x.1.member in
    let i = member_inside map (length store) s.in_place x.0 x.1.member in
    let n = length_part x.0.offset x.0.width store i in
    omega (arith, ap length (sym x.1.bytes ∙ b))

no_byte : (map store : List ℕ) (bank location : ℕ) → (look_number map store bank location ≡ 0 → ⊥)
    → look_bytes map store bank location ≡ []
unfolding look_of look_bytes part
no_byte map store bank location n = rw (ne_eqb (look_number map store bank location) 0 n)

pub look_empty : LookEmpty
look_empty map store bank location = (some_byte map store bank location, no_byte map store bank location)

-- a value begins there: it is found
begun : (map : List ℕ) → ordered map ≡ true → (r : Record) → Member r map → (bank location : ℕ)
    → r.bank ≡ bank → r.first ≡ location
    → is_found (beginner (records_of map) bank location) ≡ true
begun map o r m bank location b f =
    ap (λ (n : ℕ). is_found (beginner (records_of map) n location)) (sym b)
    ∙ ap (λ (n : ℕ). is_found (beginner (records_of map) r.bank n)) (sym f) ∙ ap is_found (first_found map o r m).1

pub look_stands : LookStands
look_stands map store bank location = (
  λ e.
      let x = look_shows map store bank location e in
      let sound = look_checked map store bank location e in
      (stands map store (length store) sound, (x.0, x.1.member, x.1.its_bank, x.1.begins)),
  λ q.
      let x = q.1 in
      sound_number map store bank location (is_standing map store (length store) q.0)
      ∙ rw (begun map q.0.in_order x.0 x.1 bank location x.2 x.3),
)

pub look_at_settled : LookAtSettled
look_at_settled map store bank location = settles (look_of map store bank location)

pub look_number_settled : LookNumberSettled
look_number_settled map store bank location = settles (look_number map store bank location)

pub look_settled : LookSettled
look_settled map store bank location = settles (look_bytes map store bank location)
