-- The record that holds a location: it is a record of the map, and of an ordered map there is no second one.
-- Assumes nothing.
use mathlib.Core.Path.{◌≡◌, refl, ap, sym, ◌∙◌}
use mathlib.Core.Logic.{inl, inr, ⊎_elim}
use mathlib.Core.Bool.{true, false}
use mathlib.Core.List.Memᴰ
use mathlib.Core.List.{List, [], ◌∷◌, Memᴰ}
use Prim.Native.Nat.{ℕ}
use native.Mathlib.Omega.{arith}
use borrow.Author.Tests.{leb-true, ltb-true, eqb-true, le-leb, lt-ltb, eq-eqb}
use lib.Dec.{eqb}
use Rattle.laws.proofs.Tests.{if_by}
use Rattle.laws.proofs.Items.{every_at}
use Rattle.laws.proofs.Sides.{and_left, and_right, chosen}
use Rattle.laws.proofs.Members.{some_at, some_of}
use Rattle.records.specs.Map.{records_of, locations_end}
use Rattle.records.specs.Order.{before, rising}
use Rattle.records.specs.Lookup.{holds, why, held_or, holder, if_first, beginner}
use Rattle.records.specs.Facts.{Before, Holds}
use Rattle.records.specs.Promises.{HolderHit, HolderNone, FirstFound, MappedMember}
use Rattle.records.specs.declared.record.Record.{Record}
use Rattle.std.specs.Prelude.{Some, Result, Ok, Err}
use Rattle.records.specs.declared.holder.Why.{Why}
use Rattle.records.proofs.Members.{before_is, rising_all, rising_tail, rises, member_fields}

pub holds_is : (r : Record) (bank location : ℕ) → holds r bank location ≡ true → Holds r bank location
holds_is r bank location e =
    record {
      same_bank = search (and_left, eqb-true);
      from = search (and_left, and_right, leb-true);
      to = search (and_left, and_right, ltb-true);
    }

pub is_holding : (r : Record) (bank location : ℕ) → Holds r bank location → holds r bank location ≡ true
is_holding r bank location h =
    rw (
      eq-eqb r.bank bank h.same_bank,
      le-leb r.first location h.from,
      lt-ltb location (locations_end r) h.to,
    )

module _ (bank location : ℕ) where
  module _ (w : Why) where
    held_at : (rs : List Record) (r : Record) → held_or (Err w) rs bank location ≡ Ok r
        → Memᴰ r rs × (holds r bank location ≡ true)
    held_at [] r e = let z : ◌≡◌ {A = ℕ} 0 1 = cc in absurd (omega arith)
    held_at (x ∷ rs) r e =
        ⊎_elim
        (λ q. let same : r ≡ x = cc in (Memᴰ.head same, rw same q.0))
        (λ q. let k = held_at rs r q.1 in (Memᴰ.tail k.0, k.1))
        (chosen (holds x bank location) e)

    held_none : (v : Why) (rs : List Record) → held_or (Err w) rs bank location ≡ Err v
        → (r : Record) → Memᴰ r rs
        → holds r bank location ≡ false
    held_none v [] e r m = elim m [ ]
    held_none v (x ∷ rs) e r m =
        ⊎_elim
        (λ q. let z : ◌≡◌ {A = ℕ} 0 1 = cc in absurd (omega arith))
        (λ q. ⊎_elim (λ p. rw p q.0) (λ k. held_none v rs q.1 r k) (Memᴰ.cases_cons m))
        (chosen (holds x bank location) e)

    none_held : (rs : List Record) → ((r : Record) → Memᴰ r rs → holds r bank location ≡ false)
        → held_or (Err w) rs bank location ≡ Err w
    none_held [] h = refl
    none_held (x ∷ rs) h = rw (h x (Memᴰ.head refl)) (none_held rs (λ r m. h r (Memᴰ.tail m)))

  -- what is found is a member, and holds the location
  pub holder_at : (rs : List Record) (r : Record) → holder rs bank location ≡ Ok r
      → Memᴰ r rs × (holds r bank location ≡ true)
  unfolding holder
  holder_at rs r e = held_at (why rs bank location) rs r e

  -- it is missing exactly if no member holds the location, and then for that reason
  pub holder_none : (rs : List Record) (w : Why) → holder rs bank location ≡ Err w → (r : Record) → Memᴰ r rs
      → holds r bank location ≡ false
  unfolding holder
  holder_none rs w e r m = held_none (why rs bank location) w rs e r m

  pub none_holder : (rs : List Record) → ((r : Record) → Memᴰ r rs → holds r bank location ≡ false)
      → holder rs bank location ≡ Err (why rs bank location)
  unfolding holder
  none_holder rs h = none_held (why rs bank location) rs h

  -- two records that hold the location do not stand one before the other
  not_both : {A : Type 0} (p r : Record) → Before p r → Holds p bank location → Holds r bank location → A
  not_both p r (inl b) h k = absurd (omega arith)
  not_both p r (inr b) h k = absurd (omega arith)

  -- in a rising list a member that holds the location is what is found
  rising_held : (none : Result Record Why) (rs : List Record) → rising rs ≡ true → (r : Record) → Memᴰ r rs
      → holds r bank location ≡ true → held_or none rs bank location ≡ Ok r
  rising_held none [] u r x3 t = elim x3 [ ]
  rising_held none (x ∷ rs) u r (Memᴰ.head p) t =
      rw (ap (λ (y : Record). holds y bank location) (sym p) ∙ t) (ap Ok (sym p))
  rising_held none (x ∷ rs) u r (Memᴰ.tail m) t =
      if_by (λ (f : Result Record Why). f ≡ Ok r) (holds x bank location)
      (λ q.
      let first = before_is x r (every_at (before x) rs (rising_all x rs u) r m) in
      not_both x r first (holds_is x bank location q) (holds_is r bank location t))
      (λ q. rising_held none rs (rising_tail x rs u) r m t)

  pub rising_hit : (rs : List Record) → rising rs ≡ true → (r : Record) → Memᴰ r rs
      → holds r bank location ≡ true → holder rs bank location ≡ Ok r
  unfolding holder
  rising_hit rs u r m t = rising_held (Err (why rs bank location)) rs u r m t

pub holder_is_none : HolderNone
holder_is_none map bank location =
    let rs = records_of map in
    (λ x. holder_none bank location rs x.0 x.1, λ h. (why rs bank location, none_holder bank location rs h))

pub holder_hit : HolderHit
holder_hit map o bank location r m h =
    rising_hit bank location (records_of map) (rises map o) r m (is_holding r bank location h)

pub mapped_member : MappedMember
mapped_member map bank = (
  λ e. let x = some_at (λ r. eqb r.bank bank) (records_of map) e in (x.0, x.1, eqb-true x.0.bank bank x.2),
  λ x. some_of (λ r. eqb r.bank bank) (records_of map) x.0 x.1 (eq-eqb x.0.bank bank x.2),
)

-- the value that begins at a location is the one that holds it, where it begins there
if_first_at : (location : ℕ) (f : Result Record Why) (r : Record) → if_first location f ≡ Some r
    → (f ≡ Ok r) × (r.first ≡ location)
unfolding if_first
if_first_at location (Ok x) r e =
    ⊎_elim
    (λ q.
    let same : r ≡ x = cc in
    (ap Ok (sym same), ap (λ (y : Record). y.first) same ∙ eqb-true x.first location q.0))
    (λ q. let z : ◌≡◌ {A = ℕ} 0 1 = cc in absurd (omega arith))
    (chosen (eqb x.first location) e)
if_first_at location (Err w) r e = let z : ◌≡◌ {A = ℕ} 0 1 = cc in absurd (omega arith)

pub beginner_at : (rs : List Record) (bank location : ℕ) (r : Record) → beginner rs bank location ≡ Some r
    → (holder rs bank location ≡ Ok r) × (r.first ≡ location)
unfolding beginner
beginner_at rs bank location r e = if_first_at location (holder rs bank location) r e

pub first_found : FirstFound
unfolding beginner if_first
first_found map o r m =
    let f = member_fields map o r m in
    let here : Holds r r.bank r.first = record { same_bank = refl; from = omega arith; to = omega arith } in
    let e = holder_hit map o r.bank r.first r m here in
    (e, rw (e, eq-eqb r.first r.first refl))
