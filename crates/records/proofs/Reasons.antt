-- Why no record holds a location, as facts about the records: which reason stands, whatever their order.
-- Assumes nothing.
use Prim.Native.Nat.{ℕ, ◌≤◌, ◌<◌}
use mathlib.Core.Path.{◌≡◌, refl, ap, sym, subst, ◌∙◌}
use mathlib.Core.Logic.{◌⊎◌, inl, inr, ⊎_elim}
use mathlib.Core.Bool.{Bool, true, false, ◌&&◌, ◌||◌}
use mathlib.Core.List.Memᴰ
use mathlib.Core.List.{List, [], ◌∷◌, Memᴰ}
use native.Mathlib.Omega.{arith}
use lib.Dec.{eqb, ltb}
use Rattle.std.specs.Prelude.{if◌then◌else◌}
use Rattle.laws.proofs.Tests.{if_by, if_lt, if_eq, clash, tests}
use Rattle.records.specs.Map.{mapped}
use Rattle.records.specs.Lookup.{above, nearer, next, why}
use Rattle.records.specs.declared.record.Record.{Record}
use Rattle.records.specs.declared.holder.Why.{Why}
use Rattle.records.specs.declared.holder.Why.TheVariants.{Absent, Hole, Past}

-- the reason so far, with one more record that does not hold the location: in the bank, it begins above, or else the location
-- lies past it
abbrev pub or_past : Why → Why
or_past Absent = Past
or_past (Hole n) = Hole n
or_past Past = Past

unfoldable pub told : ℕ → ℕ → Record → Why → Why
told bank location r w =
    if eqb r.bank bank then if ltb location r.first then nearer r.first w else or_past w else w

first_of : (x r : Record) → x ≡ r → x.first ≡ r.first
first_of x r e = ap (λ (y : Record). y.first) e

bank_of : (x r : Record) → x ≡ r → x.bank ≡ r.bank
bank_of x r e = ap (λ (y : Record). y.bank) e

pub neither : (a b : Bool) → (a || b) ≡ false → (a ≡ false) × (b ≡ false)
neither false b e = (refl, e)
neither true b e = clash true refl e

-- the nearer of two locations is the lower
pub nearer_lower : (n m : ℕ) → n < m → nearer n (Hole m) ≡ Hole n
unfolding nearer
nearer_lower n m h = search tests

pub nearer_higher : (n m : ℕ) → m ≤ n → nearer n (Hole m) ≡ Hole m
unfolding nearer
nearer_higher n m h = search tests

nearer_known : (n : ℕ) (w : Why) → or_past (nearer n w) ≡ nearer n w
unfolding nearer
nearer_known n Absent = refl
nearer_known n (Hole m) = refl
nearer_known n Past = refl

module _ (bank location : ℕ) where
  -- a bank without a record has no next location
  next_past : (rs : List Record) → mapped rs bank ≡ false → next rs bank location ≡ Past
  unfolding next
  next_past [] e = refl
  next_past (r ∷ rs) e = let n = neither (eqb r.bank bank) (mapped rs bank) e in rw n.0 (next_past rs n.1)

  -- and the next location is never that the bank is absent
  next_known : (rs : List Record) → or_past (next rs bank location) ≡ next rs bank location
  unfolding next
  next_known [] = refl
  next_known (r ∷ rs) =
      if_by (λ (w : Why). or_past w ≡ w) (above bank location r)
      (λ _. nearer_known r.first (next rs bank location))
      (λ _. next_known rs)

  why_told : (r : Record) (rs : List Record) → why (r ∷ rs) bank location ≡ told bank location r (why rs bank location)
  unfolding why next told nearer
  why_told r rs =
      go (eqb r.bank bank) (ltb location r.first) (mapped rs bank) (next rs bank location) (next_past rs)
      (next_known rs)
    where
      go : (a b m : Bool) (w : Why) → (m ≡ false → w ≡ Past) → or_past w ≡ w
          → (if a || m then if a && b then nearer r.first w else w else Absent)
          ≡ (if a
          then if b then nearer r.first (if m then w else Absent) else or_past (if m then w else Absent)
          else if m then w else Absent)
      go false b m w p q = refl
      go true true true w p q = refl
      go true true false w p q = rw (p refl)
      go true false true w p q = sym q
      go true false false w p q = p refl

  -- of the records P, a reason stands
  abbrev pub Tells : (Record → Type 0) → Why → Type 0
  Tells P Absent = (r : Record) → P r → r.bank ≡ bank → ⊥
  Tells P (Hole n) =
      ((r : Record) × P r × (r.bank ≡ bank) × (location < r.first) × (r.first ≡ n))
      × ((r : Record) → P r → r.bank ≡ bank → location < r.first → n ≤ r.first)
  Tells P Past = ((r : Record) × P r × (r.bank ≡ bank)) × ((r : Record) → P r → r.bank ≡ bank → r.first ≤ location)

  -- no two stand
  pub tells_one : (P : Record → Type 0) (a b : Why) → Tells P a → Tells P b → a ≡ b
  tells_one P Absent Absent s t = refl
  tells_one P Absent (Hole n) s t = let x = t.0 in absurd (s x.0 x.1 x.2)
  tells_one P Absent Past s t = let x = t.0 in absurd (s x.0 x.1 x.2)
  tells_one P (Hole n) Absent s t = let x = s.0 in absurd (t x.0 x.1 x.2)
  tells_one P (Hole n) (Hole m) s t =
      let x = s.0 in
      let y = t.0 in
      let up = s.1 y.0 y.1 y.2 y.3 in
      let down = t.1 x.0 x.1 x.2 x.3 in
      ap Hole (omega arith)
  tells_one P (Hole n) Past s t = let x = s.0 in let low = t.1 x.0 x.1 x.2 in absurd (omega arith)
  tells_one P Past Absent s t = let x = s.0 in absurd (t x.0 x.1 x.2)
  tells_one P Past (Hole n) s t = let x = t.0 in let low = s.1 x.0 x.1 x.2 in absurd (omega arith)
  tells_one P Past Past s t = refl

  -- of the records P one that is in the bank, and as near where x begins above
  abbrev pub Near : (Record → Type 0) → Record → Type 0
  Near P x =
      (v : Record) × P v × (v.bank ≡ bank) × (location < x.first → (location < v.first) × (v.first ≤ x.first))

  near_itself : (P : Record → Type 0) (x : Record) → P x → x.bank ≡ bank → Near P x
  near_itself P x p b = (x, p, b, λ h. (h, omega arith))

  -- more records change no reason, if for each of the bank one was there that is as near
  pub tells_near : (P Q : Record → Type 0) → ((x : Record) → P x → Q x) → ((x : Record) → Q x → x.bank ≡ bank → Near P x)
      → (w : Why) → Tells P w → Tells Q w
  tells_near P Q old near Absent t = λ x q b. let v = near x q b in t v.0 v.1 v.2
  tells_near P Q old near (Hole m) t =
      let y = t.0 in (
        (y.0, old y.0 y.1, y.2, y.3, y.4),
        λ x q b h.
            let v = near x q b in
            let up = v.3 h in
            let far = t.1 v.0 v.1 v.2 up.0 in
            omega arith,
      )
  tells_near P Q old near Past t =
      let y = t.0 in (
        (y.0, old y.0 y.1, y.2),
        λ x q b.
            let v = near x q b in
            let low = t.1 v.0 v.1 v.2 in
            let not : location < x.first → ⊥ = λ h. let up = v.3 h in absurd (omega arith) in
            omega arith,
      )

  -- one more record
  module _ (P Q : Record → Type 0) (r : Record) (old : (x : Record) → P x → Q x) (new : Q r)
      (all : (x : Record) → Q x → (x ≡ r) ⊎ P x) where
    elsewhere : (w : Why) → (r.bank ≡ bank → ⊥) → Tells P w → Tells Q w
    elsewhere w n t =
        tells_near P Q old
        (λ x q b. ⊎_elim (λ e. absurd (n (sym (bank_of x r e) ∙ b))) (λ p. near_itself P x p b) (all x q))
        w t

    begins_above : (w : Why) → r.bank ≡ bank → location < r.first → Tells P w → Tells Q (nearer r.first w)
    unfolding nearer
    begins_above Absent s l t = (
      (r, new, s, l, refl),
      λ x q b h.
          ⊎_elim (λ e. let same = first_of x r e in omega arith) (λ p. absurd (t x p b)) (all x q),
    )
    begins_above (Hole m) s l t =
        let y = t.0 in
        if_lt {A = ℕ} (λ _. Tells Q (nearer r.first (Hole m))) r.first m {x = 0} {y = 0}
        (λ lt.
        subst (Tells Q) (sym (nearer_lower r.first m lt)) (
          (r, new, s, l, refl),
          λ x q b h.
              ⊎_elim (λ e. let same = first_of x r e in omega arith) (λ p. let far = t.1 x p b h in omega arith) (all x q),
        ))
        (λ ge.
        subst (Tells Q) (sym (nearer_higher r.first m ge)) (
          (y.0, old y.0 y.1, y.2, y.3, y.4),
          λ x q b h.
              ⊎_elim (λ e. let same = first_of x r e in omega arith) (λ p. t.1 x p b h) (all x q),
        ))
    begins_above Past s l t = (
      (r, new, s, l, refl),
      λ x q b h.
          ⊎_elim (λ e. let same = first_of x r e in omega arith) (λ p. let low = t.1 x p b in absurd (omega arith))
          (all x q),
    )

    begins_below : (w : Why) → r.bank ≡ bank → r.first ≤ location → Tells P w → Tells Q (or_past w)
    begins_below Absent s l t = (
      (r, new, s),
      λ x q b.
          ⊎_elim (λ e. let same = first_of x r e in omega arith) (λ p. absurd (t x p b)) (all x q),
    )
    begins_below (Hole m) s l t =
        let y = t.0 in (
          (y.0, old y.0 y.1, y.2, y.3, y.4),
          λ x q b h.
              ⊎_elim (λ e. let same = first_of x r e in absurd (omega arith)) (λ p. t.1 x p b h) (all x q),
        )
    begins_below Past s l t =
        let y = t.0 in (
          (y.0, old y.0 y.1, y.2),
          λ x q b.
              ⊎_elim (λ e. let same = first_of x r e in omega arith) (λ p. t.1 x p b) (all x q),
        )

    pub tells_told : (w : Why) → Tells P w → Tells Q (told bank location r w)
    unfolding told
    tells_told w t =
        if_eq (Tells Q) r.bank bank
        (λ s.
        if_lt (Tells Q) location r.first (λ l. begins_above w s l t) (λ l. begins_below w s l t))
        (λ n. elsewhere w n t)

  -- a list of records
  abbrev pub Among : List Record → Record → Type 0
  Among rs r = Memᴰ r rs

  more : (r : Record) (rs : List Record) (w : Why) → Tells (Among rs) w → Tells (Among (r ∷ rs)) (told bank location r w)
  more r rs w t =
      tells_told (Among rs) (Among (r ∷ rs)) r (λ x p. Memᴰ.tail p) (Memᴰ.head refl)
      (λ x q. Memᴰ.cases_cons q) w t

  pub why_tells : (rs : List Record) → Tells (Among rs) (why rs bank location)
  unfolding why
  why_tells [] = λ r m b. Memᴰ.not-nil m
  why_tells (r ∷ rs) =
      subst (Tells (Among (r ∷ rs))) (sym (why_told r rs)) (more r rs (why rs bank location) (why_tells rs))

  -- the reason that is carried over the records, from one on
  abbrev pub carried : Why → List Record → Why
  carried w [] = w
  carried w (r ∷ rs) = carried (told bank location r w) rs

  -- the records P, and those of a list
  abbrev And : (Record → Type 0) → List Record → Record → Type 0
  And P rs r = P r ⊎ Among rs r

  carried_tells : (P Q : Record → Type 0) (w : Why) (rs : List Record) → ((x : Record) → And P rs x → Q x)
      → ((x : Record) → Q x → And P rs x) → Tells P w
      → Tells Q (carried w rs)
  carried_tells P Q w [] to from t =
      tells_near P Q (λ x p. to x (inl p))
      (λ x q b. ⊎_elim (λ p. near_itself P x p b) (λ m. absurd (Memᴰ.not-nil m)) (from x q))
      w t
  carried_tells P Q w (r ∷ rs) to from t =
      let R : Record → Type 0 = λ x. (x ≡ r) ⊎ P x in
      carried_tells R Q (told bank location r w) rs
      (λ x. ⊎_elim (⊎_elim (λ e. to x (inr (Memᴰ.head e))) (λ p. to x (inl p))) (λ m. to x (inr (Memᴰ.tail m))))
      (λ x q. ⊎_elim (λ p. inl (inr p)) (λ m. ⊎_elim (λ e. inl (inl e)) (λ k. inr k) (Memᴰ.cases_cons m)) (from x q))
      (tells_told P R r (λ x p. inr p) (inl refl) (λ x q. q) w t)

  pub carried_why : (rs : List Record) → carried Absent rs ≡ why rs bank location
  carried_why rs =
      tells_one (Among rs) (carried Absent rs) (why rs bank location)
      (carried_tells (λ x. ⊥) (Among rs) Absent rs (λ x. ⊎_elim (λ p. absurd p) (λ m. m)) (λ x m. inr m) (λ x p b. p))
      (why_tells rs)
