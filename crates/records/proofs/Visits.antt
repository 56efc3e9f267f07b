-- The positions that a look-up visits: how many, which, and that it depends on no other record.
-- Assumes nothing.
use Prim.Native.Nat.{ℕ, zero, suc, ◌+◌, ◌^◌, ◌≤◌, ◌<◌, ◌-◌, ◌/◌, suc-le-suc}
use mathlib.Core.Path.{◌≡◌, refl, ap, sym, ◌∙◌}
use mathlib.Core.Logic.{inl, inr, ⊎_elim}
use mathlib.Core.Bool.{Bool, true, false}
use mathlib.Core.List.Memᴰ
use mathlib.Core.List.{List, [], ◌∷◌, Memᴰ, map as each}
use native.Mathlib.Omega.{arith}
use native.Mathlib.Nat.{pow-suc}
use lib.Pow.{pow_pos}
use lib.ListN.{length}
use Rattle.std.specs.Prelude.{if◌then◌else◌}
use Rattle.laws.proofs.Tests.{if_by, if_lt}
use Rattle.records.specs.Map.{record_at}
use Rattle.records.specs.Order.{ordered}
use Rattle.records.specs.Lookup.{holds, holder}
use Rattle.records.specs.Facts.{Before, Holds, Distinct, AgreeAt}
use Rattle.records.specs.Halving.{Wanted, at_location, middle, after, visits, visited, halved}
use Rattle.records.specs.Promises.{VisitedBound, VisitedExactly, VisitedMost, VisitedNone, VisitedBelow}
use Rattle.records.specs.Promises.{VisitedDistinct, VisitedTells, AnswerTells}
use Rattle.records.specs.declared.record.Record.{Record}
use Rattle.records.proofs.Walk.{member}
use Rattle.records.proofs.Members.{member_fields, members_rise}
use Rattle.records.proofs.Locations.{holds_is}
use Rattle.records.proofs.Turns.{ends, goes}
use Rattle.records.proofs.Ordered.{size_most}
use Rattle.records.proofs.Halving.{true_or_false, location_left, halving_finds}

module _ (map : List ℕ) (s : Wanted) where
  -- what holds of nothing and of both halves holds of what comes after a record
  after_is : (P : List ℕ → Type 0) (r : Record) {left right : List ℕ} → P [] → P left → P right → P (after s r left right)
  after_is P r none left right = if_by P (s.here r) (λ e. none) (λ e. if_by P (s.left r) (λ e. left) (λ e. right))

  -- half of fewer than 2 ^ (k + 1) positions, the middle one left out, are fewer than 2 ^ k
  at_most : (k fuel low high : ℕ) → high - low < 2 ^ k → length (visits map s fuel low high) ≤ k
  unfolding visits
  at_most k zero low high h = omega arith
  at_most zero (suc fuel) low high h =
      if_lt (λ (l : List ℕ). length l ≤ 0) low high (λ lt. absurd (omega arith)) (λ ge. omega arith)
  at_most (suc k) (suc fuel) low high h =
      let m = middle low high in
      let p = pow-suc 2 k in
      if_lt (λ (l : List ℕ). length l ≤ suc k) low high
      (λ lt.
      after_is (λ (l : List ℕ). length (m ∷ l) ≤ suc k) (record_at map m) (omega arith)
      (suc-le-suc (at_most k fuel low m (omega arith)))
      (suc-le-suc (at_most k fuel (m + 1) high (omega arith))))
      (λ ge. omega arith)

  -- each lies from low up to high, high left out
  within : (i fuel low high : ℕ) → Memᴰ i (visits map s fuel low high) → (low ≤ i) × (i < high)
  unfolding visits
  within i zero low high = λ q. absurd (Memᴰ.not-nil q)
  within i (suc fuel) low high =
      let m = middle low high in
      let In : List ℕ → Type 0 = λ l. Memᴰ i l → (low ≤ i) × (i < high) in
      if_lt In low high
      (λ lt q.
      ⊎_elim
      (λ e. (omega arith, omega arith))
      (after_is In (record_at map m)
      (λ x. absurd (Memᴰ.not-nil x))
      (λ x. let y = within i fuel low m x in (y.0, omega arith))
      (λ x. let y = within i fuel (m + 1) high x in (omega arith, y.1)))
      (Memᴰ.cases_cons q))
      (λ ge q. absurd (Memᴰ.not-nil q))

  distinct : (fuel low high : ℕ) → Distinct (visits map s fuel low high)
  unfolding visits
  distinct zero low high = tt
  distinct (suc fuel) low high =
      let m = middle low high in
      if_lt Distinct low high
      (λ lt.
      after_is (λ (l : List ℕ). (Memᴰ m l → ⊥) × Distinct l) (record_at map m)
      (λ q. absurd (Memᴰ.not-nil q), tt)
      (λ q. let y = within m fuel low m q in absurd (omega arith), distinct fuel low m)
      (λ q. let y = within m fuel (m + 1) high q in absurd (omega arith), distinct fuel (m + 1) high))
      (λ ge. tt)

-- Two maps that agree at the positions visited of the one.
module _ (map other : List ℕ) (s : Wanted) where
  -- by halves that are the same where they agree
  same_after : (here left : Bool) (l r l' r' : List ℕ)
      → (AgreeAt map other l → l ≡ l') → (AgreeAt map other r → r ≡ r')
      → AgreeAt map other (if here then [] else if left then l else r)
      → (if here then [] else if left then l else r) ≡ (if here then [] else if left then l' else r')
  same_after true left l r l' r' f g a = refl
  same_after false true l r l' r' f g a = f a
  same_after false false l r l' r' f g a = g a

  same_visits : (fuel low high : ℕ) → AgreeAt map other (visits map s fuel low high)
      → visits map s fuel low high ≡ visits other s fuel low high
  unfolding visits
  same_visits zero low high = λ a. refl
  same_visits (suc fuel) low high =
      let m = middle low high in
      let left = visits other s fuel low m in
      let right = visits other s fuel (m + 1) high in
      if_lt (λ (l : List ℕ). AgreeAt map other l → l ≡ visits other s (suc fuel) low high) low high
      (λ lt a.
      let r = record_at map m in
      ap (λ (l : List ℕ). m ∷ l)
      (same_after (s.here r) (s.left r) _ _ left right (same_visits fuel low m) (same_visits fuel (m + 1) high)
      (λ i q. a i (Memᴰ.tail q)))
      ∙ ap (λ (x : Record). m ∷ after s x left right) (a m (Memᴰ.head refl))
      ∙ sym (goes other s fuel low high lt))
      (λ ge a. sym (ends other s (suc fuel) low high ge))

  same_records : (l : List ℕ) → AgreeAt map other l → each (record_at map) l ≡ each (record_at other) l
  same_records [] a = refl
  same_records (i ∷ l) a = rw (a i (Memᴰ.head refl), same_records l (λ k q. a k (Memᴰ.tail q)))

pub visited_bound : VisitedBound
unfolding visited
visited_bound map bank location k h = at_most map (at_location bank location) k _ _ _ (omega arith)

pub visited_most : VisitedMost
visited_most map h bank location =
    let size = size_most (length map) h in
    visited_bound map bank location 7 (omega arith)

pub visited_none : VisitedNone
unfolding visited visits
visited_none map e bank location = rw e

pub visited_below : VisitedBelow
unfolding visited
visited_below map bank location i q = (within map (at_location bank location) i _ _ _ q).1

pub visited_distinct : VisitedDistinct
unfolding visited
visited_distinct map bank location = distinct map (at_location bank location) _ _ _

pub visited_tells : VisitedTells
unfolding visited
visited_tells map other e bank location a =
    same_visits map other (at_location bank location) _ _ _ a
    ∙ ap (λ (n : ℕ). visits other (at_location bank location) (n / 8) 0 (n / 8)) e

pub answer_tells : AnswerTells
unfolding halved
answer_tells map other o p e bank location a =
    let l = visited map bank location in
    sym (halving_finds map o bank location)
    ∙ ap (λ (rs : List Record). holder rs bank location) (same_records map other (at_location bank location) l a)
    ∙ ap (λ (k : List ℕ). holder (each (record_at other) k) bank location) (visited_tells map other e bank location a)
    ∙ halving_finds other p bank location

-- What the first record of an ordered map holds takes the left half each time.
module _ (map : List ℕ) (o : ordered map ≡ true) where
  abbrev first : Record
  first = record_at map 0

  abbrev at_first : Wanted
  at_first = at_location first.bank first.first

  begins : 0 < length map / 8 → Holds first first.bank first.first
  begins h =
      let fields = member_fields map o first (member map (length map / 8) 0 refl h first refl) in
      record { same_bank = refl; from = omega arith; to = omega arith }

  not_here : (r : Record) → Before first r → Holds r first.bank first.first → 0 < length map / 8 → ⊥
  not_here r (inl b) h n = absurd (omega arith)
  not_here r (inr b) h n = let x = begins n in absurd (omega arith)

  first_left : (m : ℕ) → 0 < m → m < length map / 8
      → (at_first.here (record_at map m) ≡ false) × (at_first.left (record_at map m) ≡ true)
  first_left m h l =
      let r = record_at map m in
      let before = members_rise map o 0 m h l in (
        ⊎_elim
            (λ t. absurd (not_here r before (holds_is r first.bank first.first t) (omega arith)))
            (λ f. f)
            (true_or_false (holds r first.bank first.first)),
        location_left first.bank first.first first r (begins (omega arith)) before,
      )

  met : (k fuel high : ℕ) → high ≤ fuel → high ≤ length map / 8 → 2 ^ k ≤ high
      → k < length (visits map at_first fuel 0 high)
  met k zero high f l h = let p = pow_pos k in absurd (omega arith)
  met zero (suc fuel) high f l h = rw (goes map at_first fuel 0 high (omega arith)) (omega arith)
  met (suc k) (suc fuel) high f l h =
      let p = pow-suc 2 k in
      let q = pow_pos k in
      let m = middle 0 high in
      let side = first_left m (omega arith) (omega arith) in
      rw (goes map at_first fuel 0 high (omega arith), side.0, side.1)
      (suc-le-suc (met k fuel m (omega arith) (omega arith) (omega arith)))

pub visited_exactly : VisitedExactly
unfolding visited
visited_exactly map o k = (
  λ f.
      let r = record_at map 0 in
      let n = length map / 8 in
      if_lt (λ (b : Bool). n < 2 ^ k) n (2 ^ k) {x = true} {y = false} (λ h. h) (λ h.
      let most = f r.bank r.first in
      let more = met map o k n n (omega arith) (omega arith) h in
      absurd (omega arith)),
  λ h bank location. visited_bound map bank location k h,
)
