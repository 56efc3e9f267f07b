-- The turns of a search by halving, as the code makes them: of the records that it visits between low and high, those that
-- are left. Each law turns the invariant, with what a turn learns, into what the turn has to show.
-- Assumes nothing.
use Prim.Native.Nat.{ℕ, zero, suc, ◌+◌, ◌≤◌, ◌<◌, ◌-◌, ◌/◌}
use mathlib.Core.Path.{◌≡◌, refl, ap, sym, ◌∙◌}
use mathlib.Core.Bool.{Bool, true, false}
use mathlib.Core.List.{List, [], ◌∷◌, map as each}
use native.Mathlib.Omega.{arith}
use native.Mathlib.Nat.{zero-add}
use borrow.Author.Tests.{lt-ltb, le-ltb}
use lib.Dec.{eqb}
use lib.ListN.{length, length-map}
use Rattle.laws.proofs.Tests.{if_lt}
use Rattle.records.specs.Map.{record_at, mapped}
use Rattle.records.specs.Lookup.{holds, held_or, holder}
use Rattle.records.specs.Halving.{Wanted, at_location, in_bank, middle, after, visits, visits_of, visited, halved, halved_bank, sought}
use Rattle.records.specs.Promises.{MoreFuel}
use Rattle.records.specs.declared.record.Record.{Record}
use Rattle.std.specs.Prelude.{Ok, Err}
use Rattle.records.specs.declared.holder.Sought.{Sought}
use Rattle.records.specs.declared.holder.Why.{Why}
use Rattle.records.specs.declared.holder.Why.TheVariants.{Absent}
use Rattle.records.proofs.Reasons.{told, carried, carried_why}

module _ (map : List ℕ) (s : Wanted) where
  -- the middle of low and high, and what comes after it
  abbrev pub from_middle : ℕ → ℕ → List ℕ → List ℕ → List ℕ
  from_middle low high left right = middle low high ∷ after s (record_at map (middle low high)) left right

  pub ends : (fuel low high : ℕ) → high ≤ low → visits map s fuel low high ≡ []
  unfolding visits
  ends zero low high h = refl
  ends (suc fuel) low high h = rw (le-ltb low high h)

  pub goes : (fuel low high : ℕ) → low < high
      → visits map s (suc fuel) low high
      ≡ from_middle low high (visits map s fuel low (middle low high)) (visits map s fuel (middle low high + 1) high)
  unfolding visits
  goes fuel low high h = rw (lt-ltb low high h)

  -- more fuel than positions changes nothing
  pub enough : (a b low high : ℕ) → high - low ≤ a → high - low ≤ b → visits map s a low high ≡ visits map s b low high
  unfolding visits
  enough zero b low high h k = sym (ends b low high (omega arith))
  enough (suc a) zero low high h k = ends (suc a) low high (omega arith)
  enough (suc a) (suc b) low high h k =
      let m = middle low high in
      if_lt (λ (l : List ℕ). l ≡ visits map s (suc b) low high) low high
      (λ lt.
      ap (λ (l : List ℕ). from_middle low high l (visits map s a (m + 1) high))
      (enough a b low m (omega arith) (omega arith))
      ∙ ap (λ (l : List ℕ). from_middle low high (visits map s b low m) l)
      (enough a b (m + 1) high (omega arith) (omega arith))
      ∙ sym (goes b low high lt))
      (λ ge. sym (ends (suc b) low high ge))

  -- the positions visited of those from low up to high, by the rule without fuel
  abbrev pub between : ℕ → ℕ → List ℕ
  between low high = visits map s (high - low) low high

  pub between_ends : (low high : ℕ) → high ≤ low → between low high ≡ []
  between_ends low high h = ends (high - low) low high h

  pub between_goes : (low high : ℕ) → low < high
      → between low high ≡ from_middle low high (between low (middle low high)) (between (middle low high + 1) high)
  between_goes low high h =
      let m = middle low high in
      let fuel = high - low - 1 in
      enough (high - low) (suc fuel) low high (omega arith) (omega arith) ∙ goes fuel low high h
      ∙ ap (λ (l : List ℕ). from_middle low high l (visits map s fuel (m + 1) high))
      (enough fuel (m - low) low m (omega arith) (omega arith))
      ∙ ap (λ (l : List ℕ). from_middle low high (between low m) l)
      (enough fuel (high - (m + 1)) (m + 1) high (omega arith) (omega arith))

  -- the records there
  abbrev pub seen : ℕ → ℕ → List Record
  seen low high = each (record_at map) (between low high)

  pub seen_start : (n : ℕ) → n ≡ length map / 8 → each (record_at map) (visits_of map s) ≡ seen 0 n
  seen_start n e =
      rw e (ap (each (record_at map)) (enough (length map / 8) (length map / 8 - 0) 0 (length map / 8) (omega arith) (omega arith)))

  pub seen_end : (low high : ℕ) → high ≤ low → seen low high ≡ []
  seen_end low high h = ap (each (record_at map)) (between_ends low high h)

  module _ {low high m : ℕ} {r : Record} (lt : low < high) (e : m ≡ middle low high) (q : r ≡ record_at map m) where
    turned : seen low high ≡ r ∷ each (record_at map) (after s r (between low m) (between (m + 1) high))
    turned = ap (each (record_at map)) (between_goes low high lt) ∙ rw (q, e)

    pub seen_here : s.here r ≡ true → seen low high ≡ r ∷ []
    seen_here t = turned ∙ rw t

    pub seen_left : s.here r ≡ false → s.left r ≡ true → seen low high ≡ r ∷ seen low m
    seen_left t u = turned ∙ rw (t, u)

    pub seen_right : s.here r ≡ false → s.left r ≡ false → seen low high ≡ r ∷ seen (m + 1) high
    seen_right t u = turned ∙ rw (t, u)

pub more_fuel : MoreFuel
more_fuel map wanted fuel h = enough map wanted fuel (length map / 8) 0 (length map / 8) (omega arith) (omega arith)

-- An answer over the records visited; a record that is not what is wanted leaves it to an answer over the rest: a turn of the
-- search.
module _ (map : List ℕ) (s : Wanted) {A : Type 0} (f g : List Record → A) {x : A} {low high m : ℕ} {r : Record}
    (skips : (rs : List Record) → s.here r ≡ false → f (r ∷ rs) ≡ g rs) where
  pub goes_left : x ≡ f (seen map s low high) → low < high → m ≡ middle low high → r ≡ record_at map m
      → s.here r ≡ false → s.left r ≡ true
      → x ≡ g (seen map s low m)
  goes_left v lt e q t u = v ∙ ap f (seen_left map s lt e q t u) ∙ skips _ t

  pub goes_right : x ≡ f (seen map s low high) → low < high → m ≡ middle low high → r ≡ record_at map m
      → s.here r ≡ false → s.left r ≡ false
      → x ≡ g (seen map s (m + 1) high)
  goes_right v lt e q t u = v ∙ ap f (seen_right map s lt e q t u) ∙ skips _ t

pub stops : (map : List ℕ) (s : Wanted) {A : Type 0} (f : List Record → A) {x : A} {low high m : ℕ} {r : Record}
    → x ≡ f (seen map s low high) → low < high → m ≡ middle low high → r ≡ record_at map m → s.here r ≡ true
    → f (r ∷ []) ≡ x
stops map s f v lt e q t = sym (v ∙ ap f (seen_here map s lt e q t))

-- the record that holds a location, with the reason that is carried; and how many are counted, with those counted before
abbrev pub sought_in : ℕ → ℕ → Why → ℕ → List Record → Sought
sought_in bank location w n rs =
    record { found = held_or (Err (carried bank location w rs)) rs bank location; count = n + length rs }

pub sought_skips : (bank location : ℕ) (w v : Why) (n : ℕ) (r : Record) → v ≡ told bank location r w → (rs : List Record)
    → holds r bank location ≡ false
    → sought_in bank location w n (r ∷ rs) ≡ sought_in bank location v (n + 1) rs
sought_skips bank location w v n r e rs t =
    let one_more : n + suc (length rs) ≡ n + 1 + length rs = omega arith in
    rw (t, e, one_more)

pub sought_has : (bank location : ℕ) (w : Why) (n : ℕ) (r : Record) → holds r bank location ≡ true
    → record { found = Ok r; count = n + 1 } ≡ sought_in bank location w n (r ∷ [])
sought_has bank location w n r t = rw t

pub sought_starts : (map : List ℕ) (bank location n : ℕ) → n ≡ length map / 8
    → sought map bank location ≡ sought_in bank location Absent 0 (seen map (at_location bank location) 0 n)
unfolding sought halved visited holder
sought_starts map bank location n e =
    let l = visits_of map (at_location bank location) in
    let rs = each (record_at map) l in
    ap (λ (w : Why). record { found = held_or (Err w) rs bank location; count = length l })
    (sym (carried_why bank location rs))
    ∙ ap (λ (k : ℕ). record { found = held_or (Err (carried bank location Absent rs)) rs bank location; count = k })
    (sym (length-map l (record_at map)) ∙ sym (zero-add (length rs)))
    ∙ ap (sought_in bank location Absent 0) (seen_start map (at_location bank location) n e)

pub sought_ends : (map : List ℕ) (bank location low high : ℕ) (v w : Why) (n : ℕ) → v ≡ w → high ≤ low
    → record { found = Err v; count = n } ≡ sought_in bank location w n (seen map (at_location bank location) low high)
sought_ends map bank location low high v w n e h =
    rw (e, seen_end map (at_location bank location) low high h)
    (ap (λ (k : ℕ). record { found = Err w; count = k }) (omega arith))

-- a bank's records
abbrev pub mapped_in : ℕ → List Record → Bool
mapped_in bank rs = mapped rs bank

pub mapped_skips : (bank : ℕ) (r : Record) (rs : List Record) → eqb r.bank bank ≡ false
    → mapped_in bank (r ∷ rs) ≡ mapped_in bank rs
mapped_skips bank r rs t = rw t

pub mapped_has : (bank : ℕ) (r : Record) → eqb r.bank bank ≡ true → true ≡ mapped_in bank (r ∷ [])
mapped_has bank r t = rw t

pub mapped_starts : (map : List ℕ) (bank n : ℕ) → n ≡ length map / 8
    → halved_bank map bank ≡ mapped_in bank (seen map (in_bank bank) 0 n)
unfolding halved_bank
mapped_starts map bank n e = ap (mapped_in bank) (seen_start map (in_bank bank) n e)

pub mapped_ends : (map : List ℕ) (bank low high : ℕ) → high ≤ low
    → mapped_in bank (seen map (in_bank bank) low high) ≡ false
mapped_ends map bank low high h = rw (seen_end map (in_bank bank) low high h)
