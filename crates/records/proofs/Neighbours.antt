-- The neighbours of a gap, as halving carries them: in an ordered map they say what all records that were visited say.
-- Assumes nothing.
use Prim.Native.Nat.{ℕ, ◌+◌, ◌/◌, ◌≤◌, ◌<◌}
use mathlib.Core.Path.{◌≡◌, refl, ap, sym, subst, ◌∙◌}
use mathlib.Core.Logic.{◌⊎◌, inl, inr, ⊎_elim}
use mathlib.Core.Bool.{true, false}
use mathlib.Core.List.{List}
use native.Mathlib.Omega.{arith}
use borrow.Author.Tests.{eq-eqb, ne_eqb, lt-ltb, le-ltb}
use lib.Dec.{eqb}
use lib.ListN.{length}
use Rattle.std.specs.Prelude.{if◌then◌else◌}
use Rattle.laws.proofs.Tests.{if_eq, if_lt}
use Rattle.records.specs.Map.{record_at}
use Rattle.records.specs.Order.{ordered}
use Rattle.records.specs.Lookup.{nearer}
use Rattle.records.specs.Facts.{Before}
use Rattle.records.specs.Halving.{at_location, beside, sought}
use Rattle.records.specs.declared.record.Record.{Record}
use Rattle.records.specs.declared.holder.Why.{Why}
use Rattle.records.specs.declared.holder.Why.TheVariants.{Hole, Past}
use Rattle.records.proofs.Members.{members_rise}
use Rattle.records.proofs.Reasons.{nearer_lower, nearer_higher, or_past, told}
use Rattle.records.proofs.Turns.{seen, sought_in, sought_starts}
use Rattle.records.proofs.Halving.{location_is_left, location_not_left}

-- the bank below is no bank, or not above that of this record; the bank above, with its first location, not below
abbrev pub NotAbove : ℕ → Record → Type 0
NotAbove below r = (below ≡ 256) ⊎ (below ≤ r.bank)

abbrev pub NotBelow : ℕ → ℕ → Record → Type 0
NotBelow above next r = (above ≡ 256) ⊎ ((r.bank < above) ⊎ ((r.bank ≡ above) × (r.first ≤ next)))

-- of every record that is left, from low up to high
module _ (map : List ℕ) where
  abbrev pub Below : ℕ → ℕ → Type 0
  Below low below = (i : ℕ) → low ≤ i → i < length map / 8 → NotAbove below (record_at map i)

  abbrev pub Above : ℕ → ℕ → ℕ → Type 0
  Above high above next = (i : ℕ) → i < high → NotBelow above next (record_at map i)

  pub below_turn : ordered map ≡ true → (m : ℕ) (r : Record) → r ≡ record_at map m → Below (m + 1) r.bank
  below_turn o m r e i l k = inr (rw e (lower (record_at map m) (record_at map i) (members_rise map o m i (omega arith) k)))
    where
      lower : (p x : Record) → Before p x → p.bank ≤ x.bank
      lower p x (inl b) = omega arith
      lower p x (inr b) = omega arith

  pub above_turn : ordered map ≡ true → (m : ℕ) → m < length map / 8 → (r : Record) → r ≡ record_at map m
      → Above m r.bank r.first
  above_turn o m k r e i l = inr (rw e (higher (record_at map i) (record_at map m) (members_rise map o i m l k)))
    where
      higher : (x p : Record) → Before x p → (x.bank < p.bank) ⊎ ((x.bank ≡ p.bank) × (x.first ≤ p.first))
      higher x p (inl b) = inl b
      higher x p (inr b) = inr (b.0, omega arith)

  pub below_of : {low below m : ℕ} {r : Record} → Below low below → low ≤ m → m < length map / 8 → r ≡ record_at map m
      → NotAbove below r
  below_of {low} {below} {m} v l k e = subst (NotAbove below) (sym e) (v m l k)

  pub above_of : {high above next m : ℕ} {r : Record} → Above high above next → m < high → r ≡ record_at map m
      → NotBelow above next r
  above_of {high} {above} {next} {m} v l e = subst (NotBelow above next) (sym e) (v m l)

module _ (bank location : ℕ) (low_bank : bank ≤ 255) where
  -- no neighbour yet
  pub starts_between : (map : List ℕ) (n : ℕ) → n ≡ length map / 8
      → sought map bank location
      ≡ sought_in bank location (beside bank 256 256 0) 0 (seen map (at_location bank location) 0 n)
  unfolding beside
  starts_between map n e = sought_starts map bank location n e ∙ rw (ne_eqb 256 bank (λ e. absurd (omega arith)))

  module _ (below above next : ℕ) (r : Record) where
    -- a record right of the location, and not behind the neighbour there: it is the neighbour
    higher_bank : bank < r.bank → NotBelow above next r → above ≡ bank → ⊥
    higher_bank h (inl n) e = absurd (omega arith)
    higher_bank h (inr (inl n)) e = absurd (omega arith)
    higher_bank h (inr (inr n)) e = absurd (omega arith)

    not_behind : bank ≡ r.bank → above ≡ bank → NotBelow above next r → r.first ≤ next
    not_behind s e (inl n) = absurd (omega arith)
    not_behind s e (inr (inl n)) = absurd (omega arith)
    not_behind s e (inr (inr n)) = n.1

    nearest : r.first ≤ next → nearer r.first (Hole next) ≡ Hole r.first
    nearest h =
        if_lt {A = ℕ} (λ _. nearer r.first (Hole next) ≡ Hole r.first) r.first next {x = 0} {y = 0}
        (λ lt. nearer_lower r.first next lt)
        (λ ge. nearer_higher r.first next ge ∙ ap Hole (omega arith))

    in_bank : bank ≡ r.bank → NotBelow above next r → nearer r.first (beside bank below above next) ≡ Hole r.first
    unfolding beside nearer
    in_bank s n =
        if_eq (λ (w : Why). nearer r.first w ≡ Hole r.first) above bank
        (λ e. nearest (not_behind s e n))
        (λ _. if_eq (λ (w : Why). nearer r.first w ≡ Hole r.first) below bank (λ _. refl) (λ _. refl))

    pub told_left : (at_location bank location).left r ≡ true → NotBelow above next r
        → told bank location r (beside bank below above next) ≡ beside bank below r.bank r.first
    unfolding told beside
    told_left u n =
        ⊎_elim
        (λ h. rw (ne_eqb r.bank bank (λ e. absurd (omega arith)), ne_eqb above bank (higher_bank h n)))
        (λ h. rw (eq-eqb r.bank bank (sym h.0), lt-ltb location r.first h.1) (in_bank h.0 n))
        (location_is_left bank location r u)

    -- a record left of it, and not before the neighbour there
    lower_bank : r.bank < bank → NotAbove below r → below ≡ bank → ⊥
    lower_bank h (inl n) e = absurd (omega arith)
    lower_bank h (inr n) e = absurd (omega arith)

    past_it : or_past (beside bank below above next) ≡ (if eqb above bank then Hole next else Past)
    unfolding beside
    past_it =
        if_eq (λ (w : Why). or_past w ≡ (if eqb above bank then Hole next else Past)) above bank
        (λ e. rw (eq-eqb above bank e))
        (λ k.
        rw (ne_eqb above bank k)
        (if_eq (λ (w : Why). or_past w ≡ Past) below bank (λ _. refl) (λ _. refl)))

    pub told_right : (at_location bank location).left r ≡ false → NotAbove below r
        → told bank location r (beside bank below above next) ≡ beside bank r.bank above next
    unfolding told beside
    told_right u n =
        let left = location_not_left bank location r u in
        if_eq {A = ℕ} (λ _. told bank location r (beside bank below above next) ≡ beside bank r.bank above next)
        r.bank bank {x = 0} {y = 0}
        (λ e. rw (eq-eqb r.bank bank e, le-ltb location r.first (left.1 (sym e))) past_it)
        (λ k. rw (ne_eqb r.bank bank k, ne_eqb below bank (lower_bank (omega arith) n)))
