-- What a READ answers, from the latch or from the store, what it leaves latched, and the rule of latched bytes after
-- it.
-- Assumes nothing.
use Prim.Native.Nat.{ℕ, ◌-◌, ◌≤◌, ◌<◌}
use mathlib.Core.Path.{◌≡◌, refl, ap, sym, ◌∙◌}
use mathlib.Core.Bool.{true, false, ◌&&◌}
use mathlib.Core.List.{List}
use native.Mathlib.Omega.{arith}
use borrow.Author.Tests.{eq-eqb, ne_eqb, eqb-true, leb-true, leb-false}
use lib.Dec.{leb, eqb}
use lib.ListN.{length, get_or}
use lib.Seq.{take_at}
use Rattle.std.specs.Prelude.{Result, Ok, Err}
use Rattle.laws.proofs.Tests.{if_by, both, and_of}
use Rattle.laws.proofs.Choosing.{if_yes, if_no, refuted}
use Rattle.laws.proofs.Parts.{length_part}
use Rattle.records.specs.Map.{records_of}
use Rattle.records.specs.Lookup.{holder}
use Rattle.records.specs.declared.record.Record.{Record}
use Rattle.records.specs.declared.holder.Why.{Why}
use Rattle.records.proofs.Locations.{first_found}
use Rattle.banks.specs.Rules.{placed}
use Rattle.banks.specs.Values.{value_of, padded}
use Rattle.banks.specs.Facts.{Within}
use Rattle.banks.proofs.Places.{placed_ordered, holder_within}
use Rattle.memory.specs.Latched.{latch_from, latches, shown, show_byte, read_at, read_byte}
use Rattle.memory.specs.Rules.{zero_from, latched_in, latch_holds}
use Rattle.memory.specs.Promises.{LatchOf, ShowsFirst, NoneLatchedHolds, ReadKeepsRule}
use Rattle.memory.specs.Promises.{ReadFirst, ReadLatched, ReadOther, ReadNone}
use Rattle.memory.specs.declared.latched.Latch.{Latch}
use Rattle.memory.specs.declared.latched.Shown.{Shown}
use Rattle.memory.proofs.Zeros.{padded_zero}

-- what the test of the latch says
latch_of : (l : Latch) (r : Record) → latches l r ≡ true → LatchOf l r
latch_of l r e =
    let p = both (l.held && eqb l.bank _) (eqb l.first _) e in
    let q = both l.held (eqb l.bank _) p.0 in
    record {
      is_held = q.0;
      same_bank = eqb-true l.bank r.bank q.1;
      same_first = eqb-true l.first r.first p.1;
    }

is_latch : (l : Latch) (r : Record) → LatchOf l r → latches l r ≡ true
is_latch l r o =
    and_of _ _ (and_of _ _ o.is_held (eq-eqb l.bank _ o.same_bank)) (eq-eqb l.first _ o.same_first)

pub read_latched : ReadLatched
unfolding read_byte read_at show_byte
read_latched rs store l bank location r f h o =
    let k : ℕ = location - r.first in
    rw f (sym (if_no (eqb k 0) _ (ne_eqb k 0 (omega arith)) (if_yes (latches l r) _ (is_latch l r o) refl)))

pub read_other : ReadOther
unfolding read_byte read_at show_byte
read_other rs store l bank location r f h n =
    let k : ℕ = location - r.first in
    let other : latches l r ≡ false = refuted (latches l r) (λ e. n (latch_of l r e)) in
    rw f (sym (if_no (eqb k 0) _ (ne_eqb k 0 (omega arith)) (if_no (latches l r) _ other refl)))

pub read_none : ReadNone
unfolding read_byte read_at
read_none rs store l bank location w f = rw f

-- the latch that a first or single byte leaves
latch_first : (store : List ℕ) (r : Record)
    → ShowsFirst store r (shown (latch_from r (value_of r store)) (get_or (value_of r store) 0 0))
unfolding latch_from
latch_first store r =
    if_by (λ (l : Latch). ShowsFirst store r (shown l (get_or (value_of r store) 0 0))) (leb 2 r.width)
    (λ e.
    let h : 2 ≤ r.width = leb-true 2 r.width e in
    record {
      single = λ k. absurd (omega arith);
      latched = λ k. record { is_held = refl; same_bank = refl; same_first = refl };
      its_bytes = λ k. take_at (value_of r store) _ (length (value_of r store)) refl;
      answers = refl;
    })
    (λ e.
    let h : r.width < 2 = leb-false 2 r.width e in
    record {
      single = λ k. refl;
      latched = λ k. absurd (omega arith);
      its_bytes = λ k. absurd (omega arith);
      answers = refl;
    })

pub read_first : ReadFirst
unfolding read_byte read_at show_byte
read_first rs store l bank location r f e =
    let z : location - r.first ≡ 0 = omega arith in
    rw (f, z) (latch_first store r)

pub none_latched_holds : NoneLatchedHolds
unfolding latch_holds zero_from
none_latched_holds rs = refl

module _ (map store : List ℕ) (p : placed map (length store) ≡ true) (bank location : ℕ) (r : Record)
    (f : holder (records_of map) bank location ≡ Ok r) where
  within : Within map (length store) bank location r
  within = holder_within map (length store) bank location p r f

  value_zero : zero_from r.width (padded (value_of r store)) ≡ true
  unfolding value_of
  value_zero =
      let w = within in
      let n = length_part r.offset r.width store w.inside in
      ap (λ (k : ℕ). zero_from k (padded (value_of r store))) (sym n) ∙ padded_zero (value_of r store) (omega arith)

  -- the latch that a first or single byte leaves
  from_holds : latch_holds (records_of map) (latch_from r (value_of r store)) ≡ true
  unfolding latch_from latch_holds latched_in
  from_holds =
      if_by (λ (l : Latch). latch_holds (records_of map) l ≡ true) (leb 2 r.width)
      (λ t. rw ((first_found map (placed_ordered map (length store) p) r within.member).1, t) value_zero)
      (λ t. none_latched_holds (records_of map))

  shown_holds : (l : Latch) → latch_holds (records_of map) l ≡ true
      → (k : ℕ) → latch_holds (records_of map) (show_byte l r (value_of r store) k).latch ≡ true
  unfolding show_byte
  shown_holds l e k =
      if_by (λ (a : Shown). latch_holds (records_of map) a.latch ≡ true) (eqb k 0) (λ t. from_holds)
      (λ t. if_by (λ (a : Shown). latch_holds (records_of map) a.latch ≡ true) (latches l r) (λ q. e) (λ q. e))

pub read_keeps_rule : ReadKeepsRule
unfolding read_byte read_at
read_keeps_rule map store p l e bank location = go (holder (records_of map) bank location) refl
  where
    go : (f : Result Record Why) → holder (records_of map) bank location ≡ f
        → latch_holds (records_of map) (read_at store l location f).latch ≡ true
    go (Ok r) q = shown_holds map store p bank location r q l e (location - r.first)
    go (Err w) q = e
