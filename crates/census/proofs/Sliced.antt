-- A capture in slices: a count from a census is that census plus the count from nothing.
-- Assumes nothing.
use Rattle.std.proofs.Common.{◌≡◌, ℕ, ◌+◌, ◌%◌, ◌^◌, ◌<◌, true, List, [], ◌∷◌, ◌++◌, length, get_or, sym, refl, ap, ◌∙◌, append-nil, arith, ext_get_or, le-ltb, lt-ltb, eq-eqb, ne_eqb, eqb-true}
use native.Mathlib.Nat.{mod-add-mod}
use lib.ListN.{get_or-replicate}
use Rattle.laws.specs.Lists.{every}
use Rattle.laws.proofs.Tests.{both, if_lt}
use Rattle.refusals.proofs.Told.{number_settles}
use Rattle.entries.specs.Entry.{whole_entries}
use Rattle.entries.specs.Promises.{is_whole}
use Rattle.entries.specs.declared.entry.Entry.{Entry}
use Rattle.entries.proofs.Sequences.{items_same}
use Rattle.census.specs.Census.{nothing, counted_all, entries_of, census_of, count_at, added_to, end_number}
use Rattle.census.specs.Facts.{plus, added_up, joined, SlicesAddUp, SlicesAddTo}
use Rattle.census.specs.declared.counts.Census.{Census}
use Rattle.census.proofs.Records.{entries_joined, whole_are}
use Rattle.census.proofs.Counted.{counted_ended, counted_joined, by_number}
use Rattle.census.proofs.Listed.{get_d_items}
use Rattle.census.proofs.Adds.{adds, counts_are}
use Rattle.census.proofs.Ends.{census_joined}

pub census_is : (c d : Census) → c.counts ≡ d.counts → c.power_ons ≡ d.power_ons → end_number c ≡ end_number d → c ≡ d
census_is c d counts power-ons number = rw (counts, power-ons, number_settles c.end d.end number)

-- class by class
plus_at : (c d : Census) (k : ℕ) → k < 15 → get_or (plus c d).counts k 0 ≡ get_or c.counts k 0 + get_or d.counts k 0
plus_at c d k h = get_d_items (λ (k : ℕ). get_or c.counts k 0 + get_or d.counts k 0) 0 _ k h

module _ (c : Census) (es : List Entry) (z : end_number c ≡ 0) (long : length c.counts ≡ 15) where
  abbrev here : Census
  here = counted_all c es

  abbrev apart : Census
  apart = counted_all nothing es

  plus_counts : here.counts ≡ (plus c apart).counts
  plus_counts =
      let p = adds c es z in
      let q = adds nothing es refl in
      ext_get_or 0 here.counts (plus c apart).counts (p.long ∙ long) (λ k h.
      let k15 : k < 15 = omega (arith, p.long) in
      p.each k (omega arith)
      ∙ omega (arith, plus_at c apart k k15, q.each k k15, get_or-replicate {A = ℕ} 15 k 0 0 k15))

  -- a count from a census is the census plus the count from nothing
  plus_is : here ≡ plus c apart
  plus_is =
      let p = adds c es z in
      let q = adds nothing es refl in
      census_is here (plus c apart) plus_counts (omega (arith, p.apart, q.apart)) (p.number ∙ sym q.number)

-- ---- slices

slices_from : (c : Census) → length c.counts ≡ 15 → (slices : List (List ℕ)) (last : List ℕ)
    → every is_whole slices ≡ true
    → counted_all c (entries_of (joined (slices ++ last ∷ []))) ≡ added_up c (slices ++ last ∷ [])
unfolding census_of
slices_from c long [] last h =
    by_number c
    (λ z. rw (append-nil last, eq-eqb (end_number c) 0 z) (plus_is c (entries_of last) z long))
    (λ n. rw (ne_eqb (end_number c) 0 n) (counted_ended c _ n))
slices_from c long (slice ∷ slices) last h =
    let p = both (is_whole slice) (every is_whole slices) h in
    let whole = eqb-true (length slice % 8) 0 p.0 in
    let rest = joined (slices ++ last ∷ []) in
    let more = slices_from (plus c (census_of slice)) refl slices last p.1 in
    by_number c
    (λ z. rw (eq-eqb (end_number c) 0 z)
    (ap (counted_all c) (entries_joined slice rest whole)
    ∙ counted_joined c (whole_entries slice) (entries_of rest)
    ∙ ap (λ (d : Census). counted_all d (entries_of rest))
    (ap (counted_all c) (sym (whole_are slice whole)) ∙ plus_is c (entries_of slice) z long)
    ∙ more))
    (λ n. rw (ne_eqb (end_number c) 0 n) (counted_ended c _ n))

pub slices_add_up : SlicesAddUp
unfolding census_of
slices_add_up slices last h = slices_from nothing refl slices last h

-- ---- added to 16 counts

abbrev added_at : List ℕ → Census → ℕ → ℕ
added_at before c k = (get_or before k 0 + count_at c k) % 2 ^ 64

added_at_lem : (before : List ℕ) (c : Census) (k : ℕ) → k < 16 → get_or (added_to before c) k 0 ≡ added_at before c k
unfolding added_to
added_at_lem before c k h = get_d_items (added_at before c) 0 _ k h

module _ (c d : Census) where
  count_plus : (k : ℕ) → count_at (plus c d) k ≡ count_at c k + count_at d k
  count_plus k =
      if_lt {A = ℕ} (λ _. count_at (plus c d) k ≡ count_at c k + count_at d k) k 15 {x = 0} {y = 0}
      (λ l. rw (lt-ltb k 15 l) (plus_at c d k l))
      (λ l. rw (le-ltb k 15 l))

  added_twice : (before : List ℕ) → added_to (added_to before c) d ≡ added_to before (plus c d)
  unfolding added_to
  added_twice before =
      items_same (added_at (added_to before c) d) (added_at before (plus c d)) 16 0 0 (λ k h.
      let more : ℕ = count_at d (0 + k) in
      rw (added_at_lem before c (0 + k) (omega arith), count_plus (0 + k))
      (mod-add-mod (get_or before (0 + k) 0 + count_at c (0 + k)) _ more ∙ ap (λ (n : ℕ). n % 2 ^ 64) (omega arith)))

pub slices_add_to : SlicesAddTo
unfolding census_of
slices_add_to before a b e z =
    let fifteen = (counts_are a).fifteen in
    added_twice (census_of a) (census_of b) before
    ∙ ap (added_to before) (sym (census_joined a b e ∙ plus_is (census_of a) (entries_of b) z fifteen))
