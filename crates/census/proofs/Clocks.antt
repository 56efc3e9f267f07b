-- Clocks are ignored: records without them give the same count.
-- Assumes nothing.
use Rattle.std.proofs.Common.{◌≡◌, ℕ, ◌+◌, ◌*◌, ◌/◌, Bool, true, false, eqb, List, [], ◌∷◌, ◌++◌, map, length, get_or, sym, refl, ap, ◌∙◌, arith}
use mathlib.Core.List.{map-append}
use Rattle.std.specs.Prelude.{if◌then◌else◌}
use Rattle.laws.specs.Lists.{items}
use Rattle.entries.specs.Entry.{entry_of, entry_at, whole_entries}
use Rattle.entries.specs.declared.entry.Entry.{Entry}
use Rattle.entries.proofs.Sequences.{items_same}
use Rattle.census.specs.Census.{nothing, counted, counted_all, unfinished, entries_of, census_of}
use Rattle.census.specs.Facts.{SameButClocks, ClocksIgnored}
use Rattle.census.specs.declared.counts.Census.{Census}
use Rattle.census.proofs.Counted.{counted_more, counted_ended, by_number}
use Rattle.census.proofs.Listed.{map_items}

abbrev timeless : Entry → Entry
timeless (Entry.Frame clock frame) = Entry.Frame 0 frame
timeless Entry.PowerOn = Entry.PowerOn
timeless Entry.Broken = Entry.Broken

-- ---- a count does not see the clock

one_timeless : (c : Census) (e : Entry) → counted c (timeless e) ≡ counted c e
one_timeless c (Entry.Frame clock frame) = refl
one_timeless c Entry.PowerOn = refl
one_timeless c Entry.Broken = refl

counted_timeless : (c : Census) (es : List Entry) → counted_all c (map timeless es) ≡ counted_all c es
counted_timeless c [] = refl
counted_timeless c (e ∷ es) =
    let rest = counted_timeless (counted c e) es in
    by_number c
    (λ z. rw (counted_more c (timeless e) (map timeless es) z, counted_more c e es z, one_timeless c e) rest)
    (λ n. counted_ended c (map timeless (e ∷ es)) n ∙ sym (counted_ended c (e ∷ es) n))

-- ---- captures that differ in clocks only are the same without them

first_only_lem : (test : Bool) (x y other : Entry) → timeless x ≡ timeless y
    → timeless (if test then x else other) ≡ timeless (if test then y else other)
first_only_lem true x y other e = e
first_only_lem false x y other e = refl

clock_lost : (kind x y frame : ℕ) → timeless (entry_of kind x frame) ≡ timeless (entry_of kind y frame)
unfolding entry_of
clock_lost kind x y frame = first_only_lem (eqb kind 0) _ _ _ refl

entry_timeless : (a b : List ℕ) → SameButClocks a b → (i : ℕ) → timeless (entry_at a i) ≡ timeless (entry_at b i)
unfolding entry_at
entry_timeless a b s i =
    rw (
      s.same (8 * i + 4) (omega arith),
      s.same (8 * i + 5) (omega arith),
      s.same (8 * i + 6) (omega arith),
      s.same (8 * i + 7) (omega arith),
    )
    (clock_lost (get_or b (8 * i + 4) 0) _ _ _)

entries_timeless : (a b : List ℕ) → SameButClocks a b → map timeless (entries_of a) ≡ map timeless (entries_of b)
unfolding entries_of
entries_timeless a b s =
    map-append timeless (whole_entries a) (unfinished (length a))
    ∙ ap (λ (es : List Entry). es ++ map timeless (unfinished (length a))) whole
    ∙ ap (λ (n : ℕ). map timeless (whole_entries b) ++ map timeless (unfinished n)) s.as_long
    ∙ sym (map-append timeless (whole_entries b) (unfinished (length b)))
  where
    whole : map timeless (whole_entries a) ≡ map timeless (whole_entries b)
    whole =
        map_items timeless (entry_at a) 0 (length a / 8)
        ∙ ap (items (λ (k : ℕ). timeless (entry_at a k)) 0) (ap (λ (n : ℕ). n / 8) s.as_long)
        ∙ items_same _ _ (length b / 8) 0 0 (λ k h. entry_timeless a b s (0 + k))
        ∙ sym (map_items timeless (entry_at b) 0 (length b / 8))

pub clocks_ignored : ClocksIgnored
unfolding census_of
clocks_ignored a b s =
    sym (counted_timeless nothing (entries_of a))
    ∙ ap (counted_all nothing) (entries_timeless a b s)
    ∙ counted_timeless nothing (entries_of b)
