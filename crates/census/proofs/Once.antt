-- A capture without a refusal is counted to its end; and one that has each frame once has as many of a class as there are.
-- Assumes nothing.
use Rattle.std.proofs.Common.{◌≡◌, ℕ, ◌+◌, ◌*◌, ◌<◌, ◌≤◌, eqb, List, [], ◌∷◌, sym, refl, ap, ◌∙◌, one-mul, arith, le-ltb, eq-eqb, ne_eqb}
use Rattle.laws.specs.Counts.{count}
use Rattle.laws.proofs.Tests.{if_lt}
use Rattle.frames.specs.Read.{read_of}
use Rattle.entries.specs.declared.entry.Entry.{Entry}
use Rattle.census.specs.Class.{refused_class, frame_class}
use Rattle.census.specs.Census.{nothing, counted, counted_all, entries_of, census_of, end_number}
use Rattle.census.specs.Facts.{before_end, frame_is, is_of_class}
use Rattle.census.specs.Figures.{how_many}
use Rattle.census.specs.declared.counts.Census.{Census}
use Rattle.census.proofs.Tallies.{sum_below, one, count_cons, sum_same, sum_both, sum_constant, one_of, none_of}
use Rattle.census.proofs.Samples.{of_class, many}

-- ---- nothing was refused: there is no end before the last record

all_before : (c : Census) (es : List Entry) → end_number c ≡ 0 → end_number (counted_all c es) ≡ 0 → before_end es ≡ es
unfolding counted_all
all_before c [] z e = refl
all_before c (Entry.Frame clock frame ∷ es) z e =
    ap (λ (l : List Entry). Entry.Frame clock frame ∷ l)
    (all_before (counted c (Entry.Frame clock frame)) es z (rw (eq-eqb (end_number c) 0 z) at e))
all_before c (Entry.PowerOn ∷ es) z e =
    ap (λ (l : List Entry). Entry.PowerOn ∷ l)
    (all_before (counted c Entry.PowerOn) es z (rw (eq-eqb (end_number c) 0 z) at e))
all_before c (Entry.Broken ∷ es) z e = absurd (go es (rw (eq-eqb (end_number c) 0 z) at e))
  where
    go : (es : List Entry) → end_number (counted_all (counted c Entry.Broken) es) ≡ 0 → ⊥
    go [] q = omega arith
    go (x ∷ es) q = omega arith

pub no_end : (capture : List ℕ) → end_number (census_of capture) ≡ 0 → before_end (entries_of capture) ≡ entries_of capture
unfolding census_of
no_end capture e = all_before nothing (entries_of capture) refl e

-- ---- the records of a class, frame by frame

-- a number that is no frame is of none of the classes
no_class : (f : ℕ) → 16777216 ≤ f → 15 ≤ frame_class f
unfolding frame_class read_of refused_class
no_class f l = rw (le-ltb f _ l) (omega arith)

no_frame : (k f : ℕ) → k < 15 → 16777216 ≤ f → of_class k f ≡ 0
no_frame k f h l = let c = no_class f l in ap one (ne_eqb (frame_class f) k (omega arith))

module _ (k n : ℕ) (none : (f : ℕ) → n ≤ f → of_class k f ≡ 0) where
  -- a frame record is counted at its frame
  at_frame : (frame : ℕ) → sum_below (λ f. one (eqb frame f) * of_class k f) n ≡ of_class k frame
  at_frame frame =
      if_lt {A = ℕ} (λ _. sum_below (λ f. one (eqb frame f) * of_class k f) n ≡ of_class k frame) frame n {x = 0} {y = 0}
      (one_of (of_class k) frame n)
      (λ l. none_of (of_class k) frame n l ∙ sym (none frame l))

  by_frame : (es : List Entry) → count (is_of_class k) es ≡ sum_below (λ f. count (frame_is f) es * of_class k f) n
  by_frame [] =
      omega (arith, sum_same (λ f. 0 * of_class k f) (λ f. 0) n (λ f h. omega arith), sum_constant 0 n)
  by_frame (Entry.Frame clock frame ∷ es) =
      let one_more = sum_same (λ f. count (frame_is f) (Entry.Frame clock frame ∷ es) * of_class k f)
      (λ f. one (eqb frame f) * of_class k f + count (frame_is f) es * of_class k f) n
      (λ f h. ap (λ (m : ℕ). m * of_class k f) (count_cons (frame_is f) (Entry.Frame clock frame) es) ∙ omega arith) in
      omega (
        arith,
        count_cons (is_of_class k) (Entry.Frame clock frame) es,
        by_frame es,
        at_frame frame,
        sum_both (λ f. one (eqb frame f) * of_class k f) (λ f. count (frame_is f) es * of_class k f) n,
        one_more,
      )
  by_frame (Entry.PowerOn ∷ es) = by_frame es
  by_frame (Entry.Broken ∷ es) = by_frame es

-- each frame once, in any order
pub once : (es : List Entry) → ((f : ℕ) → f < 16777216 → count (frame_is f) es ≡ 1)
    → (k : ℕ) → k < 15 → count (is_of_class k) es ≡ how_many k 16777216
once es each k h =
    by_frame k 16777216 (λ f. no_frame k f h) es
    ∙ sum_same (λ f. count (frame_is f) es * of_class k f) (of_class k) 16777216 (λ f l. rw (each f l) (one-mul (of_class k f)))
    ∙ sym (many k 16777216)
