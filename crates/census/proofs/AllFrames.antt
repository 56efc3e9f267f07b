-- The capture that has all frames in their order: its records are these frames, each once, and none ends the count.
-- Assumes nothing.
use Rattle.std.proofs.Common.{◌≡◌, ℕ, zero, suc, ◌+◌, ◌<◌, ◌≤◌, false, List, [], ◌++◌, refl, ap, ◌∙◌, arith, eq-eqb, ne_eqb, Ok}
use Rattle.laws.specs.Lists.{items, some}
use Rattle.laws.specs.Counts.{below, count}
use Rattle.laws.proofs.Tests.{if_eq}
use Rattle.entries.specs.Entry.{entry_of, entry_at, is_broken}
use Rattle.entries.specs.declared.entry.Entry.{Entry}
use Rattle.census.specs.Census.{nothing, entries_of, census_of, end_number}
use Rattle.census.specs.Facts.{frame_is, is_power_on, before_end}
use Rattle.census.specs.Figures.{figures, frame_record, capture_of, AllFrames}
use Rattle.census.proofs.Records.{one_then, none_are}
use Rattle.census.proofs.Adds.{adds}
use Rattle.census.proofs.Sliced.{census_is}
use Rattle.census.proofs.Figures.{capture_figures}

-- a frame is its three bytes
record_is : (f : ℕ) (rest : List ℕ) → f < 16777216 → entry_at (frame_record f ++ rest) 0 ≡ Entry.Frame 0 f
unfolding entry_at entry_of
record_is f rest h = ap (Entry.Frame 0) (omega arith)

-- the records of the frames from i on
records_are : (i n : ℕ) → i + n ≤ 16777216 → entries_of (capture_of (items (λ k. k) i n)) ≡ items (Entry.Frame 0) i n
unfolding capture_of
records_are i zero h = none_are [] refl
records_are i (suc n) h =
    let rest = capture_of (items (λ k. k) (suc i) n) in
    one_then (frame_record i) rest refl
    ∙ rw (record_is i rest (omega arith), records_are (suc i) n (omega arith))

-- none of them ends the count, and none is a power-on record
none_broken : (i n : ℕ) → some is_broken (items (Entry.Frame 0) i n) ≡ false
none_broken i zero = refl
none_broken i (suc n) = none_broken (suc i) n

none_power_on : (i n : ℕ) → count is_power_on (before_end (items (Entry.Frame 0) i n)) ≡ 0
none_power_on i zero = refl
none_power_on i (suc n) = none_power_on (suc i) n

-- none before the first, and each from there on once
none_below : (f i n : ℕ) → f < i → count (frame_is f) (items (Entry.Frame 0) i n) ≡ 0
none_below f i zero h = refl
none_below f i (suc n) h = rw (ne_eqb i f (λ e. omega arith)) (none_below f (suc i) n (omega arith))

once_each : (f i n : ℕ) → i ≤ f → f < i + n → count (frame_is f) (items (Entry.Frame 0) i n) ≡ 1
once_each f i zero h l = absurd (omega arith)
once_each f i (suc n) h l =
    if_eq {A = ℕ} (λ _. count (frame_is f) (items (Entry.Frame 0) i (suc n)) ≡ 1) i f {x = 0} {y = 0}
    (λ e. rw (eq-eqb i f e) (ap suc (none_below f (suc i) n (omega arith))))
    (λ d. rw (ne_eqb i f d) (once_each f (suc i) n (omega arith) (omega arith)))

-- of so many frames, whatever their number
module _ (n : ℕ) (fits : n ≤ 16777216) where
  abbrev all : List ℕ
  all = capture_of (below n)

  are : entries_of all ≡ items (Entry.Frame 0) 0 n
  are = records_are 0 n (omega arith)

  pub number_0 : end_number (census_of all) ≡ 0
  unfolding census_of
  number_0 = (adds nothing (entries_of all) refl).number ∙ rw (are, none_broken 0 n)

  pub power_ons_0 : (census_of all).power_ons ≡ 0
  unfolding census_of
  power_ons_0 = (adds nothing (entries_of all) refl).apart ∙ rw (are, none_power_on 0 n)

  pub each_once : (f : ℕ) → f < n → count (frame_is f) (entries_of all) ≡ 1
  each_once f h = rw are (once_each f 0 n (omega arith) (omega arith))

pub all_frames : AllFrames
all_frames =
    census_is (census_of (capture_of (below 16777216))) (record { counts = figures; power_ons = 0; end = Ok tt })
    (capture_figures (capture_of (below 16777216)) (number_0 16777216 (omega arith)) (each_once 16777216 (omega arith)))
    (power_ons_0 16777216 (omega arith))
    (number_0 16777216 (omega arith))
