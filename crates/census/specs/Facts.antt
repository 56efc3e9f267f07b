-- What is proved of the census of a capture. Paper 02, Item 7. The proofs stand in proofs/.
-- Assumes nothing.
use Rattle.std.specs.Prelude.{◌≡◌, ℕ, ◌+◌, ◌*◌, ◌/◌, ◌%◌, ◌<◌, ◌≤◌, Bool, true, false, ◌⊎◌, ◌↔◌, List, [], ◌∷◌, ◌++◌, length, drop, ◌==◌, slice_index, if◌then◌else◌}
use Rattle.laws.specs.Lists.{items, every}
use Rattle.laws.specs.Counts.{count}
use Rattle.entries.specs.Entry.{is_broken}
use Rattle.entries.specs.Promises.{is_whole}
use Rattle.entries.specs.declared.entry.Entry.{Entry}
use Rattle.census.specs.Class.{frame_class}
use Rattle.census.specs.Census.{nothing, sum, ended, entries_of, census_of, added_to, end_number}
use Rattle.census.specs.declared.counts.Census.{Census}

-- ---- which records are counted, and where

-- the records before the end: before the first that 13 is given for
abbrev pub before_end : List Entry → List Entry
before_end [] = []
before_end (e ∷ es) = if is_broken e then [] else e ∷ before_end es

abbrev pub is_frame : Entry → Bool
is_frame (Entry.Frame clock frame) = true
is_frame Entry.PowerOn = false
is_frame Entry.Broken = false

abbrev pub is_power_on : Entry → Bool
is_power_on (Entry.Frame clock frame) = false
is_power_on Entry.PowerOn = true
is_power_on Entry.Broken = false

-- a frame record with the frame f
abbrev pub frame_is : ℕ → Entry → Bool
frame_is f (Entry.Frame clock frame) = frame == f
frame_is f Entry.PowerOn = false
frame_is f Entry.Broken = false

-- a frame record of class k
abbrev pub is_of_class : ℕ → Entry → Bool
is_of_class k (Entry.Frame clock frame) = frame_class frame == k
is_of_class k Entry.PowerOn = false
is_of_class k Entry.Broken = false

-- there are 15 counts, and each is how many frame records before the end are of its class
pub record Counts (capture : List ℕ) (c : Census) : Type 0 where
  pub fifteen : length c.counts ≡ 15
  pub each : (k : ℕ) → k < 15 → slice_index c.counts k ≡ count (is_of_class k) (before_end (entries_of capture))
  -- "power-on records are counted apart"
  pub apart : c.power_ons ≡ count is_power_on (before_end (entries_of capture))

abbrev pub CountsAre : Type 0
CountsAre = (capture : List ℕ) → Counts capture (census_of capture)

-- "the classes add up to the frame records read": of bytes, since three bytes are always a frame
abbrev pub ClassesAddUp : Type 0
ClassesAddUp =
    (capture : List ℕ) → ((i : ℕ) → slice_index capture i < 256)
    → sum (census_of capture).counts ≡ count is_frame (before_end (entries_of capture))

-- ---- number 13

-- the kind of record i; 0 frame, 1 power-on
abbrev pub kind_at : List ℕ → ℕ → ℕ
kind_at capture i = slice_index capture (8 * i + 4)

-- some record is of unknown kind
pub record Unknown (capture : List ℕ) : Type 0 where
  pub place : ℕ
  pub there : place < length capture / 8
  pub kind : 1 < kind_at capture place

-- 13 exactly if a record is unfinished or of unknown kind, and 0 exactly if none is
pub record NumberExactly (capture : List ℕ) (number : ℕ) : Type 0 where
  pub thirteen : (number ≡ 13) ↔ ((0 < length capture % 8) ⊎ Unknown capture)
  pub none :
      (number ≡ 0) ↔ ((length capture % 8 ≡ 0) × ((i : ℕ) → i < length capture / 8 → kind_at capture i ≤ 1))

abbrev pub NumberIs : Type 0
NumberIs = (capture : List ℕ) → NumberExactly capture (end_number (census_of capture))

-- "number 13 ends the count and is counted nowhere; the counts so far stand": a record of unknown kind, with anything behind it
abbrev pub UnknownEnds : Type 0
UnknownEnds =
    (before one after : List ℕ) → length before % 8 ≡ 0 → end_number (census_of before) ≡ 0
    → length one ≡ 8 → 1 < slice_index one 4
    → census_of (before ++ one ++ after) ≡ ended (census_of before)

-- an unfinished record, whatever its bytes
abbrev pub UnfinishedEnds : Type 0
UnfinishedEnds =
    (before tail : List ℕ) → length before % 8 ≡ 0 → end_number (census_of before) ≡ 0
    → 0 < length tail → length tail < 8
    → census_of (before ++ tail) ≡ ended (census_of before)

-- where 13 has ended the count among whole records, nothing behind them is read
abbrev pub NothingAfter : Type 0
NothingAfter =
    (before after : List ℕ) → length before % 8 ≡ 0 → end_number (census_of before) ≡ 13
    → census_of (before ++ after) ≡ census_of before

-- at the end of a capture, or past it, nothing is counted, and that is no fault; so of an empty one
abbrev pub NothingThere : Type 0
NothingThere = (capture : List ℕ) (at : ℕ) → length capture ≤ at → census_of (drop at capture) ≡ nothing

-- ---- a capture in slices

-- a census, and that of a slice behind it
abbrev pub plus : Census → Census → Census
plus c d =
    record {
      counts = items (λ k. slice_index c.counts k + slice_index d.counts k) 0 15;
      power_ons = c.power_ons + d.power_ons;
      end = d.end;
    }

-- slices, one after the other; where a number has ended the count, no further one
abbrev pub added_up : Census → List (List ℕ) → Census
added_up c [] = c
added_up c (s ∷ ss) = if end_number c == 0 then added_up (plus c (census_of s)) ss else c

abbrev pub joined : List (List ℕ) → List ℕ
joined [] = []
joined (s ∷ ss) = s ++ joined ss

-- a capture cut into slices of whole records adds up to the same; the last one may be any
abbrev pub SlicesAddUp : Type 0
SlicesAddUp =
    (slices : List (List ℕ)) (last : List ℕ) → every is_whole slices ≡ true
    → census_of (joined (slices ++ last ∷ [])) ≡ added_up nothing (slices ++ last ∷ [])

-- and so do the counts that a call adds to, modulo 2^64
abbrev pub SlicesAddTo : Type 0
SlicesAddTo =
    (before a b : List ℕ) → length a % 8 ≡ 0 → end_number (census_of a) ≡ 0
    → added_to (added_to before (census_of a)) (census_of b) ≡ added_to before (census_of (a ++ b))

-- ---- clocks

-- captures that differ in clocks only: the first four bytes of a record, and what there is of them in an unfinished one
pub record SameButClocks (a b : List ℕ) : Type 0 where
  pub as_long : length a ≡ length b
  pub same : (i : ℕ) → 4 ≤ i % 8 → slice_index a i ≡ slice_index b i

abbrev pub ClocksIgnored : Type 0
ClocksIgnored = (a b : List ℕ) → SameButClocks a b → census_of a ≡ census_of b
