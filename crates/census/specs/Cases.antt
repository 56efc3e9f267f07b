-- Worked cases: a frame of each class, captures by their bytes, and a reader's places. Proved in proofs/: Cases.
-- Assumes nothing.
use Rattle.std.specs.Prelude.{◌≡◌, ℕ, List, [], ◌∷◌, ◌++◌, map as each, take, drop, replicate, Result, Ok, Err}
use Rattle.refusals.specs.declared.refusal.Refusal.{Refusal}
use Rattle.refusals.specs.declared.refusal.Refusal.TheVariants.{BrokenRecord}
use Rattle.entries.specs.declared.entry.Entry.{Entry}
use Rattle.census.specs.Class.{frame_class}
use Rattle.census.specs.Census.{nothing, census_of, added_to}
use Rattle.census.specs.Reader.{next_at, place_after}
use Rattle.census.specs.declared.counts.Census.{Census}
use Rattle.census.specs.declared.next.Next.TheVariants.{Whole, Unfinished, End}

-- a frame of each class, in their order
abbrev pub one_of_each : List ℕ
one_of_each =
    0x0BFE15 ∷ 0x81FE15 ∷ 0xFDFE15 ∷ 0xFFFE15 ∷ 0xC12055 ∷ 0xE1FE15 ∷ 0x0B4015
    ∷ 0x808000 ∷ 0x000000 ∷ 0x008000 ∷ 0x800000 ∷ 0xC00000
    ∷ 0xFEE000 ∷ 0xFEE001 ∷ 0xC08000 ∷ []

-- a reserved instance byte, whatever its address kind; a reserved address byte comes first
abbrev pub reserved_instances : List ℕ
reserved_instances = 0x0B4015 ∷ 0x814015 ∷ 0xFD4015 ∷ 0xFF4015 ∷ 0xE14015 ∷ []

-- ---- captures: ENABLE WRITE MEMORY to address 5 at clock 7, a power-on with any clock and frame, a record of kind 2

abbrev enable : List ℕ
enable = 0 ∷ 0 ∷ 0 ∷ 7 ∷ 0 ∷ 0x0B ∷ 0xFE ∷ 0x15 ∷ []

abbrev power_on : List ℕ
power_on = 1 ∷ 2 ∷ 3 ∷ 4 ∷ 1 ∷ 0xFF ∷ 0xFF ∷ 0xFF ∷ []

abbrev unknown : List ℕ
unknown = 0 ∷ 0 ∷ 0 ∷ 9 ∷ 2 ∷ 0x0B ∷ 0xFE ∷ 0x15 ∷ []

-- so many commands to a short address and power-on records, and whether 13 ended the count
abbrev shorts : ℕ → ℕ → Result Unit Refusal → Census
shorts n on end = record { counts = n ∷ replicate 14 0; power_ons = on; end = end }

abbrev read : Result Unit Refusal
read = Ok tt

abbrev broken : Result Unit Refusal
broken = Err BrokenRecord

pub record CensusCases : Type 0 where
  pub classes : each frame_class one_of_each ≡ 0 ∷ 1 ∷ 2 ∷ 3 ∷ 4 ∷ 5 ∷ 6 ∷ 7 ∷ 8 ∷ 9 ∷ 10 ∷ 11 ∷ 12 ∷ 13 ∷ 14 ∷ []
  pub instances : each frame_class reserved_instances ≡ 6 ∷ 6 ∷ 6 ∷ 6 ∷ 5 ∷ []
  pub no_frame : frame_class 16777216 ≡ 15
  pub empty : census_of [] ≡ nothing
  pub whole : census_of (enable ++ power_on ++ enable) ≡ shorts 2 1 read
  pub unknown_first : census_of (unknown ++ enable) ≡ shorts 0 0 broken
  pub unknown_between : census_of (enable ++ power_on ++ unknown ++ enable ++ power_on) ≡ shorts 1 1 broken
  pub unfinished : census_of (enable ++ power_on ++ take 7 enable) ≡ shorts 1 1 broken
  pub one_byte : census_of (0 ∷ []) ≡ shorts 0 0 broken
  -- from a place on; a place within a record begins another one there
  pub from_second : census_of (drop 8 (enable ++ power_on ++ enable)) ≡ shorts 1 1 read
  pub from_within : census_of (drop 9 (enable ++ power_on ++ enable)) ≡ shorts 0 0 broken
  -- added to what stands there; the sixteenth is that of the power-on records
  pub added :
      added_to (5 ∷ replicate 14 1 ++ 18446744073709551615 ∷ []) (census_of (enable ++ power_on ++ enable))
      ≡ 7 ∷ replicate 14 1 ++ 0 ∷ []
  -- what stands at a place, and the place behind it: a record, bytes of one, the end, past it
  pub stands :
      each (next_at (enable ++ 0 ∷ 0 ∷ 0 ∷ [])) (0 ∷ 8 ∷ 10 ∷ 11 ∷ 12 ∷ [])
      ≡ Whole (Entry.Frame 7 0x0BFE15) ∷ Unfinished ∷ Unfinished ∷ End ∷ End ∷ []
  pub behind : each (place_after 11) (0 ∷ 3 ∷ 8 ∷ 10 ∷ 11 ∷ 12 ∷ []) ≡ 8 ∷ 11 ∷ 11 ∷ 11 ∷ 11 ∷ 12 ∷ []
