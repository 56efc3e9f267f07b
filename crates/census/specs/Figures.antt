-- How many of all 16,777,216 frames there are of each class. Paper 02, Item 7. Proved in proofs/: Figures and AllFrames.
-- Assumes nothing.
use Rattle.std.specs.Prelude.{◌≡◌, ℕ, ◌/◌, ◌%◌, ◌<◌, List, [], ◌∷◌, ◌++◌, take, nat_eq, slice_index, Ok}
use Rattle.laws.specs.Counts.{below, count}
use Rattle.census.specs.Class.{frame_class}
use Rattle.census.specs.Census.{sum, entries_of, census_of, end_number}
use Rattle.census.specs.Facts.{frame_is}

-- how many of the numbers below n are frames of class k
unfoldable pub how_many : ℕ → ℕ → ℕ
how_many k n = count (λ f. nat_eq (frame_class f) k) (below n)

-- commands to a short address, a group, all without an address, all; special; reserved address, reserved instance byte;
-- events of scheme 0 to 4; power cycle, malformed power, reserved events
abbrev pub figures : List ℕ
figures =
    3227648 ∷ 1613824 ∷ 50432 ∷ 50432 ∷ 1048576 ∷ 917504 ∷ 1480192
    ∷ 1048576 ∷ 2097152 ∷ 2097152 ∷ 1048576 ∷ 1048576
    ∷ 2145 ∷ 6047 ∷ 1040384 ∷ []

-- "over all 16,777,216 frames once each"
abbrev pub FiguresHold : Type 0
FiguresHold = (k : ℕ) → k < 15 → how_many k 16777216 ≡ slice_index figures k

-- "commands addressed and well formed 4,942,336"; and the classes are all frames
pub record FiguresAddUp : Type 0 where
  pub addressed : sum (take 4 figures) ≡ 4942336
  pub all : sum figures ≡ 16777216

-- and so of any capture that has each frame once, in any order and with any power-on records between, and nothing that is refused
abbrev pub CaptureFigures : Type 0
CaptureFigures =
    (capture : List ℕ) → end_number (census_of capture) ≡ 0
    → ((f : ℕ) → f < 16777216 → count (frame_is f) (entries_of capture) ≡ 1)
    → (census_of capture).counts ≡ figures

-- a frame record of clock 0, and such records one after the other
abbrev pub frame_record : ℕ → List ℕ
frame_record f = 0 ∷ 0 ∷ 0 ∷ 0 ∷ 0 ∷ f / 65536 ∷ f / 256 % 256 ∷ f % 256 ∷ []

unfoldable pub capture_of : List ℕ → List ℕ
capture_of [] = []
capture_of (f ∷ fs) = frame_record f ++ capture_of fs

-- so of the capture that has all frames in their order
abbrev pub AllFrames : Type 0
AllFrames = census_of (capture_of (below 16777216)) ≡ record { counts = figures; power_ons = 0; end = Ok tt }
