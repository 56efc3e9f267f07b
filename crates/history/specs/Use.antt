-- Demand 3 joined to use: which lists are accepted, and what refused frames do. Paper 01, "Frames" and "Refusal
-- numbers". Proved of ours in proofs/Use.antt.
-- Assumes nothing.
use Rattle.std.specs.Prelude.{◌≡◌, true, ℕ, ◌<◌, ◌≤◌, ltb, if◌then◌else◌}
use mathlib.Core.List.{List, [], ◌∷◌, Memᴰ}
use Rattle.records.specs.Map.{records_of, writable}
use Rattle.records.specs.declared.record.Record.{Record}
use Rattle.hearing.specs.declared.heard.Heard.{Heard}
use Rattle.unit.specs.Run.{Input, power_on, hears}
use Rattle.history.specs.Writing.{past}
use Rattle.history.specs.Machine.{Machine, Start, left_after, Accepted}
use Rattle.history.specs.Demand.{Whole}

-- a frame is a number below 16,777,216: each that is heard is one
abbrev pub AllFrames : List Input → Type 0
AllFrames h = (x : Heard) → Memᴰ (hears x) h → x.frame < 16777216

-- a list without its refused frames, those of 16,777,216 or more
unfoldable pub without_refused : List Input → List Input
without_refused [] = []
without_refused (power_on ∷ h) = power_on ∷ without_refused h
without_refused (hears x ∷ h) = if ltb x.frame 16777216 then hears x ∷ without_refused h else without_refused h

module _ {S : Type 0} (machine : Machine S) (start : Start) where
  -- each writable value is whole at the point after h
  abbrev pub AllWhole : List Input → Type 0
  AllWhole h = (v : Record) → Memᴰ v (records_of start.map) → writable v ≡ true → Whole machine start v h

  -- the next input after h: a power-on and a frame are accepted, a number of 16,777,216 or more is refused by 1
  pub record NextNumbered (h : List Input) : Type 0 where
    pub powering : (left_after machine start (power_on ∷ h)).number ≡ 0
    pub frame : (x : Heard) → x.frame < 16777216 → (left_after machine start (hears x ∷ h)).number ≡ 0
    pub refused : (x : Heard) → 16777216 ≤ x.frame → (left_after machine start (hears x ∷ h)).number ≡ 1

  -- h comes to the same as h without its refused frames; that list is accepted, and whole there
  pub record SameWithout (h : List Input) : Type 0 where
    pub state_is : (left_after machine start h).state ≡ (left_after machine start (without_refused h)).state
    pub store_is : (left_after machine start h).store ≡ (left_after machine start (without_refused h)).store
    pub accepted : Accepted machine start (without_refused h)
    pub whole : AllWhole (without_refused h)

-- after an accepted start every list of power-ons and frames is accepted, and every point of it is whole
abbrev pub AlwaysWhole : {S : Type 0} → Machine S → Type 0
AlwaysWhole machine = (start : Start) → (left_after machine start []).number ≡ 0 → (h : List Input) → AllFrames h
    → Accepted machine start h × ((i : ℕ) → AllWhole machine start (past h i))

-- after an accepted start and any list, one with refused frames too: which number the next input has
abbrev pub RefusedExactly : {S : Type 0} → Machine S → Type 0
RefusedExactly machine = (start : Start) → (left_after machine start []).number ≡ 0 → (h : List Input)
    → NextNumbered machine start h

-- after an accepted start a list with refused frames comes, at every point, to the same as the list without them
abbrev pub RefusedChangeNothing : {S : Type 0} → Machine S → Type 0
RefusedChangeNothing machine = (start : Start) → (left_after machine start []).number ≡ 0 → (h : List Input) (i : ℕ)
    → SameWithout machine start (past h i)
