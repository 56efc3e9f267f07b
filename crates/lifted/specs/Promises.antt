-- What is proved of the unit as C sees it. Proved in proofs/: Following, Demand and Each.
-- Assumes nothing.
use Rattle.std.specs.Prelude.{◌≡◌, true, ◌&&◌, List, [], ◌∷◌, ℕ, ◌<◌, get_or}
use Rattle.laws.specs.Lists.{every}
use Rattle.rooms.specs.declared.state.State.{State}
use Rattle.unit.specs.Run.{Input, power_on, hears}
use Rattle.history.specs.Machine.{Left, Start, left_after, Accepted, unit_machine}
use Rattle.history.specs.Demand.{Demand, ReadOnlyStay}
use Rattle.entries.specs.Entry.{entries}
use Rattle.entries.specs.declared.entry.Entry.{Entry}
use Rattle.packing.specs.StateBytes.{state_bytes}
use Rattle.packing.specs.Promises.{Bytes}
use Rattle.faces.specs.Face.{run_face}
use Rattle.lifted.specs.Machine.{fits, c_machine}
use Rattle.lifted.specs.Run.{each_of, entry_fits}

-- ---- the demand

-- a start and a history that C can be told
abbrev pub Tellable : Start → List Input → Type 0
Tellable start [] = (fits start.who.address && fits start.who.groups) ≡ true
Tellable start (power_on ∷ h) = Tellable start h
Tellable start (hears x ∷ h) = ((fits x.frame && fits x.clock) ≡ true) × Tellable start h

-- the same number, the state as its bytes, the same store
pub record Follows (c : Left (List ℕ)) (u : Left State) : Type 0 where
  pub number : c.number ≡ u.number
  pub state : c.state ≡ state_bytes u.state
  pub store : c.store ≡ u.store

-- after every such history, refused inputs and a refused start too, C's unit is ours
abbrev pub FollowsUnit : Type 0
FollowsUnit = (start : Start) (h : List Input) → Tellable start h
    → Follows (left_after c_machine start h) (left_after unit_machine start h)

-- it accepts exactly what ours accepts of what it can be told
abbrev pub AcceptsAsUnit : Type 0
AcceptsAsUnit = (start : Start) (h : List Input)
    → (Accepted c_machine start h → Tellable start h × Accepted unit_machine start h)
    × (Tellable start h → Accepted unit_machine start h → Accepted c_machine start h)

-- demand 3, the same, of the 96 bytes and the C calls
abbrev pub DemandInC : Type 0
DemandInC = Demand c_machine

abbrev pub ReadOnlyStayInC : Type 0
ReadOnlyStayInC = ReadOnlyStay c_machine

-- ---- a run

-- for any 96 bytes, a state's or not, and any records: mf_run is each record as mf_frame or mf_power_on would do it
abbrev pub RunEach : Type 0
RunEach = (map store image bytes : List ℕ) (es : List Entry) → Bytes bytes → every entry_fits es ≡ true
    → run_face map store image bytes es ≡ each_of map image store bytes es

-- the records of any bytes are such records
abbrev pub RecordsFit : Type 0
RecordsFit = (records : List ℕ) → ((i : ℕ) → get_or records i 0 < 256) → (n : ℕ)
    → every entry_fits (entries records n) ≡ true
