-- What is proved of a state's bytes. Proved in proofs/: Round and Settled.
-- Assumes nothing.
use Rattle.std.specs.Prelude.{◌≡◌, Bool, true, List, ℕ, ◌<◌, ◌^◌, length, get_or}
use Rattle.laws.specs.Settled.{Settles}
use Rattle.rooms.specs.declared.state.State.{State}
use Rattle.packing.specs.StateBytes.{state_bytes, state_of, shape_holds}

-- what the types of a state can hold: the groups, the waiting frame and its clock have 32 bits, and there are eight
-- staged and eight latched bytes
pub record StateHeld (s : State) : Type 0 where
  pub groups : s.who.groups < 2 ^ 32
  pub frame : s.waiting.frame < 2 ^ 32
  pub clock : s.waiting.clock < 2 ^ 32
  pub staged : length s.door.staged.bytes ≡ 8
  pub latched : length s.latch.bytes ≡ 8

-- every state that the types can hold comes back from its bytes
abbrev pub StateBack : Type 0
StateBack = (s : State) → StateHeld s → (state_of (state_bytes s) ≡ s) × (shape_holds (state_bytes s) ≡ true)

-- what an array of 96 bytes can hold
pub record Bytes (b : List ℕ) : Type 0 where
  pub long : length b ≡ 96
  pub small : (i : ℕ) → get_or b i 0 < 256

-- 96 bytes that are a state's come back from that state
abbrev pub BytesBack : Type 0
BytesBack = (b : List ℕ) → Bytes b → shape_holds b ≡ true → state_bytes (state_of b) ≡ b

-- what each call promises of its result r
abbrev pub PackPromise : State → List ℕ → Type 0
PackPromise s r = r ≡ state_bytes s

abbrev pub UnpackPromise : List ℕ → State → Type 0
UnpackPromise b r = r ≡ state_of b

abbrev pub ShapeHoldsPromise : List ℕ → Bool → Type 0
ShapeHoldsPromise b r = r ≡ shape_holds b

-- results that meet the same promise are equal, for each call
pub record Settled : Type 0 where
  pub pack : (s : State) → Settles (PackPromise s)
  pub unpack : (b : List ℕ) → Settles (UnpackPromise b)
  pub shape_holds_lem : (b : List ℕ) → Settles (ShapeHoldsPromise b)
