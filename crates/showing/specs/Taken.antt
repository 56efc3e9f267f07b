-- The unit's own start and step, which the words are about.
-- Assumes nothing.
use Rattle.std.specs.Prelude.{ℕ, Bool, true, false, not, ◌&&◌, ◌≡◌, List, length, eqb, Option, Some, None, Result, Ok, Err, if◌then◌else◌}
use Rattle.laws.specs.Outcome.{Outcome}
use Rattle.refusals.specs.declared.refusal.Refusal.{Refusal}
use Rattle.refusals.specs.declared.refusal.Refusal.TheVariants.{BrokenRecord}
use Rattle.rooms.specs.declared.state.State.{State}
use Rattle.rooms.specs.declared.reply.Stepped.{Stepped}
use Rattle.entries.specs.Entry.{entries, entry_at, is_broken}
use Rattle.tracing.specs.Trace.{Traced, traced_of}
use Rattle.tracing.specs.Run.{room_for}
use Rattle.telling.specs.declared.told.Step.{Step}

-- state and store are those that a start leaves
pub record Begun (state : State) (store : List ℕ) (o : Outcome Stepped) : Type 0 where
  pub state_is : state ≡ o.answer.state
  pub store_is : store ≡ o.store

-- a run of one record: what it writes has room for one reply
abbrev pub one_of : List ℕ → List ℕ → List ℕ → State → List ℕ → Traced
one_of map image store was bytes = traced_of map image store was (entries bytes (room_for (length bytes) 4))

-- state and store are those that a run leaves
pub record Taken (state : State) (store : List ℕ) (t : Traced) : Type 0 where
  pub state_is : state ≡ t.state
  pub store_is : store ≡ t.store

-- n bytes were read: a whole record, of known kind
abbrev pub is_record : List ℕ → ℕ → Bool
is_record bytes n = eqb n 8 && not (is_broken (entry_at bytes 0))

-- a record's step, where n bytes are a record; else the end, which changes nothing. A capture that ends between two
-- records is whole
pub record Next (r : Result (Option Step) Refusal) (store bytes : List ℕ) (n : ℕ) (before : List ℕ) (t : Traced) : Type 0 where
  pub steps : is_record bytes n ≡ true → (step : Step) × (r ≡ Ok (Some step)) × Taken step.state store t
  pub ends : is_record bytes n ≡ false → (r ≡ (if eqb n 0 then Ok None else Err BrokenRecord)) × (store ≡ before)
