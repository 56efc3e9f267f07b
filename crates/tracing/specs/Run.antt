-- What a run of records does, turn by turn, and what it promises.
-- Assumes nothing.
use Rattle.std.specs.Prelude.{ℕ, ◌+◌, ◌*◌, ◌/◌, ◌≤◌, ◌≡◌, false, List, [], ◌∷◌, ◌++◌, ltb, length, take, drop, if◌then◌else◌}
use Rattle.laws.specs.Outcome.{Outcome, leaves}
use Rattle.refusals.specs.declared.refusal.Refusal.{Refusal}
use Rattle.hearing.specs.Pairs.{heard_at}
use Rattle.rooms.specs.Reply.{refusing}
use Rattle.rooms.specs.declared.state.State.{State}
use Rattle.rooms.specs.declared.reply.Stepped.{Stepped}
use Rattle.numbers.specs.Numbers.{power_number}
use Rattle.unit.specs.Step.{step_of, power_on_of}
use Rattle.entries.specs.Entry.{entry_at}
use Rattle.entries.specs.declared.entry.Entry.{Entry}
use Rattle.tracing.specs.Trace.{Traced, traced_of}
use Rattle.tracing.specs.declared.runs.Ran.{Ran}

-- a record is handed to its public call; a broken one gets 13, and state and store stay
unfoldable pub turn_of : List ℕ → List ℕ → List ℕ → State → Entry → Outcome Stepped
turn_of map image store s (Entry.Frame clock frame) = step_of map store image s (heard_at clock frame)
turn_of map image store s Entry.PowerOn = power_on_of map store image s
turn_of map image store s Entry.Broken = leaves (refusing s Refusal.BrokenRecord) store

-- what was written before, and behind it what a run writes
abbrev pub behind : List ℕ → Traced → Traced
behind output t = record { output = output ++ t.output; ended = t.ended; state = t.state; store = t.store }

-- a run that goes on with more records; one that 13 ended does not
unfoldable pub continued : List ℕ → List ℕ → Traced → List Entry → Traced
continued map image t es =
    if t.ended then t else behind t.output (traced_of map image t.store t.state es)

-- how far a run has come, as what it has written so far
unfoldable pub so_far : Ran → List ℕ → List ℕ → Traced
so_far r store output =
    record { output = take (4 * r.count) output; ended = r.ended; state = r.state; store = store }

-- where a turn begins: not at the end of the records or of the output, and the number is that of a check here
pub record Begins (r : Ran) (map store image records output : List ℕ) (number : ℕ) : Type 0 where
  pub record_there : 8 * r.count + 8 ≤ length records
  pub room_there : 4 * r.count + 4 ≤ length output
  pub goes_on : r.ended ≡ false
  pub checked : number ≡ power_number map store (length image) r.state

-- one turn: one record more, its four bytes behind those so far, and what is behind these stays; the check still stands
pub record Turns (r next : Ran) (map store after image records output written : List ℕ) (number : ℕ) : Type 0 where
  pub one_more : next.count ≡ r.count + 1
  pub does : so_far next after written ≡ continued map image (so_far r store output) (entry_at records r.count ∷ [])
  pub rest_stays : drop (4 * next.count) written ≡ drop (4 * next.count) output
  pub still_checked : number ≡ power_number map after (length image) next.state

-- of so many bytes of records the whole records, as many as so many bytes of output have room for
unfoldable pub room_for : (records output : ℕ) → ℕ
room_for records output = if ltb (output / 4) (records / 8) then output / 4 else records / 8

-- what a run leaves: state, whether 13 ended it, how many records were answered, the store, every byte of the output
pub record Runs (r : Ran) (store output before : List ℕ) (t : Traced) : Type 0 where
  pub state : r.state ≡ t.state
  pub ended : r.ended ≡ t.ended
  pub count : r.count ≡ length t.output / 4
  pub leaves : store ≡ t.store
  pub writes : output ≡ t.output ++ drop (length t.output) before
