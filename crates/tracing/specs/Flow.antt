-- What stands between two reads of the input, and what one slice more leaves. Paper 01, "The trace program".
-- Assumes nothing.
use Rattle.std.specs.Prelude.{ℕ, ◌*◌, ◌/◌, ◌<◌, ◌≤◌, ◌≡◌, Bool, true, false, ◌&&◌, not, List, ◌++◌, ltb, length, take, drop}
use Rattle.rooms.specs.declared.state.State.{State}
use Rattle.entries.specs.Entry.{whole_entries}
use Rattle.entries.specs.Slices.{KeepsRest}
use Rattle.tracing.specs.Trace.{Traced}
use Rattle.tracing.specs.Run.{continued}
use Rattle.tracing.specs.declared.flows.Flow.{Flow}

-- an unfinished record is left: bytes of one wait, and 13 has not ended the input
abbrev pub unfinished_of : (kept : ℕ) (ended : Bool) → Bool
unfinished_of kept ended = ltb 0 kept && not ended

-- the input goes on: more was read than what was kept, and 13 has not ended it
abbrev pub more_of : (kept filled : ℕ) (ended : Bool) → Bool
more_of kept filled ended = ltb kept filled && not ended

-- the trace so far, as flow and store have it, for which this was written
abbrev pub standing : Flow → (store written : List ℕ) → Traced
standing flow store written = record { output = written; ended = flow.ended; state = flow.state; store = store }

-- nothing is read yet
unfoldable pub begun_flow : State → Flow
begun_flow s = record { state = s; kept = 0; count = 0; ended = false; unfinished = false; more = true }

-- what holds between two reads: what waits is less than a record, and more is read only if 13 has not ended the input
pub record Flows (flow : Flow) : Type 0 where
  pub few : flow.kept < 8
  pub not_ended : flow.more ≡ true → flow.ended ≡ false

-- a slice can be run: 13 has not ended the input, the slice lies in it, and the output has room for each whole record
pub record Runnable (flow : Flow) (input : List ℕ) (filled : ℕ) (output : List ℕ) : Type 0 where
  pub not_ended : flow.ended ≡ false
  pub inside : filled ≤ length input
  pub room : filled / 8 ≤ length output / 4

-- what one slice more leaves: flow, store, input, output
pub record GoOnPromise (map image : List ℕ) (flow next : Flow) (store after input left : List ℕ) (filled : ℕ)
    (output answers : List ℕ) : Type 0 where
  -- whatever was written before: the slice's whole records go on from there, and four bytes for each of `count` are in
  -- front of the output
  pub traces : (written : List ℕ)
      → standing next after (written ++ take (4 * next.count) answers)
      ≡ continued map image (standing flow store written) (whole_entries (take filled input))
  pub within : 4 * next.count ≤ length answers
  pub rest_stays : drop (4 * next.count) answers ≡ drop (4 * next.count) output
  -- the bytes behind the whole records wait in front
  pub keeps_rest : KeepsRest next.kept input left filled
  pub unfinished : next.unfinished ≡ unfinished_of next.kept next.ended
  pub more : next.more ≡ more_of flow.kept filled next.ended
