-- However the input comes, read after read: what is written is its trace. Paper 01, "The trace program". Proved in
-- proofs/InReads.antt.
-- Assumes nothing.
use Rattle.std.specs.Prelude.{ℕ, ◌-◌, ◌*◌, ◌%◌, ◌≤◌, ◌≡◌, true, List, [], ◌∷◌, ◌++◌, length, take, drop, if◌then◌else◌}
use Rattle.rooms.specs.declared.state.State.{State}
use Rattle.unit.specs.Step.{start_of}
use Rattle.entries.specs.Entry.{whole_entries}
use Rattle.tracing.specs.Trace.{Traced, broken, who_of, file_number, closed, trace_of}
use Rattle.tracing.specs.Run.{continued}
use Rattle.tracing.specs.Flow.{standing, GoOnPromise}
use Rattle.tracing.specs.Promises.{begun, joined}
use Rattle.tracing.specs.declared.flows.Flow.{Flow}

-- between two reads: the trace of the whole records so far, and the bytes of an unfinished one that wait
pub record Between : Type 0 where
  pub trace : Traced
  pub waits : List ℕ

-- what is behind the whole records
abbrev pub rest_of : List ℕ → List ℕ
rest_of slice = drop (length slice - length slice % 8) slice

-- one read more: what waits and what is read are a slice; its whole records are run, and what is behind them waits
abbrev pub read_more : List ℕ → List ℕ → Between → List ℕ → Between
read_more map image b read =
    record {
      trace = continued map image b.trace (whole_entries (b.waits ++ read));
      waits = rest_of (b.waits ++ read);
    }

-- read after read
abbrev pub in_reads : List ℕ → List ℕ → Between → List (List ℕ) → Between
in_reads map image b [] = b
in_reads map image b (read ∷ reads) = in_reads map image (read_more map image b read) reads

-- nothing is read yet
abbrev pub unread : List ℕ → State → Between
unread store s = record { trace = begun store s; waits = [] }

-- from a start on
abbrev pub all_read : List ℕ → List ℕ → List ℕ → List ℕ → List (List ℕ) → Between
all_read map store image adr reads =
    in_reads map image
    (unread (start_of map store image (who_of adr)).store (start_of map store image (who_of adr)).answer.state) reads

pub record ReadsTo (map store image adr : List ℕ) (reads : List (List ℕ)) : Type 0 where
  -- however the input comes, what is written is the trace of all of it
  pub all : closed (length (all_read map store image adr reads).waits) (all_read map store image adr reads).trace
      ≡ trace_of map store image adr (joined reads)
  -- and where 13 has ended it, that of the input with whatever was not read
  pub ended : (all_read map store image adr reads).trace.ended ≡ true → (unread : List ℕ)
      → closed (length (all_read map store image adr reads).waits) (all_read map store image adr reads).trace
      ≡ trace_of map store image adr (joined reads ++ unread)

abbrev pub ReadAnyhow : Type 0
ReadAnyhow = (map store image adr : List ℕ) (reads : List (List ℕ)) → file_number map store (length image) adr ≡ 0
    → ReadsTo map store image adr reads

-- `go_on` is one read more, where what waits stands in front of what is read: its flow and the store stand for the
-- trace, with the four bytes of each record behind what was written before, and what waits is in front of the input
abbrev pub GoOnReads : Type 0
GoOnReads = (map image : List ℕ) (flow next : Flow) (store after input left : List ℕ) (filled : ℕ)
    (output answers : List ℕ)
    → GoOnPromise map image flow next store after input left filled output answers → filled ≤ length input
    → (b : Between) (read : List ℕ)
    → standing flow store b.trace.output ≡ b.trace → take filled input ≡ b.waits ++ read
    → (standing next after (b.trace.output ++ take (4 * next.count) answers) ≡ (read_more map image b read).trace)
    × (take next.kept left ≡ (read_more map image b read).waits)

-- at the end, by the flag that `go_on` leaves: 13's four bytes if an unfinished record is left, then the store
abbrev pub ClosedByFlag : Type 0
ClosedByFlag = (map image : List ℕ) (flow next : Flow) (store after input left : List ℕ) (filled : ℕ)
    (output answers : List ℕ)
    → GoOnPromise map image flow next store after input left filled output answers → (written : List ℕ)
    → closed next.kept (standing next after written)
    ≡ written ++ (if next.unfinished then broken else []) ++ after

-- results that meet the same promise are equal
abbrev pub GoOnSettled : Type 0
GoOnSettled = (map image : List ℕ) (flow q r : Flow) (store input : List ℕ) (filled : ℕ) (output : List ℕ)
    (after stored left kept answers written : List ℕ)
    → GoOnPromise map image flow q store after input left filled output answers
    → GoOnPromise map image flow r store stored input kept filled output written
    → (q ≡ r) × (after ≡ stored) × (left ≡ kept) × (answers ≡ written)
