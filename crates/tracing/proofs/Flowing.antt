-- One slice more: what a run and what is kept leave of it.
-- Assumes nothing.
use Prim.Native.Nat.{ℕ, ◌*◌, ◌/◌, ◌≤◌}
use mathlib.Core.Path.{◌≡◌, refl, ap, sym, ◌∙◌}
use mathlib.Core.Bool.{Bool, not}
use mathlib.Core.List.{List, ◌++◌}
use native.Mathlib.Omega.{arith}
use borrow.Author.Tests.{le-ltb}
use lib.Dec.{ltb}
use lib.ListN.{length, take, drop}
use lib.Seq.{take_at, drop_at, length-take-le}
use Rattle.laws.proofs.Sides.{and_right}
use Rattle.laws.proofs.Tests.{denied}
use Rattle.rooms.specs.declared.state.State.{State}
use Rattle.entries.specs.Entry.{entries, whole_entries}
use Rattle.entries.specs.Slices.{KeepsRest}
use Rattle.entries.specs.declared.entry.Entry.{Entry}
use Rattle.tracing.specs.Trace.{Traced, traced_of}
use Rattle.tracing.specs.Run.{continued, room_for, Runs}
use Rattle.tracing.specs.Flow.{unfinished_of, more_of, begun_flow, Flows, Runnable, GoOnPromise}
use Rattle.tracing.specs.declared.runs.Ran.{Ran}
use Rattle.tracing.specs.declared.flows.Flow.{Flow}
use Rattle.tracing.proofs.Continued.{four_each}
use Rattle.tracing.proofs.Settled.{answers_within}

-- each whole record has room
all_room : (records output : ℕ) → records / 8 ≤ output / 4 → room_for records output ≡ records / 8
unfolding room_for
all_room records output h = rw (le-ltb (output / 4) (records / 8) h)

-- so many records were answered
answers_are : (map image store : List ℕ) (s : State) (es : List Entry) (count : ℕ)
    → count ≡ length (traced_of map image store s es).output / 4
    → 4 * count ≡ length (traced_of map image store s es).output
answers_are map image store s es count e = omega (arith, four_each map image store s es)

module _ (map image : List ℕ) (flow : Flow) (store input : List ℕ) (filled : ℕ) (output : List ℕ)
    (h : Runnable flow input filled output) where
  abbrev over : List ℕ → ℕ → Traced
  over slice n = traced_of map image store flow.state (entries slice n)

  whole_run : over (take filled input) (room_for (length (take filled input)) (length output))
      ≡ traced_of map image store flow.state (whole_entries (take filled input))
  whole_run =
      ap (over (take filled input))
      (all_room (length (take filled input)) (length output)
      (rw (length-take-le filled input h.inside) h.room))

  -- the slice is lent as the first part of the input
  pub goes_on : (ran : Ran) (after answers left : List ℕ) (kept : ℕ) (unfinished more : Bool)
      → Runs ran after answers output
      (over (take filled input) (room_for (length (take filled input)) (length output)))
      → length answers ≡ length output → KeepsRest kept input left filled
      → unfinished ≡ unfinished_of kept ran.ended → more ≡ more_of flow.kept filled ran.ended
      → GoOnPromise map image flow
      (record {
        state = ran.state;
        kept = kept;
        count = ran.count;
        ended = ran.ended;
        unfinished = unfinished;
        more = more;
      })
      store after input left filled output answers
  unfolding continued
  goes_on ran after answers left kept unfinished more q l k u m =
      let t = traced_of map image store flow.state (whole_entries (take filled input)) in
      let r : Runs ran after answers output t = rw whole_run at q in
      let n : 4 * ran.count ≡ length t.output =
      answers_are map image store flow.state (whole_entries (take filled input)) ran.count r.count in
      record {
        traces = λ written.
            rw (h.not_ended, r.state, r.ended, r.leaves, n, r.writes)
            (ap (λ (o : List ℕ). record { output = written ++ o; ended = t.ended; state = t.state; store = t.store })
            (take_at t.output (drop (length t.output) output) (length t.output) refl));
        within = answers_within ran after answers output t r l;
        rest_stays =
            rw (n, r.writes)
            (drop_at t.output (drop (length t.output) output) (length t.output) refl);
        keeps_rest = k;
        unfinished = u;
        more = m;
      }

-- ---- between two reads

pub flows_first : (s : State) → Flows (begun_flow s)
unfolding begun_flow
flows_first s = record { few = omega arith; not_ended = λ e. refl }

pub flows_again : {map image : List ℕ} {flow next : Flow} {store after input left : List ℕ} {filled : ℕ}
    {output answers : List ℕ}
    → GoOnPromise map image flow next store after input left filled output answers → Flows next
flows_again {flow = flow} {next = next} {filled = filled} g =
    record {
      few = g.keeps_rest.few;
      not_ended = λ e.
          denied next.ended (and_right (ltb flow.kept filled) (not next.ended) (sym g.more ∙ e));
    }
