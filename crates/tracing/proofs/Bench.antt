-- The bench sheet's traces: the records' bytes are the sheet's inputs, which the unit's sheet runs.
-- Assumes nothing.
use Prim.Native.Nat.{ℕ, ◌%◌}
use mathlib.Core.Path.{◌≡◌, refl, sym, ◌∙◌}
use mathlib.Core.List.{List, [], ◌∷◌, ◌++◌, map}
use mathlib.Core.Logic.{⊎_elim}
use native.Mathlib.Nat.{eq-zero-or-pos}
use native.Mathlib.Omega.{arith}
use borrow.Author.Tests.{eq-eqb}
use lib.ListN.{length}
use Rattle.std.specs.Prelude.{if◌then◌else◌}
use Rattle.laws.specs.Lists.{some}
use Rattle.composing.specs.Bench.{Case, sheet as framesSheet}
use Rattle.banks.specs.Rules.{check_number}
use Rattle.numbers.proofs.Numbers.{tests_in_order}
use Rattle.unit.specs.Run.{Input, run_of}
use Rattle.unit.specs.Bench.{bench_map, bench_store, bench_image, bench_who, bench_run, p11, p12, late, overrun}
use Rattle.unit.specs.Bench.{Line, says, BenchRuns, LinesHold}
use Rattle.unit.proofs.Bench.{sheet_holds}
use Rattle.unit.proofs.Numbers.{calls_reply}
use Rattle.entries.specs.Entry.{entry_of, entry_at, whole_entries, is_broken}
use Rattle.tracing.specs.Trace.{inputs_of, broken, traced_of, who_of, file_number, closed, trace_of}
use Rattle.tracing.specs.Bench.{bench_adr, p11_records, bench_trace, BenchTraces, BenchFiles}
use Rattle.tracing.proofs.Starts.{files_numbered}

-- the runs' lines stand behind the frames'
runs_lines : (cases : List Case) (lines : List Line) → LinesHold (map says cases ++ lines) → LinesHold lines
runs_lines [] lines h = h
runs_lines (c ∷ cases) lines h = runs_lines cases lines h.1

lines : LinesHold (p11 ∷ p12 ∷ late ∷ overrun ∷ [])
lines = runs_lines framesSheet (p11 ∷ p12 ∷ late ∷ overrun ∷ []) sheet_holds

-- start accepts the files, so 7 to 11 are passed
checked : check_number bench_map bench_store 6 ≡ 0
checked =
    let started = sym ((calls_reply bench_map bench_store bench_image).start bench_who) ∙ lines.0.starts in
    ⊎_elim (λ z. z) (λ h. absurd (omega (arith, (tests_in_order bench_map bench_store 6).start_first bench_who h)))
    (eq-zero-or-pos (check_number bench_map bench_store 6))

-- the files are the sheet's
files_who : who_of bench_adr ≡ bench_who
unfolding who_of
files_who = refl

accepted : file_number bench_map bench_store 6 bench_adr ≡ 0
accepted = (files_numbered bench_map bench_store 6 bench_adr).last checked ∙ rw files_who

-- records whose inputs are those of a line: what the line writes, 13 for a record of unknown kind or an unfinished one,
-- and the line's store
module _ (records : List ℕ) {inputs : List Input} {output store : List ℕ}
    (e : inputs_of (whole_entries records) ≡ inputs) (r : BenchRuns inputs output store) where
  bench : bench_trace bench_adr records
      ≡ closed (length records % 8)
      (record {
        output = output ++ (if some is_broken (whole_entries records) then broken else []);
        ended = some is_broken (whole_entries records);
        state = (bench_run inputs).state;
        store = store;
      })
  unfolding trace_of traced_of run_of
  bench = rw (eq-eqb (file_number bench_map bench_store 6 bench_adr) 0 accepted, files_who, e, r.writes, r.leaves)

-- an address file that is refused
refused : (adr : List ℕ) → file_number bench_map bench_store 6 adr ≡ 6 → bench_trace adr p11_records ≡ 6 ∷ 0 ∷ 0 ∷ 0 ∷ []
unfolding trace_of
refused adr e = rw e

pub bench_traces : BenchTraces
unfolding who_of entry_of entry_at
bench_traces =
    let a = lines.0 in
    let b = lines.1.0 in
    record {
      p11 = bench _ refl a;
      p12 = bench _ refl b;
      unfinished = bench _ refl b;
      unknown = bench _ refl b;
      short_adr = refused _ ((files_numbered bench_map bench_store 6 _).last checked);
      long_adr = refused _ ((files_numbered bench_map bench_store 6 _).last checked);
      bad_address = refused _ ((files_numbered bench_map bench_store 6 _).last checked);
    }

pub bench_files : BenchFiles
unfolding who_of
bench_files = record { who = refl }
