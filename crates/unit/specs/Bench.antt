-- The bench sheet, P1 to P12 and the two lines after them, as one table and one statement. Paper 01, "Bench sheet".
-- Proved in proofs/Bench.antt.
-- Assumes nothing.
use Rattle.std.specs.Prelude.{ℕ, ◌≡◌, true, List, [], ◌∷◌, ◌++◌, map}
use Rattle.laws.specs.Outcome.{Outcome}
pub use Rattle.records.specs.Bench.{bench_map, bench_store, bench_image}
use Rattle.composing.specs.Bench.{Case, CaseHolds, sheet as framesSheet}
use Rattle.hearing.specs.Pairs.{heard_at, passed}
use Rattle.hearing.specs.declared.heard.Heard.{Heard}
use Rattle.hearing.specs.declared.heard.Who.{Who}
use Rattle.rooms.specs.declared.reply.Stepped.{Stepped}
use Rattle.unit.specs.Step.{start_of}
use Rattle.unit.specs.Promises.{number_of}
use Rattle.unit.specs.Run.{Input, hears, Run, run_of}

-- map, store and image are passed on; address 5, no groups
abbrev pub bench_who : Who
bench_who = record { address = 5; groups = 0 }

abbrev pub bench_start : Outcome Stepped
bench_start = start_of bench_map bench_store bench_image bench_who

abbrev pub bench_run : List Input → Run
bench_run = run_of bench_map bench_store bench_image bench_who

abbrev pub at : ℕ → ℕ → Input
at clock frame = hears (heard_at clock frame)

-- ENABLE to short 5 at two clocks, and the frames after it but the last; the sheet prints no clocks for these
abbrev pub bench_heard : ℕ → ℕ → List Heard
bench_heard first second =
    heard_at first 0x0BFE15 ∷ heard_at second 0x0BFE15 ∷ heard_at 200 0xC13102 ∷ heard_at 300 0xC13002
    ∷ heard_at 400 0xC12055 ∷ heard_at 500 0xC12000 ∷ heard_at 600 0xC12000 ∷ heard_at 700 0xC12001 ∷ []

abbrev pub last_heard : Heard
last_heard = heard_at 800 0xC1202C

-- the same as inputs of a run
abbrev pub bench_frames : ℕ → ℕ → List Input
bench_frames first second = map hears (bench_heard first second)

abbrev pub last_frame : List Input
last_frame = hears last_heard ∷ []

-- what is written for a frame: no answer, or the answer
abbrev pub none : List ℕ
none = 0 ∷ 0 ∷ 0 ∷ 0 ∷ []

abbrev pub answer : ℕ → List ℕ
answer byte = 0 ∷ 1 ∷ byte ∷ 0 ∷ []

-- a line of the sheet
pub data Line : Type 0 where
  -- a frame, read, written, composed or refused
  says : Case → Line
  -- a run from the start: what is written for its frames, and the store at the end
  runs : List Input → (output store : List ℕ) → Line
  -- a run from the start: its output, the store, DTR0 and DTR1 at the end
  leads : List Input → (output store : List ℕ) → (dtr0 dtr1 : ℕ) → Line
  -- ENABLE at two clocks: the difference; they are a pair
  pairs : (first second difference : ℕ) → Line

-- the start is accepted, and the run writes the output and leaves the store
pub record BenchRuns (inputs : List Input) (output store : List ℕ) : Type 0 where
  pub starts : number_of bench_start ≡ 0
  pub writes : (bench_run inputs).output ≡ output
  pub leaves : (bench_run inputs).store ≡ store

abbrev pub LineHolds : Line → Type 0
LineHolds (says case) = CaseHolds case
LineHolds (runs inputs output store) = BenchRuns inputs output store
LineHolds (leads inputs output store dtr0 dtr1) =
    BenchRuns inputs output store
    × ((bench_run inputs).state.registers.dtr0 ≡ dtr0) × ((bench_run inputs).state.registers.dtr1 ≡ dtr1)
LineHolds (pairs first second difference) =
    (passed first second ≡ difference)
    × ((bench_run (at first 0x0BFE15 ∷ at second 0x0BFE15 ∷ [])).state.door.enabled ≡ true)

abbrev pub LinesHold : List Line → Type 0
LinesHold [] = Unit {0}
LinesHold (line ∷ lines) = LineHolds line × LinesHold lines

-- P11: 0BFE15 at 0 and at 100, C13102, C13002, C12055, C12000, C12000, C12001, C1202C
abbrev pub p11 : Line
p11 =
    runs (bench_frames 0 100 ++ last_frame)
    (none ++ none ++ none ++ none ++ answer 0x55 ++ answer 0x00 ++ answer 0x00 ++ answer 0x01 ++ answer 0x2C)
    (0x06 ∷ 0x55 ∷ 0x00 ∷ 0x00 ∷ 0x01 ∷ 0x2C ∷ [])

-- P12: the last frame missing
abbrev pub p12 : Line
p12 =
    runs (bench_frames 0 100)
    (none ++ none ++ none ++ none ++ answer 0x55 ++ answer 0x00 ++ answer 0x00 ++ answer 0x01)
    (0x06 ∷ 0x55 ∷ 0x00 ∷ 0x00 ∷ 0x00 ∷ 0x64 ∷ [])

-- second ENABLE at 101: no answers, store unchanged, DTR0 2, DTR1 2
abbrev pub late : Line
late =
    leads (bench_frames 0 101 ++ last_frame)
    (none ++ none ++ none ++ none ++ none ++ none ++ none ++ none ++ none)
    bench_store 2 2

-- clock 4,294,967,250 then 50: difference 96, a pair
abbrev pub overrun : Line
overrun = pairs 4294967250 50 96

-- P1 to P10 are the lines of the frames' own sheet
abbrev pub sheet : List Line
sheet = map says framesSheet ++ p11 ∷ p12 ∷ late ∷ overrun ∷ []

abbrev pub SheetHolds : Type 0
SheetHolds = LinesHold sheet
