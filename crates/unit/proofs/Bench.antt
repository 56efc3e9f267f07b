-- The bench sheet holds: each line is computed.
-- Assumes nothing.
use mathlib.Core.Path.{refl}
use mathlib.Core.List.{List, [], ◌∷◌, ◌++◌, map}
use Rattle.composing.specs.Bench.{Case, AllHold, sheet as framesSheet}
use Rattle.composing.proofs.Bench.{sheet_holds as frames-hold}
use Rattle.memory.specs.Filled.{selects, chosen, fresh, filled_of}
use Rattle.rooms.specs.Due.{short_due, write_due, read_due, once_due, pair_due, due_by, due_of}
use Rattle.rooms.specs.Reply.{quiet, answering, refusing}
use Rattle.numbers.specs.Numbers.{step_number, power_number, start_number}
use Rattle.numbers.proofs.Computing.{reading, checking, looking, meaning, storing, keeping, rooms}
use Rattle.unit.specs.Step.{cleared, raised, written, read_by, done, frame_step, power_step, step_of, power_on_of}
use Rattle.unit.specs.Step.{start_of}
use Rattle.unit.specs.Run.{input_of, output_of, run_of}
use Rattle.unit.specs.Bench.{Line, says, LinesHold, p11, p12, late, overrun, SheetHolds}

-- what the unit computes with, above the floors below
unfoldable pub filling : Unit {0}
unfolding selects chosen fresh filled_of
filling = tt

unfoldable pub acting : Unit {0}
unfolding short_due write_due read_due once_due pair_due due_by due_of cleared raised written read_by done frame_step power_step
acting = tt

unfoldable pub calling : Unit {0}
unfolding quiet answering refusing step_number power_number start_number step_of power_on_of start_of input_of output_of run_of
calling = tt

runs_hold : LinesHold (p11 ∷ p12 ∷ late ∷ overrun ∷ [])
unfolding reading checking looking meaning storing filling keeping rooms acting calling
runs_hold = (
  record { starts = refl; writes = refl; leaves = refl },
  (
    record { starts = refl; writes = refl; leaves = refl },
    (
      (record { starts = refl; writes = refl; leaves = refl }, refl, refl),
      ((refl, refl), tt),
    ),
  ),
)

-- the frames' lines first
both_hold : (cases : List Case) (lines : List Line) → AllHold cases → LinesHold lines
    → LinesHold (map says cases ++ lines)
both_hold [] lines p q = q
both_hold (c ∷ cases) lines p q = (p.0, both_hold cases lines p.1 q)

pub sheet_holds : SheetHolds
sheet_holds = both_hold framesSheet (p11 ∷ p12 ∷ late ∷ overrun ∷ []) frames-hold runs_hold
