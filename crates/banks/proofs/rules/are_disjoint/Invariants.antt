-- The invariant of `banks::rules::are_disjoint`.
-- Assumes nothing.
use mathlib.Core.Path.{◌≡◌}
use lib.ListN.{length}
use Rattle.records.specs.Map.{records_of}
use Rattle.banks.specs.Rules.{disjoint}
use Rattle.banks.proofs.rules.are_disjoint.Given as goal

abbrev pub invariant-loop-r : goal.invariant-loop-r
invariant-loop-r l = disjoint (records_of l.map) ≡ disjoint (records_of l.rest.bytes.now)

abbrev pub decreases-loop-r : goal.decreases-loop-r
decreases-loop-r l = length (records_of l.rest.bytes.now)
