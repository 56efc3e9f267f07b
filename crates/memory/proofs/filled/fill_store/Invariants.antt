-- The invariant of `memory::filled::fill_store`.
-- Assumes nothing.
use mathlib.Core.Path.{◌≡◌}
use lib.ListN.{length}
use Rattle.memory.proofs.Fillings.{Done}
use Rattle.memory.proofs.filled.fill_store.Given as goal

abbrev pub invariant-loop-i : goal.invariant-loop-i
invariant-loop-i l =
    (length l.store ≡ length l.initial.store) × Done l.map l.initial.store l.image l.picks l.store l.i
