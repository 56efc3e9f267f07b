-- The invariant of `memory::filled::choices`.
-- Assumes nothing.
use Prim.Native.Nat.{◌/◌, ◌≤◌}
use mathlib.Core.Path.{◌≡◌}
use lib.ListN.{length}
use Rattle.memory.specs.Filled.{PickedTo}
use Rattle.memory.proofs.filled.choices.Given as goal

abbrev pub invariant-loop-i : goal.invariant-loop-i
invariant-loop-i l =
    (l.i-end ≡ length l.stored.map.now / 8) × (l.i-end ≤ 64) × (length l.picks ≡ 64)
    × PickedTo l.stored.map.now l.stored.store.now l.filling l.picks l.i
