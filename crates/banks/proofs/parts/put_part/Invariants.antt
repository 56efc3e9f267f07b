-- The invariant of `banks::parts::put_part`.
-- Assumes nothing.
use Prim.Native.Nat.{◌≤◌}
use mathlib.Core.Path.{◌≡◌}
use mathlib.Core.List.{◌++◌}
use lib.ListN.{length, take, drop}
use Rattle.banks.proofs.parts.put_part.Given as goal

abbrev pub invariant-loop-i : goal.invariant-loop-i
invariant-loop-i l =
    (l.i-end ≡ length l.initial.part) × (length l.part ≡ length l.initial.part) × (l.part ≡ take l.i l.bytes ++ drop l.i l.initial.part)
