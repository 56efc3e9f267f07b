-- The invariant of `records::map::Map::halve`.
-- Assumes nothing.
use Prim.Native.Nat.{◌+◌, ◌-◌, ◌/◌, ◌≤◌}
use mathlib.Core.Path.{◌≡◌}
use lib.ListN.{length}
use Rattle.records.specs.Halving.{at_location, beside, sought}
use Rattle.records.proofs.Neighbours.{Below, Above}
use Rattle.records.proofs.Turns.{seen, sought_in}
use Rattle.records.proofs.map.Map.halve.Given as goal

abbrev pub invariant-loop-left : goal.invariant-loop-left
invariant-loop-left l =
    (l.span.map.now ≡ l.self.bytes.now)
    × (l.count + (l.span.high - l.span.low) ≤ length l.self.bytes.now / 8)
    × Below l.self.bytes.now l.span.low l.below
    × Above l.self.bytes.now l.span.high l.above l.next
    × (sought l.self.bytes.now l.bank l.location
    ≡ sought_in l.bank l.location (beside l.bank l.below l.above l.next) l.count (seen l.self.bytes.now (at_location l.bank l.location) l.span.low l.span.high))

abbrev pub decreases-loop-left : goal.decreases-loop-left
decreases-loop-left l = l.span.high - l.span.low
