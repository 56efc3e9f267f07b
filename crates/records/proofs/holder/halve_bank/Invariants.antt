-- The invariant of `records::holder::halve_bank`.
-- Assumes nothing.
use Prim.Native.Nat.{◌-◌}
use mathlib.Core.Path.{◌≡◌}
use Rattle.records.specs.Halving.{in_bank, halved_bank}
use Rattle.records.proofs.Turns.{seen, mapped_in}
use Rattle.records.proofs.holder.halve_bank.Given as goal

abbrev pub invariant-loop-left : goal.invariant-loop-left
invariant-loop-left l =
    (l.span.map.now ≡ l.map) × (halved_bank l.map l.bank ≡ mapped_in l.bank (seen l.map (in_bank l.bank) l.span.low l.span.high))

abbrev pub decreases-loop-left : goal.decreases-loop-left
decreases-loop-left l = l.span.high - l.span.low
