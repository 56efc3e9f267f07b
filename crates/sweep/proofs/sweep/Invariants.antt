use Rattle.std.proofs.Common.{◌<◌}
use Rattle.sweep.proofs.sweep.Given as goal

abbrev pub invariant-loop-frame : goal.invariant-loop-frame
invariant-loop-frame l = l.checksum < 4294967291
