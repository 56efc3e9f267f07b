-- Of 32 group bits none is above bit 31.
-- Assumes nothing.
use Rattle.std.proofs.Common.{lt_of_lt_of_le, pow_mono, le-ltb}
use native.Mathlib.Nat.{div-eq_of_lt}
use Rattle.hearing.proofs.asked.is_member.Goals as goal

pub returns-else-group-lt32 : goal.returns-else-group-lt32
returns-else-group-lt32 c =
    rw (
      le-ltb c.args.group 32 c.if-group-lt32.false,
      div-eq_of_lt (lt_of_lt_of_le c.ranges.groups.fits (pow_mono c.if-group-lt32.false)),
    )
