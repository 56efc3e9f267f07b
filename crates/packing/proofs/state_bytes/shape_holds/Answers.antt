-- The flags, and the bytes behind those in use.
-- Assumes nothing.
use Rattle.std.proofs.Common.{◌≡◌, refl, rules, arith, length, drop, length-drop, take_all}
use Rattle.packing.specs.StateBytes.{shape_holds}
use Rattle.packing.proofs.state_bytes.shape_holds.Goals as goal

pub returns : goal.returns
unfolding shape_holds
returns c =
    let long : length c.args.bytes ≡ 96 = search rules in
    rw (c.is_zero.ensures, take_all 56 (drop 40 c.args.bytes) (omega (arith, length-drop 40 c.args.bytes))) refl
