-- The bytes put are those of the state.
-- Assumes nothing.
use Rattle.std.proofs.Common.{rules}
use Rattle.packing.proofs.Packed.{packed}
use Rattle.packing.proofs.state_bytes.pack.Goals as goal

pub returns : goal.returns
returns c =
    packed c.args.state _ _ _ _ _ _ _ _ _ _ _ c.flag.ensures c.flag-2.ensures c.flag-3.ensures
    c.to_be_bytes.ensures c.to_be_bytes-2.ensures c.to_be_bytes-3.ensures (search rules, search rules)
    c.put.ensures c.put-2.ensures c.put-3.ensures c.put-4.ensures c.put-5.ensures
