-- The table's rule is a test at each of its 256 entries, which antt computes.
-- Assumes nothing.
use Rattle.std.proofs.Common.{rules, refl, true, eqb, eqb-true, get_or}
use Rattle.std.proofs.lemmas.Bool.{agree_below_at}
use Rattle.frames.specs.Kind.{kind_of}
use Rattle.frames.specs.declared.kinds.TheConstants.{KINDS}
use Rattle.frames.proofs.kinds.kind.Goals as goal

pub returns : goal.returns
unfolding kind_of
returns c =
    let right = agree_below_at (λ b. eqb (get_or KINDS b 0) (kind_of b)) (λ _. true) 256 c.args.byte refl (search rules) in
    eqb-true (get_or KINDS c.args.byte 0) (kind_of c.args.byte) right
