-- The pair rule at the bench sheet's clocks, and where there is no pair.
-- Assumes nothing.
use Rattle.std.proofs.Common.{ℕ, refl, eq-eqb, ne_eqb}
use Rattle.hearing.specs.Pairs.{passed, in_time, completes}
use Rattle.hearing.specs.Promises.{PairClocks, NoPair}
use Rattle.hearing.specs.declared.heard.Heard.{Heard}

pub pair_clocks : (frame : ℕ) → PairClocks frame
unfolding completes in_time passed
pair_clocks frame =
    let same = eq-eqb frame frame refl in
    record { in_time_lem = rw same; too_late = rw same; difference = refl; run_over = rw same }

pub no_pair : (heard : Heard) → NoPair heard
unfolding completes in_time
no_pair heard = record { none = refl; other = λ first ne. rw (ne_eqb first.frame heard.frame ne) }
