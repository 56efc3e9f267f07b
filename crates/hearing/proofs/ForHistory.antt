-- The pair rule, as a history needs it: what makes a pair with the frame that waits.
-- Assumes nothing.
use Rattle.std.proofs.Common.{◌≡◌, ℕ, true, false, eqb, refl, eqb-true}
use Rattle.laws.proofs.Tests.{both}
use Rattle.hearing.specs.Pairs.{in_time, completes, none_waits, waits_for}
use Rattle.hearing.specs.declared.heard.Heard.{Heard}

pub none_completes : (x : Heard) → completes none_waits x ≡ false
unfolding completes
none_completes x = refl

pub one_completes : (y x : Heard) → completes (waits_for y) x ≡ in_time y.frame y.clock x.frame x.clock
unfolding completes
one_completes y x = refl

pub in_time_equal : (frame clock again later : ℕ) → in_time frame clock again later ≡ true → frame ≡ again
unfolding in_time
in_time_equal frame clock again later e = eqb-true frame again (both (eqb frame again) _ e).0
