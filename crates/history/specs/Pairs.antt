-- Pairs, told of the list alone. Paper 01, "State and clock". A history has its newest input first: a tail of it is
-- an earlier point.
-- Assumes nothing.
use Rattle.std.specs.Prelude.{Bool, false, ◌&&◌, not, List, [], ◌∷◌, eqb, leb}
use Rattle.hearing.specs.Pairs.{passed}
use Rattle.hearing.specs.declared.heard.Heard.{Heard}
use Rattle.unit.specs.Run.{Input, power_on, hears}

-- the frame x, heard after h, ends a pair: it and the frame y before it are equal, and second minus first, modulo
-- 4,294,967,296, is at most 100; in direct succession, no power-on between; pairs are taken from the left and share no
-- frame, so y ends no pair itself
unfoldable pub ends_pair : List Input → Heard → Bool
ends_pair [] x = false
ends_pair (power_on ∷ h) x = false
ends_pair (hears y ∷ h) x =
    (eqb y.frame x.frame && leb (passed y.clock x.clock) 100) && not (ends_pair h y)
