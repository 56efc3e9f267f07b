-- How many differences a list has.
-- Assumes nothing.
use Rattle.std.proofs.Common.{◌≡◌, ◌≤◌, ℕ, List, Ok}
use Rattle.compare.specs.Compare.{compare_of, count_in}
use Rattle.compare.proofs.Numbered.{compare_most}

pub few : (map old new : List ℕ) (room count : ℕ) → Ok count ≡ compare_of map old new room → count ≤ 64
few map old new room count e = let few : count_in (compare_of map old new room) ≤ 64 = compare_most map old new room in rw (← e) at few
