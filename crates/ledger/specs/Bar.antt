-- How long a bar is: a part of the whole, in fortieths.
-- Assumes nothing.
use Rattle.std.specs.Prelude.{ℕ, ◌+◌, ◌*◌, ◌<◌, ◌≤◌}

-- r is the least number of fortieths of the whole that holds the part
pub record RoundedUp (part whole r : ℕ) : Type 0 where
  pub few : r ≤ 40
  pub enough : 40 * part ≤ r * whole
  pub least : r * whole < 40 * part + whole
