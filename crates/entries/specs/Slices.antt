-- What stays of a slice of the input when its whole records are done.
-- Assumes nothing.
use Rattle.std.specs.Prelude.{ℕ, ◌-◌, ◌%◌, ◌<◌, ◌≡◌, List, take, drop}
use Rattle.laws.specs.Parts.{part}

-- of the first `filled` bytes, those behind the whole records: fewer than 8, now in front; what is behind them stays
pub record KeepsRest (kept : ℕ) (before after : List ℕ) (filled : ℕ) : Type 0 where
  pub many : kept ≡ filled % 8
  pub few : kept < 8
  pub moved : take kept after ≡ part (filled - kept) kept before
  pub rest_stays : drop kept after ≡ drop kept before
