-- What the functions that work on a value's part rest on: the location lies in the value, and its place in the store.
-- Assumes nothing.
use Rattle.std.specs.Prelude.{ℕ, ◌≤◌, ◌<◌}
use Rattle.records.specs.Map.{locations_end, places_end}
use Rattle.records.specs.declared.record.Record.{Record}

-- of a store of n bytes
pub record Reaches (n location : ℕ) (r : Record) : Type 0 where
  pub from : r.first ≤ location
  pub to : location < locations_end r
  pub most_width : r.width ≤ 8
  pub inside : places_end r ≤ n
