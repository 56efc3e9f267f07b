-- What is found at a location is within reach: its place lies in the store.
-- Assumes nothing.
use Prim.Native.Nat.{ℕ}
use mathlib.Core.Path.{◌≡◌}
use mathlib.Core.Bool.{true}
use mathlib.Core.List.{List}
use Rattle.std.specs.Prelude.{Ok}
use Rattle.records.specs.Map.{records_of}
use Rattle.records.specs.Lookup.{holder}
use Rattle.records.specs.declared.record.Record.{Record}
use Rattle.banks.specs.Rules.{placed}
use Rattle.banks.proofs.Places.{holder_within}
use Rattle.memory.specs.Reach.{Reaches}

pub reaches : (map : List ℕ) (n bank location : ℕ) → placed map n ≡ true
    → (r : Record) → holder (records_of map) bank location ≡ Ok r → Reaches n location r
reaches map n bank location p r e =
    let w = holder_within map n bank location p r e in
    record { from = w.holds.from; to = w.holds.to; most_width = w.fields.most_width; inside = w.inside }
