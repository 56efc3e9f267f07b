-- What the grammar says that a writable value is: the whole value of its last complete writing, or what a later reset
-- or power-on put there, or what the start left.
-- Assumes nothing.
use Rattle.std.specs.Prelude.{◌≡◌, List, ◌∷◌, ℕ, suc, ◌<◌, length}
use Rattle.records.specs.declared.record.Record.{Record}
use Rattle.banks.specs.Values.{value_of}
use Rattle.memory.specs.Filled.{fresh}
use Rattle.hearing.specs.declared.heard.Who.{Who}
use Rattle.unit.specs.Run.{Input, power_on}
use Rattle.history.specs.Writing.{past, WritingAt, ResetAt}

module _ (rs : List Record) (who : Who) where
  -- the newest input of h puts these bytes in the value v
  pub data Put (image : List ℕ) (v : Record) : List Input → List ℕ → Type 0 where
    -- it ends a complete writing
    by_writing : {h : List Input} {bytes : List ℕ} → WritingAt rs who v bytes h → Put image v h bytes
    -- it is a reset of the value's bank
    by_reset : {x : Input} {h : List Input} → ResetAt rs who v.bank x h → Put image v (x ∷ h) (fresh image v)
    -- it is a power-on, and the value is RAM-RW
    by_power_on : {h : List Input} → v.kind ≡ 2 → Put image v (power_on ∷ h) (fresh image v)

  -- input number i of h puts nothing in v
  abbrev pub PutsNone : List ℕ → Record → List Input → ℕ → Type 0
  PutsNone image v h i = (bytes : List ℕ) → ¬ Put image v (past h (suc i)) bytes

  -- the value v after h, where the start left the store `left`
  pub data ValueAt (image left : List ℕ) (v : Record) (h : List Input) (bytes : List ℕ) : Type 0 where
    -- what the start left, if no input put anything there
    as_left : value_of v left ≡ bytes → ((i : ℕ) → i < length h → PutsNone image v h i) → ValueAt image left v h bytes
    -- what input number i put there, and none after it did
    last_put : (i : ℕ) → i < length h → Put image v (past h (suc i)) bytes
        → ((j : ℕ) → i < j → j < length h → PutsNone image v h j) → ValueAt image left v h bytes
