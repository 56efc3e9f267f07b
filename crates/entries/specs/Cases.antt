-- Worked cases of one record, by its bytes. Paper 01, "The trace program". Proved in proofs/: Cases.
-- Assumes nothing.
use Rattle.std.specs.Prelude.{◌≡◌, [], ◌∷◌}
use Rattle.entries.specs.Entry.{entry_at}
use Rattle.entries.specs.declared.entry.Entry.{Entry}

pub record Cases : Type 0 where
  -- clock (4, high first), kind 0 frame or 1 power-on, frame (3)
  pub frame : entry_at (0x01 ∷ 0x02 ∷ 0x03 ∷ 0x04 ∷ 0 ∷ 0x0B ∷ 0xFE ∷ 0x15 ∷ []) 0 ≡ Entry.Frame 0x01020304 0x0BFE15
  -- clock and frame of a power-on record are ignored
  pub power_on : entry_at (0x01 ∷ 0x02 ∷ 0x03 ∷ 0x04 ∷ 1 ∷ 0x0B ∷ 0xFE ∷ 0x15 ∷ []) 0 ≡ Entry.PowerOn
  pub unknown : entry_at (0x01 ∷ 0x02 ∷ 0x03 ∷ 0x04 ∷ 2 ∷ 0x0B ∷ 0xFE ∷ 0x15 ∷ []) 0 ≡ Entry.Broken
