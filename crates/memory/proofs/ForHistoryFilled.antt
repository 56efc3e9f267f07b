-- A reset and a power-on of the store, seen from one value: it takes its fresh bytes if it is chosen, else it stays.
-- Assumes nothing.
use mathlib.Core.Path.{◌≡◌, ◌∙◌}
use mathlib.Core.Bool.{true, false, ◌&&◌}
use mathlib.Core.List.{List, [], ◌∷◌}
use Prim.Native.Nat.{ℕ}
use lib.Dec.{eqb}
use lib.ListN.{length}
use Rattle.std.specs.Prelude.{if◌then◌else◌}
use Rattle.records.specs.Map.{records_of, writable}
use Rattle.records.specs.Facts.{Member}
use Rattle.records.specs.declared.record.Record.{Record}
use Rattle.banks.specs.Rules.{placed, is_lock}
use Rattle.banks.specs.Values.{value_of, lock_byte}
use Rattle.memory.specs.Filled.{selects, chosen, fresh, filled_of}
use Rattle.memory.specs.declared.filled.Filling.{Filling}
use Rattle.memory.specs.declared.filled.Filling.TheVariants.{PowerOn, Reset}
use Rattle.memory.proofs.Fills.{fill_value, fill_changes_only}

-- a lock byte becomes 0xFF
pub fresh_lock : (image : List ℕ) (r : Record) → is_lock r ≡ true → fresh image r ≡ 0xFF ∷ []
unfolding fresh
fresh_lock image r e = rw e

module _ (map store image : List ℕ) (p : placed map (length store) ≡ true) (li : length image ≡ length store)
    (v : Record)
    (m : Member v map) where
  -- a reset, of a writable value
  pub reset_value : (dtr0 : ℕ) → writable v ≡ true
      → value_of v (filled_of (records_of map) store image (Reset dtr0))
      ≡ (if selects dtr0 v.bank && eqb (lock_byte (records_of map) store v.bank) 0x55 then fresh image v
      else value_of v store)
  unfolding chosen
  reset_value dtr0 w = fill_value map store image p li (Reset dtr0) v m ∙ rw w

  pub power-value :
      value_of v (filled_of (records_of map) store image PowerOn)
      ≡ (if eqb v.kind 2 then fresh image v else value_of v store)
  unfolding chosen
  power-value = fill_value map store image p li PowerOn v m

  -- a value that is not writable
  pub filled_stays : (f : Filling) → writable v ≡ false
      → value_of v (filled_of (records_of map) store image f) ≡ value_of v store
  filled_stays f w = (fill_changes_only map store image p li f).read_only v m w
