-- What RESET MEMORY BANK leaves of the store, in numbers: half-sentence by half-sentence, without the tests by which
-- the definition chooses. Paper 01, "Commands obeyed". Proved in proofs/Resets.antt and proofs/ResetSettled.antt.
-- Assumes nothing.
use Rattle.std.specs.Prelude.{◌≡◌, ◌⊎◌, List, ℕ, ◌≤◌, ◌<◌, length, get_or}
use Rattle.laws.specs.Settled.{Settles}
use Rattle.records.specs.Map.{records_of, places_end}
use Rattle.records.specs.Facts.{Member}
use Rattle.records.specs.declared.record.Record.{Record}
use Rattle.banks.specs.Values.{value_of, lock_byte}
use Rattle.banks.specs.Facts.{Stands}
use Rattle.memory.specs.Filled.{filled_of}
use Rattle.memory.specs.declared.filled.Filling.TheVariants.{Reset}

-- a bank that is reset
pub record BankReset (map image after : List ℕ) (bank : ℕ) : Type 0 where
  -- its other writable values take the reset image: RAM-RW and NVM-RW, lockable or not
  pub ram : (r : Record) → Member r map → r.bank ≡ bank → (r.first ≡ 0x02 → ⊥) → r.kind ≡ 2
      → value_of r after ≡ value_of r image
  pub nvm : (r : Record) → Member r map → r.bank ≡ bank → (r.first ≡ 0x02 → ⊥) → r.kind ≡ 4
      → value_of r after ≡ value_of r image
  -- its lock byte 0xFF
  pub lock : lock_byte (records_of map) after bank ≡ 0xFF

-- a bank of which every value stays
abbrev pub BankStays : List ℕ → List ℕ → List ℕ → ℕ → Type 0
BankStays map store after bank = (r : Record) → Member r map → r.bank ≡ bank → value_of r after ≡ value_of r store

pub record StoreReset (map store image : List ℕ) (dtr0 : ℕ) (after : List ℕ) : Type 0 where
  -- DTR0=0 means each mapped bank 1..199 (no bank above is mapped, and one that is not mapped has no lock byte)
  pub each_bank : dtr0 ≡ 0 → (bank : ℕ) → 1 ≤ bank → lock_byte (records_of map) store bank ≡ 0x55
      → BankReset map image after bank
  -- else bank DTR0
  pub one_bank : 1 ≤ dtr0 → lock_byte (records_of map) store dtr0 ≡ 0x55 → BankReset map image after dtr0
  -- and no other
  pub others_stay : 1 ≤ dtr0 → (bank : ℕ) → (bank ≡ dtr0 → ⊥) → BankStays map store after bank
  pub bank_0_stays : BankStays map store after 0
  -- only a bank whose lock byte is 0x55
  pub locked_stays : (bank : ℕ) → (lock_byte (records_of map) store bank ≡ 0x55 → ⊥) → BankStays map store after bank
  -- only writable values
  pub read_only : (r : Record) → Member r map → (r.kind ≡ 2 → ⊥) → (r.kind ≡ 4 → ⊥)
      → value_of r after ≡ value_of r store
  -- every byte under no record stays, and the store is as long as it was
  pub unmapped : (j : ℕ) → ((r : Record) → Member r map → (j < r.offset) ⊎ (places_end r ≤ j))
      → get_or after j 0 ≡ get_or store j 0
  pub as_long : length after ≡ length store

abbrev pub FillResets : Type 0
FillResets =
    (map store image : List ℕ) → Stands map store (length image) → (dtr0 : ℕ)
    → StoreReset map store image dtr0 (filled_of (records_of map) store image (Reset dtr0))

-- and this is all that is to be said: two stores that it tells are the same
abbrev pub ResetSettled : Type 0
ResetSettled =
    (map store image : List ℕ) → Stands map store (length image) → (dtr0 : ℕ)
    → Settles (λ (after : List ℕ). StoreReset map store image dtr0 after)
