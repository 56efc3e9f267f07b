-- What the floors above lean on: what a write, a read and a fill leave of the store and of the rooms. The proofs stand
-- in proofs/.
-- Assumes nothing.
use Rattle.std.specs.Prelude.{◌≡◌, ◌⊎◌, Bool, true, false, ◌&&◌, None, List, [], ◌∷◌, ◌++◌, ℕ, ◌+◌, ◌-◌, ◌≤◌, ◌<◌, eqb, length, take, get_or, if◌then◌else◌, Ok, Err}
use Rattle.laws.specs.Outcome.{Outcome, leaves}
use Rattle.records.specs.Map.{records_of, writable, mapped, locations_end, places_end}
use Rattle.records.specs.Lookup.{holder}
use Rattle.records.specs.Facts.{Member}
use Rattle.records.specs.declared.record.Record.{Record}
use Rattle.records.specs.declared.holder.Why.{Why}
use Rattle.banks.specs.Rules.{placed, check_number}
use Rattle.banks.specs.Values.{value_of, put_value, lock_byte, padded}
use Rattle.banks.specs.Facts.{Stands}
use Rattle.memory.specs.Staged.{none_staged, unlocked, taken, staged_of, wrote, write_byte}
use Rattle.memory.specs.Latched.{none_latched, shown, read_byte}
use Rattle.memory.specs.Filled.{filling_number, filling_values, selects, chosen, fresh, filled_of}
use Rattle.memory.specs.Rules.{staged_holds, latch_holds}
use Rattle.memory.specs.declared.staged.Staged.{Staged}
use Rattle.memory.specs.declared.latched.Latch.{Latch}
use Rattle.memory.specs.declared.latched.Shown.{Shown}
use Rattle.memory.specs.declared.filled.Filling.{Filling}
use Rattle.memory.specs.declared.filled.Filling.TheVariants.{PowerOn, Reset}

-- What a change of the store leaves.

pub record ChangesOnly (map store after : List ℕ) (changed : Record → Type 0) : Type 0 where
  pub as_long : length after ≡ length store
  -- every value stays but those that are changed
  pub others : (r : Record) → Member r map → (changed r → ⊥) → value_of r after ≡ value_of r store
  -- a value that is not writable never changes
  pub read_only : (r : Record) → Member r map → writable r ≡ false → value_of r after ≡ value_of r store
  -- every byte under no record stays
  pub unmapped : (j : ℕ) → ((r : Record) → Member r map → (j < r.offset) ⊎ (places_end r ≤ j))
      → get_or after j 0 ≡ get_or store j 0
  -- 7 to 11 give the number that they gave
  pub checks : (size : ℕ) → check_number map after size ≡ check_number map store size

-- and so what stood stands
abbrev pub StandsStays : Type 1
StandsStays =
    (map store after : List ℕ) (size : ℕ) (changed : Record → Type 0) → ChangesOnly map store after changed
    → Stands map store size → Stands map after size

-- An executed write.

-- the byte at the bank and location is taken, for the value r
pub record Takes (rs : List Record) (store : List ℕ) (g : Staged) (bank location : ℕ) (r : Record) : Type 0 where
  pub found : holder rs bank location ≡ Ok r
  pub took : taken rs store g r location ≡ true

-- and it is the last byte of r
pub record TakesLast (rs : List Record) (store : List ℕ) (g : Staged) (bank location : ℕ) (r : Record) : Type 0 where
  pub takes : Takes rs store g bank location r
  pub last : location + 1 ≡ locations_end r

-- the bytes of r up to the location: those that are staged, and this one
abbrev pub bytes_to : Staged → Record → ℕ → ℕ → List ℕ
bytes_to g r location byte = take (location - r.first) g.bytes ++ byte ∷ []

-- nothing staged keeps the rule of staged bytes in every store
abbrev pub NoneStagedHolds : Type 0
NoneStagedHolds = (rs : List Record) (store : List ℕ) → staged_holds rs store none_staged ≡ true

-- staged bytes keep their rule, in the store that the write leaves
abbrev pub WriteKeepsRule : Type 0
WriteKeepsRule =
    (map store : List ℕ) → placed map (length store) ≡ true
    → (g : Staged) → staged_holds (records_of map) store g ≡ true → (bank location byte : ℕ)
    → staged_holds (records_of map) (write_byte (records_of map) store g bank location byte).store
    (write_byte (records_of map) store g bank location byte).answer.staged ≡ true

-- a byte that is taken is staged behind those before it; a last byte puts them all, and nothing stays staged
abbrev pub WriteTakes : Type 0
WriteTakes =
    (map store : List ℕ) → placed map (length store) ≡ true
    → (g : Staged) → staged_holds (records_of map) store g ≡ true
    → (bank location byte : ℕ) (r : Record) → Takes (records_of map) store g bank location r
    → write_byte (records_of map) store g bank location byte
    ≡ (if eqb (location + 1) (locations_end r)
    then leaves (wrote true none_staged) (put_value r (bytes_to g r location byte) store)
    else leaves (wrote true (staged_of r (location - r.first + 1) (padded (bytes_to g r location byte)))) store)

-- a byte that is not taken: nothing stays staged, and the store stays
abbrev pub WriteDrops : Type 0
WriteDrops =
    (rs : List Record) (store : List ℕ) (g : Staged) (bank location byte : ℕ)
    → ((r : Record) → Takes rs store g bank location r → ⊥)
    → write_byte rs store g bank location byte ≡ leaves (wrote false none_staged) store

-- unless it is a last byte that is taken, the store stays
abbrev pub WriteNotLast : Type 0
WriteNotLast =
    (rs : List Record) (store : List ℕ) (g : Staged) (bank location byte : ℕ)
    → ((r : Record) → TakesLast rs store g bank location r → ⊥) → (write_byte rs store g bank location byte).store ≡ store

-- after a last byte the value's bytes are the staged ones and the last one
abbrev pub WriteValue : Type 0
WriteValue =
    (map store : List ℕ) → placed map (length store) ≡ true
    → (g : Staged) → staged_holds (records_of map) store g ≡ true
    → (bank location byte : ℕ) (r : Record) → TakesLast (records_of map) store g bank location r
    → value_of r (write_byte (records_of map) store g bank location byte).store ≡ bytes_to g r location byte

-- a write changes the value whose last byte it is, and nothing else
abbrev pub WriteChangesOnly : Type 0
WriteChangesOnly =
    (map store : List ℕ) → placed map (length store) ≡ true
    → (g : Staged) → staged_holds (records_of map) store g ≡ true → (bank location byte : ℕ)
    → ChangesOnly map store (write_byte (records_of map) store g bank location byte).store
    (TakesLast (records_of map) store g bank location)

-- executed writes of the bytes, one after the other, from the location on: what is staged then, and the store
abbrev pub writes : List Record → List ℕ → Staged → ℕ → ℕ → List ℕ → Outcome Staged
writes rs store g bank location [] = leaves g store
writes rs store g bank location (b ∷ bs) =
    writes rs (write_byte rs store g bank location b).store (write_byte rs store g bank location b).answer.staged bank
    (location + 1) bs

-- n executed writes to the n locations of a writable, unlocked value of width n, first to last, put the whole value,
-- and nothing stays staged
abbrev pub WholeValue : Type 0
WholeValue =
    (map store : List ℕ) → placed map (length store) ≡ true
    → (r : Record) → Member r map → writable r ≡ true → unlocked (records_of map) store r ≡ true
    → (g : Staged) (bytes : List ℕ) → length bytes ≡ r.width
    → writes (records_of map) store g r.bank r.first bytes ≡ leaves none_staged (put_value r bytes store)

-- READ.

-- latched bytes keep their rule
abbrev pub ReadKeepsRule : Type 0
ReadKeepsRule =
    (map store : List ℕ) → placed map (length store) ≡ true
    → (l : Latch) → latch_holds (records_of map) l ≡ true → (bank location : ℕ)
    → latch_holds (records_of map) (read_byte (records_of map) store l bank location).latch ≡ true

-- the latch holds this value's bytes: its bank, and its first location in it
pub record LatchOf (l : Latch) (r : Record) : Type 0 where
  pub is_held : l.held ≡ true
  pub same_bank : l.bank ≡ r.bank
  pub same_first : l.first ≡ r.first

-- what a READ of the first byte of r leaves and answers, whatever was latched: reading a first or single byte ends any
-- latch
pub record ShowsFirst (store : List ℕ) (r : Record) (a : Shown) : Type 0 where
  -- a single byte leaves nothing latched
  pub single : r.width ≤ 1 → a.latch ≡ none_latched
  -- a first byte of width 2 or more latches that value's bytes
  pub latched : 2 ≤ r.width → LatchOf a.latch r
  pub its_bytes : 2 ≤ r.width → take (length (value_of r store)) a.latch.bytes ≡ value_of r store
  -- the stored byte is answered
  pub answers : a ≡ shown a.latch (get_or (value_of r store) 0 0)

abbrev pub ReadFirst : Type 0
ReadFirst =
    (rs : List Record) (store : List ℕ) (l : Latch) (bank location : ℕ) (r : Record) → holder rs bank location ≡ Ok r
    → location ≡ r.first → ShowsFirst store r (read_byte rs store l bank location)

-- a later byte of the latched value is answered from the latch, whatever the store holds by then, and the latch stays
abbrev pub ReadLatched : Type 0
ReadLatched =
    (rs : List Record) (store : List ℕ) (l : Latch) (bank location : ℕ) (r : Record) → holder rs bank location ≡ Ok r
    → r.first < location → LatchOf l r
    → read_byte rs store l bank location ≡ shown l (get_or l.bytes (location - r.first) 0)

-- a later byte of any other value, one at the same location of another bank too, is answered from the store, and the
-- latch stays
abbrev pub ReadOther : Type 0
ReadOther =
    (rs : List Record) (store : List ℕ) (l : Latch) (bank location : ℕ) (r : Record) → holder rs bank location ≡ Ok r
    → r.first < location → (LatchOf l r → ⊥)
    → read_byte rs store l bank location ≡ shown l (get_or (value_of r store) (location - r.first) 0)

-- no answer if the location is unmapped, and the latch stays
abbrev pub ReadNone : Type 0
ReadNone =
    (rs : List Record) (store : List ℕ) (l : Latch) (bank location : ℕ) (w : Why) → holder rs bank location ≡ Err w
    → read_byte rs store l bank location ≡ record { latch = l; answer = None }

abbrev pub NoneLatchedHolds : Type 0
NoneLatchedHolds = (rs : List Record) → latch_holds rs none_latched ≡ true

-- RESET MEMORY BANK and power-on.

-- number and values tell the fillings apart
abbrev pub FillingSettled : Type 0
FillingSettled = (f g : Filling) → filling_number f ≡ filling_number g → filling_values f ≡ filling_values g → f ≡ g

-- a value that is chosen takes its fresh bytes, another one stays
abbrev pub FillValue : Type 0
FillValue =
    (map store image : List ℕ) → placed map (length store) ≡ true → length image ≡ length store
    → (filling : Filling) (r : Record) → Member r map
    → value_of r (filled_of (records_of map) store image filling)
    ≡ (if chosen (records_of map) store filling r then fresh image r else value_of r store)

abbrev pub FillChangesOnly : Type 0
FillChangesOnly =
    (map store image : List ℕ) → placed map (length store) ≡ true → length image ≡ length store → (filling : Filling)
    → ChangesOnly map store (filled_of (records_of map) store image filling)
    (λ r. chosen (records_of map) store filling r ≡ true)

-- a power-on changes RAM-RW values only
abbrev pub PowerOnKeeps : Type 0
PowerOnKeeps =
    (map store image : List ℕ) → placed map (length store) ≡ true → length image ≡ length store
    → (r : Record) → Member r map → (r.kind ≡ 2 → ⊥)
    → value_of r (filled_of (records_of map) store image PowerOn) ≡ value_of r store

-- the banks whose lock byte is set: at a reset those that are selected and unlocked, at a power-on all
unfoldable pub locks_bank : List Record → List ℕ → Filling → ℕ → Bool
locks_bank rs store (Reset dtr0) bank = selects dtr0 bank && eqb (lock_byte rs store bank) 0x55
locks_bank rs store PowerOn bank = true

-- there the lock byte is 0xFF after the fill, elsewhere what it was
abbrev pub FillLocks : Type 0
FillLocks =
    (map store image : List ℕ) → Stands map store (length image) → (filling : Filling) (bank : ℕ)
    → 0 < bank → mapped (records_of map) bank ≡ true
    → lock_byte (records_of map) (filled_of (records_of map) store image filling) bank
    ≡ (if locks_bank (records_of map) store filling bank then 0xFF else lock_byte (records_of map) store bank)

-- staged bytes keep their rule through a fill that does not lock their bank
abbrev pub FillKeepsRule : Type 0
FillKeepsRule =
    (map store image : List ℕ) → Stands map store (length image) → (filling : Filling)
    → (g : Staged) → staged_holds (records_of map) store g ≡ true
    → (g.count ≡ 0) ⊎ (locks_bank (records_of map) store filling g.bank ≡ false)
    → staged_holds (records_of map) (filled_of (records_of map) store image filling) g ≡ true
