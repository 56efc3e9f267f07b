-- What a frame is to a writing, in its context. Paper 01, "Commands obeyed" and "Grammar of a complete writing".
-- Assumes nothing.
use Rattle.std.specs.Prelude.{ℕ, Bool, true, false, ◌&&◌, List, if◌then◌else◌}
use Rattle.records.specs.Map.{mapped}
use Rattle.records.specs.declared.record.Record.{Record}
use Rattle.hearing.specs.Meaning.{closes}
use Rattle.hearing.specs.declared.heard.Who.{Who}
use Rattle.hearing.specs.declared.meaning.Once.{Once}
use Rattle.hearing.specs.declared.meaning.Once.TheVariants.{QueryMissingShortAddress, QueryContentDtr, SetDtr, SetDtrs}
use Rattle.hearing.specs.declared.meaning.Once.TheVariants.{QueryDeviceGroups}
use Rattle.hearing.specs.declared.meaning.Once.TheVariants.{ReadMemoryLocation, WriteMemoryLocation, DirectWriteMemory}
use Rattle.hearing.specs.declared.meaning.Twice.{Twice}
use Rattle.hearing.specs.declared.meaning.Twice.TheVariants.{ResetMemoryBank, SetShortAddress, EnableWriteMemory}
use Rattle.hearing.specs.declared.meaning.Twice.TheVariants.{AddToDeviceGroups, RemoveFromDeviceGroups}
use Rattle.hearing.specs.declared.meaning.Meaning.{Meaning}
use Rattle.hearing.specs.declared.meaning.Meaning.TheVariants.{Foreign, NotObeyed, AtOnce, NeedsPair}
use Rattle.rooms.specs.declared.state.Registers.{Registers}

-- the context of a frame, in rooms: address and groups, DTRs, write-enable
pub record Context : Type 0 where
  pub who : Who
  pub registers : Registers
  pub enabled : Bool

pub data Deed : Type 0 where
  opens : Deed  -- it ends an ENABLE pair for the unit
  resets : ℕ → Deed  -- it ends a RESET MEMORY BANK pair for the unit, with this DTR0
  puts : ℕ → ℕ → ℕ → Deed  -- an executed write: bank, location, byte
  spares : Deed  -- any other that keeps write-enable or is no command for this unit
  breaks : Deed  -- any other command for this unit, obeyed or not, a lone first half too
  powers : Deed  -- no frame: a power-on

-- a write executes only if enabled and bank DTR1 is mapped
unfoldable pub executes : List Record → Context → Bool
executes rs k = k.enabled && mapped rs k.registers.dtr1

-- an executed write, or the other deed
unfoldable pub write_deed : List Record → Context → ℕ → ℕ → Deed → Deed
write_deed rs k location byte other = if executes rs k then puts k.registers.dtr1 location byte else other

-- DIRECT WRITE's location is its offset, that of the others is DTR0
unfoldable pub once_deed : List Record → Context → Deed → Once → Deed
once_deed rs k other QueryMissingShortAddress = other
once_deed rs k other (QueryContentDtr n) = other
once_deed rs k other ReadMemoryLocation = other
once_deed rs k other (QueryDeviceGroups n) = other
once_deed rs k other (WriteMemoryLocation byte replies) = write_deed rs k k.registers.dtr0 byte other
once_deed rs k other (DirectWriteMemory offset byte) = write_deed rs k offset byte other
once_deed rs k other (SetDtr n byte) = other
once_deed rs k other (SetDtrs n high low) = other

unfoldable pub pair_deed : Context → Deed → Twice → Deed
pair_deed k other ResetMemoryBank = resets k.registers.dtr0
pair_deed k other SetShortAddress = other
pair_deed k other EnableWriteMemory = opens
pair_deed k other (AddToDeviceGroups half) = other
pair_deed k other (RemoveFromDeviceGroups half) = other

unfoldable pub deed_by : List Record → Context → Bool → Deed → Meaning → Deed
deed_by rs k pair other Foreign = other
deed_by rs k pair other NotObeyed = other
deed_by rs k pair other (AtOnce once) = once_deed rs k other once
deed_by rs k pair other (NeedsPair twice) = if pair then pair_deed k other twice else other

-- the one place where the grammar says what keeps write-enable: a frame that is no ENABLE pair, no RESET pair and no
-- executed write breaks the writing exactly if it is a command for this unit that closes write-enable
unfoldable pub deed_of : List Record → Context → Bool → Meaning → Deed
deed_of rs k pair m = deed_by rs k pair (if closes m then breaks else spares) m

-- it keeps write-enable or is no command for this unit; which frames these are: specs/Through.antt
unfoldable pub keeping : Deed → Bool
keeping opens = false
keeping (resets dtr0) = false
keeping (puts bank location byte) = true
keeping spares = true
keeping breaks = false
keeping powers = false

abbrev pub opening : Deed → Bool
opening opens = true
opening (resets dtr0) = false
opening (puts bank location byte) = false
opening spares = false
opening breaks = false
opening powers = false

-- the ENABLE pair opens write-enable; it stays open as long as it is kept
unfoldable pub enabled_by : Bool → Deed → Bool
enabled_by enabled d = if opening d then true else if keeping d then enabled else false
