-- Address, groups, DTRs and write-enable, worked out from start, map and list. Paper 01, "Commands obeyed" and
-- "Grammar of a complete writing".
-- Assumes nothing.
use Rattle.std.specs.Prelude.{ℕ, ◌+◌, ◌-◌, Bool, false, ◌||◌, List, [], ◌∷◌, ltb, eqb, if◌then◌else◌}
use Rattle.std.specs.Int.Bits.{bit_or, bit_and}
use Rattle.records.specs.Map.{mapped}
use Rattle.records.specs.declared.record.Record.{Record}
use Rattle.hearing.specs.Meaning.{meaning_of}
use Rattle.hearing.specs.declared.heard.Who.{Who}
use Rattle.hearing.specs.declared.heard.Heard.{Heard}
use Rattle.hearing.specs.declared.meaning.Once.{Once}
use Rattle.hearing.specs.declared.meaning.Once.TheVariants.{QueryMissingShortAddress, QueryContentDtr, SetDtr, SetDtrs}
use Rattle.hearing.specs.declared.meaning.Once.TheVariants.{QueryDeviceGroups}
use Rattle.hearing.specs.declared.meaning.Once.TheVariants.{ReadMemoryLocation, WriteMemoryLocation, DirectWriteMemory}
use Rattle.hearing.specs.declared.meaning.Twice.{Twice}
use Rattle.hearing.specs.declared.meaning.Twice.TheVariants.{ResetMemoryBank, SetShortAddress, EnableWriteMemory}
use Rattle.hearing.specs.declared.meaning.Twice.TheVariants.{AddToDeviceGroups, RemoveFromDeviceGroups}
use Rattle.hearing.specs.declared.meaning.Meaning.{Meaning}
use Rattle.hearing.specs.declared.meaning.Meaning.TheVariants.{Foreign, NotObeyed, AtOnce, NeedsPair}
use Rattle.rooms.specs.Due.{with_dtr, group_word}
use Rattle.rooms.specs.State.{zero_registers}
use Rattle.rooms.specs.declared.state.Registers.{Registers}
use Rattle.unit.specs.Run.{Input, power_on, hears}
use Rattle.history.specs.Pairs.{ends_pair}
use Rattle.history.specs.Deeds.{Context, Deed, powers, executes, deed_of, enabled_by}

-- afterwards DTR0 rises by one unless 0xFF
unfoldable pub raised_from : Registers → ℕ → Registers
raised_from d location = with_dtr d 0 (if eqb location 0xFF then 0xFF else location + 1)

-- the DTRs after a command obeyed at once
unfoldable pub once_registers : List Record → Context → Once → Registers
once_registers rs k QueryMissingShortAddress = k.registers
once_registers rs k (QueryContentDtr n) = k.registers
once_registers rs k ReadMemoryLocation =
    if mapped rs k.registers.dtr1 then raised_from k.registers k.registers.dtr0 else k.registers
once_registers rs k (QueryDeviceGroups n) = k.registers
once_registers rs k (WriteMemoryLocation byte replies) =
    if executes rs k then raised_from k.registers k.registers.dtr0 else k.registers
once_registers rs k (DirectWriteMemory offset byte) =
    if executes rs k then raised_from k.registers offset else k.registers
once_registers rs k (SetDtr n byte) = with_dtr k.registers n byte
once_registers rs k (SetDtrs n high low) = with_dtr (with_dtr k.registers (n + 1) high) n low

unfoldable pub registers_of : List Record → Context → Meaning → Registers
registers_of rs k Foreign = k.registers
registers_of rs k NotObeyed = k.registers
registers_of rs k (AtOnce once) = once_registers rs k once
registers_of rs k (NeedsPair twice) = k.registers

-- address and groups after a pair: SET SHORT ADDRESS takes DTR0 if below 0x40 or 255
unfoldable pub pair_who : Context → Twice → Who
pair_who k ResetMemoryBank = k.who
pair_who k SetShortAddress =
    if ltb k.registers.dtr0 0x40 || eqb k.registers.dtr0 255
    then record { address = k.registers.dtr0; groups = k.who.groups } else k.who
pair_who k EnableWriteMemory = k.who
pair_who k (AddToDeviceGroups half) =
    record { address = k.who.address; groups = bit_or k.who.groups (group_word k.registers half) }
pair_who k (RemoveFromDeviceGroups half) =
    record { address = k.who.address; groups = bit_and k.who.groups (0xFFFFFFFF - group_word k.registers half) }

unfoldable pub who_after : Context → Bool → Meaning → Who
who_after k pair Foreign = k.who
who_after k pair NotObeyed = k.who
who_after k pair (AtOnce once) = k.who
who_after k pair (NeedsPair twice) = if pair then pair_who k twice else k.who

-- what the frame means to the unit with that address and those groups
unfoldable pub meant : Context → Heard → Meaning
meant k x = meaning_of k.who x.frame

-- what the frame, that ends a pair or not, is to a writing
unfoldable pub deed_in : List Record → Context → Bool → Heard → Deed
deed_in rs k pair x = deed_of rs k pair (meant k x)

-- the context after it
unfoldable pub heard_in : List Record → Context → Bool → Heard → Context
heard_in rs k pair x =
    record {
      who = who_after k pair (meant k x);
      registers = registers_of rs k (meant k x);
      enabled = enabled_by k.enabled (deed_in rs k pair x);
    }

-- a power-on keeps address and groups: DTRs 0, not enabled
unfoldable pub powered_in : Context → Context
powered_in k = record { who = k.who; registers = zero_registers; enabled = false }

-- start takes address and groups and acts as a power-on
unfoldable pub started_in : Who → Context
started_in who = powered_in (record { who = who; registers = zero_registers; enabled = false })

-- worked out from start, map and list
unfoldable pub context : List Record → Who → List Input → Context
context rs who [] = started_in who
context rs who (power_on ∷ h) = powered_in (context rs who h)
context rs who (hears x ∷ h) = heard_in rs (context rs who h) (ends_pair h x) x

-- what an input is, after the history h
unfoldable pub deed_after : List Record → Who → List Input → Input → Deed
deed_after rs who h power_on = powers
deed_after rs who h (hears x) = deed_in rs (context rs who h) (ends_pair h x) x
