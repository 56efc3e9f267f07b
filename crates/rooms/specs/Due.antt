-- What a frame makes happen now: nothing, it waits, it opens, .. It changes nothing by itself.
-- Paper 01, "Commands obeyed".
-- Assumes nothing.
use Rattle.std.specs.Prelude.{ℕ, ◌+◌, ◌-◌, ◌*◌, ◌/◌, ◌%◌, ◌^◌, Bool, true, ◌&&◌, ◌||◌, List, ltb, eqb, if◌then◌else◌}
use Rattle.std.specs.Int.Bits.{bit_or, bit_and}
use Rattle.records.specs.Map.{mapped}
use Rattle.records.specs.declared.record.Record.{Record}
use Rattle.hearing.specs.Meaning.{meaning_of}
use Rattle.hearing.specs.Pairs.{completes}
use Rattle.hearing.specs.declared.heard.Who.{Who}
use Rattle.hearing.specs.declared.heard.Heard.{Heard}
use Rattle.hearing.specs.declared.meaning.Once.{Once}
use Rattle.hearing.specs.declared.meaning.Once.TheVariants.{QueryMissingShortAddress, QueryContentDtr}
use Rattle.hearing.specs.declared.meaning.Once.TheVariants.{QueryDeviceGroups}
use Rattle.hearing.specs.declared.meaning.Once.TheVariants.{ReadMemoryLocation, WriteMemoryLocation}
use Rattle.hearing.specs.declared.meaning.Once.TheVariants.{DirectWriteMemory, SetDtr, SetDtrs}
use Rattle.hearing.specs.declared.meaning.Twice.{Twice}
use Rattle.hearing.specs.declared.meaning.Twice.TheVariants.{ResetMemoryBank, SetShortAddress, EnableWriteMemory}
use Rattle.hearing.specs.declared.meaning.Twice.TheVariants.{AddToDeviceGroups, RemoveFromDeviceGroups}
use Rattle.hearing.specs.declared.meaning.Meaning.{Meaning}
use Rattle.hearing.specs.declared.meaning.Meaning.TheVariants.{Foreign, NotObeyed, AtOnce, NeedsPair}
use Rattle.rooms.specs.declared.state.Registers.{Registers}
use Rattle.rooms.specs.declared.state.State.{State}
use Rattle.rooms.specs.declared.due.Due.{Due}
use Rattle.rooms.specs.declared.due.Due.TheVariants.{Nothing, Waits, Opens, Resets, Becomes, Loads, Answers}
use Rattle.rooms.specs.declared.due.Due.TheVariants.{Writes, Reads}

-- DTR number k
unfoldable pub dtr_of : Registers → ℕ → ℕ
dtr_of d k = if eqb k 0 then d.dtr0 else if eqb k 1 then d.dtr1 else d.dtr2

unfoldable pub with_dtr : Registers → ℕ → ℕ → Registers
with_dtr d k byte =
    if eqb k 0 then record { dtr0 = byte; dtr1 = d.dtr1; dtr2 = d.dtr2 }
    else if eqb k 1 then record { dtr0 = d.dtr0; dtr1 = byte; dtr2 = d.dtr2 }
    else record { dtr0 = d.dtr0; dtr1 = d.dtr1; dtr2 = byte }

-- QUERY DEVICE GROUPS, low byte first
unfoldable pub group_byte : ℕ → ℕ → ℕ
group_byte groups k = groups / 256 ^ k % 256

-- group commands take DTR2 as high byte, DTR1 as low; 0: groups 0-15, 1: groups 16-31
unfoldable pub group_word : Registers → ℕ → ℕ
group_word d half = if eqb half 0 then d.dtr2 * 256 + d.dtr1 else (d.dtr2 * 256 + d.dtr1) * 2 ^ 16

abbrev pub in_groups : Who → ℕ → Who
in_groups who groups = record { address = who.address; groups = groups }

-- SET SHORT ADDRESS takes DTR0 if below 0x40 or 255, else does nothing
unfoldable pub short_due : Who → ℕ → Due
short_due who dtr0 =
    if ltb dtr0 0x40 || eqb dtr0 255 then Becomes (record { address = dtr0; groups = who.groups }) else Nothing

-- a write executes only if enabled and bank DTR1 is mapped
unfoldable pub write_due : List Record → Bool → Registers → ℕ → ℕ → Bool → Due
write_due rs enabled d location byte replies =
    if enabled && mapped rs d.dtr1 then Writes d.dtr1 location byte replies else Nothing

-- READ: unmapped bank, no answer, DTR0 stays
unfoldable pub read_due : List Record → Registers → Due
read_due rs d = if mapped rs d.dtr1 then Reads d.dtr1 d.dtr0 else Nothing

-- a command obeyed at once
unfoldable pub once_due : List Record → State → Once → Due
once_due rs s QueryMissingShortAddress = if eqb s.who.address 255 then Answers 0xFF else Nothing
once_due rs s (QueryContentDtr k) = Answers (dtr_of s.registers k)
once_due rs s ReadMemoryLocation = read_due rs s.registers
once_due rs s (QueryDeviceGroups k) = Answers (group_byte s.who.groups k)
once_due rs s (WriteMemoryLocation byte replies) =
    write_due rs s.door.enabled s.registers s.registers.dtr0 byte replies
once_due rs s (DirectWriteMemory offset byte) = write_due rs s.door.enabled s.registers offset byte true
once_due rs s (SetDtr k byte) = Loads (with_dtr s.registers k byte)
once_due rs s (SetDtrs k high low) = Loads (with_dtr (with_dtr s.registers (k + 1) high) k low)

-- a pair that executes
unfoldable pub pair_due : State → Twice → Due
pair_due s ResetMemoryBank = Resets s.registers.dtr0
pair_due s SetShortAddress = short_due s.who s.registers.dtr0
pair_due s EnableWriteMemory = Opens
pair_due s (AddToDeviceGroups half) =
    Becomes (in_groups s.who (bit_or s.who.groups (group_word s.registers half)))
pair_due s (RemoveFromDeviceGroups half) =
    Becomes (in_groups s.who (bit_and s.who.groups (0xFFFFFFFF - group_word s.registers half)))

-- a pair executes; a pair command that is no pair waits
unfoldable pub due_by : List Record → State → Heard → Meaning → Due
due_by rs s heard Foreign = Nothing
due_by rs s heard NotObeyed = Nothing
due_by rs s heard (AtOnce once) = once_due rs s once
due_by rs s heard (NeedsPair twice) = if completes s.waiting heard then pair_due s twice else Waits

unfoldable pub due_of : List Record → State → Heard → Due
due_of rs s heard = due_by rs s heard (meaning_of s.who heard.frame)
