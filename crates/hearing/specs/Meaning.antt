-- Who a frame is for, and what it asks. Paper 01, "Commands obeyed".
-- Assumes nothing.
use Rattle.std.specs.Prelude.{ℕ, ◌/◌, ◌%◌, ◌^◌, Bool, true, false, not, List, [], ◌∷◌, ◌==◌, if◌then◌else◌, Result, Ok, Err}
use Rattle.refusals.specs.declared.refusal.Refusal.{Refusal}
use Rattle.frames.specs.Read.{read_of}
use Rattle.frames.specs.declared.message.Address.{Address}
use Rattle.frames.specs.declared.message.Target.{Target}
use Rattle.frames.specs.declared.message.Message.{Message}
use Rattle.hearing.specs.declared.heard.Who.{Who}
use Rattle.hearing.specs.declared.meaning.Once.{Once}
use Rattle.hearing.specs.declared.meaning.Once.TheVariants.{QueryMissingShortAddress, QueryContentDtr}
use Rattle.hearing.specs.declared.meaning.Once.TheVariants.{QueryDeviceGroups}
use Rattle.hearing.specs.declared.meaning.Once.TheVariants.{ReadMemoryLocation, WriteMemoryLocation}
use Rattle.hearing.specs.declared.meaning.Once.TheVariants.{DirectWriteMemory}
use Rattle.hearing.specs.declared.meaning.Once.TheVariants.{SetDtr, SetDtrs}
use Rattle.hearing.specs.declared.meaning.Twice.TheVariants.{ResetMemoryBank, SetShortAddress, EnableWriteMemory}
use Rattle.hearing.specs.declared.meaning.Twice.TheVariants.{AddToDeviceGroups, RemoveFromDeviceGroups}
use Rattle.hearing.specs.declared.meaning.Meaning.{Meaning}
use Rattle.hearing.specs.declared.meaning.Meaning.TheVariants.{Foreign, NotObeyed, AtOnce, NeedsPair}

-- a command is for the unit if its short address or group matches, if broadcast,
-- if broadcast unaddressed while its address is 255, or if special (below)
abbrev pub is_for : Who → Address → Bool
is_for who (Address.Short a) = who.address == a
is_for who (Address.Group g) = who.groups / 2 ^ g % 2 == 1
is_for who Address.Unaddressed = who.address == 255
is_for who Address.Broadcast = true

-- a row of a printed list: a number, and what it means
pub record Row : Type 0 where
  pub code : ℕ
  pub means : Meaning

abbrev pub row : ℕ → Meaning → Row
row n m = record { code = n; means = m }

-- what stands at a number; a number that is not listed is not obeyed
abbrev pub listed : List Row → ℕ → Meaning
listed [] n = NotObeyed
listed (r ∷ rs) n = if n == r.code then r.means else listed rs n

-- with instance byte 0xFE, by opcode: these seven need a pair, the others do not
abbrev pub device_rows : List Row
device_rows =
    row 0x11 (NeedsPair ResetMemoryBank)
    ∷ row 0x14 (NeedsPair SetShortAddress)
    ∷ row 0x15 (NeedsPair EnableWriteMemory)
    ∷ row 0x19 (NeedsPair (AddToDeviceGroups 0))
    ∷ row 0x1A (NeedsPair (AddToDeviceGroups 1))
    ∷ row 0x1B (NeedsPair (RemoveFromDeviceGroups 0))
    ∷ row 0x1C (NeedsPair (RemoveFromDeviceGroups 1))
    ∷ row 0x33 (AtOnce QueryMissingShortAddress)
    ∷ row 0x36 (AtOnce (QueryContentDtr 0))
    ∷ row 0x37 (AtOnce (QueryContentDtr 1))
    ∷ row 0x38 (AtOnce (QueryContentDtr 2))
    ∷ row 0x3C (AtOnce ReadMemoryLocation)
    ∷ row 0x41 (AtOnce (QueryDeviceGroups 0))
    ∷ row 0x42 (AtOnce (QueryDeviceGroups 1))
    ∷ row 0x43 (AtOnce (QueryDeviceGroups 2))
    ∷ row 0x44 (AtOnce (QueryDeviceGroups 3))
    ∷ []

unfoldable pub device_command : ℕ → Meaning
device_command opcode = listed device_rows opcode

-- 0xC1, by its first free byte: 0x20 WRITE MEMORY LOCATION, 0x21 the same without reply, 0x30, 0x31, 0x32 DTR0, 1, 2
abbrev pub first_rows : ℕ → List Row
first_rows second =
    row 0x20 (AtOnce (WriteMemoryLocation second true))
    ∷ row 0x21 (AtOnce (WriteMemoryLocation second false))
    ∷ row 0x30 (AtOnce (SetDtr 0 second))
    ∷ row 0x31 (AtOnce (SetDtr 1 second))
    ∷ row 0x32 (AtOnce (SetDtr 2 second))
    ∷ []

unfoldable pub first_special : ℕ → ℕ → Meaning
first_special first second = listed (first_rows second) first

-- 0xC5, 0xC7, 0xC9 are the special numbers 2, 3, 4: DIRECT WRITE MEMORY (offset, data); DTR1 then DTR0; DTR2 then DTR1
abbrev pub other_rows : ℕ → ℕ → List Row
other_rows first second =
    row 2 (AtOnce (DirectWriteMemory first second))
    ∷ row 3 (AtOnce (SetDtrs 0 first second))
    ∷ row 4 (AtOnce (SetDtrs 1 first second))
    ∷ []

-- 0xC1 is special number 0
unfoldable pub special_command : ℕ → ℕ → ℕ → Meaning
special_command number first second =
    if number == 0 then first_special first second
    else listed (other_rows first second) number

-- instance, feature and unlisted device commands are read, not obeyed
abbrev pub command_at : Target → ℕ → Meaning
command_at Target.Device opcode = device_command opcode
command_at (Target.InstanceNumber n) opcode = NotObeyed
command_at (Target.InstanceGroup n) opcode = NotObeyed
command_at (Target.InstanceType n) opcode = NotObeyed
command_at (Target.FeatureAtNumber n) opcode = NotObeyed
command_at (Target.FeatureAtGroup n) opcode = NotObeyed
command_at (Target.FeatureAtType n) opcode = NotObeyed
command_at Target.FeatureBroadcast opcode = NotObeyed
command_at Target.DeviceFeature opcode = NotObeyed
command_at Target.FeatureAtInstanceBroadcast opcode = NotObeyed
command_at Target.InstanceBroadcast opcode = NotObeyed

-- foreign: an event, or a command for others
abbrev pub message_meaning : Who → Message → Meaning
message_meaning who (Message.Command address target opcode) =
    if is_for who address then command_at target opcode
    else Foreign
message_meaning who (Message.Special number first second) = special_command number first second
message_meaning who (Message.Event scheme high low information) = Foreign
message_meaning who (Message.Power group short) = Foreign

-- or a reserved frame
abbrev pub reading_meaning : Who → Result Message Refusal → Meaning
reading_meaning who (Ok message) = message_meaning who message
reading_meaning who (Err refusal) = Foreign

-- who a frame is for, in four answers
unfoldable pub meaning_of : Who → ℕ → Meaning
meaning_of who frame = reading_meaning who (read_of frame)

-- write-enable keeps through the three writes, the five DTR commands and QUERY CONTENT DTR0..2
abbrev pub keeps : Once → Bool
keeps QueryMissingShortAddress = false
keeps (QueryContentDtr k) = true
keeps ReadMemoryLocation = false
keeps (QueryDeviceGroups k) = false
keeps (WriteMemoryLocation byte replies) = true
keeps (DirectWriteMemory offset byte) = true
keeps (SetDtr k byte) = true
keeps (SetDtrs k high low) = true

-- every other command for the unit closes it, obeyed or not, on its first hearing too: any device, instance or feature
-- command, and any special one. Reserved bytes still don't (paper 02, Item 6)
abbrev pub closes : Meaning → Bool
closes Foreign = false
closes NotObeyed = true
closes (AtOnce once) = not (keeps once)
closes (NeedsPair twice) = true
