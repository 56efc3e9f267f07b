-- Paper 01's number and values of each case: the bytes of a listed command. Paper 01, "Commands obeyed".
-- Assumes nothing.
use Rattle.std.specs.Prelude.{◌≡◌, ℕ, ◌+◌, ◌*◌, true, false, List, [], ◌∷◌}
use Rattle.laws.specs.Bits.{bits}
use Rattle.hearing.specs.declared.meaning.Once.{Once}
use Rattle.hearing.specs.declared.meaning.Once.TheVariants.{QueryMissingShortAddress, QueryContentDtr}
use Rattle.hearing.specs.declared.meaning.Once.TheVariants.{QueryDeviceGroups}
use Rattle.hearing.specs.declared.meaning.Once.TheVariants.{ReadMemoryLocation, WriteMemoryLocation}
use Rattle.hearing.specs.declared.meaning.Once.TheVariants.{DirectWriteMemory}
use Rattle.hearing.specs.declared.meaning.Once.TheVariants.{SetDtr, SetDtrs}
use Rattle.hearing.specs.declared.meaning.Twice.{Twice}
use Rattle.hearing.specs.declared.meaning.Twice.TheVariants.{ResetMemoryBank, SetShortAddress, EnableWriteMemory}
use Rattle.hearing.specs.declared.meaning.Twice.TheVariants.{AddToDeviceGroups, RemoveFromDeviceGroups}
use Rattle.hearing.specs.declared.meaning.Meaning.{Meaning}
use Rattle.hearing.specs.declared.meaning.Meaning.TheVariants.{Foreign, NotObeyed, AtOnce, NeedsPair}

-- with instance byte 0xFE an opcode, behind an address byte; special all three bytes
pub data Code : Type 0 where
  none : Code
  device : (opcode : ℕ) → Code
  special : (address first second : ℕ) → Code

-- ADD TO and REMOVE FROM DEVICE GROUPS: half 0 is groups 0-15, half 1 is 16-31
abbrev pub twice_code : Twice → Code
twice_code ResetMemoryBank = device 0x11
twice_code SetShortAddress = device 0x14
twice_code EnableWriteMemory = device 0x15
twice_code (AddToDeviceGroups half) = device (0x19 + half)
twice_code (RemoveFromDeviceGroups half) = device (0x1B + half)

-- QUERY CONTENT DTRk; QUERY DEVICE GROUPS, byte k (low byte first); WRITE MEMORY LOCATION, replying or without reply;
-- DIRECT WRITE MEMORY (offset, data); DTRk; DTR(k+1) then DTRk
abbrev pub once_code : Once → Code
once_code QueryMissingShortAddress = device 0x33
once_code (QueryContentDtr k) = device (0x36 + k)
once_code ReadMemoryLocation = device 0x3C
once_code (QueryDeviceGroups k) = device (0x41 + k)
once_code (WriteMemoryLocation byte true) = special 0xC1 0x20 byte
once_code (WriteMemoryLocation byte false) = special 0xC1 0x21 byte
once_code (DirectWriteMemory offset byte) = special 0xC5 offset byte
once_code (SetDtr k byte) = special 0xC1 (0x30 + k) byte
once_code (SetDtrs k high low) = special (0xC7 + 2 * k) high low

-- the listed commands, in paper 01's order; first and second are the free bytes of a special one
abbrev pub listed_with : (first second : ℕ) → List Meaning
listed_with first second =
    NeedsPair ResetMemoryBank
    ∷ NeedsPair SetShortAddress
    ∷ NeedsPair EnableWriteMemory
    ∷ NeedsPair (AddToDeviceGroups 0)
    ∷ NeedsPair (AddToDeviceGroups 1)
    ∷ NeedsPair (RemoveFromDeviceGroups 0)
    ∷ NeedsPair (RemoveFromDeviceGroups 1)
    ∷ AtOnce QueryMissingShortAddress
    ∷ AtOnce (QueryContentDtr 0)
    ∷ AtOnce (QueryContentDtr 1)
    ∷ AtOnce (QueryContentDtr 2)
    ∷ AtOnce ReadMemoryLocation
    ∷ AtOnce (QueryDeviceGroups 0)
    ∷ AtOnce (QueryDeviceGroups 1)
    ∷ AtOnce (QueryDeviceGroups 2)
    ∷ AtOnce (QueryDeviceGroups 3)
    ∷ AtOnce (WriteMemoryLocation second true)
    ∷ AtOnce (WriteMemoryLocation second false)
    ∷ AtOnce (SetDtr 0 second)
    ∷ AtOnce (SetDtr 1 second)
    ∷ AtOnce (SetDtr 2 second)
    ∷ AtOnce (DirectWriteMemory first second)
    ∷ AtOnce (SetDtrs 0 first second)
    ∷ AtOnce (SetDtrs 1 first second)
    ∷ []

-- the eleven that keep write-enable: QUERY CONTENT DTR0..2, the three writes, the five DTR commands
abbrev pub eleven_with : (first second : ℕ) → List Code
eleven_with first second =
    device 0x36
    ∷ device 0x37
    ∷ device 0x38
    ∷ special 0xC1 0x20 second
    ∷ special 0xC1 0x21 second
    ∷ special 0xC1 0x30 second
    ∷ special 0xC1 0x31 second
    ∷ special 0xC1 0x32 second
    ∷ special 0xC5 first second
    ∷ special 0xC7 first second
    ∷ special 0xC9 first second
    ∷ []

-- what is foreign, or not obeyed, is no listed command
abbrev pub code_of : Meaning → Code
code_of Foreign = none
code_of NotObeyed = none
code_of (AtOnce once) = once_code once
code_of (NeedsPair twice) = twice_code twice

-- the code stands in the frame: address byte, instance or first byte, opcode or second byte
abbrev pub StandsIn : Code → ℕ → Type 0
StandsIn none f = Unit
StandsIn (device opcode) f = (bits f 15 8 ≡ 0xFE) × (bits f 7 0 ≡ opcode)
StandsIn (special address first second) f = (bits f 23 16 ≡ address) × (bits f 15 8 ≡ first) × (bits f 7 0 ≡ second)
