-- What a frame says: paper 01, "Frames", and refusals 1 to 5.
-- Assumes nothing.
use Rattle.std.specs.Prelude.{ℕ, ◌%◌, Bool, ltb, eqb, if◌then◌else◌, Option, Some, None, Result, Ok, Err}
use Rattle.laws.specs.Bits.{bits, bit}
use Rattle.refusals.specs.declared.refusal.Refusal.{Refusal}
use Rattle.refusals.specs.declared.refusal.Refusal.TheVariants.{FrameTooLarge, ReservedAddress, ReservedInstance, ReservedEvent, BlankNotZero}
use Rattle.frames.specs.Kind.{kind_of}
use Rattle.frames.specs.Values.{target_at}
use Rattle.frames.specs.declared.message.Address.{Address}
use Rattle.frames.specs.declared.message.Addressed.{Addressed}
use Rattle.frames.specs.declared.message.Message.{Message}
use Rattle.frames.specs.declared.message.Scheme.{Scheme}
use Rattle.frames.specs.declared.message.Target.{Target}

-- the forms of an odd address byte: 0aaaaaa1 short address; 10ggggg1 device group; 110ssss1 special
abbrev pub short_form : ℕ → Bool
short_form b = eqb (bit b 7) 0

abbrev pub group_form : ℕ → Bool
group_form b = eqb (bits b 7 6) 2

abbrev pub special_form : ℕ → Bool
special_form b = eqb (bits b 7 5) 6

-- 0xFD broadcast unaddressed; 0xFF broadcast. 2: the other 14 odd bytes are reserved
unfoldable pub address_of : ℕ → Result Addressed Refusal
address_of b =
    if short_form b then Ok (Addressed.To (Address.Short (bits b 6 1)))
    else if group_form b then Ok (Addressed.To (Address.Group (bits b 5 1)))
    else if eqb b 0xFD then Ok (Addressed.To Address.Unaddressed)
    else if eqb b 0xFF then Ok (Addressed.To Address.Broadcast)
    else if special_form b then Ok (Addressed.Special (bits b 4 1))
    else Err ReservedAddress

-- an instance byte: its kind, and its number in the low five bits
unfoldable pub target_of : ℕ → Option Target
target_of b = target_at (kind_of b) (b % 32)

-- 3: a reserved instance byte
abbrev pub aimed : Address → Option Target → ℕ → Result Message Refusal
aimed a (Some t) o = Ok (Message.Command a t o)
aimed a None o = Err ReservedInstance

-- a special command has two free bytes
abbrev pub addressed : Result Addressed Refusal → ℕ → ℕ → Result Message Refusal
addressed (Ok (Addressed.To a)) i o = aimed a (target_of i) o
addressed (Ok (Addressed.Special s)) i o = Ok (Message.Special s i o)
addressed (Err e) i o = Err e

-- commands, by address byte (bits 23..16), with the instance byte and the opcode after it
unfoldable pub command_of : ℕ → Result Message Refusal
command_of f = addressed (address_of (bits f 23 16)) (bits f 15 8) (bits f 7 0)

-- events, by bits 23, 22 and 15.
-- Bit 23=0, bit 15=0: short address and type. Bit 23=0, bit 15=1: short address and instance number.
-- 10 and 0: device group and type. 10 and 1: type and instance number. 11 and 0: instance group and type
unfoldable pub scheme_of : ℕ → ℕ → ℕ → Option Scheme
scheme_of b23 b22 b15 =
    if eqb b23 0 then (if eqb b15 0 then Some Scheme.ShortType else Some Scheme.ShortNumber)
    else if eqb b22 0 then (if eqb b15 0 then Some Scheme.GroupType else Some Scheme.TypeNumber)
    else if eqb b15 0 then Some Scheme.PrimaryType
    else None

-- a short address stands in bits 22..17; a device group, a type, an instance group in bits 21..17
abbrev pub first_field : Scheme → ℕ → ℕ
first_field Scheme.TypeNumber f = bits f 21 17
first_field Scheme.ShortType f = bits f 22 17
first_field Scheme.ShortNumber f = bits f 22 17
first_field Scheme.GroupType f = bits f 21 17
first_field Scheme.PrimaryType f = bits f 21 17

-- a field whose bit is clear is zero. 5: a power event with a non-zero blank field
unfoldable pub field_of : ℕ → ℕ → Result (Option ℕ) Refusal
field_of announced v =
    if eqb announced 1 then Ok (Some v)
    else if eqb v 0 then Ok None
    else Err BlankNotZero

-- the lowest device group and the short address
abbrev pub powered : Result (Option ℕ) Refusal → Result (Option ℕ) Refusal → Result Message Refusal
powered (Err e) s = Err e
powered (Ok g) (Err e) = Err e
powered (Ok g) (Ok s) = Ok (Message.Power g s)

-- bit 12 says that 11..7 hold the lowest device group, bit 6 that 5..0 hold the short address
unfoldable pub power_of : ℕ → Result Message Refusal
power_of f = powered (field_of (bit f 12) (bits f 11 7)) (field_of (bit f 6) (bits f 5 0))

-- 11 and 1 is reserved, except bits 23..17 all ones with bits 15, 14, 13 ones: power cycle. 4: a reserved event
unfoldable pub other_of : ℕ → Result Message Refusal
other_of f =
    if eqb (bits f 23 17) 0x7F then (if eqb (bits f 15 13) 7 then power_of f else Err ReservedEvent)
    else Err ReservedEvent

-- the second field stands in bits 14..10; bits 9..0 are the event information
abbrev pub schemed : Option Scheme → ℕ → Result Message Refusal
schemed (Some s) f = Ok (Message.Event s (first_field s f) (bits f 14 10) (bits f 9 0))
schemed None f = other_of f

unfoldable pub event_of : ℕ → Result Message Refusal
event_of f = schemed (scheme_of (bit f 23) (bit f 22) (bit f 15)) f

-- a frame is a number below 16,777,216 (1: it is not). Bit 16 set means command, clear means event
unfoldable pub read_of : ℕ → Result Message Refusal
read_of f =
    if ltb f 16777216 then (if eqb (bit f 16) 1 then command_of f else event_of f)
    else Err FrameTooLarge
