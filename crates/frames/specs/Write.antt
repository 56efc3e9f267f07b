-- The frame that a message is written as: paper 01, "Frames", and refusal 6.
-- Assumes nothing.
use Rattle.std.specs.Prelude.{ℕ, ◌+◌, ◌*◌, ◌^◌, Bool, true, ◌&&◌, ltb, if◌then◌else◌, Option, Result, Ok, Err}
use Rattle.refusals.specs.declared.refusal.Refusal.{Refusal}
use Rattle.refusals.specs.declared.refusal.Refusal.TheVariants.{OutOfRange}
use Rattle.frames.specs.Values.{target_number, field_present, field_value}
use Rattle.frames.specs.declared.message.Address.{Address}
use Rattle.frames.specs.declared.message.Message.{Message}
use Rattle.frames.specs.declared.message.Scheme.{Scheme}
use Rattle.frames.specs.declared.message.Target.{Target}

-- 0aaaaaa1 short address; 10ggggg1 device group; 0xFD broadcast unaddressed; 0xFF broadcast
abbrev pub address_byte : Address → ℕ
address_byte (Address.Short a) = a * 2 + 1
address_byte (Address.Group g) = 0x81 + g * 2
address_byte Address.Unaddressed = 0xFD
address_byte Address.Broadcast = 0xFF

abbrev pub address_fits : Address → Bool
address_fits (Address.Short a) = ltb a 64
address_fits (Address.Group g) = ltb g 32
address_fits Address.Unaddressed = true
address_fits Address.Broadcast = true

-- the table of kinds: the first byte of the range, and the number
abbrev pub target_byte : Target → ℕ
target_byte (Target.InstanceNumber n) = n
target_byte (Target.InstanceGroup n) = 0x80 + n
target_byte (Target.InstanceType n) = 0xC0 + n
target_byte (Target.FeatureAtNumber n) = 0x20 + n
target_byte (Target.FeatureAtGroup n) = 0xA0 + n
target_byte (Target.FeatureAtType n) = 0x60 + n
target_byte Target.FeatureBroadcast = 0xF9
target_byte Target.DeviceFeature = 0xFC
target_byte Target.FeatureAtInstanceBroadcast = 0xFD
target_byte Target.Device = 0xFE
target_byte Target.InstanceBroadcast = 0xFF

-- bits 23, 22 and 15 of an event's scheme
abbrev pub scheme_bits : Scheme → ℕ
scheme_bits Scheme.TypeNumber = 2 ^ 23 + 2 ^ 15
scheme_bits Scheme.ShortType = 0
scheme_bits Scheme.ShortNumber = 2 ^ 15
scheme_bits Scheme.GroupType = 2 ^ 23
scheme_bits Scheme.PrimaryType = 2 ^ 23 + 2 ^ 22

-- its first field: a short address has six bits, a group and a type five
abbrev pub scheme_limit : Scheme → ℕ
scheme_limit Scheme.TypeNumber = 32
scheme_limit Scheme.ShortType = 64
scheme_limit Scheme.ShortNumber = 64
scheme_limit Scheme.GroupType = 32
scheme_limit Scheme.PrimaryType = 32

unfoldable pub event_fits : Scheme → ℕ → ℕ → ℕ → Bool
event_fits s first second information = ltb first (scheme_limit s) && (ltb second 32 && ltb information 1024)

-- each field is in range; an opcode, and the free bytes of a special command, are bytes
abbrev pub message_fits : Message → Bool
message_fits (Message.Command a t o) = ltb o 256 && (address_fits a && ltb (target_number t) 32)
message_fits (Message.Special n x y) = (ltb x 256 && ltb y 256) && ltb n 16
message_fits (Message.Event s x y i) = event_fits s x y i
message_fits (Message.Power g s) = ltb (field_value g) 32 && ltb (field_value s) 64

-- a command's three bytes
unfoldable pub bytes_frame : ℕ → ℕ → ℕ → ℕ
bytes_frame a i o = a * 2 ^ 16 + i * 2 ^ 8 + o

-- an event's fields: from bit 17 on, bits 14..10, and the information in bits 9..0
unfoldable pub event_frame : ℕ → ℕ → ℕ → ℕ → ℕ
event_frame fixed first second information = fixed + first * 2 ^ 17 + second * 2 ^ 10 + information

-- bit 12 says that 11..7 hold the lowest device group, bit 6 that 5..0 hold the short address
unfoldable pub power_frame : Option ℕ → Option ℕ → ℕ
power_frame g s = 0xFEE000 + (field_present g * 2 ^ 12 + field_value g * 2 ^ 7) + (field_present s * 2 ^ 6 + field_value s)

-- 110ssss1 special
abbrev pub frame_of : Message → ℕ
frame_of (Message.Command a t o) = bytes_frame (address_byte a) (target_byte t) o
frame_of (Message.Special n x y) = bytes_frame (0xC1 + n * 2) x y
frame_of (Message.Event s x y i) = event_frame (scheme_bits s) x y i
frame_of (Message.Power g s) = power_frame g s

-- 6: a field out of range
unfoldable pub write_of : Message → Result ℕ Refusal
write_of m = if message_fits m then Ok (frame_of m) else Err OutOfRange
