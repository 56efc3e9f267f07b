-- The class of a frame, 0 to 14, in the order in which they are counted. Paper 02, Item 7: "how many commands by address kind,
-- events by scheme, power cycles, reserved and malformed frames".
-- Assumes nothing.
use Rattle.std.specs.Prelude.{ℕ, ◌==◌, if◌then◌else◌, Result, Ok, Err}
use Rattle.refusals.specs.Numbers.{number_of}
use Rattle.refusals.specs.declared.refusal.Refusal.{Refusal}
use Rattle.frames.specs.Read.{read_of}
use Rattle.frames.specs.declared.message.Address.{Address}
use Rattle.frames.specs.declared.message.Message.{Message}
use Rattle.frames.specs.declared.message.Scheme.{Scheme}

-- 0 short, 1 group, 2 unaddressed, 3 broadcast
abbrev pub address_class : Address → ℕ
address_class (Address.Short n) = 0
address_class (Address.Group n) = 1
address_class Address.Unaddressed = 2
address_class Address.Broadcast = 3

-- 7 to 11: the event of scheme 0 to 4
abbrev pub event_class : Scheme → ℕ
event_class Scheme.TypeNumber = 7
event_class Scheme.ShortType = 8
event_class Scheme.ShortNumber = 9
event_class Scheme.GroupType = 10
event_class Scheme.PrimaryType = 11

-- 4 special, 12 power
abbrev pub message_class : Message → ℕ
message_class (Message.Command a t o) = address_class a
message_class (Message.Special n x y) = 4
message_class (Message.Event s x y i) = event_class s
message_class (Message.Power g s) = 12

-- 5 reserved address, 6 reserved instance, 14 reserved event, 13 malformed power; 15: no frame
unfoldable pub refused_class : ℕ → ℕ
refused_class n =
    if n == 2 then 5
    else if n == 3 then 6
    else if n == 4 then 14
    else if n == 5 then 13
    else 15

-- a refusal by its number
abbrev pub class_of : Result Message ℕ → ℕ
class_of (Ok m) = message_class m
class_of (Err n) = refused_class n

abbrev pub numbered : Result Message Refusal → Result Message ℕ
numbered (Ok m) = Ok m
numbered (Err e) = Err (number_of e)

-- the class of a frame
unfoldable pub frame_class : ℕ → ℕ
frame_class f = class_of (numbered (read_of f))
