-- A reading as one number of eight bytes, and back.
-- Assumes nothing.
use Rattle.std.specs.Prelude.{ℕ, ◌+◌, ◌-◌, ◌*◌, ◌^◌, eqb, if◌then◌else◌, Result, Ok, Err}
use Rattle.laws.specs.Bits.{bits}
use Rattle.refusals.specs.declared.refusal.Refusal.{Refusal}
use Rattle.refusals.specs.declared.refusal.Refusal.TheVariants.{OutOfRange}
use Rattle.frames.specs.Values.{target_number, target_at, scheme_at, field_present, field_value}
use Rattle.frames.specs.Read.{aimed}
use Rattle.frames.specs.declared.message.Message.{Message}
use Rattle.words.specs.Values.{address_kind, address_number, address_at, target_kind, scheme_number, field_at}

-- six bytes, from high to low
unfoldable pub six_bytes : ℕ → ℕ → ℕ → ℕ → ℕ → ℕ → ℕ
six_bytes a b c d e f = a * 2 ^ 40 + b * 2 ^ 32 + c * 2 ^ 24 + d * 2 ^ 16 + e * 2 ^ 8 + f

-- the kind of a message: 0 command, 1 special, 2 to 6 the event of scheme 0 to 4, 7 power cycle
abbrev pub message_kind : Message → ℕ
message_kind (Message.Command a t o) = 0
message_kind (Message.Special n x y) = 1
message_kind (Message.Event s x y i) = 2 + scheme_number s
message_kind (Message.Power g s) = 7

-- its values; what is not used is 0.
-- A command: address kind, address number, target kind, target number, opcode. A special command: its number, its two
-- free bytes. An event: its two fields, the information, high byte first. A power cycle: group present 0/1, group,
-- short address present 0/1, short address
abbrev pub message_values : Message → ℕ
message_values (Message.Command a t o) = six_bytes (address_kind a) (address_number a) (target_kind t) (target_number t) o 0
message_values (Message.Special n x y) = six_bytes n x y 0 0 0
message_values (Message.Event s x y i) = six_bytes x y (bits i 15 8) (bits i 7 0) 0 0
message_values (Message.Power g s) = six_bytes (field_present g) (field_value g) (field_present s) (field_value s) 0 0

-- a message: the first byte is 0, the second the kind; the values follow, and the low byte is 0. A refusal: its number,
-- in the low byte
abbrev pub word_of : Result Message ℕ → ℕ
word_of (Ok m) = message_kind m * 2 ^ 48 + message_values m
word_of (Err n) = n

-- the number of a reading: 0 for a message
abbrev pub reading_number : Result Message ℕ → ℕ
reading_number (Ok m) = 0
reading_number (Err n) = n

-- what a kind and five values would be
unfoldable pub message_at : ℕ → ℕ → ℕ → ℕ → ℕ → ℕ → Result Message Refusal
message_at kind a b c d e =
    if eqb kind 0 then aimed (address_at a b) (target_at c d) e
    else if eqb kind 1 then Ok (Message.Special a b c)
    else if eqb kind 7 then Ok (Message.Power (field_at a b) (field_at c d))
    else Ok (Message.Event (scheme_at (kind - 2)) a b (c * 256 + d))

-- it is, if the word is its word. 6: no message has the word
abbrev pub matched : Result Message Refusal → ℕ → Result Message Refusal
matched (Ok m) w = if eqb (word_of (Ok m)) w then Ok m else Err OutOfRange
matched (Err e) w = Err OutOfRange

unfoldable pub message_of : ℕ → Result Message Refusal
message_of w =
    matched (message_at (bits w 55 48) (bits w 47 40) (bits w 39 32) (bits w 31 24) (bits w 23 16) (bits w 15 8)) w
