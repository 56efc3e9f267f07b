-- The promises about the definitions. They are proved in proofs/: Worded and Settled.
-- Assumes nothing.
use Rattle.std.specs.Prelude.{◌≡◌, ℕ, ◌^◌, ◌<◌, Result, Ok, Err}
use Rattle.laws.specs.Bits.{bits}
use Rattle.laws.specs.Settled.{Settles}
use Rattle.refusals.specs.declared.refusal.Refusal.{Refusal}
use Rattle.refusals.specs.declared.refusal.Refusal.TheVariants.{OutOfRange}
use Rattle.frames.specs.Values.{target_number, field_value}
use Rattle.frames.specs.declared.message.Message.{Message}
use Rattle.words.specs.Values.{address_number}
use Rattle.words.specs.Word.{word_of, message_of, reading_number}

-- whatever the types can hold: a byte field is a byte, the information is below 2 ^ 16
abbrev pub Held : Message → Type 0
Held (Message.Command a t o) = (address_number a < 256) × (target_number t < 256) × (o < 256)
Held (Message.Special n x y) = (n < 256) × (x < 256) × (y < 256)
Held (Message.Event s x y i) = (x < 256) × (y < 256) × (i < 2 ^ 16)
Held (Message.Power g s) = (field_value g < 256) × (field_value s < 256)

-- a word made of a message gives the message back
abbrev pub WordGives : Type 0
WordGives = (m : Message) → Held m → message_of (word_of (Ok m)) ≡ Ok m

-- a word that gives a message is that message's word
abbrev pub GivesWord : Type 0
GivesWord = (w : ℕ) (m : Message) → message_of w ≡ Ok m → Held m × (word_of (Ok m) ≡ w)

-- so 6 is given exactly if no message has the word
abbrev pub NoMessage : ℕ → Type 0
NoMessage w = (m : Message) → Held m → word_of (Ok m) ≡ w → ⊥

abbrev pub WordRefused : Type 0
WordRefused = (w : ℕ) →
    (message_of w ≡ Err OutOfRange → NoMessage w) × (NoMessage w → message_of w ≡ Err OutOfRange)

-- the low byte of a reading's word is its number: 0 for a message
abbrev pub LowByte : Type 0
LowByte = (r : Result Message ℕ) → reading_number r < 2 ^ 8 → bits (word_of r) 7 0 ≡ reading_number r

-- what each public call promises of its result r
abbrev pub WordOfPromise : Result Message ℕ → ℕ → Type 0
WordOfPromise reading r = r ≡ word_of reading

abbrev pub MessageOfPromise : ℕ → Result Message Refusal → Type 0
MessageOfPromise word r = r ≡ message_of word

-- results that meet the same promise are equal, for each public call
pub record Settled : Type 0 where
  pub word_of_lem : (x : Result Message ℕ) → Settles (WordOfPromise x)
  pub message_of_lem : (w : ℕ) → Settles (MessageOfPromise w)
