-- The promises about the definitions. They are proved in proofs/: Round and Settled.
-- Assumes nothing.
use Rattle.std.specs.Prelude.{◌≡◌, true, ℕ, Result, Ok}
use Rattle.laws.specs.Bits.{bits}
use Rattle.laws.specs.Settled.{Settles}
use Rattle.refusals.specs.Numbers.{number_in}
use Rattle.refusals.specs.declared.refusal.Refusal.{Refusal}
use Rattle.frames.specs.Values.{writing_word, WritingFits}
use Rattle.frames.specs.Read.{read_of}
use Rattle.frames.specs.Write.{message_fits, write_of}
use Rattle.frames.specs.declared.message.Message.{Message}

-- every frame that reads writes back to itself
abbrev pub WritesBack : Type 0
WritesBack = (f : ℕ) (m : Message) → read_of f ≡ Ok m → write_of m ≡ Ok f

-- what is written reads back the same
abbrev pub ReadsBack : Type 0
ReadsBack = (m : Message) (f : ℕ) → write_of m ≡ Ok f → read_of f ≡ Ok m

-- no two messages that write give one frame, and no refusal's number is a frame
abbrev pub OneMessage : Type 0
OneMessage = (m n : Message) → message_fits m ≡ true → writing_word (write_of m) ≡ writing_word (write_of n) → m ≡ n

-- what is written is a frame of 24 bits, or a number of one byte
abbrev pub WritingsFit : Type 0
WritingsFit = (m : Message) → WritingFits (write_of m)

-- the low byte of a writing's word is its number
abbrev pub LowByte : Type 0
LowByte = (w : Result ℕ Refusal) → bits (writing_word w) 7 0 ≡ number_in w

-- what each public call promises of its result r
abbrev pub ReadPromise : ℕ → Result Message Refusal → Type 0
ReadPromise frame r = r ≡ read_of frame

abbrev pub WritePromise : Message → Result ℕ Refusal → Type 0
WritePromise message r = r ≡ write_of message

-- results that meet the same promise are equal, for each public call
pub record Settled : Type 0 where
  pub read : (f : ℕ) → Settles (ReadPromise f)
  pub write : (m : Message) → Settles (WritePromise m)
