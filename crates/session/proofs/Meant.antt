-- What the messages of a session mean to the unit whose address they have, by what the reader says of their frames.
-- Assumes nothing.
use Prim.Native.Nat.{ℕ, ◌≤◌, ◌<◌}
use mathlib.Core.Path.{◌≡◌, ap, subst, ◌∙◌}
use mathlib.Core.Bool.{true}
use borrow.Author.Tests.{lt-ltb, eq-eqb}
use native.Mathlib.Omega.{arith}
use Rattle.std.specs.Prelude.{Ok}
use Rattle.frames.specs.Read.{read_of}
use Rattle.frames.specs.Values.{WritingFits}
use Rattle.frames.specs.Write.{message_fits, write_of}
use Rattle.frames.specs.declared.message.Message.{Message}
use Rattle.frames.proofs.Round.{reads_back, writings_fit}
use Rattle.hearing.specs.Meaning.{device_command, first_special, special_command, message_meaning, reading_meaning, meaning_of}
use Rattle.hearing.specs.declared.heard.Who.{Who}
use Rattle.hearing.specs.declared.meaning.Once.TheVariants.{DirectWriteMemory, SetDtr}
use Rattle.hearing.specs.declared.meaning.Twice.TheVariants.{EnableWriteMemory}
use Rattle.hearing.specs.declared.meaning.Meaning.TheVariants.{AtOnce, NeedsPair}
use Rattle.session.specs.Session.{set_bank, enable_write, direct_write, framed}

-- a message in range is written, and its frame reads back the same
pub record Framed (m : Message) : Type 0 where
  pub reads : read_of (framed m) ≡ Ok m
  pub small : framed m < 16777216

pub framed_is : (m : Message) → message_fits m ≡ true → Framed m
unfolding framed write_of
framed_is m e =
    let written : write_of m ≡ Ok (framed m) = rw e in
    let fits = subst WritingFits written (writings_fit m) in
    record { reads = reads_back m (framed m) written; small = fits }

pub set_bank_framed : (bank : ℕ) → bank < 256 → Framed (set_bank bank)
set_bank_framed bank h = framed_is (set_bank bank) (rw (lt-ltb bank 256 h))

pub enable_framed : (address : ℕ) → address ≤ 63 → Framed (enable_write address)
enable_framed address h = framed_is (enable_write address) (rw (lt-ltb address 64 (omega arith)))

pub direct_framed : (offset byte : ℕ) → offset < 256 → byte < 256 → Framed (direct_write offset byte)
direct_framed offset byte h k = framed_is (direct_write offset byte) (rw (lt-ltb offset 256 h, lt-ltb byte 256 k))

-- what a frame means goes by what it reads as
means : (who : Who) (m : Message) → Framed m → meaning_of who (framed m) ≡ message_meaning who m
unfolding meaning_of
means who m f = ap (reading_meaning who) f.reads

module _ (who : Who) where
  pub set_bank_means : (bank : ℕ) → bank < 256 → meaning_of who (framed (set_bank bank)) ≡ AtOnce (SetDtr 1 bank)
  unfolding special_command first_special
  set_bank_means bank h = means who (set_bank bank) (set_bank_framed bank h)

  -- short address matches: the command is for the unit
  pub enable_means : (address : ℕ) → address ≤ 63 → who.address ≡ address
      → meaning_of who (framed (enable_write address)) ≡ NeedsPair EnableWriteMemory
  unfolding device_command
  enable_means address h e =
      means who (enable_write address) (enable_framed address h) ∙ rw (eq-eqb who.address address e)

  pub direct_means : (offset byte : ℕ) → offset < 256 → byte < 256
      → meaning_of who (framed (direct_write offset byte)) ≡ AtOnce (DirectWriteMemory offset byte)
  unfolding special_command
  direct_means offset byte h k = means who (direct_write offset byte) (direct_framed offset byte h k)
