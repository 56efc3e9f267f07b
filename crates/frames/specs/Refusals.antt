-- When each number is given: paper 01, "Refusal numbers".
-- Proved in proofs/: Refusals and Exactly.
-- Assumes nothing.
use Rattle.std.specs.Prelude.{◌≡◌, ◌↔◌, Bool, true, not, ◌&&◌, ◌||◌, List, [], ◌∷◌, ℕ, ◌<◌, ltb, eqb, Result, Ok, Err}
use Rattle.laws.specs.Bits.{bits, bit}
use Rattle.laws.specs.Counts.{below, count}
use Rattle.laws.specs.Lists.{every}
use Rattle.laws.specs.Numbers.{Test, test, first_failing, Given}
use Rattle.refusals.specs.Numbers.{number_of, number_in}
use Rattle.refusals.specs.declared.refusal.Refusal.{Refusal}
use Rattle.frames.specs.Kind.{kind_of}
use Rattle.frames.specs.Read.{short_form, group_form, special_form, read_of}
use Rattle.frames.specs.Write.{message_fits, write_of}
use Rattle.frames.specs.declared.message.Message.{Message}

-- bit 16 set means command, clear means event
abbrev pub is_command : ℕ → Bool
is_command f = eqb (bit f 16) 1

-- 1: frame 16,777,216 or more
abbrev pub too_large : ℕ → Bool
too_large f = not (ltb f 16777216)

-- an odd address byte that is none of the five forms
unfoldable pub reserved_address : ℕ → Bool
reserved_address b =
    eqb (bit b 0) 1 && not (short_form b || (group_form b || (eqb b 0xFD || (eqb b 0xFF || special_form b))))

-- 2: reserved address byte
abbrev pub reserved_address_byte : ℕ → Bool
reserved_address_byte f = is_command f && reserved_address (bits f 23 16)

-- an instance byte that the table of kinds leaves out
unfoldable pub reserved_instance : ℕ → Bool
reserved_instance b = eqb (kind_of b) 0

-- 3: reserved instance byte; a special command has none
abbrev pub reserved_instance_byte : ℕ → Bool
reserved_instance_byte f = is_command f && (not (special_form (bits f 23 16)) && reserved_instance (bits f 15 8))

-- bits 23..17 all ones with bits 15, 14, 13 ones: power cycle
abbrev pub power_cycle : ℕ → Bool
power_cycle f = not (is_command f) && (eqb (bits f 23 17) 0x7F && eqb (bits f 15 13) 7)

-- 4: reserved event: bits 23, 22 and 15 are 11 and 1, and it is no power cycle
abbrev pub reserved_event : ℕ → Bool
reserved_event f = not (is_command f) && ((eqb (bits f 23 22) 3 && eqb (bit f 15) 1) && not (power_cycle f))

-- a field whose bit is clear is not zero
abbrev pub not_blank : ℕ → ℕ → Bool
not_blank announced v = eqb announced 0 && not (eqb v 0)

-- 5: power event with a non-zero blank field
abbrev pub blank_not_zero : ℕ → Bool
blank_not_zero f = power_cycle f && (not_blank (bit f 12) (bits f 11 7) || not_blank (bit f 6) (bits f 5 0))

-- the reader tests 1, 2, 3, 4, 5
abbrev pub reader_tests : ℕ → List Test
reader_tests f =
    test 1 (not (too_large f))
    ∷ test 2 (not (reserved_address_byte f))
    ∷ test 3 (not (reserved_instance_byte f))
    ∷ test 4 (not (reserved_event f))
    ∷ test 5 (not (blank_not_zero f))
    ∷ []

abbrev pub ReaderNumbers : Type 0
ReaderNumbers = (f : ℕ) → number_in (read_of f) ≡ first_failing (reader_tests f)

-- 6: field out of range
abbrev pub writer_tests : Message → List Test
writer_tests m = test 6 (message_fits m) ∷ []

abbrev pub WriterNumbers : Type 0
WriterNumbers = (m : Message) → number_in (write_of m) ≡ first_failing (writer_tests m)

-- so each number is given exactly if every test before its own passes and its own fails; a message is got, and a frame
-- written, exactly if all tests pass; and no refusal has the number 0
pub record AnswersExactly {T : Type 0} (r : Result T Refusal) (ts : List Test) : Type 0 where
  pub refused : (n : ℕ) → 0 < n → ((e : Refusal) × (number_of e ≡ n) × (r ≡ Err e)) ↔ Given ts n
  pub got : ((x : T) × (r ≡ Ok x)) ↔ (every (λ t. t.passes) ts ≡ true)
  pub not_0 : (e : Refusal) → r ≡ Err e → 0 < number_of e

pub record Exactly : Type 0 where
  pub read : (f : ℕ) → AnswersExactly (read_of f) (reader_tests f)
  pub write : (m : Message) → AnswersExactly (write_of m) (writer_tests m)

-- the other 14 odd bytes are reserved
abbrev pub Reserved14 : Type 0
Reserved14 = count reserved_address (below 256) ≡ 14

-- the other 59 are reserved
abbrev pub Reserved59 : Type 0
Reserved59 = count reserved_instance (below 256) ≡ 59
