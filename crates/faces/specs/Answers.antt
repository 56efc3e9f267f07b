-- An answer as one number, and what the calls answer that take no state.
-- Assumes nothing.
use Rattle.std.specs.Prelude.{ℕ, ◌+◌, ◌*◌, ◌^◌, ◌≤◌, List, Result, Ok, Err, length}
use Rattle.refusals.specs.Numbers.{number_of, number_in}
use Rattle.refusals.specs.declared.refusal.Refusal.{Refusal}
use Rattle.frames.specs.Values.{writing_word}
use Rattle.frames.specs.Read.{read_of}
use Rattle.frames.specs.Write.{write_of}
use Rattle.frames.specs.declared.message.Message.{Message}
use Rattle.words.specs.Word.{word_of, message_of}
use Rattle.composing.specs.Compose.{compose_of, compose_power_of}
use Rattle.composing.specs.declared.source.Source.{Source}
use Rattle.banks.specs.Rules.{check_number}
use Rattle.looks.specs.Look.{look_of}
use Rattle.looks.specs.declared.looked.Place.{Place}
use Rattle.census.specs.Class.{numbered}
use Rattle.rooms.specs.Reply.{Reply, answered, answer_byte}
use Rattle.packing.specs.StateBytes.{flag}

-- number | answered << 8 | answer << 16
unfoldable pub reply_word : Reply → ℕ
reply_word r = number_in r + flag (answered r) * 2 ^ 8 + answer_byte r * 2 ^ 16

-- number | width << 8 | offset << 16
unfoldable pub look_word : Result Place Refusal → ℕ
look_word (Ok place) = place.width * 2 ^ 8 + place.offset * 2 ^ 16
look_word (Err refusal) = number_of refusal

-- number | frame << 8 is `writing_word` of frames. 6: out of range
abbrev pub out_of_range : Result ℕ Refusal
out_of_range = Err Refusal.OutOfRange

-- what is written of a word: 6 if no message has it, or if its message has a field out of range
abbrev pub written_of : Result Message Refusal → Result ℕ Refusal
written_of (Ok m) = write_of m
written_of (Err refusal) = out_of_range

-- type, number, primary group, short address, 32 group bits, information, scheme
abbrev pub source : ℕ → ℕ → ℕ → ℕ → ℕ → ℕ → ℕ → Source
source sort number primary short groups information scheme =
    record {
      sort = sort;
      number = number;
      primary = primary;
      short = short;
      groups = groups;
      information = information;
      scheme = scheme;
    }

-- no field is too large for its type; one that is, is out of its range too
pub record FieldsHeld (sort number primary short information scheme : ℕ) : Type 0 where
  pub low_sort : sort ≤ 255
  pub low_number : number ≤ 255
  pub low_primary : primary ≤ 255
  pub low_short : short ≤ 255
  pub low_information : information ≤ 65535
  pub low_scheme : scheme ≤ 255

-- ---- the calls

-- mf_check: 7 to 11, or 0
abbrev pub check_answer : List ℕ → List ℕ → List ℕ → ℕ
check_answer map store image = check_number map store (length image)

-- mf_look. Bank and location are any numbers: 14, if no value begins there
abbrev pub look_answer : List ℕ → List ℕ → ℕ → ℕ → ℕ
look_answer map store bank location = look_word (look_of map store bank location)

-- mf_read
abbrev pub read_answer : ℕ → ℕ
read_answer frame = word_of (numbered (read_of frame))

-- mf_write
abbrev pub write_answer : ℕ → ℕ
write_answer word = writing_word (written_of (message_of word))

-- mf_compose_event
abbrev pub event_answer : ℕ → ℕ → ℕ → ℕ → ℕ → ℕ → ℕ → ℕ
event_answer sort number primary short groups information scheme =
    writing_word (compose_of (source sort number primary short groups information scheme))

-- mf_compose_power
abbrev pub power_answer : ℕ → ℕ → ℕ
power_answer short groups = writing_word (compose_power_of short groups)
