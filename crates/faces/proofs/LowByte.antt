-- The low byte of every answer is its number.
-- Assumes nothing.
use Prim.Native.Nat.{ℕ, zero, suc, ◌^◌, ◌<◌}
use mathlib.Core.Path.{◌≡◌, refl, ap, sym, subst, ◌∙◌}
use mathlib.Core.Bool.{true}
use mathlib.Core.List.{List, [], ◌∷◌}
use native.Mathlib.Omega.{arith}
use lib.Dec.{ltb}
use lib.ListN.{length}
use borrow.Author.Tests.{ltb-true}
use Rattle.std.specs.Prelude.{Result, Ok, Err}
use Rattle.laws.specs.Bits.{bits}
use Rattle.laws.specs.Lists.{every}
use Rattle.laws.specs.Numbers.{Test, first_failing}
use Rattle.laws.proofs.Bits.{bits_is}
use Rattle.laws.proofs.Tests.{both, if_by}
use Rattle.refusals.specs.Numbers.{number_in}
use Rattle.refusals.specs.declared.refusal.Refusal.{Refusal}
use Rattle.frames.specs.Read.{read_of}
use Rattle.frames.specs.declared.message.Message.{Message}
use Rattle.frames.proofs.Round.{low_byte as writing-low}
use Rattle.words.proofs.Worded.{low_byte as reading-low}
use Rattle.words.specs.Word.{word_of, message_of}
use Rattle.composing.specs.Compose.{compose_of, compose_power_of}
use Rattle.banks.specs.Rules.{check_number}
use Rattle.looks.proofs.Looks.{look_number_is}
use Rattle.finds.specs.Find.{find_tests, find_number, find_word}
use Rattle.finds.proofs.Finds.{find_shows, find_alone}
use Rattle.compare.specs.Compare.{compare_tests, compare_number, compare_of, compare_word}
use Rattle.compare.proofs.Numbered.{compare_shows, compare_alone}
use Rattle.census.specs.Class.{numbered}
use Rattle.census.specs.Census.{census_of, end_number}
use Rattle.session.specs.Session.{session_tests, session_number, session_of, session_word}
use Rattle.session.proofs.Numbered.{number_is}
use Rattle.session.proofs.Shown.{session_shows, session_alone}
use Rattle.faces.specs.Answers.{written_of, source}
use Rattle.faces.specs.Promises.{LowByte}
use Rattle.faces.proofs.Words.{small_number, reply_low, look_low}

-- the numbers of tests are bytes, and so is the one that is given
small : (n : ℕ) (ts : List Test) → n ≡ first_failing ts → every (λ t. ltb t.number (2 ^ 8)) ts ≡ true → n < 2 ^ 8
unfolding first_failing
small n [] e h = omega arith
small n (t ∷ ts) e h =
    let p = both (ltb t.number (2 ^ 8)) (every (λ t. ltb t.number (2 ^ 8)) ts) h in
    subst (λ (k : ℕ). k < 2 ^ 8) (sym e)
    (if_by (λ (k : ℕ). k < 2 ^ 8) t.passes (λ _. small _ ts refl p.1) (λ _. ltb-true t.number (2 ^ 8) p.0))

itself : (n : ℕ) → n < 2 ^ 8 → bits n 7 0 ≡ n
itself n h = bits_is n 7 0 0 n 0 (omega arith) h (omega arith)

-- what was read
read : (r : Result Message Refusal) → bits (word_of (numbered r)) 7 0 ≡ number_in r
read (Ok m) = reading-low (Ok m) (omega arith)
read (Err refusal) = reading-low (numbered (Err refusal)) (small_number {T = Message} (Err refusal))

-- of a find, with the number at hand
found_low : (map : List ℕ) (bank location n : ℕ) → find_number map bank location ≡ n
    → bits (find_word map bank location) 7 0 ≡ find_number map bank location
unfolding find_number
found_low map bank location zero e = (find_shows map bank location e).number ∙ sym e
found_low map bank location (suc n) e =
    ap (λ (k : ℕ). bits k 7 0) (find_alone map bank location (omega arith))
    ∙ itself _ (small _ (find_tests map bank location) refl refl)

-- and of a comparison
compared_low : (map old new : List ℕ) (room n : ℕ) → compare_number map old new room ≡ n
    → bits (compare_word (compare_of map old new room)) 7 0 ≡ compare_number map old new room
unfolding compare_number
compared_low map old new room zero e = (compare_shows map old new room e).number ∙ sym e
compared_low map old new room (suc n) e =
    ap (λ (k : ℕ). bits k 7 0) (compare_alone map old new room (omega arith))
    ∙ itself _ (small _ (compare_tests map old new room) refl refl)

-- and of a session
session_low : (map : List ℕ) (address bank location : ℕ) (bytes : List ℕ) (n : ℕ)
    → session_number map address bank location (length bytes) ≡ n
    → bits (session_word (session_of map address bank location bytes)) 7 0
    ≡ session_number map address bank location (length bytes)
unfolding session_number
session_low map address bank location bytes zero e =
    (session_shows map address bank location bytes e).number ∙ number_is map address bank location bytes
session_low map address bank location bytes (suc n) e =
    ap (λ (k : ℕ). bits k 7 0) (session_alone map address bank location bytes (omega arith))
    ∙ itself _ (small _ (session_tests map address bank location (length bytes)) refl refl)

-- and of a census: 0 or 13
census_low : (records : List ℕ) → bits (end_number (census_of records)) 7 0 ≡ end_number (census_of records)
census_low records = itself _ (small_number (census_of records).end)

pub low_byte : LowByte
unfolding check_number
low_byte =
    record {
      check = λ map store image. itself _ (small _ _ refl refl);
      look = λ map store bank location.
          look_low _ ∙ look_number_is map store bank location;
      find = λ map bank location. found_low map bank location _ refl;
      compare = λ map old new room. compared_low map old new room _ refl;
      session = λ map address bank location bytes. session_low map address bank location bytes _ refl;
      census = census_low;
      start = λ map store image address groups. reply_low _;
      frame = λ map store image bytes frame clock. reply_low _;
      power_on = λ map store image bytes. reply_low _;
      read = λ frame. read (read_of frame);
      write = λ word. writing-low (written_of (message_of word));
      compose_event = λ sort number primary short groups information scheme.
          writing-low (compose_of (source sort number primary short groups information scheme));
      compose_power = λ short groups. writing-low (compose_power_of short groups);
    }
