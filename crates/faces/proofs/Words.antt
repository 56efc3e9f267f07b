-- Each part of an answer stands in its bits.
-- Assumes nothing.
use Prim.Native.Nat.{ℕ, ◌+◌, ◌*◌, ◌^◌, ◌<◌}
use mathlib.Core.Path.{◌≡◌, refl}
use mathlib.Core.Bool.{Bool, true, false}
use native.Mathlib.Omega.{arith}
use Rattle.std.specs.Prelude.{Result, Ok, Err}
use Rattle.laws.specs.Bits.{bits}
use Rattle.laws.proofs.Bits.{bits_is}
use Rattle.refusals.specs.Numbers.{number_of, number_in}
use Rattle.refusals.specs.declared.refusal.Refusal.{Refusal}
use Rattle.refusals.proofs.Told.{numbers_in_range}
use Rattle.frames.proofs.Round.{low_byte}
use Rattle.looks.specs.declared.looked.Place.{Place}
use Rattle.rooms.specs.Reply.{Reply, answered, answer_byte}
use Rattle.packing.specs.StateBytes.{flag}
use Rattle.faces.specs.Answers.{reply_word, look_word}
use Rattle.faces.specs.Promises.{RepliesBack, LooksBack, WritingsBack, ThreePartsBack, TwoPartsBack}

-- x | y << 8 | z << 16
module _ (w x y z : ℕ) (e : w ≡ x + y * 2 ^ 8 + z * 2 ^ 16) (p : x < 2 ^ 8) where
  low : bits w 7 0 ≡ x
  low = bits_is w 7 0 (y + z * 2 ^ 8) x 0 (omega arith) p (omega arith)

  middle : y < 2 ^ 8 → bits w 15 8 ≡ y
  middle q = bits_is w 15 8 z y x (omega arith) q p

  high : y < 2 ^ 8 → z < 2 ^ 16 → bits w 31 16 ≡ z
  high q r = bits_is w 31 16 0 z (x + y * 2 ^ 8) (omega arith) r (omega arith)

small_flag : (b : Bool) → flag b < 2 ^ 8
small_flag true = omega arith
small_flag false = omega arith

-- the number of a refusal is a byte, and so is the 0 of what is none
pub small_number : {T : Type 0} (r : Result T Refusal) → number_in r < 2 ^ 8
small_number (Ok x) = omega arith
small_number (Err refusal) = omega (arith, (numbers_in_range refusal).1)

-- the number, whatever stands above it
pub reply_low : (r : Reply) → bits (reply_word r) 7 0 ≡ number_in r
unfolding reply_word
reply_low r = low (reply_word r) (number_in r) (flag (answered r)) (answer_byte r) refl (small_number r)

pub look_low : (l : Result Place Refusal) → bits (look_word l) 7 0 ≡ number_in l
unfolding look_word
look_low (Ok place) = low _ 0 place.width place.offset (omega arith) (omega arith)
look_low (Err refusal) = low _ (number_of refusal) 0 0 (omega arith) (small_number {T = Place} (Err refusal))

pub replies_back : RepliesBack
unfolding reply_word
replies_back r q =
    let p = small_number r in
    let f = small_flag (answered r) in
    record {
      number = reply_low r;
      answered = middle (reply_word r) (number_in r) (flag (answered r)) (answer_byte r) refl p f;
      answer = high (reply_word r) (number_in r) (flag (answered r)) (answer_byte r) refl p f (omega arith);
    }

pub looks_back : LooksBack
unfolding look_word
looks_back (Ok place) h = (
  look_low (Ok place),
  middle _ 0 place.width place.offset (omega arith) (omega arith) h.0,
  high _ 0 place.width place.offset (omega arith) (omega arith) h.0 h.1,
)
looks_back (Err refusal) h =
    let p = small_number {T = Place} (Err refusal) in (
      look_low (Err refusal),
      middle _ (number_of refusal) 0 0 (omega arith) p (omega arith),
      high _ (number_of refusal) 0 0 (omega arith) p (omega arith) (omega arith),
    )

pub writings_back : WritingsBack
writings_back (Ok f) h = (low_byte (Ok f), bits_is _ 31 8 0 f 0 (omega arith) h (omega arith))
writings_back (Err refusal) h =
    (low_byte (Err refusal), bits_is _ 31 8 0 0 (number_of refusal) (omega arith) (omega arith) h)

pub three_parts_back : ThreePartsBack
three_parts_back x y z p q r =
    let w = x + y * 2 ^ 8 + z * 2 ^ 16 in
    record { first = low w x y z refl p; second = middle w x y z refl p q; third = high w x y z refl p q r }

pub two_parts_back : TwoPartsBack
two_parts_back x y p = (
  bits_is _ 7 0 y x 0 (omega arith) p (omega arith),
  λ q. bits_is _ 31 8 0 y x (omega arith) q p,
)
