-- A number over 255 is no byte: it is no address, and no value begins there.
-- Assumes nothing.
use Prim.Native.Nat.{ℕ, ◌<◌, ◌≤◌}
use mathlib.Core.Path.{◌≡◌, sym, ap, ◌∙◌}
use mathlib.Core.Bool.{false≢true}
use mathlib.Core.List.{List}
use native.Mathlib.Omega.{arith}
use lib.ListN.{length, replicate}
use borrow.Author.Tests.{ne_eqb, lt-leb}
use Rattle.std.specs.Prelude.{Ok, Err, IsErr}
use Rattle.refusals.specs.Numbers.{number_of, number_in}
use Rattle.refusals.specs.declared.refusal.Refusal.{Refusal}
use Rattle.refusals.proofs.Told.{numbers_tell, refusal_is}
use Rattle.records.proofs.Members.{member_fields}
use Rattle.banks.proofs.Standing.{stands}
use Rattle.looks.specs.Look.{look_number, look_of}
use Rattle.looks.proofs.Looks.{look_shows, look_checked}
use Rattle.rooms.specs.Reply.{Reply}
use Rattle.numbers.specs.Numbers.{start_number}
use Rattle.unit.proofs.Numbers.{calls_reply}
use Rattle.faces.specs.Answers.{reply_word, look_word, look_answer}
use Rattle.faces.specs.Face.{then_number, start_face, Faces}
use Rattle.faces.specs.Promises.{FacesNotCut}
use Rattle.faces.proofs.Faced.{then_some, then_is}
use Rattle.faces.proofs.Numbers.{faces_refused}

module _ (map store : List ℕ) (bank location : ℕ) (over : bank ≤ 255 → location ≤ 255 → ⊥) where
  -- banks go up to 199, and values end at 0xFF
  none_there : look_number map store bank location ≡ 0 → ⊥
  none_there e =
      let x = look_shows map store bank location e in
      let s = stands map store (length store) (look_checked map store bank location e) in
      let f = member_fields map s.in_order x.0 x.1.member in
      over (omega (arith, f, x.1.its_bank)) (omega (arith, f, x.1.begins))

  no_value : look_number map store bank location ≡ then_number map store (length store) 14
  unfolding look_number
  no_value = then_is map store (length store) 14 _ none_there

  pub look_over : {answer : ℕ} (refusal : Refusal) → answer ≡ look_word (Err refusal) →
      number_of refusal ≡ then_number map store (length store) 14 → answer ≡ look_answer map store bank location
  unfolding look_of
  look_over refusal g e =
      g
      ∙ ap (λ (r : Refusal). look_word (Err r)) (refusal_is refusal _ (e ∙ sym no_value))
      ∙ rw (ne_eqb (look_number map store bank location) 0 none_there)

-- a reply that is a refusal, by its number
refused_with : (r : Reply) → IsErr r → (refusal : Refusal) → number_of refusal ≡ number_in r → Err refusal ≡ r
refused_with (Ok answer) h refusal e = absurd (false≢true h)
refused_with (Err other) h refusal e = ap Err (numbers_tell refusal other e)

module _ (map store image : List ℕ) (address groups : ℕ) (over : 255 < address) where
  no_address : number_in (start_face map store image address groups).reply ≡ then_number map store (length image) 6
  unfolding start_face start_number then_number
  no_address =
      (calls_reply map store image).start _ ∙ rw (lt-leb address 63 (omega arith), ne_eqb address 255 (λ e. omega arith))

  pub start_over : {answer : ℕ} (refusal : Refusal) → answer ≡ reply_word (Err refusal) →
      number_of refusal ≡ then_number map store (length image) 6 →
      Faces answer (replicate 96 0) store (start_face map store image address groups)
  start_over refusal g e =
      let some = then_some map store (length image) 6 (omega arith) in
      let r = (faces_refused map store image).start address groups (omega (arith, some, no_address)) in
      record {
        answers = g ∙ ap reply_word (refused_with _ r.refuses refusal (e ∙ sym no_address));
        state_is = sym r.state_stays;
        leaves = sym r.store_stays;
      }

pub faces_not_cut : FacesNotCut
faces_not_cut map store =
    record {
      start = λ image address groups h. no_address map store image address groups h;
      bank = λ bank location h. no_value map store bank location (λ p q. omega arith);
      location = λ bank location h. no_value map store bank location (λ p q. omega arith);
    }
