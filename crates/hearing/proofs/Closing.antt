-- What keeps write-enable, and what closes it.
-- Assumes nothing.
use Rattle.std.proofs.Common.{◌≡◌, ℕ, Bool, true, false, not, ◌⊎◌, List, [], ◌∷◌, ◌++◌, map, refl, ap, ◌∙◌, inl, inr, ⊎_elim, Result, Ok, Err}
use mathlib.Core.List.{Memᴰ}
use Rattle.laws.specs.Bits.{bits}
use Rattle.laws.specs.Lists.{every}
use Rattle.laws.proofs.Items.{every_at}
use Rattle.laws.proofs.Tests.{if_by, clash, denied}
use Rattle.refusals.specs.declared.refusal.Refusal.{Refusal}
use Rattle.frames.specs.Read.{read_of}
use Rattle.frames.specs.declared.message.Message.{Message}
use Rattle.hearing.specs.Codes.{eleven_with, code_of}
use Rattle.hearing.specs.Meaning.{Row, is_for, device_rows, device_command, first_rows, first_special, other_rows}
use Rattle.hearing.specs.Meaning.{special_command, meaning_of, closes}
use Rattle.hearing.specs.Promises.{ToUnit, IsSpecial, keepers, ElevenKeep, CommandFor, OneOfEleven}
use Rattle.hearing.specs.Promises.{ClosesExactly}
use Rattle.hearing.specs.declared.heard.Who.{Who}
use Rattle.hearing.specs.declared.meaning.Meaning.{Meaning}
use Rattle.hearing.proofs.Exactly.{asked, asks_means, Known, ours_known, listed_exactly}

pub eleven_keep : ElevenKeep
eleven_keep first second = refl

-- what each of the eleven asks for closes nothing: the whole table is computed
asked_keep : (i o : ℕ) → every (λ c. not (closes (asked c))) (eleven_with i o) ≡ true
unfolding device_command special_command first_special
asked_keep i o = refl

-- what a row means closes, or its code is among those that keep
row_keeps : (rows : List Row) (m : Meaning) → Memᴰ m (map (λ r. r.means) rows)
    → (closes m ≡ true) ⊎ Memᴰ (code_of m) (keepers rows)
row_keeps [] m i = elim i [ ]
row_keeps (r ∷ rs) m (Memᴰ.head p) =
    if_by (λ cs. (closes m ≡ true) ⊎ Memᴰ (code_of m) cs) (closes r.means)
    (λ e. inl (ap closes p ∙ e)) (λ e. inr (Memᴰ.head (ap code_of p)))
row_keeps (r ∷ rs) m (Memᴰ.tail i) =
    if_by (λ cs. (closes m ≡ true) ⊎ Memᴰ (code_of m) cs) (closes r.means)
    (λ e. row_keeps rs m i) (λ e. ⊎_elim inl (λ k. inr (Memᴰ.tail k)) (row_keeps rs m i))

-- a frame is a command for the unit, or it is none
command_or_not : (who : Who) (r : Result Message Refusal)
    → (ToUnit who r ⊎ IsSpecial r) ⊎ (ToUnit who r ⊎ IsSpecial r → ⊥)
command_or_not who (Ok (Message.Command a t o)) = go (is_for who a)
  where
    go : (b : Bool) → ((b ≡ true) ⊎ ⊥) ⊎ ((b ≡ true) ⊎ ⊥ → ⊥)
    go true = inl (inl refl)
    go false = inr (λ u. ⊎_elim (λ e. clash false e refl) (λ v. v) u)
command_or_not who (Ok (Message.Special n i o)) = inl (inr tt)
command_or_not who (Ok (Message.Event c x y i)) = inr (λ u. ⊎_elim (λ v. v) (λ v. v) u)
command_or_not who (Ok (Message.Power g h)) = inr (λ u. ⊎_elim (λ v. v) (λ v. v) u)
command_or_not who (Err refusal) = inr (λ u. ⊎_elim (λ v. v) (λ v. v) u)

module _ (who : Who) (f : ℕ) where
  -- each of the eleven keeps
  eleven_keeps : OneOfEleven who f → closes (meaning_of who f) ≡ false
  eleven_keeps (c, k, a) =
      ap closes (asks_means who f c a)
      ∙ denied _ (every_at (λ c. not (closes (asked c))) (eleven_with _ _) (asked_keep _ _) c k)

  -- a frame that is no command for the unit keeps
  other_keeps : (CommandFor who f → ⊥) → closes (meaning_of who f) ≡ false
  other_keeps n = ap closes ((listed_exactly who f).foreign.1 n)

  -- any other closes
  known_closes : Known (bits f 15 8) (bits f 7 0) (meaning_of who f)
      → (closes (meaning_of who f) ≡ true) ⊎ OneOfEleven who f
  known_closes (inl e) = inl (ap closes e)
  known_closes (inr k) =
      ⊎_elim inl (λ c. inr (_, c, ((listed_exactly who f).listed _ k).0 refl))
      (row_keeps (device_rows ++ first_rows (bits f 7 0) ++ other_rows (bits f 15 8) (bits f 7 0)) _ k)

  command_closes : CommandFor who f → (closes (meaning_of who f) ≡ true) ⊎ OneOfEleven who f
  unfolding meaning_of
  command_closes u = known_closes (ours_known who f (read_of f) refl u)

  closing_command : closes (meaning_of who f) ≡ true → CommandFor who f
  closing_command e =
      ⊎_elim (λ u. u) (λ n. clash (closes (meaning_of who f)) e (other_keeps n)) (command_or_not who (read_of f))

  keeping_is : closes (meaning_of who f) ≡ false → OneOfEleven who f ⊎ (CommandFor who f → ⊥)
  keeping_is e =
      ⊎_elim (λ u. ⊎_elim (λ c. clash (closes (meaning_of who f)) c e) inl (command_closes u)) inr
      (command_or_not who (read_of f))

pub closes_exactly : (who : Who) (f : ℕ) → ClosesExactly who f
closes_exactly who f =
    record {
      closing = (
        (λ e. (closing_command who f e, λ k. clash (closes (meaning_of who f)) e (eleven_keeps who f k))),
        (λ p. ⊎_elim (λ e. e) (λ k. absurd (p.1 k)) (command_closes who f p.0)),
      );
      keeping = (keeping_is who f, λ k. ⊎_elim (eleven_keeps who f) (other_keeps who f) k);
    }
