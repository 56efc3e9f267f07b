-- The bytes of every frame that means a listed command are those of paper 01.
-- Assumes nothing.
use Rattle.std.proofs.Common.{◌≡◌, ℕ, ◌+◌, ◌*◌, ◌⊎◌, List, [], ◌∷◌, map, refl, ap, ◌∙◌, inl, inr, ⊎_elim, Result, Ok, Err}
use Rattle.laws.proofs.Tests.{if_by, if_eq}
use Rattle.refusals.specs.declared.refusal.Refusal.{Refusal}
use Rattle.frames.specs.Read.{read_of}
use Rattle.frames.specs.Write.{target_byte}
use Rattle.frames.specs.declared.message.Message.{Message}
use Rattle.frames.specs.declared.message.Target.{Target}
use Rattle.hearing.specs.Codes.{Code, none, device, special, code_of, StandsIn}
use Rattle.hearing.specs.Meaning.{Row, listed, device_rows, device_command, first_rows, first_special, other_rows}
use Rattle.hearing.specs.Meaning.{special_command, is_for, command_at, reading_meaning, meaning_of}
use Rattle.hearing.specs.Promises.{CodeStands}
use Rattle.hearing.specs.declared.heard.Who.{Who}
use Rattle.hearing.specs.declared.meaning.Meaning.{Meaning}
use Rattle.hearing.proofs.Bytes.{command_bytes, special_bytes}

-- no code, or this one
abbrev pub Only : Code → Code → Type 0
Only d c = (c ≡ none) ⊎ (c ≡ d)

-- where the code of each row is that of its number, so is the code of what is listed
listed_code : (h : ℕ → Code) (rows : List Row) → map (λ r. code_of r.means) rows ≡ map (λ r. h r.code) rows →
    (n : ℕ) → Only (h n) (code_of (listed rows n))
listed_code h [] e n = inl refl
listed_code h (r ∷ rs) e n =
    if_eq (λ m. Only (h n) (code_of m)) n r.code (λ q. inr (rw q (cc))) (λ q. listed_code h rs (cc) n)

pub device_code : (o : ℕ) → Only (device o) (code_of (device_command o))
unfolding device_command
device_code o = listed_code device device_rows refl o

pub special_code : (n i o : ℕ) → Only (special (0xC1 + 2 * n) i o) (code_of (special_command n i o))
unfolding special_command first_special
special_code n i o =
    if_eq (λ m. Only (special (0xC1 + 2 * n) i o) (code_of m)) n 0
    (λ e. rw e (listed_code (λ k. special 0xC1 k o) (first_rows o) refl i))
    (λ q. listed_code (λ k. special (0xC1 + 2 * k) i o) (other_rows i o) refl n)

pub only_device : (t : Target) (o : ℕ) → (t ≡ Target.Device) ⊎ (command_at t o ≡ Meaning.NotObeyed)
only_device Target.Device o = inl refl
only_device (Target.InstanceNumber n) o = inr refl
only_device (Target.InstanceGroup n) o = inr refl
only_device (Target.InstanceType n) o = inr refl
only_device (Target.FeatureAtNumber n) o = inr refl
only_device (Target.FeatureAtGroup n) o = inr refl
only_device (Target.FeatureAtType n) o = inr refl
only_device Target.FeatureBroadcast o = inr refl
only_device Target.DeviceFeature o = inr refl
only_device Target.FeatureAtInstanceBroadcast o = inr refl
only_device Target.InstanceBroadcast o = inr refl

-- what no code asks of a frame, or this code does
stands : (f : ℕ) (d c : Code) → Only d c → StandsIn d f → StandsIn c f
stands f d c (inl e) s = rw e tt
stands f d c (inr e) s = rw e s

module _ (who : Who) (f : ℕ) where
  -- what a reading means stands in the frame
  right : (r : Result Message Refusal) → read_of f ≡ r → StandsIn (code_of (reading_meaning who r)) f
  right (Ok (Message.Command a t o)) e =
      let b = command_bytes f a t o e in
      if_by (λ m. StandsIn (code_of m) f) (is_for who a)
      (λ p. ⊎_elim
      (λ q. rw q (stands f (device o) _ (device_code o) (b.0 ∙ ap target_byte q, b.1)))
      (λ q. rw q tt)
      (only_device t o))
      (λ p. tt)
  right (Ok (Message.Special n i o)) e =
      stands f (special (0xC1 + 2 * n) i o) _ (special_code n i o) (special_bytes f n i o e)
  right (Ok (Message.Event s x y i)) e = tt
  right (Ok (Message.Power g s)) e = tt
  right (Err refusal) e = tt

pub code_stands : CodeStands
unfolding meaning_of
code_stands who f = right who f (read_of f) refl
