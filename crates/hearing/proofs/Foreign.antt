-- An event and a reserved frame are foreign for every unit.
-- Assumes nothing.
use Rattle.std.proofs.Common.{◌≡◌, ℕ, refl, ap, arith, Option, Some, None, Result, Ok, Err}
use Rattle.laws.specs.Bits.{bits, bit}
use Rattle.laws.proofs.Tests.{if_lt, if_eq}
use Rattle.refusals.specs.declared.refusal.Refusal.{Refusal}
use Rattle.refusals.specs.declared.refusal.Refusal.TheVariants.{FrameTooLarge, ReservedEvent}
use Rattle.frames.specs.Read.{read_of, event_of, schemed, scheme_of, other_of, power_of, powered, field_of}
use Rattle.frames.specs.declared.message.Message.{Message}
use Rattle.frames.specs.declared.message.Scheme.{Scheme}
use Rattle.hearing.specs.Meaning.{reading_meaning, meaning_of}
use Rattle.hearing.specs.Promises.{EventForeign, ReservedForeign}
use Rattle.hearing.specs.declared.heard.Who.{Who}
use Rattle.hearing.specs.declared.meaning.Meaning.{Meaning}

module _ (who : Who) where
  unfoldable pub IsForeign : Result Message Refusal → Type 0
  IsForeign r = reading_meaning who r ≡ Meaning.Foreign

  power_foreign : (g s : Result (Option ℕ) Refusal) → IsForeign (powered g s)
  unfolding IsForeign
  power_foreign (Err e) s = refl
  power_foreign (Ok g) (Err e) = refl
  power_foreign (Ok g) (Ok s) = refl

  refused_foreign : (refusal : Refusal) → IsForeign (Err refusal)
  unfolding IsForeign
  refused_foreign refusal = refl

  other_foreign : (f : ℕ) → IsForeign (other_of f)
  unfolding other_of power_of
  other_foreign f =
      if_eq IsForeign (bits f 23 17) 0x7F
      (λ h. if_eq IsForeign (bits f 15 13) 7
      (λ l. power_foreign (field_of (bit f 12) (bits f 11 7)) (field_of (bit f 6) (bits f 5 0)))
      (λ l. refused_foreign ReservedEvent))
      (λ h. refused_foreign ReservedEvent)

  scheme_foreign : (s : Option Scheme) (f : ℕ) → IsForeign (schemed s f)
  unfolding IsForeign
  scheme_foreign (Some s) f = refl
  scheme_foreign None f = other_foreign f

  pub events_foreign : (f : ℕ) → IsForeign (event_of f)
  unfolding event_of
  events_foreign f = scheme_foreign (scheme_of (bit f 23) (bit f 22) (bit f 15)) f

  even_foreign : (f : ℕ) → bit f 16 ≡ 0 → IsForeign (read_of f)
  unfolding read_of
  even_foreign f e =
      if_lt IsForeign f 16777216
      (λ l. if_eq IsForeign (bit f 16) 1 (λ o. absurd (omega arith)) (λ n. events_foreign f))
      (λ l. refused_foreign FrameTooLarge)

pub event_foreign : EventForeign
unfolding meaning_of IsForeign
event_foreign who f e = even_foreign who f e

pub reserved_foreign : ReservedForeign
unfolding meaning_of
reserved_foreign who f refusal e = ap (reading_meaning who) e
