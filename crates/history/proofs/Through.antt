-- The grammar lets a frame through exactly if it is one of the eleven, an event, a reserved frame, or a command not for
-- this unit.
-- Assumes nothing.
use mathlib.Core.Path.{◌≡◌, refl, sym, ap, ◌∙◌}
use mathlib.Core.Logic.{◌⊎◌, inl, inr, ⊎_elim}
use mathlib.Core.Bool.{Bool, true, false, not}
use mathlib.Core.List.{List}
use Prim.Native.Nat.{ℕ}
use Rattle.std.specs.Prelude.{Result, Ok, Err, if◌then◌else◌}
use Rattle.laws.proofs.Choosing.{refuted}
use Rattle.laws.proofs.Tests.{if_by, clash, denied}
use Rattle.frames.specs.Read.{read_of}
use Rattle.refusals.specs.declared.refusal.Refusal.{Refusal}
use Rattle.frames.specs.declared.message.Message.{Message}
use Rattle.records.specs.declared.record.Record.{Record}
use Rattle.hearing.specs.Meaning.{is_for, closes, meaning_of}
use Rattle.hearing.specs.Promises.{ToUnit, IsSpecial}
use Rattle.hearing.specs.declared.heard.Who.{Who}
use Rattle.hearing.specs.declared.meaning.Once.{Once}
use Rattle.hearing.specs.declared.meaning.Once.TheVariants.{QueryMissingShortAddress, QueryContentDtr, SetDtr, SetDtrs}
use Rattle.hearing.specs.declared.meaning.Once.TheVariants.{QueryDeviceGroups}
use Rattle.hearing.specs.declared.meaning.Once.TheVariants.{ReadMemoryLocation, WriteMemoryLocation, DirectWriteMemory}
use Rattle.hearing.specs.declared.meaning.Twice.{Twice}
use Rattle.hearing.specs.declared.meaning.Twice.TheVariants.{ResetMemoryBank, SetShortAddress, EnableWriteMemory}
use Rattle.hearing.specs.declared.meaning.Twice.TheVariants.{AddToDeviceGroups, RemoveFromDeviceGroups}
use Rattle.hearing.specs.declared.meaning.Meaning.{Meaning}
use Rattle.hearing.specs.declared.meaning.Meaning.TheVariants.{Foreign, NotObeyed, AtOnce, NeedsPair}
use Rattle.hearing.proofs.Closing.{closes_exactly}
use Rattle.history.specs.Pairs.{ends_pair}
use Rattle.history.specs.Deeds.{Context, breaks, spares, executes, write_deed, once_deed, pair_deed, deed_by, deed_of}
use Rattle.history.specs.Deeds.{keeping}
use Rattle.history.specs.Context.{meant, deed_in, context, deed_after}
use Rattle.history.specs.Through.{IsEvent, IsReserved, ForOthers, LetThrough, LetsThroughExactly}

-- what is let through is what does not close write-enable
module _ (rs : List Record) (k : Context) where
  write_through : (location byte : ℕ) → keeping (write_deed rs k location byte spares) ≡ true
  unfolding write_deed keeping
  write_through location byte = if_by (λ d. keeping d ≡ true) (executes rs k) (λ e. refl) (λ e. refl)

  once_through : (c : Once) → keeping (once_deed rs k (if closes (AtOnce c) then breaks else spares) c)
      ≡ not (closes (AtOnce c))
  unfolding once_deed keeping
  once_through QueryMissingShortAddress = refl
  once_through (QueryContentDtr n) = refl
  once_through ReadMemoryLocation = refl
  once_through (QueryDeviceGroups n) = refl
  once_through (WriteMemoryLocation byte replies) = write_through k.registers.dtr0 byte
  once_through (DirectWriteMemory offset byte) = write_through offset byte
  once_through (SetDtr n byte) = refl
  once_through (SetDtrs n high low) = refl

  pair_through : (c : Twice) → keeping (pair_deed k breaks c) ≡ false
  unfolding pair_deed keeping
  pair_through ResetMemoryBank = refl
  pair_through SetShortAddress = refl
  pair_through EnableWriteMemory = refl
  pair_through (AddToDeviceGroups half) = refl
  pair_through (RemoveFromDeviceGroups half) = refl

  deed_through : (pair : Bool) (m : Meaning) → keeping (deed_of rs k pair m) ≡ not (closes m)
  unfolding deed_of deed_by keeping
  deed_through pair Foreign = refl
  deed_through pair NotObeyed = refl
  deed_through pair (AtOnce c) = once_through c
  deed_through pair (NeedsPair c) = if_by (λ d. keeping d ≡ false) pair (λ e. pair_through c) (λ e. refl)

-- a frame that is no command for the unit is an event, a reserved frame or a command for others, and back
module _ (who : Who) where
  no_command : (r : Result Message Refusal) → (ToUnit who r ⊎ IsSpecial r → ⊥) → IsEvent r ⊎ (IsReserved r ⊎ ForOthers who r)
  no_command (Ok (Message.Command a t o)) n = inr (inr (refuted (is_for who a) (λ u. n (inl u))))
  no_command (Ok (Message.Special s i o)) n = absurd (n (inr tt))
  no_command (Ok (Message.Event c x y i)) n = inl tt
  no_command (Ok (Message.Power g h)) n = inl tt
  no_command (Err refusal) n = inr (inl tt)

  command_none : (r : Result Message Refusal) → IsEvent r ⊎ (IsReserved r ⊎ ForOthers who r) → ToUnit who r ⊎ IsSpecial r → ⊥
  command_none (Ok (Message.Command a t o)) (inl e) u = e
  command_none (Ok (Message.Command a t o)) (inr (inl e)) u = e
  command_none (Ok (Message.Command a t o)) (inr (inr e)) u =
      ⊎_elim (λ v. clash (is_for who a) v e) (λ v. v) u
  command_none (Ok (Message.Special s i o)) v u = ⊎_elim (λ e. e) (λ w. ⊎_elim (λ e. e) (λ e. e) w) v
  command_none (Ok (Message.Event c x y i)) v u = ⊎_elim (λ e. e) (λ e. e) u
  command_none (Ok (Message.Power g h)) v u = ⊎_elim (λ e. e) (λ e. e) u
  command_none (Err refusal) v u = ⊎_elim (λ e. e) (λ e. e) u

  through : (f : ℕ) → closes (meaning_of who f) ≡ false → LetThrough who f
  through f e = ⊎_elim inl (λ n. inr (no_command (read_of f) n)) ((closes_exactly who f).keeping.0 e)

  keeps : (f : ℕ) → LetThrough who f → closes (meaning_of who f) ≡ false
  keeps f l = (closes_exactly who f).keeping.1 (⊎_elim inl (λ v. inr (command_none (read_of f) v)) l)

pub lets_through_exactly : LetsThroughExactly
unfolding deed_after deed_in meant
lets_through_exactly rs who h x = (
  (λ e. through k.who x.frame (denied _ (sym told ∙ e))),
  (λ l. told ∙ ap not (keeps k.who x.frame l)),
)
  where
    k : Context
    k = context rs who h

    told : keeping (deed_of rs k (ends_pair h x) (meant k x)) ≡ not (closes (meant k x))
    told = deed_through rs k (ends_pair h x) (meant k x)
