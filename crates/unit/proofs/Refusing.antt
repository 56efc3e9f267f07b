-- What a call that is refused hands back.
-- Assumes nothing.
use Prim.Native.Nat.{ℕ}
use mathlib.Core.Path.{◌≡◌, refl}
use mathlib.Core.List.{List}
use borrow.Author.Tests.{ne_eqb}
use Rattle.laws.specs.Outcome.{Outcome, Gives}
use Rattle.refusals.specs.Numbers.{number_of}
use Rattle.refusals.specs.declared.refusal.Refusal.{Refusal}
use Rattle.refusals.proofs.Told.{refusal_is, not_none}
use Rattle.rooms.specs.Reply.{refusing}
use Rattle.rooms.specs.declared.state.State.{State}
use Rattle.rooms.specs.declared.reply.Stepped.{Stepped}
use Rattle.unit.specs.Step.{unless}

-- the refusal of the number that is not 0
pub refused : (refusal : Refusal) (n : ℕ) → number_of refusal ≡ n → (s : State) (store : List ℕ) (o : Outcome Stepped)
    → Gives (refusing s refusal) store (unless n s store o)
refused refusal n e s store o =
    rw (ne_eqb n 0 (not_none refusal n e), refusal_is refusal n e)
    (record { answer = refl; store = refl })
