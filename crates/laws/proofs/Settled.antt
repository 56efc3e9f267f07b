-- A promise that names the answer by a definition settles it.
-- Assumes nothing.
use mathlib.Core.Path.{◌≡◌, sym, ◌∙◌}
use mathlib.Core.List.{List}
use Prim.Native.Nat.{ℕ}
use Rattle.laws.specs.Outcome.{Outcome, Gives}
use Rattle.laws.specs.Settled.{Settles}

pub settles : {A : Type 0} (answer : A) → Settles (λ (r : A). r ≡ answer)
settles answer r s p q = p ∙ sym q

-- and so does one that names answer and store by an outcome
pub settles_both : {A : Type 0} (o : Outcome A) (a b : A) (s t : List ℕ) → Gives a s o → Gives b t o → (a ≡ b) × (s ≡ t)
settles_both o a b s t p q = (p.answer ∙ sym q.answer, p.store ∙ sym q.store)
