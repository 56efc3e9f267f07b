-- What a call with a lent store comes to: its answer, and the store it leaves.
-- Assumes nothing.
use Rattle.std.specs.Prelude.{◌≡◌, List, ℕ}

pub record Outcome (A : Type 0) : Type 0 where
  pub answer : A
  pub store : List ℕ

abbrev pub leaves : {A : Type 0} → A → List ℕ → Outcome A
leaves answer store = record { answer = answer; store = store }

-- the answer and the store are those of the outcome
pub record Gives {A : Type 0} (a : A) (s : List ℕ) (o : Outcome A) : Type 0 where
  pub answer : a ≡ o.answer
  pub store : s ≡ o.store
