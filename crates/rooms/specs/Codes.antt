-- The number and the values of each case of what is due.
-- Assumes nothing.
use Rattle.std.specs.Prelude.{ℕ, ◌≡◌, List, [], ◌∷◌, if◌then◌else◌}
use Rattle.rooms.specs.declared.due.Due.{Due}
use Rattle.rooms.specs.declared.due.Due.TheVariants.{Nothing, Waits, Opens, Resets, Becomes, Loads, Answers}
use Rattle.rooms.specs.declared.due.Due.TheVariants.{Writes, Reads}

pub record DueCode : Type 0 where
  pub number : ℕ
  pub values : List ℕ

abbrev code : ℕ → List ℕ → DueCode
code n values = record { number = n; values = values }

abbrev pub due_code : Due → DueCode
due_code Nothing = code 0 []
due_code Waits = code 1 []
due_code Opens = code 2 []
due_code (Resets dtr0) = code 3 (dtr0 ∷ [])
due_code (Becomes who) = code 4 (who.address ∷ who.groups ∷ [])
due_code (Loads registers) = code 5 (registers.dtr0 ∷ registers.dtr1 ∷ registers.dtr2 ∷ [])
due_code (Answers byte) = code 6 (byte ∷ [])
due_code (Writes bank location byte replying) = code 7 (bank ∷ location ∷ byte ∷ (if replying then 1 else 0) ∷ [])
due_code (Reads bank location) = code 8 (bank ∷ location ∷ [])

-- no two cases share their number and values
abbrev pub OneDue : Type 0
OneDue = (due other : Due) → due_code due ≡ due_code other → due ≡ other
