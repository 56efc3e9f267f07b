-- What is due is told by its number and values: it is read back from them.
-- Assumes nothing.
use mathlib.Core.Path.{◌≡◌, refl, sym, ap, ◌∙◌}
use mathlib.Core.Bool.{true, false}
use Prim.Native.Nat.{ℕ}
use lib.Dec.{eqb}
use lib.ListN.{get_or}
use Rattle.std.specs.Prelude.{if◌then◌else◌}
use Rattle.rooms.specs.Codes.{DueCode, due_code, OneDue}
use Rattle.rooms.specs.declared.due.Due.{Due}
use Rattle.rooms.specs.declared.due.Due.TheVariants.{Nothing, Waits, Opens, Resets, Becomes, Loads, Answers}
use Rattle.rooms.specs.declared.due.Due.TheVariants.{Writes, Reads}

value : DueCode → ℕ → ℕ
value c k = get_or c.values k 0

back : DueCode → Due
back c =
    if eqb c.number 0 then Nothing
    else if eqb c.number 1 then Waits
    else if eqb c.number 2 then Opens
    else if eqb c.number 3 then Resets (value c 0)
    else if eqb c.number 4 then Becomes (record { address = value c 0; groups = value c 1 })
    else if eqb c.number 5 then Loads (record { dtr0 = value c 0; dtr1 = value c 1; dtr2 = value c 2 })
    else if eqb c.number 6 then Answers (value c 0)
    else if eqb c.number 7 then Writes (value c 0) (value c 1) (value c 2) (eqb (value c 3) 1)
    else Reads (value c 0) (value c 1)

back_is : (due : Due) → back (due_code due) ≡ due
unfolding back value
back_is Nothing = refl
back_is Waits = refl
back_is Opens = refl
back_is (Resets dtr0) = refl
back_is (Becomes who) = refl
back_is (Loads registers) = refl
back_is (Answers byte) = refl
back_is (Writes bank location byte true) = refl
back_is (Writes bank location byte false) = refl
back_is (Reads bank location) = refl

pub one_due : OneDue
one_due due other e = sym (back_is due) ∙ ap back e ∙ back_is other
