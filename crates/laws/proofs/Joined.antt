-- Two lists of tests, one after the other: where the first list passes, the second gives the number.
-- Assumes nothing.
use mathlib.Core.Path.{◌≡◌, refl}
use mathlib.Core.Logic.{⊎_elim}
use mathlib.Core.Bool.{true, not}
use mathlib.Core.List.{List, [], ◌∷◌, ◌++◌}
use Prim.Native.Nat.{ℕ, ◌<◌}
use native.Mathlib.Omega.{arith}
use lib.Dec.{eqb}
use borrow.Author.Tests.{eqb-false}
use Rattle.laws.specs.Numbers.{Test, first_failing, numbered}
use Rattle.laws.proofs.Tests.{both, denied}
use Rattle.laws.proofs.Sides.{chosen}

pub joined_none : (ts us : List Test) → numbered ts ≡ true → first_failing ts ≡ 0 → first_failing
    (ts ++ us) ≡ first_failing us
unfolding first_failing
joined_none [] us k e = refl
joined_none (t ∷ ts) us k e =
    let p = both (not (eqb t.number 0)) (numbered ts) k in
    ⊎_elim
    (λ q. rw q.0 (joined_none ts us p.1 q.1))
    (λ q. absurd (eqb-false t.number 0 (denied (eqb t.number 0) p.0) q.1))
    (chosen t.passes e)

pub joined_some : (ts us : List Test) (n : ℕ) → 0 < n → first_failing ts ≡ n → first_failing (ts ++ us) ≡ n
unfolding first_failing
joined_some [] us n h e = absurd (omega arith)
joined_some (t ∷ ts) us n h e =
    ⊎_elim (λ q. rw q.0 (joined_some ts us n h q.1)) (λ q. rw q.0 q.1) (chosen t.passes e)
