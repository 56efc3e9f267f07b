-- The unit's choice of banks is the grammar's.
-- Assumes nothing.
use mathlib.Core.Path.{◌≡◌, refl}
use mathlib.Core.Logic.{inl, inr}
use mathlib.Core.Bool.{Bool, true, false}
use Prim.Native.Nat.{ℕ, ◌≤◌}
use native.Mathlib.Omega.{arith}
use lib.Dec.{leb, eqb}
use borrow.Author.Tests.{eqb-true, eqb-false, leb-true, le-leb, eq-eqb, ne_eqb}
use Rattle.std.specs.Prelude.{if◌then◌else◌}
use Rattle.memory.specs.Filled.{selects}
use Rattle.history.specs.Writing.{Selected}

pub selects_of : (d b : ℕ) → Selected d b → selects d b ≡ true
unfolding selects
selects_of d b (inl p) =
    let z : d ≡ 0 = omega (arith, p.0) in
    rw (eq-eqb d 0 z) (le-leb 1 b (omega (arith, p.1)))
selects_of d b (inr p) =
    let n : d ≡ 0 → ⊥ = λ z. omega (arith, p.0) in
    let e : b ≡ d = omega (arith, p.1) in
    rw (ne_eqb d 0 n) (eq-eqb b d e)

pub of_selects : (d b : ℕ) → selects d b ≡ true → Selected d b
unfolding selects
of_selects d b = go (eqb d 0) refl
  where
    go : (t : Bool) → eqb d 0 ≡ t → (if t then leb 1 b else eqb b d) ≡ true → Selected d b
    go true t e =
        let z : d ≡ 0 = eqb-true d 0 t in
        let l : 1 ≤ b = leb-true 1 b e in
        inl (omega arith, omega arith)
    go false t e =
        let n : d ≡ 0 → ⊥ = eqb-false d 0 t in
        let q : b ≡ d = eqb-true b d e in
        inr (omega arith, omega arith)
