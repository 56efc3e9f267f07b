-- Tests: from the facts that the code's branches leave, by cases, and one after the other.
-- Assumes nothing.
use mathlib.Core.Path.{◌≡◌, refl}
use mathlib.Core.Bool.{Bool, true, false, ◌&&◌, not, true≢false, false≢true}
use Prim.Native.Nat.{ℕ, ◌<◌, ◌≤◌}
use native.Mathlib.Nat.{div-one}
use lib.Dec.{ltb, eqb}
use borrow.Author.Tests.{lt-ltb, le-ltb, le-leb, lt-leb, eq-eqb, ne_eqb, ltb-true, ltb-false, eqb-true, eqb-false}
use Rattle.std.specs.Prelude.{if◌then◌else◌}

-- for the needs of the code: `search (needs, tests)`
pub ruleset tests = (lt-ltb, le-ltb, le-leb, lt-leb, eq-eqb, ne_eqb, div-one)

-- by cases on a test that a definition makes: each case has the fact
pub if_by : {A : Type 0} (P : A → Type 0) (t : Bool) {x y : A} → (t ≡ true → P x) → (t ≡ false → P y)
    → P (if t then x else y)
if_by P true f g = f refl
if_by P false f g = g refl

pub if_lt : {A : Type 0} (P : A → Type 0) (m n : ℕ) {x y : A} → (m < n → P x) → (n ≤ m → P y)
    → P (if ltb m n then x else y)
if_lt P m n f g = if_by P (ltb m n) (λ e. f (ltb-true m n e)) (λ e. g (ltb-false m n e))

pub if_eq : {A : Type 0} (P : A → Type 0) (m n : ℕ) {x y : A} → (m ≡ n → P x) → ((m ≡ n → ⊥) → P y)
    → P (if eqb m n then x else y)
if_eq P m n f g = if_by P (eqb m n) (λ e. f (eqb-true m n e)) (λ e. g (eqb-false m n e))

-- both halves of a test that passed, and back
pub both : (a b : Bool) → (a && b) ≡ true → (a ≡ true) × (b ≡ true)
both true b e = (refl, e)
both false b e = absurd (false≢true e)

pub and_of : (a b : Bool) → a ≡ true → b ≡ true → (a && b) ≡ true
and_of true b x y = y
and_of false b x y = x

-- a test that came out both ways
pub clash {ℓ} : {A : Type ℓ} (a : Bool) → a ≡ true → a ≡ false → A
clash true x y = absurd (true≢false y)
clash false x y = absurd (false≢true x)

-- a test that was denied
pub denied : (b : Bool) → not b ≡ true → b ≡ false
denied true e = absurd (false≢true e)
denied false e = refl

pub not_denied : (b : Bool) → not b ≡ false → b ≡ true
not_denied true e = refl
not_denied false e = absurd (true≢false e)
