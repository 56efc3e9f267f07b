-- An iterator that gives the items that are left of a list, one after the other: what its calls gave of that list, and what
-- `all` answers.
-- Assumes nothing.
use mathlib.Core.Path.{◌≡◌, sym, ap, subst, ◌∙◌}
use mathlib.Core.Bool.{Bool, true, false}
use mathlib.Core.List.{List, [], ◌∷◌, ◌++◌, append-nil}
use Prim.Native.Nat.{ℕ, ◌<◌}
use native.Mathlib.Omega.{arith}
use lib.ListN.{length, get_or}
use denote.Param.Members.{Mut, Called}
use Rattle.std.specs.Prelude.{Option, Some, None, IfSome, IsSomeAnd, MatchBool, IsTrue, option_map, ◌&&◌}
use Rattle.std.specs.Iterator.{YieldsFirst, Yields}
use Rattle.std.specs.Iterator.Runs.{Run, YieldsRun, SomeRun, AllItems, AnyItem, AllItemsGive, AnyItemGives}
use Rattle.std.proofs.lemmas.List.Sums.{list_all-from_AllPass}
use Rattle.std.proofs.lemmas.List.Folds.{list_all_at, list_all-append}
use Rattle.laws.specs.Lists.{every}

there : {A : Type 0} (P : A → Type 0) (o : Option A) (x : A) → option_map (λ y. y) o ≡ Some x → IfSome o P → P x
there P None x e h = let z : ◌≡◌ {A = ℕ} 0 1 = cc in absurd (omega arith)
there P (Some y) x e h = let same : y ≡ x = cc in subst P same h

module _ {A : Type 0} {P Q : A → Type 0} where
  each_some : (o : Option A) → ((x : A) → P x → Q x) → IfSome o P → IfSome o Q
  each_some None h p = tt
  each_some (Some x) h p = h x p

  some_some : (o : Option A) → ((x : A) → P x → Q x) → IsSomeAnd o P → IsSomeAnd o Q
  some_some None h p = absurd p
  some_some (Some x) h p = h x p

module _ {S A : Type 0} (rest : S → List A) where
  -- what calls gave, and then what is left
  given : (xs : List A) (s t : S) → Yields (YieldsFirst rest) s xs t → rest s ≡ xs ++ rest t
  given [] s t y = ap rest y
  given (x ∷ xs) s t y = y.1 ∙ ap (λ (l : List A). x ∷ l) (given xs y.0 t y.2)

  module _ (p : Run (YieldsFirst rest)) where
    -- a run gives the first of them, and all if it went on to the end
    pub gives_first : (more : List A) × (rest p.from ≡ p.items ++ more) × (p.whole ≡ true → more ≡ [])
    unfolding YieldsRun
    gives_first =
        let d = p.gave.0 in
        (rest d.0, given p.items p.from d.0 d.1, λ w. (d.2 w).1.0)

    module _ (test : A → Bool) where
      all_pass : p.whole ≡ true → AllItems p (λ x. test x ≡ true) → every test (rest p.from) ≡ true
      all_pass w a =
          let b = gives_first in
          ap (every test) (b.1 ∙ ap (λ (l : List A). p.items ++ l) (b.2 w) ∙ append-nil p.items)
          ∙ list_all-from_AllPass test p.items (λ n d l.
          there (λ x. test x ≡ true) (p.at n) (get_or p.items n d) (p.reads n d (omega (arith, p.long, l))) (a n))

      fails_at : (n : ℕ) (o : Option A) → ((d : A) → option_map (λ y. y) o ≡ Some (get_or p.items n d)) → n < length p.items
          → IsSomeAnd o (λ x. test x ≡ false)
          → every test p.items ≡ false
      fails_at n None e l h = absurd h
      fails_at n (Some x) e l h =
          list_all_at test p.items n x l (there (λ y. test y ≡ false) (Some x) (get_or p.items n x) (e x) h)

      one_fails : AnyItem p (λ x. test x ≡ false) → every test (rest p.from) ≡ false
      one_fails a =
          let b = gives_first in
          ap (every test) b.1 ∙ list_all-append test p.items b.0
          ∙ ap (λ (t : Bool). t && every test b.0)
          (fails_at a.0 (p.at a.0) (λ d. p.reads a.0 d a.1) (omega (arith, p.long, a.1)) a.2)

-- the answer of `all`, by the test that its closure computes
pub all_is : {S A F : Type 0} (rest : S → List A) {g : Mut F (A × Unit {0}) Bool} {f : F} (test : A → Bool) {s : S} (r : Bool)
    → SomeRun (YieldsFirst rest) s (λ p. MatchBool r (IsTrue p.whole × AllItemsGive p g f true) (AnyItemGives p g f false))
    → ((x : A) (b : Bool) (q : F) → Called g f (x, tt) b q → (q ≡ f) × (b ≡ test x))
    → r ≡ every test (rest s)
all_is rest {g} {f} test true runs k =
    let p = runs.0 in
    let a = runs.2.1 (λ x b q c. (k x.0 b q c).0) in
    sym (ap (λ (t : _). every test (rest t)) (sym runs.1)
    ∙ all_pass rest p test runs.2.0 (λ n. each_some (p.at n) (λ x c. sym (k x true f c).1) (a n)))
all_is rest {g} {f} test false runs k =
    let p = runs.0 in
    let a = runs.2 (λ x b q c. (k x.0 b q c).0) in
    sym (ap (λ (t : _). every test (rest t)) (sym runs.1)
    ∙ one_fails rest p test (a.0, a.1, some_some (p.at a.0) (λ x c. sym (k x false f c).1) a.2))
