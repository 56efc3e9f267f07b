-- A table of numbers, each with how many it stands for: weighed, and filed by class.
-- Assumes nothing.
use Rattle.std.proofs.Common.{◌≡◌, ℕ, ◌+◌, ◌*◌, ◌<◌, true, eqb, List, [], ◌∷◌, length, get_or, set, sym, refl, ◌∙◌, arith, length-set, get_or-set_other, get_or-set_same, eq-eqb, ne_eqb, eqb-true}
use Rattle.laws.specs.Lists.{every}
use Rattle.laws.proofs.Tests.{both, if_eq}
use Rattle.census.proofs.Tallies.{one}

abbrev pub weighed : (ℕ → ℕ) → List (ℕ × ℕ) → ℕ
weighed g [] = 0
weighed g (r ∷ rs) = r.1 * g r.0 + weighed g rs

-- numbers whose classes are the same throughout the table
pub weighed_same : (class other f : ℕ → ℕ) (rs : List (ℕ × ℕ)) → every (λ r. eqb (class r.0) (other r.0)) rs ≡ true
    → weighed (λ j. f (class j)) rs ≡ weighed (λ j. f (other j)) rs
weighed_same class other f [] e = refl
weighed_same class other f (r ∷ rs) e =
    let p = both (eqb (class r.0) (other r.0)) _ e in
    rw (eqb-true (class r.0) (other r.0) p.0, weighed_same class other f rs p.1)

-- w more at place c
abbrev more : List ℕ → ℕ → ℕ → List ℕ
more l c w = set l c (get_or l c 0 + w)

more_at : (l : List ℕ) (c w k : ℕ) → k < length l → get_or (more l c w) k 0 ≡ get_or l k 0 + w * one (eqb c k)
more_at l c w k h =
    if_eq {A = ℕ} (λ _. get_or (more l c w) k 0 ≡ get_or l k 0 + w * one (eqb c k)) c k {x = 0} {y = 0}
    (λ e. rw (eq-eqb c k e, e) (get_or-set_same l k (get_or l k 0 + w) 0 h ∙ omega arith))
    (λ e. rw (ne_eqb c k e) (get_or-set_other l c k (get_or l c 0 + w) 0 (λ q. e (sym q)) ∙ omega arith))

-- each number of a table, n times its weight, at its class
abbrev pub filed : List ℕ → (ℕ → ℕ) → ℕ → List (ℕ × ℕ) → List ℕ
filed l class n [] = l
filed l class n (r ∷ rs) = more (filed l class n rs) (class r.0) (n * r.1)

module _ (l : List ℕ) (class : ℕ → ℕ) (n : ℕ) where
  pub length_filed : (rs : List (ℕ × ℕ)) → length (filed l class n rs) ≡ length l
  length_filed [] = refl
  length_filed (r ∷ rs) = length-set (filed l class n rs) (class r.0) _ ∙ length_filed rs

  pub filed_at : (rs : List (ℕ × ℕ)) (k : ℕ) → k < length l
      → get_or (filed l class n rs) k 0 ≡ get_or l k 0 + n * weighed (λ j. one (eqb (class j) k)) rs
  filed_at [] k h = omega arith
  filed_at (r ∷ rs) k h =
      more_at (filed l class n rs) (class r.0) (n * r.1) k (omega (arith, length_filed rs))
      ∙ omega (arith, filed_at rs k h)
