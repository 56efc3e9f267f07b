-- An array filled one value after the other, from the first on; and so one more of a class.
-- Assumes nothing.
use Rattle.std.proofs.Common.{◌≡◌, ℕ, ◌+◌, ◌<◌, ◌≤◌, eqb, List, length, get_or, set, replicate, sym, refl, ◌∙◌, not-suc-le-zero, add-zero, arith, length-set, get_or-set_other, get_or-set_same, ext_get_or, eq-eqb, ne_eqb}
use lib.ListN.{length-replicate}
use mir.Val.{bool_byte}
use Rattle.laws.specs.Lists.{items}
use Rattle.laws.proofs.Tests.{if_eq}
use Rattle.census.specs.Census.{one_more}
use Rattle.census.proofs.Listed.{get_d_items, length_items}

module _ (n : ℕ) (value : ℕ → ℕ) where
  -- the first k of n stand
  pub record Filled (values : List ℕ) (k : ℕ) : Type 0 where
    pub all : length values ≡ n
    pub stand : (j : ℕ) → j < k → get_or values j 0 ≡ value j

  pub filled_none : Filled (replicate n 0) 0
  filled_none = record { all = length-replicate n 0; stand = λ j h. absurd (not-suc-le-zero h) }

  pub filled_more : (values : List ℕ) (k x : ℕ) → k < n → x ≡ value k → Filled values k → Filled (set values k x) (k + 1)
  filled_more values k x h e f =
      record {
        all = length-set values k x ∙ f.all;
        stand = λ j below.
            if_eq {A = ℕ} (λ _. get_or (set values k x) j 0 ≡ value j) j k {x = 0} {y = 0}
            (λ same. rw same (get_or-set_same values k x 0 (omega (arith, f.all)) ∙ e))
            (λ other. get_or-set_other values k j x 0 other ∙ f.stand j (lower j other below));
      }
    where
      lower : (j : ℕ) → (j ≡ k → ⊥) → j < k + 1 → j < k
      lower j other below = omega arith

  pub filled_all : (values : List ℕ) (k : ℕ) → n ≤ k → Filled values k → values ≡ items value 0 n
  filled_all values k h f =
      ext_get_or 0 values (items value 0 n) (f.all ∙ sym (length_items value 0 n)) (λ j below.
      let fits : j < n = omega (arith, f.all) in
      f.stand j (omega arith) ∙ sym (get_d_items value 0 _ j fits))

-- every count with 1 added if it is that of the class, and 0 else: one more of the class
pub more_is : (counts : List ℕ) (class : ℕ) → length counts ≡ 15
    → items (λ k. get_or counts k 0 + bool_byte (eqb class k)) 0 15 ≡ one_more class counts
more_is counts class long =
    ext_get_or 0 (items added 0 15) (one_more class counts) (sym (length-set counts class _ ∙ long)) at_each
  where
    added : ℕ → ℕ
    added k = get_or counts k 0 + bool_byte (eqb class k)

    at_each : (k : ℕ) → k < length (items added 0 15) → get_or (items added 0 15) k 0 ≡ get_or (one_more class counts) k 0
    at_each k below =
        let small : k < 15 = below in
        get_d_items added 0 15 k small
        ∙ if_eq {A = ℕ} (λ _. added k ≡ get_or (one_more class counts) k 0) k class {x = 0} {y = 0}
        (λ same. rw (same, eq-eqb class class refl) (sym (get_or-set_same counts class _ 0 (omega arith))))
        (λ other.
        rw (ne_eqb class k (λ e. other (sym e)))
        (add-zero (get_or counts k 0) ∙ sym (get_or-set_other counts class k _ 0 other)))
