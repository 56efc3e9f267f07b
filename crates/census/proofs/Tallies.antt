-- Sums over the numbers below a bound, and how many of them pass a test: by parts, by blocks, by samples.
-- Assumes nothing.
use Rattle.std.proofs.Common.{◌≡◌, ℕ, zero, suc, ◌+◌, ◌-◌, ◌*◌, ◌/◌, ◌<◌, ◌≤◌, Bool, true, false, not, eqb, List, [], ◌∷◌, sym, refl, ap, ◌∙◌, add-zero, add-suc, suc-mul, suc-add, zero-add, zero-mul, arith, eq-eqb, ne_eqb}
use lib.Arith.{digits_div}
use Rattle.std.specs.Prelude.{if◌then◌else◌}
use Rattle.laws.specs.Lists.{items}
use Rattle.laws.specs.Counts.{below, count}
use Rattle.laws.proofs.Tests.{if_eq}

unfoldable pub sum_below : (ℕ → ℕ) → ℕ → ℕ
sum_below g zero = 0
sum_below g (suc n) = sum_below g n + g n

-- 1 for a test that passes
abbrev pub one : Bool → ℕ
one true = 1
one false = 0

abbrev pub tally : (ℕ → Bool) → ℕ → ℕ
tally t n = sum_below (λ j. one (t j)) n

-- ---- a count is a sum

pub count_cons : {A : Type 0} (t : A → Bool) (x : A) (xs : List A) → count t (x ∷ xs) ≡ one (t x) + count t xs
count_cons t x xs = go (t x)
  where
    go : (b : Bool) → (if b then suc (count t xs) else count t xs) ≡ one b + count t xs
    go true = omega arith
    go false = omega arith

count_last : (t : ℕ → Bool) (n i : ℕ) → count t (items (λ j. j) i (suc n)) ≡ count t (items (λ j. j) i n) + one (t (i + n))
count_last t zero i = rw (add-zero i) (omega (arith, count_cons t i []))
count_last t (suc n) i =
    let e : one (t (suc i + n)) ≡ one (t (i + suc n)) = ap (λ (m : ℕ). one (t m)) (suc-add i n ∙ sym (add-suc i n)) in
    omega (
      arith,
      count_cons t i (items (λ j. j) (suc i) (suc n)),
      count_cons t i (items (λ j. j) (suc i) n),
      count_last t n (suc i),
      e,
    )

pub count_sum : (t : ℕ → Bool) (n : ℕ) → count t (below n) ≡ tally t n
unfolding sum_below
count_sum t zero = refl
count_sum t (suc n) =
    count_last t n 0 ∙ ap (λ (m : ℕ). count t (below n) + one (t m)) (zero-add n)
    ∙ ap (λ (m : ℕ). m + one (t n)) (count_sum t n)

-- ---- sums

-- numbers that agree below the bound
pub sum_same : (g h : ℕ → ℕ) (n : ℕ) → ((j : ℕ) → j < n → g j ≡ h j) → sum_below g n ≡ sum_below h n
unfolding sum_below
sum_same g h zero e = refl
sum_same g h (suc n) e = omega (arith, sum_same g h n (λ j k. e j (omega arith)), e n (omega arith))

pub sum_both : (g h : ℕ → ℕ) (n : ℕ) → sum_below (λ j. g j + h j) n ≡ sum_below g n + sum_below h n
unfolding sum_below
sum_both g h zero = refl
sum_both g h (suc n) = omega (arith, sum_both g h n)

pub sum_times : (g : ℕ → ℕ) (m n : ℕ) → sum_below (λ j. g j * m) n ≡ sum_below g n * m
unfolding sum_below
sum_times g m zero = omega arith
sum_times g m (suc n) = omega (arith, sum_times g m n)

pub sum_constant : (m n : ℕ) → sum_below (λ j. m) n ≡ n * m
unfolding sum_below
sum_constant m zero = omega arith
sum_constant m (suc n) = omega (arith, sum_constant m n)

-- what passes and what does not is all
tally_not : (t : ℕ → Bool) (n : ℕ) → tally t n + tally (λ j. not (t j)) n ≡ n
tally_not t n =
    sym (sum_both (λ j. one (t j)) (λ j. one (not (t j))) n) ∙ sum_same _ (λ j. 1) n (λ j h. go (t j))
    ∙ sum_constant 1 n ∙ omega arith
  where
    go : (b : Bool) → one b + one (not b) ≡ 1
    go true = refl
    go false = refl

-- one part behind the other
pub sum_parts : (g : ℕ → ℕ) (m n : ℕ) → sum_below g (m + n) ≡ sum_below g m + sum_below (λ j. g (m + j)) n
unfolding sum_below
sum_parts g m zero = rw (add-zero m) (omega arith)
sum_parts g m (suc n) = rw (add-suc m n) (omega (arith, sum_parts g m n))

-- m blocks of n
pub sum_blocks : (g : ℕ → ℕ) (m n : ℕ) → sum_below g (m * n) ≡ sum_below (λ i. sum_below (λ j. g (i * n + j)) n) m
unfolding sum_below
sum_blocks g zero n = rw (zero-mul n)
sum_blocks g (suc m) n =
    ap (sum_below g) (suc-mul m n) ∙ sum_parts g (m * n) n
    ∙ ap (λ (s : ℕ). s + sum_below (λ j. g (m * n + j)) n) (sum_blocks g m n)

-- what is asked of the block only
pub sum_by_block : (g : ℕ → ℕ) (m n : ℕ) → sum_below (λ j. g (j / n)) (m * n) ≡ n * sum_below g m
sum_by_block g m n =
    sum_blocks (λ j. g (j / n)) m n
    ∙ sum_same (λ i. sum_below (λ j. g ((i * n + j) / n)) n) (λ i. g i * n) m
    (λ i h. sum_same _ (λ j. g i) n (λ j k. ap g (digits_div i k)) ∙ sum_constant (g i) n ∙ omega arith)
    ∙ sum_times g n m ∙ omega arith

-- ---- by samples: where a test decides which of two numbers another is alike

pub by_one : (g : ℕ → ℕ) (n u : ℕ) → ((j : ℕ) → j < n → g j ≡ g u) → sum_below g n ≡ n * g u
by_one g n u e = sum_same g (λ j. g u) n e ∙ sum_constant (g u) n

-- p of the numbers are alike u, and the others v
pub by_two : (g : ℕ → ℕ) (s : ℕ → Bool) (n u v p : ℕ) → tally s n ≡ p
    → ((j : ℕ) → j < n → s j ≡ true → g j ≡ g u) → ((j : ℕ) → j < n → s j ≡ false → g j ≡ g v)
    → sum_below g n ≡ p * g u + (n - p) * g v
by_two g s n u v p e yes' no' =
    sum_same g (λ j. one (s j) * g u + one (not (s j)) * g v) n (λ j h. go j (s j) (yes' j h) (no' j h))
    ∙ sum_both (λ j. one (s j) * g u) (λ j. one (not (s j)) * g v) n
    ∙ rw (sum_times (λ j. one (s j)) (g u) n, sum_times (λ j. one (not (s j))) (g v) n, e, others)
  where
    others : tally (λ j. not (s j)) n ≡ n - p
    others = omega (arith, e, tally_not s n)

    go : (j : ℕ) (b : Bool) → (b ≡ true → g j ≡ g u) → (b ≡ false → g j ≡ g v) → g j ≡ one b * g u + one (not b) * g v
    go j true y n = y refl ∙ omega arith
    go j false y n = n refl ∙ omega arith

-- ---- one number of all

module _ (g : ℕ → ℕ) (x : ℕ) where
  pub none_of : (n : ℕ) → n ≤ x → sum_below (λ j. one (eqb x j) * g j) n ≡ 0
  unfolding sum_below
  none_of zero h = refl
  none_of (suc n) h = rw (ne_eqb x n (omega arith)) (omega (arith, none_of n (omega arith)))

  pub one_of : (n : ℕ) → x < n → sum_below (λ j. one (eqb x j) * g j) n ≡ g x
  unfolding sum_below
  one_of zero h = absurd (omega arith)
  one_of (suc n) h =
      if_eq {A = ℕ} (λ _. sum_below (λ j. one (eqb x j) * g j) n + one (eqb x n) * g n ≡ g x) x n {x = 0} {y = 0}
      (λ e. rw (eq-eqb x n e) (omega (arith, none_of n (omega arith), ap g e)))
      (λ e. rw (ne_eqb x n e) (omega (arith, one_of n (omega arith))))
