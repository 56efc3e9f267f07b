-- Each number is given exactly if: from the number of an answer to the answer.
-- Assumes nothing.
use Rattle.std.proofs.Common.{◌≡◌, refl, ◌∙◌, sym, ap, true, List, ℕ, ◌<◌, arith, Result, Ok, Err}
use Rattle.laws.specs.Numbers.{Test, first_failing, numbered}
use Rattle.laws.proofs.Numbers.{exactly_if, none_exactly_if}
use Rattle.refusals.specs.Numbers.{number_of, number_in}
use Rattle.refusals.specs.declared.refusal.Refusal.{Refusal}
use Rattle.refusals.proofs.Told.{numbers_in_range}
use Rattle.frames.specs.Read.{read_of}
use Rattle.frames.specs.Write.{write_of}
use Rattle.frames.specs.Refusals.{AnswersExactly, Exactly}
use Rattle.frames.proofs.Refusals.{reader_numbers, writer_numbers}

module _ {T : Type 0} where
  refusal : (n : ℕ) → 0 < n → (r : Result T Refusal) → number_in r ≡ n → (e : Refusal) × (number_of e ≡ n) × (r ≡ Err e)
  refusal n h (Ok x) q = absurd (omega arith)
  refusal n h (Err e) q = (e, q, refl)

  accepted : (r : Result T Refusal) → number_in r ≡ 0 → (x : T) × (r ≡ Ok x)
  accepted (Ok x) q = (x, refl)
  accepted (Err e) q = absurd (omega (arith, q, (numbers_in_range e).0))

  pub answers : (r : Result T Refusal) (ts : List Test) → number_in r ≡ first_failing ts → numbered ts ≡ true
      → AnswersExactly r ts
  answers r ts e k =
      record {
        refused = λ n h. (
          (λ q. (exactly_if ts n h).0 (sym e ∙ ap number_in q.2 ∙ q.1)),
          (λ g. refusal n h r (e ∙ (exactly_if ts n h).1 g)),
        );
        got = (
          (λ p. (none_exactly_if ts k).0 (sym e ∙ ap number_in p.1)),
          (λ p. accepted r (e ∙ (none_exactly_if ts k).1 p)),
        );
        not_0 = λ refused _. (numbers_in_range refused).0;
      }

pub exactly : Exactly
exactly =
    record {
      read = λ f. answers (read_of f) _ (reader_numbers f) refl;
      write = λ m. answers (write_of m) _ (writer_numbers m) refl;
    }
