-- When each number is given: paper 01, "Refusal numbers".
-- Proved in proofs/: Composed and Exactly.
-- Assumes nothing.
use Rattle.std.specs.Prelude.{◌≡◌, List, [], ◌∷◌, ℕ}
use Rattle.laws.specs.Numbers.{Test, test, first_failing}
use Rattle.refusals.specs.Numbers.{number_in}
use Rattle.frames.specs.Refusals.{AnswersExactly}
use Rattle.composing.specs.Compose.{source_fits, compose_of, power_fits, compose_power_of}
use Rattle.composing.specs.declared.source.Source.{Source}

-- 6: field out of range
abbrev pub composer_tests : Source → List Test
composer_tests e = test 6 (source_fits e) ∷ []

abbrev pub ComposerNumbers : Type 0
ComposerNumbers = (e : Source) → number_in (compose_of e) ≡ first_failing (composer_tests e)

abbrev pub power_event_tests : ℕ → ℕ → List Test
power_event_tests short groups = test 6 (power_fits short groups) ∷ []

abbrev pub PowerNumbers : Type 0
PowerNumbers =
    (short groups : ℕ) → number_in (compose_power_of short groups) ≡ first_failing (power_event_tests short groups)

-- so each number is given exactly if every test before its own passes and its own fails
pub record Exactly : Type 0 where
  pub compose_event : (e : Source) → AnswersExactly (compose_of e) (composer_tests e)
  pub compose_power : (short groups : ℕ) → AnswersExactly (compose_power_of short groups) (power_event_tests short groups)
