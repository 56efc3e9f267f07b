-- What it is for a promise to settle an answer: two answers that meet it are equal.
-- Assumes nothing.
use Rattle.std.specs.Prelude.{◌≡◌}

abbrev pub Settles : {A : Type 0} → (A → Type 0) → Type 0
Settles {A} promise = (r s : A) → promise r → promise s → r ≡ s
