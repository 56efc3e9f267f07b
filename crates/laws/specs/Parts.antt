-- A part of a list of bytes.
-- Assumes nothing.
use Rattle.std.specs.Prelude.{List, ℕ, take, drop}
use Rattle.std.proofs.lemmas.List.Edits.{sets}

-- the n bytes from place `at` on
unfoldable pub part : ℕ → ℕ → List ℕ → List ℕ
part at n s = take n (drop at s)

-- the bytes, put from place `at` on
unfoldable pub put : ℕ → List ℕ → List ℕ → List ℕ
put at bytes s = sets s at bytes
