-- How a number is written.
-- Assumes nothing.
use Rattle.std.specs.Prelude.{ℕ, ◌/◌, ◌%◌, List, [], ◌∷◌, true}
use Rattle.std.specs.Fmt.{digit_glyph}

-- a byte, in two hexadecimal digits
abbrev pub in_hex : ℕ → List ℕ
in_hex byte = digit_glyph true (byte / 16) ∷ digit_glyph true (byte % 16) ∷ []
