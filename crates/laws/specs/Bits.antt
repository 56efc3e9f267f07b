-- The bits of a number.
-- Assumes nothing.
use Rattle.std.specs.Prelude.{ℕ, ◌+◌, ◌-◌, ◌^◌, ◌/◌, ◌%◌}

-- bits hi..lo of f, as a number: `bits f 22 17` is bits 22..17
unfoldable pub bits : ℕ → ℕ → ℕ → ℕ
bits f hi lo = f / 2 ^ lo % 2 ^ (hi + 1 - lo)

-- bit k of f: 0 or 1
abbrev pub bit : ℕ → ℕ → ℕ
bit f k = bits f k k
