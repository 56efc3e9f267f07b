-- The checksum of the words.
-- Assumes nothing.
use Rattle.std.specs.Prelude.{ℕ, ◌+◌, ◌*◌, ◌%◌}

-- the checksum h with one more word
unfoldable pub mixed : ℕ → ℕ → ℕ
mixed h word = (31 * h + word % 4294967291) % 4294967291
