-- The kind of an instance byte: the table of paper 01, "Frames".
-- Assumes nothing.
use Rattle.std.specs.Prelude.{ℕ, Bool, ◌&&◌, leb, eqb, if◌then◌else◌}

abbrev within : ℕ → ℕ → ℕ → Bool
within first last b = leb first b && leb b last

-- 0x00-0x1F instance number, 0x80-0x9F instance group, 0xC0-0xDF instance type;
-- features at number 0x20-0x3F, group 0xA0-0xBF, type 0x60-0x7F;
-- 0xF9 feature broadcast, 0xFC device feature, 0xFD feature at instance broadcast,
-- 0xFE device, 0xFF instance broadcast;
-- 0: the other 59 are reserved
unfoldable pub kind_of : ℕ → ℕ
kind_of b =
    if within 0x00 0x1F b then 1
    else if within 0x80 0x9F b then 2
    else if within 0xC0 0xDF b then 3
    else if within 0x20 0x3F b then 4
    else if within 0xA0 0xBF b then 5
    else if within 0x60 0x7F b then 6
    else if eqb b 0xF9 then 7
    else if eqb b 0xFC then 8
    else if eqb b 0xFD then 9
    else if eqb b 0xFE then 10
    else if eqb b 0xFF then 11
    else 0
