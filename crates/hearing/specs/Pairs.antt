-- The pair rule. Paper 01, "State and clock".
-- Assumes nothing.
use Rattle.std.specs.Prelude.{ℕ, ◌+◌, ◌-◌, ◌%◌, ◌^◌, Bool, true, false, ◌&&◌, ◌==◌, nat_le}
use Rattle.hearing.specs.declared.heard.Heard.{Heard}
use Rattle.hearing.specs.declared.heard.Waiting.{Waiting}

-- a frame, heard at this clock
abbrev pub heard_at : (clock frame : ℕ) → Heard
heard_at clock frame = record { clock = clock; frame = frame }

-- the clock counts milliseconds in 32 bits and runs over: second minus first, modulo 4,294,967,296
unfoldable pub passed : (first second : ℕ) → ℕ
passed first second = (second + 2 ^ 32 - first) % 2 ^ 32

-- two frames, each with its clock, are a pair if equal and second minus first, modulo 4,294,967,296, is at most 100
unfoldable pub in_time : (frame clock again later : ℕ) → Bool
in_time frame clock again later = frame == again && nat_le (passed clock later) 100

-- the frame that waits was heard in direct succession
unfoldable pub completes : Waiting → Heard → Bool
completes waiting heard =
    waiting.held && in_time waiting.frame waiting.clock heard.frame heard.clock

-- none waits, and whatever is not in use is zero
abbrev pub none_waits : Waiting
none_waits = record { held = false; frame = 0; clock = 0 }

abbrev pub waits_for : Heard → Waiting
waits_for heard = record { held = true; frame = heard.frame; clock = heard.clock }
