-- A census with room for one more: what fits, and what a frame more makes of it.
-- Assumes nothing.
use Rattle.std.proofs.Common.{◌≡◌, ℕ, zero, suc, ◌+◌, ◌^◌, ◌<◌, ◌≤◌, Bool, true, false, List, [], ◌∷◌, length, get_or, arith}
use mir.Val.{bool_byte}
use Rattle.frames.specs.Read.{read_of}
use Rattle.census.specs.Class.{class_of, numbered, frame_class}
use Rattle.census.specs.Census.{sum, HasRoom, one_more, with_frame}
use Rattle.census.specs.declared.counts.Census.{Census}

-- no number of a list is more than all of them
pub one_of_sum : (ns : List ℕ) (k : ℕ) → get_or ns k 0 ≤ sum ns
one_of_sum [] k = omega arith
one_of_sum (n ∷ ns) zero = omega arith
one_of_sum (n ∷ ns) (suc k) = let less = one_of_sum ns k in omega arith

-- a count fits with one more
pub one_fits : (ns : List ℕ) → sum ns < 2 ^ 61 → (k : ℕ) (b : Bool) → get_or ns k 0 + bool_byte b < 2 ^ 64
one_fits ns room k true = let less = one_of_sum ns k in omega arith
one_fits ns room k false = let less = one_of_sum ns k in omega arith

pub counts_fit : (c : Census) → HasRoom c → (length c.counts ≡ 15) × (sum c.counts < 2 ^ 61)
counts_fit c room = let some = room.1 in (room.0, omega arith)

-- a frame, by its class
pub in_class : (c : Census) (frame class : ℕ) (counts : List ℕ) → class ≡ class_of (numbered (read_of frame))
    → counts ≡ one_more class c.counts
    → record { counts = counts; power_ons = c.power_ons; end = c.end } ≡ with_frame c frame
unfolding frame_class
in_class c frame class counts e more = rw (more, e)
