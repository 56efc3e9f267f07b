-- The bytes of a state, put one room after the other.
-- Assumes nothing.
use Prim.Native.Nat.{ℕ}
use mathlib.Core.Path.{◌≡◌, ◌∙◌}
use mathlib.Core.List.{List}
use lib.ListN.{length, set, replicate}
use Rattle.std.specs.Int.{w32, to_be_bytes}
use Rattle.laws.specs.Parts.{put}
use Rattle.rooms.specs.declared.state.State.{State}
use Rattle.packing.specs.StateBytes.{flag, four_of, state_bytes}
use Rattle.packing.proofs.Spelled.{spelled, four_is}

pub packed : (s : State) (waits opens holds : ℕ) (groups frame clock a b c d e : List ℕ) →
    waits ≡ flag s.waiting.held →
    opens ≡ flag s.door.enabled →
    holds ≡ flag s.latch.held →
    groups ≡ to_be_bytes w32 s.who.groups →
    frame ≡ to_be_bytes w32 s.waiting.frame →
    clock ≡ to_be_bytes w32 s.waiting.clock →
    (length s.door.staged.bytes ≡ 8) × (length s.latch.bytes ≡ 8) →
    a ≡ put 1 groups (set (replicate 96 0) 0 s.who.address) →
    b ≡ put 9 frame (set (set (set (set a 5 s.registers.dtr0) 6 s.registers.dtr1) 7 s.registers.dtr2) 8 waits) →
    c ≡ put 13 clock b →
    d ≡ put 21 s.door.staged.bytes
    (set (set (set (set c 17 opens) 18 s.door.staged.count) 19 s.door.staged.bank) 20 s.door.staged.first) →
    e ≡ put 32 s.latch.bytes (set (set (set d 29 holds) 30 s.latch.bank) 31 s.latch.first) →
    e ≡ state_bytes s
unfolding put four_of state_bytes
packed s waits opens holds groups frame clock a b c d e w o h g f k long e₁ e₉ e₁₃ e₂₁ e₃₂ =
    e₃₂
    ∙ rw (
      e₂₁,
      e₁₃,
      e₉,
      e₁,
      w,
      o,
      h,
      g ∙ four_is s.who.groups,
      f ∙ four_is s.waiting.frame,
      k ∙ four_is s.waiting.clock,
      spelled 8 s.door.staged.bytes long.0,
      spelled 8 s.latch.bytes long.1,
    )
