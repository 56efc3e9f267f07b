-- Worked cases: the places of a state's 96 bytes, and which bytes are a state's.
-- Assumes nothing.
use Rattle.std.specs.Prelude.{ℕ, ◌≡◌, Bool, true, false, List, [], ◌∷◌, set, replicate}
use Rattle.rooms.specs.declared.state.State.{State}
use Rattle.packing.specs.StateBytes.{state_bytes, state_of, shape_holds}

-- each byte of a state in its place: byte number n is n, and each flag is 1
abbrev table_bytes : List ℕ
table_bytes =
    0 ∷ 1 ∷ 2 ∷ 3 ∷ 4 ∷ 5 ∷ 6 ∷ 7 ∷ 1 ∷ 9 ∷ 10 ∷ 11 ∷ 12 ∷ 13 ∷ 14 ∷ 15 ∷ 16 ∷ 1 ∷ 18 ∷ 19 ∷ 20
    ∷ 21 ∷ 22 ∷ 23 ∷ 24 ∷ 25 ∷ 26 ∷ 27 ∷ 28 ∷ 1 ∷ 30 ∷ 31 ∷ 32 ∷ 33 ∷ 34 ∷ 35 ∷ 36 ∷ 37 ∷ 38 ∷ 39 ∷ replicate 56 0

abbrev table_state : State
table_state =
    record {
      who = record { address = 0; groups = 0x01020304 };
      registers = record { dtr0 = 5; dtr1 = 6; dtr2 = 7 };
      waiting = record { held = true; frame = 0x090A0B0C; clock = 0x0D0E0F10 };
      door =
          record {
            enabled = true;
            staged =
                record {
                  count = 18;
                  bank = 19;
                  first = 20;
                  bytes = 21 ∷ 22 ∷ 23 ∷ 24 ∷ 25 ∷ 26 ∷ 27 ∷ 28 ∷ [];
                };
          };
      latch =
          record {
            held = true;
            bank = 30;
            first = 31;
            bytes = 32 ∷ 33 ∷ 34 ∷ 35 ∷ 36 ∷ 37 ∷ 38 ∷ 39 ∷ [];
          };
    }

-- 96 zeros with another byte at one place
abbrev holds_with : ℕ → ℕ → Bool
holds_with place byte = shape_holds (set (replicate 96 0) place byte)

pub record Cases : Type 0 where
  -- the places of the state's bytes
  pub places : (state_bytes table_state ≡ table_bytes) × (state_of table_bytes ≡ table_state)
  -- no flag over 1
  pub flags : (holds_with 8 1 ≡ true) × (holds_with 8 2 ≡ false) × (holds_with 17 1 ≡ true) × (holds_with 17 2 ≡ false)
      × (holds_with 29 1 ≡ true) × (holds_with 29 2 ≡ false)
  -- any other byte up to 39, and none from 40 on that is not zero
  pub behind : (holds_with 39 1 ≡ true) × (holds_with 40 1 ≡ false) × (holds_with 95 1 ≡ false)
