-- A state comes back from its bytes, and 96 bytes that are a state's come back from that state.
-- Assumes nothing.
use Prim.Native.Nat.{ℕ, zero, suc, ◌+◌, ◌-◌, ◌/◌, ◌%◌, ◌^◌, ◌≤◌, ◌<◌}
use mathlib.Core.Path.{◌≡◌, refl, sym, ap, ◌∙◌}
use mathlib.Core.Bool.{Bool, true, false, ◌&&◌}
use mathlib.Core.List.{List, [], ◌∷◌, ◌++◌}
use native.Mathlib.Omega.{arith}
use lib.Dec.{leb, eqb}
use borrow.Author.Tests.{leb-true}
use lib.ListN.{length, take, drop, replicate, length-drop, take-append-drop}
use Rattle.laws.specs.Bits.{bits}
use Rattle.laws.specs.Lists.{items, every}
use Rattle.laws.specs.Parts.{part}
use Rattle.laws.proofs.Tests.{both}
use Rattle.laws.proofs.Bits.{above_all, above_none, cut}
use Rattle.rooms.specs.State.{with_who, with_registers, with_waiting, with_door, with_latch}
use Rattle.entries.specs.Entry.{four_bytes}
use Rattle.packing.specs.StateBytes.{flag, four_of, used, state_bytes, four_at, state_of, shape_holds}
use Rattle.packing.specs.Promises.{StateBack, Bytes, BytesBack}
use Rattle.packing.proofs.Spelled.{at, part_items, spelled, zeros_are}

-- a number is its four bytes
four_back : (n : ℕ) → n < 2 ^ 32 → four_bytes (bits n 31 24) (bits n 23 16) (bits n 15 8) (bits n 7 0) ≡ n
four_back n h =
    omega (
      arith,
      above_all n,
      cut n 7 0 (omega arith),
      cut n 15 8 (omega arith),
      cut n 23 16 (omega arith),
      cut n 31 24 (omega arith),
      above_none n 32 h,
    )

flag_back : (b : Bool) → eqb (flag b) 1 ≡ b
flag_back true = refl
flag_back false = refl

flag_low : (b : Bool) → leb (flag b) 1 ≡ true
flag_low true = refl
flag_low false = refl

pub state_back : StateBack
unfolding state_bytes four_of state_of with_who with_registers with_waiting with_door with_latch four_at shape_holds part
state_back s h =
    rw (
      spelled 8 s.door.staged.bytes h.staged,
      spelled 8 s.latch.bytes h.latched,
      four_back s.who.groups h.groups,
      four_back s.waiting.frame h.frame,
      four_back s.waiting.clock h.clock,
      flag_back s.waiting.held,
      flag_back s.door.enabled,
      flag_back s.latch.held,
      flag_low s.waiting.held,
      flag_low s.door.enabled,
      flag_low s.latch.held,
    )
    (refl, refl)

-- four bytes are those of their number
bytes_back_four : (a b c d : ℕ) → a < 256 → b < 256 → c < 256 → d < 256 →
    four_of (four_bytes a b c d) ≡ a ∷ b ∷ c ∷ d ∷ []
unfolding four_of bits
bytes_back_four a b c d p q r s = rw (e₁, e₂, e₃, e₄)
  where
    e₁ : four_bytes a b c d / 2 ^ 24 % 2 ^ 8 ≡ a
    e₁ = omega arith

    e₂ : four_bytes a b c d / 2 ^ 16 % 2 ^ 8 ≡ b
    e₂ = omega arith

    e₃ : four_bytes a b c d / 2 ^ 8 % 2 ^ 8 ≡ c
    e₃ = omega arith

    e₄ : four_bytes a b c d / 2 ^ 0 % 2 ^ 8 ≡ d
    e₄ = omega arith

flag_of : (x : ℕ) → x ≤ 1 → flag (eqb x 1) ≡ x
flag_of zero h = refl
flag_of (suc zero) h = refl
flag_of (suc (suc x)) h = absurd (omega arith)

module _ (b : List ℕ) (h : Bytes b) (t : shape_holds b ≡ true) where
  four_of_lem : (i : ℕ) → four_of (four_at b i) ≡ at b i ∷ at b (i + 1) ∷ at b (i + 2) ∷ at b (i + 3) ∷ []
  unfolding four_at
  four_of_lem i = bytes_back_four _ _ _ _ (h.small i) (h.small (i + 1)) (h.small (i + 2)) (h.small (i + 3))

  shape : (at b 8 ≤ 1) × (at b 17 ≤ 1) × (at b 29 ≤ 1) × (every (λ x. eqb x 0) (drop used b) ≡ true)
  unfolding shape_holds
  shape =
      let p = both (leb (at b 8) 1 && leb (at b 17) 1 && leb (at b 29) 1) _ t in
      let q = both (leb (at b 8) 1 && leb (at b 17) 1) _ p.0 in
      let r = both (leb (at b 8) 1) _ q.0 in
      (leb-true _ 1 r.0, leb-true _ 1 r.1, leb-true _ 1 q.1, p.1)

  rooms : state_bytes (state_of b) ≡ items (at b) 0 used ++ replicate (96 - used) 0
  unfolding state_bytes state_of with_who with_registers with_waiting with_door with_latch
  rooms =
      let l = h.long in
      rw (
        part_items 8 21 b (omega arith),
        part_items 8 32 b (omega arith),
        four_of_lem 1,
        four_of_lem 9,
        four_of_lem 13,
        flag_of (at b 8) shape.0,
        flag_of (at b 17) shape.1,
        flag_of (at b 29) shape.2,
      )

  behind : drop used b ≡ replicate (96 - used) 0
  behind =
      let rest : length (drop used b) ≡ 96 - used = omega (arith, length-drop used b, h.long) in
      zeros_are (drop used b) shape.3 ∙ ap (λ (n : ℕ). replicate n 0) rest

  pub back : state_bytes (state_of b) ≡ b
  unfolding part
  back =
      let l = h.long in
      rooms
      ∙ ap (λ (r : List ℕ). r ++ replicate (96 - used) 0) (sym (part_items used 0 b (omega arith)))
      ∙ ap (λ (r : List ℕ). take used b ++ r) (sym behind)
      ∙ take-append-drop used b

pub bytes_back : BytesBack
bytes_back b h t = back b h t
