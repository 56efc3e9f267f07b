-- The address byte and the instance byte, there and back.
-- Assumes nothing.
use mathlib.Core.Path.{◌≡◌, refl, subst}
use mathlib.Core.Bool.{Bool, true, ◌&&◌}
use Prim.Native.Nat.{ℕ, ◌+◌, ◌*◌, ◌/◌, ◌%◌, ◌<◌}
use native.Mathlib.Omega.{arith}
use native.Mathlib.Nat.{zero-add}
use lib.Dec.{ltb, eqb, lit<}
use borrow.Author.Tests.{ltb-true, eqb-true, ne_eqb}
use Rattle.std.proofs.lemmas.Bool.{agree_below, agree_below_at}
use Rattle.std.specs.Prelude.{Option, Some, None, Result, Ok, Err}
use Rattle.laws.specs.Bits.{bits}
use Rattle.laws.proofs.Bits.{bits_is}
use Rattle.refusals.specs.declared.refusal.Refusal.{Refusal}
use Rattle.frames.specs.Kind.{kind_of}
use Rattle.frames.specs.Values.{target_number, target_at}
use Rattle.frames.specs.Read.{address_of, target_of}
use Rattle.frames.specs.Write.{address_fits, address_byte, target_byte}
use Rattle.frames.specs.declared.message.Address.{Address}
use Rattle.frames.specs.declared.message.Addressed.{Addressed}
use Rattle.frames.specs.declared.message.Target.{Target}

-- a test of the odd bytes that is computed, one byte after the other, holds of each
pub at_odd : (t : ℕ → Bool) → agree_below (λ n. t (n * 2 + 1)) (λ _. true) 128 ≡ true →
    (b : ℕ) → b < 256 → b % 2 ≡ 1 → t b ≡ true
at_odd t right b small odd =
    let e : b / 2 * 2 + 1 ≡ b = omega arith in
    subst (λ (n : ℕ). t n ≡ true) e (agree_below_at (λ n. t (n * 2 + 1)) (λ _. true) 128 (b / 2) right (omega arith))

-- what a byte was read as gives the byte back
abbrev pub address_back : ℕ → Result Addressed Refusal → Bool
address_back b (Ok (Addressed.To a)) = address_fits a && eqb (address_byte a) b
address_back b (Ok (Addressed.Special s)) = ltb s 16 && eqb (0xC1 + s * 2) b
address_back b (Err e) = true

pub address_back_lem : (b : ℕ) → b < 256 → b % 2 ≡ 1 → address_back b (address_of b) ≡ true
unfolding address_of bits
address_back_lem = at_odd (λ b. address_back b (address_of b)) refl

abbrev pub target_back : ℕ → Option Target → Bool
target_back b (Some t) = ltb (target_number t) 32 && eqb (target_byte t) b
target_back b None = true

pub target_back_lem : (b : ℕ) → b < 256 → target_back b (target_of b) ≡ true
unfolding target_of target_at kind_of
target_back_lem b h = agree_below_at (λ b. target_back b (target_of b)) (λ _. true) 256 b refl h

-- an address that fits is read from its byte, which is an odd byte
pub address_forth : (a : Address) → address_fits a ≡ true →
    (address_of (address_byte a) ≡ Ok (Addressed.To a)) × (address_byte a < 256) × (address_byte a % 2 ≡ 1)
unfolding address_of
address_forth (Address.Short n) f =
    let h : n < 64 = ltb-true n 64 f in
    let b : ℕ = n * 2 + 1 in (
      simp (
        bits_is b 7 7 0 0 b (omega arith) (omega arith) (omega arith),
        bits_is b 6 1 0 n 1 (omega arith) (omega arith) (omega arith),
      ),
      omega arith,
      omega arith,
    )
address_forth (Address.Group n) f =
    let h : n < 32 = ltb-true n 32 f in
    let b : ℕ = 0x81 + n * 2 in (
      simp (
        bits_is b 7 7 0 1 (n * 2 + 1) (omega arith) (omega arith) (omega arith),
        bits_is b 7 6 0 2 (n * 2 + 1) (omega arith) (omega arith) (omega arith),
        bits_is b 5 1 2 n 1 (omega arith) (omega arith) (omega arith),
      ),
      omega arith,
      omega arith,
    )
address_forth Address.Unaddressed f = (unfold bits in refl, omega arith, omega arith)
address_forth Address.Broadcast f = (unfold bits in refl, omega arith, omega arith)

-- a special command's number is read from its address byte
pub special_forth : (s : ℕ) → s < 16 → address_of (0xC1 + s * 2) ≡ Ok (Addressed.Special s)
unfolding address_of
special_forth s h =
    let b : ℕ = 0xC1 + s * 2 in
    simp (
      bits_is b 7 7 0 1 (s * 2 + 65) (omega arith) (omega arith) (omega arith),
      bits_is b 7 6 0 3 (s * 2 + 1) (omega arith) (omega arith) (omega arith),
      ne_eqb b 0xFD (omega arith),
      ne_eqb b 0xFF (omega arith),
      bits_is b 7 5 0 6 (s * 2 + 1) (omega arith) (omega arith) (omega arith),
      bits_is b 4 1 6 s 1 (omega arith) (omega arith) (omega arith),
    )

-- a target that fits is read from its byte
abbrev TargetForth : Target → ℕ → Type 0
TargetForth t b = (target_of b ≡ Some t) × (b < 256)

-- the bytes of a range of the table, from its first byte on: the kind is computed at each
range_forth : (t : ℕ → Target) (first kind : ℕ) → ((n : ℕ) → target_at kind n ≡ Some (t n)) →
    agree_below (λ n. eqb (kind_of (first + n)) kind) (λ _. true) 32 ≡ true → first % 32 ≡ 0 → first < 256 →
    (n : ℕ) → ltb n 32 ≡ true → TargetForth (t n) (first + n)
unfolding target_of
range_forth t first kind named right whole small n f =
    let h : n < 32 = ltb-true n 32 f in
    let e : (first + n) % 32 ≡ n = omega arith in (
      simp (
        eqb-true _ _ (agree_below_at (λ n. eqb (kind_of (first + n)) kind) (λ _. true) 32 n right h),
        e,
      ) (named n),
      omega arith,
    )

pub target_forth : (t : Target) → ltb (target_number t) 32 ≡ true → TargetForth t (target_byte t)
unfolding target_at kind_of target_of
target_forth (Target.InstanceNumber n) f =
    subst (TargetForth (Target.InstanceNumber n)) (zero-add n)
    (range_forth Target.InstanceNumber 0x00 1 (λ n. refl) refl refl (lit< tt) n f)
target_forth (Target.InstanceGroup n) f = range_forth Target.InstanceGroup 0x80 2 (λ n. refl) refl refl (lit< tt) n f
target_forth (Target.InstanceType n) f = range_forth Target.InstanceType 0xC0 3 (λ n. refl) refl refl (lit< tt) n f
target_forth (Target.FeatureAtNumber n) f = range_forth Target.FeatureAtNumber 0x20 4 (λ n. refl) refl refl
    (lit< tt) n f
target_forth (Target.FeatureAtGroup n) f = range_forth Target.FeatureAtGroup 0xA0 5 (λ n. refl) refl refl (lit< tt) n f
target_forth (Target.FeatureAtType n) f = range_forth Target.FeatureAtType 0x60 6 (λ n. refl) refl refl (lit< tt) n f
target_forth Target.FeatureBroadcast f = (refl, lit< tt)
target_forth Target.DeviceFeature f = (refl, lit< tt)
target_forth Target.FeatureAtInstanceBroadcast f = (refl, lit< tt)
target_forth Target.Device f = (refl, lit< tt)
target_forth Target.InstanceBroadcast f = (refl, lit< tt)
