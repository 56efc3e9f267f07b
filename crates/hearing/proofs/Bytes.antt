-- The bytes of a frame that is read as a command.
-- Assumes nothing.
use Rattle.std.proofs.Common.{◌≡◌, ℕ, ◌+◌, ◌*◌, ◌<◌, ◌&&◌, ltb, arith, ltb-true, Some, Ok}
use Rattle.laws.specs.Bits.{bits}
use Rattle.laws.proofs.Bits.{bits_is}
use Rattle.laws.proofs.Tests.{both}
use Rattle.frames.specs.Read.{target_of, read_of}
use Rattle.frames.specs.Write.{address_fits, address_byte, target_byte, bytes_frame}
use Rattle.frames.specs.declared.message.Address.{Address}
use Rattle.frames.specs.declared.message.Message.{Message}
use Rattle.frames.specs.declared.message.Target.{Target}
use Rattle.frames.proofs.Bytes.{address_forth, target_forth}
use Rattle.frames.proofs.Round.{writes_back, write_says}

module _ (f : ℕ) where
  three : (a i o : ℕ) → bytes_frame a i o ≡ f → a < 256 → i < 256 → o < 256 →
      (bits f 23 16 ≡ a) × (bits f 15 8 ≡ i) × (bits f 7 0 ≡ o)
  unfolding bytes_frame
  three a i o e ha hi ho = (
    bits_is f 23 16 0 a (i * 256 + o) (omega arith) (omega arith) (omega arith),
    bits_is f 15 8 a i o (omega arith) (omega arith) (omega arith),
    bits_is f 7 0 (a * 256 + i) o 0 (omega arith) (omega arith) (omega arith),
  )

  -- the instance byte, from which the target is read, and the opcode
  pub command_bytes : (a : Address) (t : Target) (o : ℕ) → read_of f ≡ Ok (Message.Command a t o) →
      (bits f 15 8 ≡ target_byte t) × (bits f 7 0 ≡ o) × (target_of (target_byte t) ≡ Some t)
  command_bytes a t o e =
      let w = write_says (Message.Command a t o) f (writes_back f _ e) in
      let p = both (ltb o 256) _ w.0 in
      let q = both (address_fits a) _ p.1 in
      let x = address_forth a q.0 in
      let y = target_forth t q.1 in
      let b = three (address_byte a) (target_byte t) o w.1 x.1 y.1 (ltb-true o 256 p.0) in
      (b.1, b.2, y.0)

  pub special_bytes : (n i o : ℕ) → read_of f ≡ Ok (Message.Special n i o) →
      (bits f 23 16 ≡ 0xC1 + 2 * n) × (bits f 15 8 ≡ i) × (bits f 7 0 ≡ o)
  special_bytes n i o e =
      let w = write_says (Message.Special n i o) f (writes_back f _ e) in
      let p = both (ltb i 256 && ltb o 256) _ w.0 in
      let q = both (ltb i 256) _ p.0 in
      let h : n < 16 = ltb-true n 16 p.1 in
      let b = three (0xC1 + n * 2) i o w.1 (omega arith) (ltb-true i 256 q.0) (ltb-true o 256 q.1) in
      (omega (arith, b.0), b.1, b.2)
