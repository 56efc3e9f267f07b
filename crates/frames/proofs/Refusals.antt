-- Each number is given exactly if the paper's sentence says so.
-- Assumes nothing.
use mathlib.Core.Path.{◌≡◌, refl, ◌∙◌}
use mathlib.Core.Bool.{Bool, true, false, not, ◌&&◌}
use Prim.Native.Nat.{ℕ, ◌^◌, ◌+◌, ◌*◌, ◌%◌, ◌<◌}
use native.Mathlib.Omega.{arith}
use lib.Dec.{ltb, eqb, lit≤}
use borrow.Author.Tests.{lt-ltb, le-ltb, ne_eqb, eqb-true}
use Rattle.std.specs.Prelude.{Option, Some, None, Result, Ok, Err}
use Rattle.laws.specs.Bits.{bits, bit}
use Rattle.laws.specs.Numbers.{first_failing}
use Rattle.laws.proofs.Tests.{if_by, if_lt, if_eq, both, clash, denied}
use Rattle.laws.proofs.Bits.{cut, small}
use Rattle.std.proofs.lemmas.Bool.{agree_below_at}
use Rattle.refusals.specs.Numbers.{number_of, number_in}
use Rattle.refusals.specs.declared.refusal.Refusal.{Refusal}
use Rattle.frames.specs.Kind.{kind_of}
use Rattle.frames.specs.Values.{target_at}
use Rattle.frames.specs.Read.{special_form, address_of, target_of, aimed, addressed, command_of, scheme_of, field_of}
use Rattle.frames.specs.Read.{powered, power_of, other_of, schemed, event_of, read_of}
use Rattle.frames.specs.Write.{write_of, message_fits}
use Rattle.frames.specs.Refusals.{reserved_address, reserved_instance, not_blank, Reserved59}
use Rattle.frames.specs.Refusals.{reader_tests, ReaderNumbers, writer_tests, WriterNumbers, Reserved14}
use Rattle.frames.specs.declared.message.Address.{Address}
use Rattle.frames.specs.declared.message.Addressed.{Addressed}
use Rattle.frames.specs.declared.message.Message.{Message}
use Rattle.frames.specs.declared.message.Scheme.{Scheme}
use Rattle.frames.specs.declared.message.Target.{Target}
use Rattle.frames.proofs.Bytes.{at_odd}
use Rattle.frames.proofs.Round.{command_sum}

pub reserved_14 : Reserved14
unfolding reserved_address bits
reserved_14 = refl

pub reserved_59 : Reserved59
unfolding reserved_instance kind_of
reserved_59 = refl

-- what a byte was read as says whether it is reserved, and whether it is special
abbrev address_says : ℕ → Result Addressed Refusal → Bool
address_says b (Ok (Addressed.To x)) = not (reserved_address b) && not (special_form b)
address_says b (Ok (Addressed.Special s)) = not (reserved_address b) && special_form b
address_says b (Err e) = reserved_address b && eqb (number_of e) 2

address_says_lem : (b : ℕ) → b < 256 → b % 2 ≡ 1 → address_says b (address_of b) ≡ true
unfolding address_of reserved_address bits
address_says_lem = at_odd (λ b. address_says b (address_of b)) refl

abbrev target_says : ℕ → Option Target → Bool
target_says b (Some t) = not (reserved_instance b)
target_says b None = reserved_instance b

target_says_lem : (b : ℕ) → b < 256 → target_says b (target_of b) ≡ true
unfolding target_of target_at kind_of reserved_instance
target_says_lem b h = agree_below_at (λ b. target_says b (target_of b)) (λ _. true) 256 b refl h

-- the reader's number is that of the first test that fails
abbrev Says : ℕ → Result Message Refusal → Type 0
Says f r = number_in r ≡ first_failing (reader_tests f)

command_says : (f : ℕ) → f < 2 ^ 24 → bit f 16 ≡ 1 → Says f (command_of f)
unfolding command_of first_failing
command_says f frame one = go (address_of a) (address_says_lem a (small f 23 16) ((command_sum f frame).1 ∙ one))
  where
    a : ℕ
    a = bits f 23 16

    i : ℕ
    i = bits f 15 8

    o : ℕ
    o = bits f 7 0

    aim : (x : Address) → address_says a (Ok (Addressed.To x)) ≡ true →
        (t : Option Target) → target_says i t ≡ true → Says f (aimed x t o)
    aim x p (Some t) q =
        let r = both (not (reserved_address a)) _ p in
        simp (
          lt-ltb f 16777216 frame,
          one,
          denied (reserved_address a) r.0,
          denied (special_form a) r.1,
          denied (reserved_instance i) q,
        )
    aim x p None q =
        let r = both (not (reserved_address a)) _ p in
        simp (lt-ltb f 16777216 frame, one, denied (reserved_address a) r.0, denied (special_form a) r.1, q)

    go : (x : Result Addressed Refusal) → address_says a x ≡ true → Says f (addressed x i o)
    go (Ok (Addressed.To x)) p = aim x p (target_of i) (target_says_lem i (small f 15 8))
    go (Ok (Addressed.Special s)) p =
        let r = both (not (reserved_address a)) _ p in
        simp (lt-ltb f 16777216 frame, one, denied (reserved_address a) r.0, r.1)
    go (Err e) p =
        let r = both (reserved_address a) _ p in
        simp (lt-ltb f 16777216 frame, one, r.0, eqb-true (number_of e) 2 r.1)

-- a bit and its field
abbrev field_says : ℕ → ℕ → Result (Option ℕ) Refusal → Bool
field_says b v (Ok x) = not (not_blank b v)
field_says b v (Err e) = not_blank b v && eqb (number_of e) 5

field_says_lem : (b v : ℕ) → b < 2 → field_says b v (field_of b v) ≡ true
unfolding field_of
field_says_lem b v two =
    if_eq (λ x. field_says b v x ≡ true) b 1 (λ e. simp e)
    (λ n. let z : b ≡ 0 = omega arith in
    if_eq (λ x. field_says b v x ≡ true) v 0 (λ e. simp (z, e)) (λ m. simp (z, ne_eqb v 0 m)))

-- bits 23, 22 and 15 are 11 and 1
abbrev eleven_one : ℕ → Bool
eleven_one f = eqb (bits f 23 22) 3 && eqb (bit f 15) 1

abbrev power_bits : ℕ → Bool
power_bits f = eqb (bits f 23 17) 0x7F && eqb (bits f 15 13) 7

-- a power cycle has them so
power_eleven : (f : ℕ) → eleven_one f ≡ false → power_bits f ≡ false
power_eleven f none = go (power_bits f) refl
  where
    go : (t : Bool) → power_bits f ≡ t → t ≡ false
    go false e = refl
    go true e =
        let p = both (eqb (bits f 23 17) 0x7F) _ e in
        let h : bits f 23 17 ≡ 127 = eqb-true _ _ p.0 in
        let l : bits f 15 13 ≡ 7 = eqb-true _ _ p.1 in
        let b : bits f 23 22 ≡ 3 =
        omega (
          arith,
          cut f 23 17 (lit≤ tt),
          cut f 21 17 (lit≤ tt),
          cut f 23 22 (lit≤ tt),
          small f 21 17,
          small f 23 22,
        ) in
        let d : bit f 15 ≡ 1 =
        omega (
          arith,
          cut f 15 13 (lit≤ tt),
          cut f 14 13 (lit≤ tt),
          cut f 15 15 (lit≤ tt),
          small f 14 13,
          small f 15 15,
        ) in
        clash (eleven_one f) (simp (b, d)) none

abbrev scheme_says : ℕ → Option Scheme → Bool
scheme_says f (Some s) = not (eleven_one f)
scheme_says f None = eleven_one f

scheme_says_lem : (f : ℕ) → scheme_says f (scheme_of (bit f 23) (bit f 22) (bit f 15)) ≡ true
unfolding scheme_of
scheme_says_lem f =
    let two : bits f 23 22 ≡ 2 * bit f 23 + bit f 22 =
    omega (arith, cut f 23 22 (lit≤ tt), cut f 22 22 (lit≤ tt), cut f 23 23 (lit≤ tt)) in
    let b23 = small f 23 23 in
    let b22 = small f 22 22 in
    let b15 = small f 15 15 in
    if_eq P (bit f 23) 0
    (λ a. let n = ne_eqb (bits f 23 22) 3 (omega arith) in if_eq P (bit f 15) 0 (λ b. simp n) (λ b. simp n))
    (λ a. if_eq P (bit f 22) 0
    (λ c. let n = ne_eqb (bits f 23 22) 3 (omega arith) in if_eq P (bit f 15) 0 (λ b. simp n) (λ b. simp n))
    (λ c.
    let e : bits f 23 22 ≡ 3 = omega arith in
    if_eq P (bit f 15) 0 (λ b. simp (e, b)) (λ b. let d : bit f 15 ≡ 1 = omega arith in simp (e, d))))
  where
    P : Option Scheme → Type 0
    P x = scheme_says f x ≡ true

event_says : (f : ℕ) → f < 2 ^ 24 → (bit f 16 ≡ 1 → ⊥) → Says f (event_of f)
unfolding event_of other_of power_of first_failing
event_says f frame clear = go (scheme_of (bit f 23) (bit f 22) (bit f 15)) (scheme_says_lem f)
  where
    below : ltb f 16777216 ≡ true
    below = lt-ltb f 16777216 frame

    event : eqb (bit f 16) 1 ≡ false
    event = ne_eqb (bit f 16) 1 clear

    power : eleven_one f ≡ true → bits f 23 17 ≡ 0x7F → bits f 15 13 ≡ 7 → (x y : Result (Option ℕ) Refusal) →
        field_says (bit f 12) (bits f 11 7) x ≡ true → field_says (bit f 6) (bits f 5 0) y ≡ true → Says f (powered x y)
    power p h l (Err e) y q r =
        let s = both (not_blank (bit f 12) (bits f 11 7)) _ q in
        simp (below, event, p, h, l, s.0, eqb-true (number_of e) 5 s.1)
    power p h l (Ok x) (Err e) q r =
        let s = both (not_blank (bit f 6) (bits f 5 0)) _ r in
        simp (
          below,
          event,
          p,
          h,
          l,
          denied (not_blank (bit f 12) (bits f 11 7)) q,
          s.0,
          eqb-true (number_of e) 5 s.1,
        )
    power p h l (Ok x) (Ok y) q r = simp (
      below,
      event,
      p,
      h,
      l,
      denied (not_blank (bit f 12) (bits f 11 7)) q,
      denied (not_blank (bit f 6) (bits f 5 0)) r,
    )

    go : (x : Option Scheme) → scheme_says f x ≡ true → Says f (schemed x f)
    go (Some s) p = simp (below, event, power_eleven f (denied (eleven_one f) p), denied (eleven_one f) p)
    go None p =
        if_eq (Says f) (bits f 23 17) 0x7F
        (λ h. if_eq (Says f) (bits f 15 13) 7
        (λ l. power p h l (field_of (bit f 12) (bits f 11 7)) (field_of (bit f 6) (bits f 5 0))
        (field_says_lem _ _ (small f 12 12)) (field_says_lem _ _ (small f 6 6)))
        (λ l. simp (below, event, p, h, ne_eqb (bits f 15 13) 7 l)))
        (λ h. simp (below, event, p, ne_eqb (bits f 23 17) 0x7F h))

pub reader_numbers : ReaderNumbers
unfolding read_of
reader_numbers f =
    if_lt (Says f) f _
    (λ frame. if_eq (Says f) (bit f 16) 1 (command_says f (omega arith)) (event_says f (omega arith)))
    (λ large. unfold first_failing in simp (le-ltb f 16777216 (omega arith)))

pub writer_numbers : WriterNumbers
unfolding write_of first_failing
writer_numbers m =
    if_by (λ (w : Result ℕ Refusal). number_in w ≡ first_failing (writer_tests m)) (message_fits m) (λ e. simp e) (λ e. simp e)
