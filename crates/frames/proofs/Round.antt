-- The round trips, both ways, for every number and every message.
-- Assumes nothing.
use mathlib.Core.Path.{◌≡◌, refl, ◌∙◌, sym, ap, subst}
use mathlib.Core.Bool.{Bool, true, false, ◌&&◌}
use Prim.Native.Nat.{ℕ, ◌+◌, ◌-◌, ◌*◌, ◌^◌, ◌%◌, ◌/◌, ◌<◌}
use native.Mathlib.Omega.{arith}
use lib.Dec.{ltb, lit≤, lit<}
use borrow.Author.Tests.{lt-ltb, ltb-true, eqb-true}
use Rattle.std.specs.Prelude.{if◌then◌else◌, Option, Some, None, Result, Ok, Err}
use Rattle.laws.specs.Bits.{bits, bit}
use Rattle.laws.proofs.Tests.{if_by, if_lt, if_eq, both}
use Rattle.laws.proofs.Bits.{above_all, above_none, cut, small, bits_is}
use Rattle.refusals.specs.Numbers.{number_of}
use Rattle.refusals.specs.declared.refusal.Refusal.{Refusal}
use Rattle.refusals.specs.declared.refusal.Refusal.TheVariants.{OutOfRange}
use Rattle.refusals.proofs.Told.{numbers_in_range}
use Rattle.frames.specs.Values.{target_number, field_present, field_value, writing_word, WritingFits}
use Rattle.frames.specs.Read.{address_of, target_of, aimed, addressed, command_of, scheme_of, first_field, field_of}
use Rattle.frames.specs.Read.{powered, power_of, other_of, schemed, event_of, read_of}
use Rattle.frames.specs.Write.{address_fits, address_byte, target_byte, scheme_bits, scheme_limit, event_fits}
use Rattle.frames.specs.Write.{message_fits, bytes_frame, event_frame, power_frame, frame_of, write_of}
use Rattle.frames.specs.Promises.{WritesBack, ReadsBack, OneMessage, WritingsFit, LowByte}
use Rattle.frames.specs.declared.message.Address.{Address}
use Rattle.frames.specs.declared.message.Addressed.{Addressed}
use Rattle.frames.specs.declared.message.Message.{Message}
use Rattle.frames.specs.declared.message.Scheme.{Scheme}
use Rattle.frames.specs.declared.message.Target.{Target}
use Rattle.frames.proofs.Bytes.{address_back, address_back_lem, target_back, target_back_lem, address_forth}
use Rattle.frames.proofs.Bytes.{special_forth, target_forth}

-- a frame as the sum of its fields: a command, an event, a power event
module _ (f : ℕ) (frame : f < 2 ^ 24) where
  pub command_sum : (f ≡ bits f 7 0 + 256 * bits f 15 8 + 65536 * bits f 23 16) × (bits f 23 16 % 2 ≡ bit f 16)
  command_sum =
      let all = above_all f in
      let none = above_none f 24 frame in
      let o = cut f 7 0 (lit≤ tt) in
      let i = cut f 15 8 (lit≤ tt) in
      let a = cut f 23 16 (lit≤ tt) in
      let b = cut f 16 16 (lit≤ tt) in
      let t = cut f 23 17 (lit≤ tt) in
      (omega arith, omega (arith, small f 16 16))

  event_sum : f ≡ bits f 9 0 + 1024 * bits f 14 10 + 32768 * bit f 15 + 65536 * bit f 16
      + 131072 * bits f 21 17 + 4194304 * bit f 22 + 8388608 * bit f 23
  event_sum =
      omega (
        arith,
        above_all f,
        above_none f 24 frame,
        cut f 9 0 (lit≤ tt),
        cut f 14 10 (lit≤ tt),
        cut f 15 15 (lit≤ tt),
        cut f 16 16 (lit≤ tt),
        cut f 21 17 (lit≤ tt),
        cut f 22 22 (lit≤ tt),
        cut f 23 23 (lit≤ tt),
      )

  -- a field of six bits is one of five and a bit
  six : bits f 22 17 ≡ bits f 21 17 + 32 * bit f 22
  six = omega (arith, cut f 22 17 (lit≤ tt), cut f 21 17 (lit≤ tt), cut f 22 22 (lit≤ tt))

  power_sum : f ≡ bits f 5 0 + 64 * bit f 6 + 128 * bits f 11 7 + 4096 * bit f 12
      + 8192 * bits f 15 13 + 65536 * bit f 16 + 131072 * bits f 23 17
  power_sum =
      omega (
        arith,
        above_all f,
        above_none f 24 frame,
        cut f 5 0 (lit≤ tt),
        cut f 6 6 (lit≤ tt),
        cut f 11 7 (lit≤ tt),
        cut f 12 12 (lit≤ tt),
        cut f 15 13 (lit≤ tt),
        cut f 16 16 (lit≤ tt),
        cut f 23 17 (lit≤ tt),
      )

-- what was read writes back
abbrev Back : ℕ → Result Message Refusal → Type 0
Back f (Ok m) = write_of m ≡ Ok f
Back f (Err e) = Unit {0}

pub written : (m : Message) (f : ℕ) → message_fits m ≡ true → frame_of m ≡ f → write_of m ≡ Ok f
unfolding write_of
written m f p q = simp (p, q)

command_back : (f : ℕ) → f < 2 ^ 24 → bit f 16 ≡ 1 → Back f (command_of f)
unfolding command_of bytes_frame
command_back f frame odd = go (address_of a) (address_back_lem a (small f 23 16) ((command_sum f frame).1 ∙ odd))
  where
    a : ℕ
    a = bits f 23 16

    i : ℕ
    i = bits f 15 8

    o : ℕ
    o = bits f 7 0

    sum : f ≡ o + 256 * i + 65536 * a
    sum = (command_sum f frame).0

    aim : (x : Address) → address_back a (Ok (Addressed.To x)) ≡ true →
        (t : Option Target) → target_back i t ≡ true → Back f (aimed x t o)
    aim x p None q = tt
    aim x p (Some t) q =
        let pa = both (address_fits x) _ p in
        let ea : address_byte x ≡ a = eqb-true _ _ pa.1 in
        let pt = both (ltb (target_number t) 32) _ q in
        let et : target_byte t ≡ i = eqb-true _ _ pt.1 in
        written (Message.Command x t o) f (simp (
          lt-ltb o 256 (small f 7 0),
          pa.0,
          pt.0,
        )) (simp (ea, et) (omega (arith, sum)))

    go : (x : Result Addressed Refusal) → address_back a x ≡ true → Back f (addressed x i o)
    go (Err e) p = tt
    go (Ok (Addressed.Special s)) p =
        let q = both (ltb s 16) _ p in
        let e : 0xC1 + s * 2 ≡ a = eqb-true _ _ q.1 in
        written (Message.Special s i o) f (simp (
          lt-ltb i 256 (small f 15 8),
          lt-ltb o 256 (small f 7 0),
          q.0,
        )) (simp e (omega (arith, sum)))
    go (Ok (Addressed.To x)) p = aim x p (target_of i) (target_back_lem i (small f 15 8))

-- a bit and its field
abbrev FieldBack : ℕ → ℕ → Result (Option ℕ) Refusal → Type 0
FieldBack b v (Ok x) = (field_present x ≡ b) × (field_value x ≡ v)
FieldBack b v (Err e) = Unit {0}

field_back : (b v : ℕ) → b < 2 → FieldBack b v (field_of b v)
unfolding field_of
field_back b v two =
    if_eq (FieldBack b v) b 1 (λ e. (sym e, refl)) (λ n. if_eq (FieldBack b v) v 0 (λ e. (omega arith, sym e))
    (λ n. tt))

power_back : (f : ℕ) → f < 2 ^ 24 → bit f 16 ≡ 0 → bits f 23 17 ≡ 0x7F → bits f 15 13 ≡ 7 → Back f (power_of f)
unfolding power_of power_frame
power_back f frame even high low =
    go (field_of (bit f 12) (bits f 11 7)) (field_of (bit f 6) (bits f 5 0))
    (field_back _ _ (small f 12 12)) (field_back _ _ (small f 6 6))
  where
    go : (x y : Result (Option ℕ) Refusal) → FieldBack (bit f 12) (bits f 11 7) x → FieldBack (bit f 6) (bits f 5 0) y
        → Back f (powered x y)
    go (Err e) y p q = tt
    go (Ok x) (Err e) p q = tt
    go (Ok x) (Ok y) p q =
        written (Message.Power x y) f
        (simp (p.1, q.1, lt-ltb (bits f 11 7) 32 (small f 11 7), lt-ltb (bits f 5 0) 64 (small f 5 0)))
        (simp (p.0, p.1, q.0, q.1) (omega (arith, power_sum f frame)))

-- what bits 23, 22 and 15 were read as: the scheme's bits, and its first field
abbrev SchemeBack : ℕ → Option Scheme → Type 0
SchemeBack f (Some s) =
    (first_field s f < scheme_limit s)
    × (scheme_bits s + 131072 * first_field s f
    ≡ 32768 * bit f 15 + 131072 * bits f 21 17 + 4194304 * bit f 22 + 8388608 * bit f 23)
SchemeBack f None = Unit {0}

scheme_back : (f : ℕ) → f < 2 ^ 24 → SchemeBack f (scheme_of (bit f 23) (bit f 22) (bit f 15))
unfolding scheme_of
scheme_back f frame =
    let e = six f frame in
    let b23 = small f 23 23 in
    let b22 = small f 22 22 in
    let b15 = small f 15 15 in
    if_eq (SchemeBack f) (bit f 23) 0
    (λ a. if_eq (SchemeBack f) (bit f 15) 0 (λ b. (small f 22 17, omega arith)) (λ b. (small f 22 17, omega arith)))
    (λ a. if_eq (SchemeBack f) (bit f 22) 0
    (λ c. if_eq (SchemeBack f) (bit f 15) 0 (λ b. (small f 21 17, omega arith)) (λ b. (small f 21 17, omega arith)))
    (λ c. if_eq (SchemeBack f) (bit f 15) 0 (λ b. (small f 21 17, omega arith)) (λ b. tt)))

event_back : (f : ℕ) → f < 2 ^ 24 → bit f 16 ≡ 0 → Back f (event_of f)
unfolding event_of other_of event_fits event_frame
event_back f frame even = go (scheme_of (bit f 23) (bit f 22) (bit f 15)) (scheme_back f frame)
  where
    go : (x : Option Scheme) → SchemeBack f x → Back f (schemed x f)
    go None p =
        if_eq (Back f) (bits f 23 17) 0x7F
        (λ h. if_eq (Back f) (bits f 15 13) 7 (λ l. power_back f frame even h l) (λ l. tt))
        (λ h. tt)
    go (Some s) p =
        written (Message.Event s (first_field s f) (bits f 14 10) (bits f 9 0)) f
        (simp (
          lt-ltb (first_field s f) (scheme_limit s) p.0,
          lt-ltb (bits f 14 10) 32 (small f 14 10),
          lt-ltb (bits f 9 0) 1024 (small f 9 0),
        ))
        (omega (arith, p.1, event_sum f frame))

read_back : (f : ℕ) → Back f (read_of f)
unfolding read_of
read_back f =
    if_lt (Back f) f _
    (λ h. let frame : f < 2 ^ 24 = omega arith in
    if_eq (Back f) (bit f 16) 1 (command_back f frame) (λ n. event_back f frame (omega (arith, small f 16 16))))
    (λ l. tt)

pub writes_back : WritesBack
writes_back f m e = subst (Back f) e (read_back f)

-- reading a frame that is given as a sum: a command
command_read : (f a i o : ℕ) → f ≡ bytes_frame a i o → a < 256 → a % 2 ≡ 1 → i < 256 → o < 256 →
    read_of f ≡ addressed (address_of a) i o
unfolding read_of command_of bytes_frame
command_read f a i o e ha odd hi ho =
    simp (
      lt-ltb f 16777216 (omega arith),
      bits_is f 16 16 (a / 2) 1 (i * 256 + o) (omega arith) (omega arith) (omega arith),
      bits_is f 23 16 0 a (i * 256 + o) (omega arith) (omega arith) (omega arith),
      bits_is f 15 8 a i o (omega arith) (omega arith) (omega arith),
      bits_is f 7 0 (a * 256 + i) o 0 (omega arith) (omega arith) (omega arith),
    )

-- an event: bits 23 and 22 are a and b, bits 21..17 hold g, bit 15 is d
module _ (f rest : ℕ) (tail : rest < 32768) where
  tops : (a b g d : ℕ) → a < 2 → b < 2 → g < 32 → d < 2 →
      f ≡ a * 8388608 + b * 4194304 + g * 131072 + d * 32768 + rest →
      (scheme_of (bit f 23) (bit f 22) (bit f 15) ≡ scheme_of a b d)
      × (bits f 22 17 ≡ b * 32 + g)
      × (bits f 21 17 ≡ g)
      × (bit f 16 ≡ 0)
  tops a b g d ha hb hg hd e = (
    simp (
      bits_is f 23 23 0 a (b * 4194304 + g * 131072 + d * 32768 + rest) (omega arith) (omega arith) (omega arith),
      bits_is f 22 22 a b (g * 131072 + d * 32768 + rest) (omega arith) (omega arith) (omega arith),
      bits_is f 15 15 (a * 128 + b * 64 + g * 2) d rest (omega arith) (omega arith) (omega arith),
    ),
    bits_is f 22 17 a (b * 32 + g) (d * 32768 + rest) (omega arith) (omega arith) (omega arith),
    bits_is f 21 17 (a * 2 + b) g (d * 32768 + rest) (omega arith) (omega arith) (omega arith),
    bits_is f 16 16 (a * 64 + b * 32 + g) 0 (d * 32768 + rest) (omega arith) (omega arith) (omega arith),
  )

  -- a scheme is read from its bits, and its first field from its place
  scheme_forth : (s : Scheme) (x : ℕ) → x < scheme_limit s → f ≡ scheme_bits s + x * 131072 + rest →
      (scheme_of (bit f 23) (bit f 22) (bit f 15) ≡ Some s) × (first_field s f ≡ x) × (bit f 16 ≡ 0)
  unfolding scheme_of
  scheme_forth Scheme.TypeNumber x h e =
      let t = tops 1 0 x 1 (omega arith) (omega arith) h (omega arith) (omega arith) in (t.0, t.2, t.3)
  scheme_forth Scheme.ShortType x h e =
      let t = tops 0 (x / 32) (x % 32) 0 (omega arith) (omega arith) (omega arith) (omega arith) (omega arith) in
      (t.0, t.1 ∙ omega arith, t.3)
  scheme_forth Scheme.ShortNumber x h e =
      let t = tops 0 (x / 32) (x % 32) 1 (omega arith) (omega arith) (omega arith) (omega arith) (omega arith) in
      (t.0, t.1 ∙ omega arith, t.3)
  scheme_forth Scheme.GroupType x h e =
      let t = tops 1 0 x 0 (omega arith) (omega arith) h (omega arith) (omega arith) in (t.0, t.2, t.3)
  scheme_forth Scheme.PrimaryType x h e =
      let t = tops 1 1 x 0 (omega arith) (omega arith) h (omega arith) (omega arith) in (t.0, t.2, t.3)

-- what stands from bit 15 on, as a number z
scheme_top : (s : Scheme) (x : ℕ) → x < scheme_limit s → (z : ℕ) × (scheme_bits s + x * 131072 ≡ z * 32768) × (z < 512)
scheme_top Scheme.TypeNumber x h = (257 + x * 4, omega arith, omega arith)
scheme_top Scheme.ShortType x h = (x * 4, omega arith, omega arith)
scheme_top Scheme.ShortNumber x h = (1 + x * 4, omega arith, omega arith)
scheme_top Scheme.GroupType x h = (256 + x * 4, omega arith, omega arith)
scheme_top Scheme.PrimaryType x h = (384 + x * 4, omega arith, omega arith)

event_read : (s : Scheme) (x y i : ℕ) → event_fits s x y i ≡ true →
    read_of (event_frame (scheme_bits s) x y i) ≡ Ok (Message.Event s x y i)
unfolding read_of event_of event_fits event_frame
event_read s x y i fits =
    let p = both (ltb x (scheme_limit s)) _ fits in
    let q = both (ltb y 32) _ p.1 in
    let hx : x < scheme_limit s = ltb-true _ _ p.0 in
    let hy : y < 32 = ltb-true _ _ q.0 in
    let hi : i < 1024 = ltb-true _ _ q.1 in
    let f : ℕ = scheme_bits s + x * 131072 + y * 1024 + i in
    let t = scheme_forth f (y * 1024 + i) (omega arith) s x hx (omega arith) in
    let z = scheme_top s x hx in
    simp (
      lt-ltb f 16777216 (omega (arith, z.1, z.2)),
      t.2,
      t.0,
      t.1,
      bits_is f 14 10 z.0 y i (omega (arith, z.1)) (omega arith) (omega arith),
      bits_is f 9 0 (z.0 * 32 + y) i 0 (omega (arith, z.1)) (omega arith) (omega arith),
    )

-- a power event
power_read : (f a g b s : ℕ) → f ≡ 0xFEE000 + (a * 4096 + g * 128) + (b * 64 + s) → a < 2 → g < 32 → b < 2 → s < 64 →
    read_of f ≡ powered (field_of a g) (field_of b s)
unfolding read_of event_of scheme_of other_of power_of
power_read f a g b s e ha hg hb hs =
    simp (
      lt-ltb f 16777216 (omega arith),
      bits_is f 16 16 127 0 (57344 + a * 4096 + g * 128 + b * 64 + s) (omega arith) (omega arith) (omega arith),
      bits_is f 23 23 0 1 (f - 8388608) (omega arith) (omega arith) (omega arith),
      bits_is f 22 22 1 1 (f - 12582912) (omega arith) (omega arith) (omega arith),
      bits_is f 15 15 254 1 (24576 + a * 4096 + g * 128 + b * 64 + s) (omega arith) (omega arith) (omega arith),
      bits_is f 23 17 0 127 (57344 + a * 4096 + g * 128 + b * 64 + s) (omega arith) (omega arith) (omega arith),
      bits_is f 15 13 254 7 (a * 4096 + g * 128 + b * 64 + s) (omega arith) (omega arith) (omega arith),
      bits_is f 12 12 2039 a (g * 128 + b * 64 + s) (omega arith) (omega arith) (omega arith),
      bits_is f 11 7 (4078 + a) g (b * 64 + s) (omega arith) (omega arith) (omega arith),
      bits_is f 6 6 (130496 + a * 32 + g) b s (omega arith) (omega arith) (omega arith),
      bits_is f 5 0 (260992 + a * 64 + g * 2 + b) s 0 (omega arith) (omega arith) (omega arith),
    )

-- a field is read from its bit and its value
pub field_forth : (x : Option ℕ) → (field_of (field_present x) (field_value x) ≡ Ok x) × (field_present x < 2)
unfolding field_of
field_forth None = (refl, lit< tt)
field_forth (Some v) = (refl, lit< tt)

-- a message that fits is read from its frame
message_read : (m : Message) → message_fits m ≡ true → read_of (frame_of m) ≡ Ok m
unfolding power_frame
message_read (Message.Command a t o) e =
    let p = both (ltb o 256) _ e in
    let q = both (address_fits a) _ p.1 in
    let x = address_forth a q.0 in
    let y = target_forth t q.1 in
    command_read (frame_of (Message.Command a t o)) (address_byte a) (target_byte t) o refl
    x.1 x.2 y.1 (ltb-true o 256 p.0)
    ∙ simp (x.0, y.0)
message_read (Message.Special s i o) e =
    let p = both (ltb i 256 && ltb o 256) _ e in
    let q = both (ltb i 256) _ p.0 in
    let h : s < 16 = ltb-true s 16 p.1 in
    command_read (frame_of (Message.Special s i o)) (0xC1 + s * 2) i o refl
    (omega arith) (omega arith) (ltb-true i 256 q.0) (ltb-true o 256 q.1)
    ∙ simp (special_forth s h)
message_read (Message.Event s x y i) e = event_read s x y i e
message_read (Message.Power g s) e =
    let p = both (ltb (field_value g) 32) _ e in
    let x = field_forth g in
    let y = field_forth s in
    power_read (frame_of (Message.Power g s)) (field_present g) (field_value g) (field_present s) (field_value s) refl
    x.1 (ltb-true _ _ p.0) y.1 (ltb-true _ _ p.1)
    ∙ simp (x.0, y.0)

-- what a written frame says of its message
pub write_says : (m : Message) (f : ℕ) → write_of m ≡ Ok f → (message_fits m ≡ true) × (frame_of m ≡ f)
unfolding write_of
write_says m f e = go (message_fits m) refl e
  where
    go : (t : Bool) → message_fits m ≡ t
        → (if t then Ok (frame_of m) else Err OutOfRange) ≡ Ok f →
        (message_fits m ≡ true) × (frame_of m ≡ f)
    go true p q = (p, cc)
    go false p q = let z : ◌≡◌ {A = ℕ} 0 1 = cc in absurd (omega arith)

pub reads_back : ReadsBack
reads_back m f e =
    let p = write_says m f e in
    ap read_of (sym p.1) ∙ message_read m p.0

frame_below : (m : Message) → message_fits m ≡ true → frame_of m < 2 ^ 24
unfolding read_of
frame_below m e =
    if_lt (λ r. r ≡ Ok m → frame_of m < 2 ^ 24) (frame_of m) _ (λ h q. omega arith)
    (λ l q. let z : ◌≡◌ {A = ℕ} 0 1 = cc in omega arith) (message_read m e)

pub one_message : OneMessage
unfolding write_of
one_message m n e = if_by (λ w. writing_word (write_of m) ≡ writing_word w → m ≡ n) (message_fits n) same other
  where
    word : writing_word (write_of m) ≡ writing_word (Ok (frame_of m))
    word = ap writing_word (written m (frame_of m) e refl)

    same : message_fits n ≡ true → writing_word (write_of m) ≡ writing_word (Ok (frame_of n)) → m ≡ n
    same g q =
        let s : frame_of m ≡ frame_of n = omega (arith, sym word ∙ q) in
        let p : Ok m ≡ Ok n = sym (message_read m e) ∙ ap read_of s ∙ message_read n g in
        cc

    other : message_fits n ≡ false → writing_word (write_of m) ≡ writing_word (Err OutOfRange) → m ≡ n
    other g q = absurd (omega (arith, sym word ∙ q))

pub writings_fit : WritingsFit
unfolding write_of
writings_fit m = if_by WritingFits (message_fits m) (frame_below m) (λ _. omega arith)

pub low_byte : LowByte
low_byte (Ok f) = bits_is _ 7 0 f 0 0 (omega arith) (lit< tt) (omega arith)
low_byte (Err e) =
    let h = (numbers_in_range e).1 in
    bits_is _ 7 0 0 (number_of e) 0 (omega arith) (omega arith) (omega arith)
