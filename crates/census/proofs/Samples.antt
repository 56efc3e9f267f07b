-- Which frames are of one class: blocks of 131,072 frames, by bits 23..17, and the samples that the others are alike.
-- Assumes nothing.
use Rattle.std.proofs.Common.{◌≡◌, ℕ, ◌+◌, ◌*◌, ◌/◌, ◌%◌, ◌<◌, Bool, true, false, eqb, sym, refl, ap, ◌∙◌, true≢false, arith, lt-ltb, ne_eqb}
use mathlib.Core.Bool.{false≢true}
use Rattle.std.specs.Prelude.{if◌then◌else◌, Option, Some, None, Result, Ok, Err}
use Rattle.laws.specs.Bits.{bits, bit}
use Rattle.laws.proofs.Bits.{bits_is}
use Rattle.laws.proofs.Tests.{if_by}
use Rattle.frames.specs.Read.{short_form, group_form, special_form, address_of, target_of, aimed, addressed, command_of, scheme_of, schemed, field_of}
use Rattle.frames.specs.Read.{powered, power_of, other_of, event_of, read_of}
use Rattle.refusals.specs.declared.refusal.Refusal.{Refusal}
use Rattle.refusals.specs.declared.refusal.Refusal.TheVariants.{ReservedAddress, BlankNotZero}
use Rattle.frames.specs.declared.message.Addressed.{Addressed}
use Rattle.frames.specs.declared.message.Message.{Message}
use Rattle.frames.specs.declared.message.Scheme.{Scheme}
use Rattle.frames.specs.declared.message.Target.{Target}
use Rattle.census.specs.Class.{refused_class, class_of, numbered, frame_class}
use Rattle.census.specs.Figures.{how_many}
use Rattle.census.proofs.Tallies.{sum_below, one, count_sum}

-- 1 for a frame of class k
abbrev pub of_class : ℕ → ℕ → ℕ
of_class k f = one (eqb (frame_class f) k)

-- the class of what a frame reads as
abbrev pub class_read : Result Message Refusal → ℕ
class_read r = class_of (numbered r)

-- how many there are, as a sum
pub many : (k n : ℕ) → how_many k n ≡ sum_below (of_class k) n
unfolding how_many
many k n = count_sum (λ f. eqb (frame_class f) k) n

-- frame j of block i
abbrev frame_at : ℕ → ℕ → ℕ
frame_at i j = i * 131072 + j

abbrev pub class_at : ℕ → ℕ → ℕ
class_at i j = frame_class (frame_at i j)

-- ---- commands: by their address byte, and by whether the instance byte is reserved

-- what an address byte says, or that it is reserved
pub address_cases : (P : Result Addressed Refusal → Type 0) (b : ℕ) → ((x : Addressed) → P (Ok x)) → P (Err ReservedAddress)
    → P (address_of b)
unfolding address_of
address_cases P b p q =
    if_by P (short_form b) (λ e. p _)
    (λ e. if_by P (group_form b) (λ e. p _)
    (λ e. if_by P (eqb b _) (λ e. p _)
    (λ e. if_by P (eqb b _) (λ e. p _)
    (λ e. if_by P (special_form b) (λ e. p _) (λ e. q)))))

abbrev pub is_reserved : Option Target → Bool
is_reserved (Some t) = false
is_reserved None = true

aims_alike : (x : Result Addressed Refusal) (b c b' c' : ℕ) → is_reserved (target_of b) ≡ is_reserved (target_of b')
    → class_read (addressed x b c) ≡ class_read (addressed x b' c')
aims_alike (Err r) b c b' c' e = refl
aims_alike (Ok (Addressed.Special s)) b c b' c' e = refl
aims_alike (Ok (Addressed.To a)) b c b' c' e = go (target_of b) (target_of b') e
  where
    go : (t t' : Option Target) → is_reserved t ≡ is_reserved t' → class_read (aimed a t c) ≡ class_read (aimed a t' c')
    go (Some t) (Some t') e = refl
    go (Some t) None e = absurd (false≢true e)
    go None (Some t') e = absurd (true≢false e)
    go None None e = refl

module _ (i : ℕ) (block : i < 128) where
  command_at : (j : ℕ) → j < 65536
      → class_at i (65536 + j) ≡ class_read (addressed (address_of (i * 2 + 1)) (j / 256) (j % 256))
  unfolding frame_class read_of command_of
  command_at j h =
      let f : ℕ = i * 131072 + (65536 + j) in
      simp (
        lt-ltb f 16777216 (omega arith),
        bits_is f 16 16 i 1 j (omega arith) (omega arith) (omega arith),
        bits_is f 23 16 0 (i * 2 + 1) j (omega arith) (omega arith) (omega arith),
        bits_is f 15 8 (i * 2 + 1) (j / 256) (j % 256) (omega arith) (omega arith) (omega arith),
        bits_is f 7 0 (f / 256) (j % 256) 0 (omega arith) (omega arith) (omega arith),
      )

  pub commands_alike : (j j' : ℕ) → j < 65536 → j' < 65536
      → is_reserved (target_of (j / 256)) ≡ is_reserved (target_of (j' / 256))
      → class_at i (65536 + j) ≡ class_at i (65536 + j')
  commands_alike j j' h h' e =
      command_at j h ∙ aims_alike (address_of (i * 2 + 1)) _ _ _ _ e ∙ sym (command_at j' h')

  -- ---- events: by bits 23, 22 and 15, and the power events by their 13 low bits

  event_at : (j : ℕ) → j < 65536
      → class_at i j ≡ class_read (schemed (scheme_of (i / 64) (i / 32 % 2) (j / 32768)) (frame_at i j))
  unfolding frame_class read_of event_of
  event_at j h =
      let f : ℕ = i * 131072 + j in
      simp (
        lt-ltb f 16777216 (omega arith),
        bits_is f 16 16 i 0 j (omega arith) (omega arith) (omega arith),
        bits_is f 23 23 0 (i / 64) (i % 64 * 131072 + j) (omega arith) (omega arith) (omega arith),
        bits_is f 22 22 (i / 64) (i / 32 % 2) (i % 32 * 131072 + j) (omega arith) (omega arith) (omega arith),
        bits_is f 15 15 (i * 2) (j / 32768) (j % 32768) (omega arith) (omega arith) (omega arith),
      )

  events_alike : (j j' : ℕ) → j < 65536 → j' < 65536 → j / 32768 ≡ j' / 32768
      → class_read (other_of (frame_at i j)) ≡ class_read (other_of (frame_at i j'))
      → class_at i j ≡ class_at i j'
  events_alike j j' h h' e other =
      event_at j h ∙ ap (λ (b : ℕ). class_read (schemed (scheme_of (i / 64) (i / 32 % 2) b) (frame_at i j))) e
      ∙ go (scheme_of (i / 64) (i / 32 % 2) (j' / 32768)) ∙ sym (event_at j' h')
    where
      go : (x : Option Scheme) → class_read (schemed x (frame_at i j)) ≡ class_read (schemed x (frame_at i j'))
      go (Some s) = refl
      go None = other

  -- without bits 15, 14, 13 all ones
  pub low_alike : (j j' : ℕ) → j < 57344 → j' < 57344 → j / 32768 ≡ j' / 32768
      → class_at i j ≡ class_at i j'
  unfolding other_of
  low_alike j j' h h' e =
      let f : ℕ = i * 131072 + j in
      let f' : ℕ = i * 131072 + j' in
      events_alike j j' (omega arith) (omega arith) e (simp (
        bits_is f 15 13 (i * 2) (j / 8192) (j % 8192) (omega arith) (omega arith) (omega arith),
        bits_is f' 15 13 (i * 2) (j' / 8192) (j' % 8192) (omega arith) (omega arith) (omega arith),
        bits_is f 23 17 0 i j (omega arith) (omega arith) (omega arith),
        bits_is f' 23 17 0 i j' (omega arith) (omega arith) (omega arith),
        ne_eqb (j / 8192) 7 (omega arith),
        ne_eqb (j' / 8192) 7 (omega arith),
      ))

  -- a power event is read by its 13 low bits
  power_at : (v : ℕ) → power_of (frame_at i (57344 + v)) ≡ power_of v
  unfolding power_of bits
  power_at v =
      let f : ℕ = i * 131072 + (57344 + v) in
      let a : f / 4096 % 2 ≡ v / 4096 % 2 = omega arith in
      let g : f / 128 % 32 ≡ v / 128 % 32 = omega arith in
      let b : f / 64 % 2 ≡ v / 64 % 2 = omega arith in
      let s : f / 1 % 64 ≡ v / 1 % 64 = omega arith in
      simp (a, g, b, s)

  power_other : (v v' : ℕ) → v < 8192 → v' < 8192 → class_read (power_of v) ≡ class_read (power_of v')
      → class_read (other_of (frame_at i (57344 + v))) ≡ class_read (other_of (frame_at i (57344 + v')))
  unfolding other_of
  power_other v v' h h' e =
      let f : ℕ = i * 131072 + (57344 + v) in
      let f' : ℕ = i * 131072 + (57344 + v') in
      simp (
        bits_is f 15 13 (i * 2) 7 v (omega arith) (omega arith) (omega arith),
        bits_is f' 15 13 (i * 2) 7 v' (omega arith) (omega arith) (omega arith),
        bits_is f 23 17 0 i (57344 + v) (omega arith) (omega arith) (omega arith),
        bits_is f' 23 17 0 i (57344 + v') (omega arith) (omega arith) (omega arith),
        power_at v,
        power_at v',
      ) (go (eqb i _) _)
    where
      go : (b : Bool) (x : Result Message Refusal) → class_read (if b then power_of v else x) ≡ class_read (if b then power_of v' else x)
      go true x = e
      go false x = refl

  pub powers_alike : (v v' : ℕ) → v < 8192 → v' < 8192 → class_read (power_of v) ≡ class_read (power_of v')
      → class_at i (57344 + v) ≡ class_at i (57344 + v')
  powers_alike v v' h h' e =
      events_alike (57344 + v) (57344 + v') (omega arith) (omega arith) (omega arith) (power_other v v' h h' e)

-- ---- power events: those that are got, and those that are refused

abbrev pub is_got : Result Message Refusal → Bool
is_got (Ok m) = true
is_got (Err e) = false

-- what a field is: with its value, without, or refused
pub field_cases : (P : Result (Option ℕ) Refusal → Type 0) (announced v : ℕ) → ((g : Option ℕ) → P (Ok g)) → P (Err BlankNotZero)
    → P (field_of announced v)
unfolding field_of
field_cases P announced v p q =
    if_by P (eqb announced _) (λ e. p (Some v)) (λ e. if_by P (eqb v _) (λ e. p None) (λ e. q))

-- the fields decide: one that is got is of the class of that with no field, one that is refused of that with a blank field of 1
module _ (a v b w : ℕ) where
  power_class : class_read (powered (field_of a v) (field_of b w))
      ≡ class_read (power_of (if is_got (powered (field_of a v) (field_of b w)) then 0 else 1))
  unfolding power_of field_of bits refused_class
  power_class =
      field_cases (λ x. Like x (field_of b w)) a v
      (λ g. field_cases (Like (Ok g)) b w (λ s. refl) refl)
      refl
    where
      Like : Result (Option ℕ) Refusal → Result (Option ℕ) Refusal → Type 0
      Like x y = class_read (powered x y) ≡ class_read (power_of (if is_got (powered x y) then 0 else 1))

pub power_like : (v : ℕ) (b : Bool) → is_got (power_of v) ≡ b → class_read (power_of v) ≡ class_read (power_of (if b then 0 else 1))
unfolding power_of
power_like v b e =
    power_class (bit v 12) (bits v 11 7) (bit v 6) (bits v 5 0)
    ∙ ap (λ (c : Bool). class_read (power_of (if c then 0 else 1))) e
