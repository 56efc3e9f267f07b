-- The word of a message gives the message back, and no other word does.
-- Assumes nothing.
use mathlib.Core.Path.{◌≡◌, refl, ◌∙◌, sym, ap, subst}
use Prim.Native.Nat.{ℕ, ◌+◌, ◌-◌, ◌*◌, ◌^◌, ◌<◌}
use native.Mathlib.Omega.{arith}
use lib.Dec.{lit≤, lit<}
use borrow.Author.Tests.{eq-eqb}
use Rattle.std.specs.Prelude.{Option, Some, None, Result, Ok, Err}
use Rattle.laws.specs.Bits.{bits}
use Rattle.laws.proofs.Tests.{if_eq}
use Rattle.laws.proofs.Bits.{above_all, above_none, cut, small, bits_is}
use Rattle.refusals.specs.declared.refusal.Refusal.{Refusal}
use Rattle.refusals.specs.declared.refusal.Refusal.TheVariants.{OutOfRange}
use Rattle.frames.specs.Values.{target_number, target_at, scheme_at, field_present, field_value}
use Rattle.frames.specs.Read.{aimed}
use Rattle.frames.specs.declared.message.Address.{Address}
use Rattle.frames.specs.declared.message.Message.{Message}
use Rattle.frames.specs.declared.message.Scheme.{Scheme}
use Rattle.frames.specs.declared.message.Target.{Target}
use Rattle.words.specs.Values.{address_kind, address_number, address_at, target_kind, scheme_number, field_at}
use Rattle.words.specs.Word.{six_bytes, word_of, message_at, matched, message_of}
use Rattle.words.specs.Promises.{Held, WordGives, GivesWord, NoMessage, WordRefused, LowByte}

-- each case is that of its number and its value
address_at_lem : (a : Address) → (address_at (address_kind a) (address_number a) ≡ a) × (address_kind a < 256)
unfolding address_at
address_at_lem (Address.Short n) = (refl, lit< tt)
address_at_lem (Address.Group n) = (refl, lit< tt)
address_at_lem Address.Unaddressed = (refl, lit< tt)
address_at_lem Address.Broadcast = (refl, lit< tt)

target_at_lem : (t : Target) → (target_at (target_kind t) (target_number t) ≡ Some t) × (target_kind t < 256)
unfolding target_at
target_at_lem (Target.InstanceNumber n) = (refl, lit< tt)
target_at_lem (Target.InstanceGroup n) = (refl, lit< tt)
target_at_lem (Target.InstanceType n) = (refl, lit< tt)
target_at_lem (Target.FeatureAtNumber n) = (refl, lit< tt)
target_at_lem (Target.FeatureAtGroup n) = (refl, lit< tt)
target_at_lem (Target.FeatureAtType n) = (refl, lit< tt)
target_at_lem Target.FeatureBroadcast = (refl, lit< tt)
target_at_lem Target.DeviceFeature = (refl, lit< tt)
target_at_lem Target.FeatureAtInstanceBroadcast = (refl, lit< tt)
target_at_lem Target.Device = (refl, lit< tt)
target_at_lem Target.InstanceBroadcast = (refl, lit< tt)

field_at_lem : (x : Option ℕ) → (field_at (field_present x) (field_value x) ≡ x) × (field_present x < 256)
unfolding field_at
field_at_lem None = (refl, lit< tt)
field_at_lem (Some v) = (refl, lit< tt)

-- the event of each scheme is that of its kind
event_at : (s : Scheme) (x y c d e : ℕ) →
    (message_at (2 + scheme_number s) x y c d e ≡ Ok (Message.Event s x y (c * 256 + d)))
    × (2 + scheme_number s < 256)
unfolding message_at scheme_at
event_at Scheme.TypeNumber x y c d e = (refl, lit< tt)
event_at Scheme.ShortType x y c d e = (refl, lit< tt)
event_at Scheme.ShortNumber x y c d e = (refl, lit< tt)
event_at Scheme.GroupType x y c d e = (refl, lit< tt)
event_at Scheme.PrimaryType x y c d e = (refl, lit< tt)

-- a message whose word is a sum of bytes, and which is the message of those bytes, is given back
gives : (m : Message) (k a b c d e f : ℕ) → word_of (Ok m) ≡ k * 2 ^ 48 + six_bytes a b c d e f →
    k < 256 → a < 256 → b < 256 → c < 256 → d < 256 → e < 256 → f < 256 →
    message_at k a b c d e ≡ Ok m → message_of (word_of (Ok m)) ≡ Ok m
unfolding message_of six_bytes
gives m k a b c d e f sum hk ha hb hc hd he hf at = go (word_of (Ok m)) refl sum
  where
    go : (w : ℕ) → word_of (Ok m) ≡ w → w ≡ k * 2 ^ 48 + six_bytes a b c d e f → message_of w ≡ Ok m
    go w own eq =
        simp (
          bits_is w 55 48 0 k (w - k * 2 ^ 48) (omega arith) hk (omega arith),
          bits_is w 47 40 k a (b * 2 ^ 32 + c * 2 ^ 24 + d * 2 ^ 16 + e * 2 ^ 8 + f) (omega arith) ha (omega arith),
          bits_is w 39 32 (k * 256 + a) b (c * 2 ^ 24 + d * 2 ^ 16 + e * 2 ^ 8 + f) (omega arith) hb (omega arith),
          bits_is w 31 24 (k * 2 ^ 16 + a * 256 + b) c (d * 2 ^ 16 + e * 2 ^ 8 + f) (omega arith) hc (omega arith),
          bits_is w 23 16 (k * 2 ^ 24 + a * 2 ^ 16 + b * 256 + c) d (e * 2 ^ 8 + f) (omega arith) hd (omega arith),
          bits_is w 15 8 (k * 2 ^ 32 + a * 2 ^ 24 + b * 2 ^ 16 + c * 256 + d) e f (omega arith) he (omega arith),
          at,
          eq-eqb (word_of (Ok m)) w own,
        )

-- the information is its two bytes
two_bytes : (i : ℕ) → i < 2 ^ 16 → bits i 15 8 * 256 + bits i 7 0 ≡ i
two_bytes i h = omega (arith, above_all i, above_none i 16 h, cut i 7 0 (lit≤ tt), cut i 15 8 (lit≤ tt))

pub word_gives : WordGives
unfolding message_at
word_gives (Message.Command a t o) h =
    let x = address_at_lem a in
    let y = target_at_lem t in
    gives (Message.Command a t o) 0 (address_kind a) (address_number a) (target_kind t) (target_number t) o 0 refl
    (lit< tt) x.1 h.0 y.1 h.1 h.2 (lit< tt) (simp (x.0, y.0))
word_gives (Message.Special n x y) h =
    gives (Message.Special n x y) 1 n x y 0 0 0 refl (lit< tt) h.0 h.1 h.2 (lit< tt) (lit< tt) (lit< tt) refl
word_gives (Message.Event s x y i) h =
    let e = event_at s x y (bits i 15 8) (bits i 7 0) 0 in
    gives (Message.Event s x y i) (2 + scheme_number s) x y (bits i 15 8) (bits i 7 0) 0 0 refl
    e.1 h.0 h.1 (small i 15 8) (small i 7 0) (lit< tt) (lit< tt)
    (e.0 ∙ ap (λ (n : ℕ). Ok (Message.Event s x y n)) (two_bytes i h.2))
word_gives (Message.Power g s) h =
    let x = field_at_lem g in
    let y = field_at_lem s in
    gives (Message.Power g s) 7 (field_present g) (field_value g) (field_present s) (field_value s) 0 0 refl
    (lit< tt) x.1 h.0 y.1 h.1 (lit< tt) (lit< tt) (simp (x.0, y.0))

-- what bytes make is held by the types
abbrev AllHeld : Result Message Refusal → Type 0
AllHeld (Ok m) = Held m
AllHeld (Err e) = Unit {0}

abbrev TargetHeld : Option Target → Type 0
TargetHeld (Some t) = target_number t < 256
TargetHeld None = Unit {0}

target_held : (k n : ℕ) → n < 256 → TargetHeld (target_at k n)
unfolding target_at
target_held k n h =
    if_eq P k 1 (λ _. h)
    (λ _. if_eq P k 2 (λ _. h)
    (λ _. if_eq P k 3 (λ _. h)
    (λ _. if_eq P k 4 (λ _. h)
    (λ _. if_eq P k 5 (λ _. h)
    (λ _. if_eq P k 6 (λ _. h)
    (λ _. if_eq P k 7 (λ _. lit< tt)
    (λ _. if_eq P k 8 (λ _. lit< tt)
    (λ _. if_eq P k 9 (λ _. lit< tt)
    (λ _. if_eq P k 10 (λ _. lit< tt)
    (λ _. if_eq P k 11 (λ _. lit< tt) (λ _. tt)))))))))))
  where
    P : Option Target → Type 0
    P = TargetHeld

address_held : (k n : ℕ) → n < 256 → address_number (address_at k n) < 256
unfolding address_at
address_held k n h =
    if_eq P k 0 (λ _. h) (λ _. if_eq P k 1 (λ _. h) (λ _. if_eq P k 2 (λ _. lit< tt) (λ _. lit< tt)))
  where
    P : Address → Type 0
    P a = address_number a < 256

field_held : (k v : ℕ) → v < 256 → field_value (field_at k v) < 256
unfolding field_at
field_held k v h = if_eq (λ x. field_value x < 256) k 0 (λ _. lit< tt) (λ _. h)

held_at : (k a b c d e : ℕ) → a < 256 → b < 256 → c < 256 → d < 256 → e < 256 → AllHeld (message_at k a b c d e)
unfolding message_at
held_at k a b c d e ha hb hc hd he =
    if_eq AllHeld k 0 (λ _. command (target_at c d) (target_held c d hd))
    (λ _. if_eq AllHeld k 1 (λ _. (ha, hb, hc))
    (λ _. if_eq AllHeld k 7 (λ _. (field_held a b hb, field_held c d hd)) (λ _. (ha, hb, omega arith))))
  where
    command : (x : Option Target) → TargetHeld x → AllHeld (aimed (address_at a b) x e)
    command (Some t) h = (address_held a b hb, h, he)
    command None h = tt

-- a message is given by its word only
abbrev Matches : ℕ → Result Message Refusal → Type 0
Matches w (Ok m) = Held m × (word_of (Ok m) ≡ w)
Matches w (Err e) = e ≡ OutOfRange

matches : (w : ℕ) (r : Result Message Refusal) → AllHeld r → Matches w (matched r w)
matches w (Ok m) h = if_eq (Matches w) (word_of (Ok m)) w (λ e. (h, e)) (λ _. refl)
matches w (Err e) h = refl

message_matches : (w : ℕ) → Matches w (message_of w)
unfolding message_of
message_matches w =
    let k : ℕ = bits w 55 48 in
    let a : ℕ = bits w 47 40 in
    let b : ℕ = bits w 39 32 in
    let c : ℕ = bits w 31 24 in
    let d : ℕ = bits w 23 16 in
    let e : ℕ = bits w 15 8 in
    matches w (message_at k a b c d e)
    (held_at k a b c d e (small w 47 40) (small w 39 32) (small w 31 24) (small w 23 16) (small w 15 8))

pub gives_word : GivesWord
gives_word w m e = subst (Matches w) e (message_matches w)

pub word_refused : WordRefused
word_refused w = (refused, λ none. go none (message_of w) (message_matches w))
  where
    refused : message_of w ≡ Err OutOfRange → NoMessage w
    refused e m h own =
        let back : message_of w ≡ Ok m = ap message_of (sym own) ∙ word_gives m h in
        let z : ◌≡◌ {A = ℕ} 0 1 = cc in
        omega arith

    go : NoMessage w → (r : Result Message Refusal) → Matches w r → r ≡ Err OutOfRange
    go none (Ok m) p = absurd (none m p.0 p.1)
    go none (Err e) p = ap Err p

-- a kind, five values and a last byte
last_byte : (w k a b c d e f : ℕ) → w ≡ k * 2 ^ 48 + six_bytes a b c d e f → f < 256 → bits w 7 0 ≡ f
unfolding six_bytes
last_byte w k a b c d e f sum h =
    bits_is w 7 0 (k * 2 ^ 40 + a * 2 ^ 32 + b * 2 ^ 24 + c * 2 ^ 16 + d * 2 ^ 8 + e) f 0 (omega arith) h (omega arith)

message_low : (m : Message) → bits (word_of (Ok m)) 7 0 ≡ 0
message_low (Message.Command a t o) =
    last_byte _ 0 (address_kind a) (address_number a) (target_kind t) (target_number t) o _ refl (omega arith)
message_low (Message.Special n x y) = last_byte _ 1 n x y 0 0 _ refl (omega arith)
message_low (Message.Event s x y i) =
    last_byte _ (2 + scheme_number s) x y (bits i 15 8) (bits i 7 0) 0 _ refl (omega arith)
message_low (Message.Power g s) =
    last_byte _ 7 (field_present g) (field_value g) (field_present s) (field_value s) 0 _ refl (omega arith)

pub low_byte : LowByte
low_byte (Ok m) h = message_low m
low_byte (Err n) h = bits_is n 7 0 0 n 0 (omega arith) h (omega arith)
