-- The four answers, each exactly if: a listed command is meant exactly if the frame is one for the unit with its bytes.
-- Assumes nothing.
use Rattle.std.proofs.Common.{◌≡◌, ℕ, ◌+◌, ◌-◌, ◌*◌, ◌/◌, Bool, true, false, not, ◌⊎◌, List, [], ◌∷◌, ◌++◌, map, sym, refl, ap, ◌∙◌, subst, inl, inr, ⊎_elim, true≢false, arith, Some, Result, Ok, Err}
use mathlib.Core.Bool.{false≢true}
use mathlib.Core.List.{Memᴰ}
use Rattle.laws.specs.Bits.{bits}
use Rattle.laws.specs.Lists.{every}
use Rattle.laws.proofs.Tests.{if_by, if_eq, denied}
use Rattle.laws.proofs.Items.{every_at}
use Rattle.laws.proofs.Choosing.{refuted}
use Rattle.refusals.specs.declared.refusal.Refusal.{Refusal}
use Rattle.frames.specs.Kind.{kind_of}
use Rattle.frames.specs.Values.{target_at}
use Rattle.frames.specs.Read.{target_of, read_of}
use Rattle.frames.specs.Write.{target_byte}
use Rattle.frames.specs.declared.message.Message.{Message}
use Rattle.frames.specs.declared.message.Target.{Target}
use Rattle.hearing.specs.Codes.{Code, none, device, special, listed_with, code_of, StandsIn}
use Rattle.hearing.specs.Meaning.{Row, listed, device_rows, device_command, first_rows, first_special, other_rows}
use Rattle.hearing.specs.Meaning.{special_command, is_for, command_at, reading_meaning, meaning_of}
use Rattle.hearing.specs.Promises.{ToUnit, IsSpecial, Asks, ListedExactly}
use Rattle.hearing.specs.declared.heard.Who.{Who}
use Rattle.hearing.specs.declared.meaning.Meaning.{Meaning}
use Rattle.hearing.proofs.Bytes.{command_bytes, special_bytes}
use Rattle.hearing.proofs.Codes.{Only, device_code, special_code, only_device}

-- the table of listed commands

-- what a code asks for
abbrev pub asked : Code → Meaning
asked none = Meaning.NotObeyed
asked (device o) = device_command o
asked (special a i o) = special_command ((a - 0xC1) / 2) i o

-- each listed command is what its code asks for: the whole table is computed
table : (i o : ℕ) → map (λ m. asked (code_of m)) (listed_with i o) ≡ listed_with i o
unfolding device_command special_command first_special
table i o = refl

same_at : (f : Meaning → Meaning) (xs : List Meaning) → map f xs ≡ xs → (x : Meaning) → Memᴰ x xs → f x ≡ x
same_at f [] e x i = elim i [ ]
same_at f (y ∷ xs) e x (Memᴰ.head p) = let q : f y ≡ y = cc in ap f p ∙ q ∙ sym p
same_at f (y ∷ xs) e x (Memᴰ.tail i) = same_at f xs (cc) x i

-- and it has a code
abbrev is_code : Code → Bool
is_code none = false
is_code (device o) = true
is_code (special a i o) = true

has_code : (i o : ℕ) → every (λ m. is_code (code_of m)) (listed_with i o) ≡ true
has_code i o = refl

-- what is listed at a number is a row's, or not obeyed
listed_in : (rows : List Row) (n : ℕ)
    → (listed rows n ≡ Meaning.NotObeyed) ⊎ Memᴰ (listed rows n) (map (λ r. r.means) rows)
listed_in [] n = inl refl
listed_in (r ∷ rs) n =
    if_eq (λ m. (m ≡ Meaning.NotObeyed) ⊎ Memᴰ m (r.means ∷ map (λ r. r.means) rs)) n r.code
    (λ q. inr (Memᴰ.head refl)) (λ q. ⊎_elim inl (λ i. inr (Memᴰ.tail i)) (listed_in rs n))

module _ (x : Meaning) where
  in_left : (xs ys : List Meaning) → Memᴰ x xs → Memᴰ x (xs ++ ys)
  in_left [] ys i = elim i [ ]
  in_left (y ∷ xs) ys (Memᴰ.head p) = Memᴰ.head p
  in_left (y ∷ xs) ys (Memᴰ.tail i) = Memᴰ.tail (in_left xs ys i)

  in_right : (xs ys : List Meaning) → Memᴰ x ys → Memᴰ x (xs ++ ys)
  in_right [] ys i = i
  in_right (y ∷ xs) ys i = Memᴰ.tail (in_right xs ys i)

-- not obeyed, or one of the table
abbrev pub Known : ℕ → ℕ → Meaning → Type 0
Known i o m = (m ≡ Meaning.NotObeyed) ⊎ Memᴰ m (listed_with i o)

abbrev means : List Row → List Meaning
means rows = map (λ r. r.means) rows

device_known : (i o opcode : ℕ) → Known i o (device_command opcode)
unfolding device_command
device_known i o opcode =
    ⊎_elim inl (λ k. inr (in_left _ (means device_rows) (means (first_rows o ++ other_rows i o)) k))
    (listed_in device_rows opcode)

special_known : (n i o : ℕ) → Known i o (special_command n i o)
unfolding special_command first_special
special_known n i o =
    if_eq (Known i o) n 0
    (λ _. ⊎_elim inl
    (λ k. inr (in_right _ (means device_rows) _ (in_left _ (means (first_rows o)) (means (other_rows i o)) k)))
    (listed_in (first_rows o) i))
    (λ _. ⊎_elim inl
    (λ k. inr (in_right _ (means device_rows) _ (in_right _ (means (first_rows o)) (means (other_rows i o)) k)))
    (listed_in (other_rows i o) n))

-- none of them is foreign
abbrev is_foreign : Meaning → Bool
is_foreign Meaning.Foreign = true
is_foreign Meaning.NotObeyed = false
is_foreign (Meaning.AtOnce once) = false
is_foreign (Meaning.NeedsPair twice) = false

known_home : (i o : ℕ) (m : Meaning) → Known i o m → m ≡ Meaning.Foreign → ⊥
known_home i o m (inl p) q = true≢false (ap is_foreign (sym q ∙ p))
known_home i o m (inr k) q =
    true≢false (ap is_foreign (sym q) ∙ denied _ (every_at (λ m. not (is_foreign m)) (listed_with i o) refl m k))

device_target : target_of 0xFE ≡ Some Target.Device
unfolding target_of target_at kind_of
device_target = refl

module _ (who : Who) (f : ℕ) where
  -- what is asked for is meant
  device_means : (r : Result Message Refusal) → read_of f ≡ r → ToUnit who r → (o : ℕ) → StandsIn (device o) f
      → reading_meaning who r ≡ device_command o
  device_means (Ok (Message.Command a t p)) e u o s =
      let b = command_bytes f a t p e in
      let d : Some t ≡ Some Target.Device =
      sym b.2 ∙ ap target_of (sym b.0 ∙ s.0) ∙ device_target in
      let t-is : t ≡ Target.Device = cc in
      rw (u, t-is, sym b.1 ∙ s.1)
  device_means (Ok (Message.Special n i p)) e u o s = absurd u
  device_means (Ok (Message.Event c x y i)) e u o s = absurd u
  device_means (Ok (Message.Power g h)) e u o s = absurd u
  device_means (Err refusal) e u o s = absurd u

  special_means : (r : Result Message Refusal) → read_of f ≡ r → IsSpecial r → (a i o : ℕ) → StandsIn (special a i o) f
      → reading_meaning who r ≡ special_command ((a - 0xC1) / 2) i o
  special_means (Ok (Message.Special n x y)) e u a i o s =
      let b = special_bytes f n x y e in
      let n-is : n ≡ (a - 0xC1) / 2 = omega (arith, b.0, s.0) in
      rw (n-is, sym b.1 ∙ s.1, sym b.2 ∙ s.2)
  special_means (Ok (Message.Command c t p)) e u a i o s = absurd u
  special_means (Ok (Message.Event c x y z)) e u a i o s = absurd u
  special_means (Ok (Message.Power g h)) e u a i o s = absurd u
  special_means (Err refusal) e u a i o s = absurd u

  pub asks_means : (c : Code) → Asks who f c → meaning_of who f ≡ asked c
  unfolding meaning_of
  asks_means none k = absurd k
  asks_means (device o) k = device_means (read_of f) refl k.0 o k.1
  asks_means (special a i o) k = special_means (read_of f) refl k.0 a i o k.1

  -- a meaning with a code is asked for
  only_asks : (d c : Code) → Only d c → is_code c ≡ true → Asks who f d → Asks who f c
  only_asks d c (inl e) k s = absurd (false≢true (sym (ap is_code e) ∙ k))
  only_asks d c (inr e) k s = rw e s

  no_code : (m n : Meaning) → is_code (code_of m) ≡ true → n ≡ m → is_code (code_of n) ≡ true
  no_code m n k q = rw q k

  means_asks : (m : Meaning) → is_code (code_of m) ≡ true → (r : Result Message Refusal) → read_of f ≡ r
      → reading_meaning who r ≡ m → Asks who f (code_of m)
  means_asks m k (Ok (Message.Command a t o)) e r =
      if_by (λ x. x ≡ m → Asks who f (code_of m)) (is_for who a)
      (λ u q. ⊎_elim
      (λ d.
      let b = command_bytes f a t o e in
      let p : device_command o ≡ m = ap (λ (t : Target). command_at t o) (sym d) ∙ q in
      only_asks (device o) (code_of m) (subst (λ (x : Meaning). Only (device o) (code_of x)) p (device_code o)) k
      (subst (ToUnit who) (sym e) u, (b.0 ∙ ap target_byte d, b.1)))
      (λ d. absurd (false≢true (no_code m Meaning.NotObeyed k (sym d ∙ q))))
      (only_device t o))
      (λ u q. absurd (false≢true (no_code m Meaning.Foreign k q))) r
  means_asks m k (Ok (Message.Special n i o)) e q =
      only_asks (special (0xC1 + 2 * n) i o) (code_of m)
      (subst (λ (x : Meaning). Only (special (0xC1 + 2 * n) i o) (code_of x)) q (special_code n i o)) k
      (subst IsSpecial (sym e) tt, special_bytes f n i o e)
  means_asks m k (Ok (Message.Event c x y i)) e q = absurd (false≢true (no_code m Meaning.Foreign k q))
  means_asks m k (Ok (Message.Power g h)) e q = absurd (false≢true (no_code m Meaning.Foreign k q))
  means_asks m k (Err refusal) e q = absurd (false≢true (no_code m Meaning.Foreign k q))

  -- a command for the unit is known, and no other frame is
  abbrev Ours : Result Message Refusal → Type 0
  Ours r = ToUnit who r ⊎ IsSpecial r

  pub ours_known : (r : Result Message Refusal) → read_of f ≡ r → Ours r
      → Known (bits f 15 8) (bits f 7 0) (reading_meaning who r)
  ours_known (Ok (Message.Command a t o)) e (inl u) =
      rw u
      (⊎_elim
      (λ d. rw d (device_known (bits f 15 8) (bits f 7 0) o))
      (λ d. inl d)
      (only_device t o))
  ours_known (Ok (Message.Command a t o)) e (inr u) = absurd u
  ours_known (Ok (Message.Special n i o)) e u =
      let b = special_bytes f n i o e in rw (b.1, b.2) (special_known n i o)
  ours_known (Ok (Message.Event c x y i)) e u = absurd (⊎_elim (λ v. v) (λ v. v) u)
  ours_known (Ok (Message.Power g h)) e u = absurd (⊎_elim (λ v. v) (λ v. v) u)
  ours_known (Err refusal) e u = absurd (⊎_elim (λ v. v) (λ v. v) u)

  others_foreign : (r : Result Message Refusal) → (Ours r → ⊥) → reading_meaning who r ≡ Meaning.Foreign
  others_foreign (Ok (Message.Command a t o)) k = rw (refuted (is_for who a) (λ u. k (inl u)))
  others_foreign (Ok (Message.Special n i o)) k = absurd (k (inr tt))
  others_foreign (Ok (Message.Event c x y i)) k = refl
  others_foreign (Ok (Message.Power g h)) k = refl
  others_foreign (Err refusal) k = refl

  obeys_ours : (r : Result Message Refusal) → reading_meaning who r ≡ Meaning.NotObeyed → Ours r
  obeys_ours (Ok (Message.Command a t o)) r =
      if_by (λ x. x ≡ Meaning.NotObeyed → Ours (Ok (Message.Command a t o))) (is_for who a)
      (λ u q. inl u) (λ u q. absurd (true≢false (ap is_foreign q))) r
  obeys_ours (Ok (Message.Special n i o)) q = inr tt
  obeys_ours (Ok (Message.Event c x y i)) q = absurd (true≢false (ap is_foreign q))
  obeys_ours (Ok (Message.Power g h)) q = absurd (true≢false (ap is_foreign q))
  obeys_ours (Err refusal) q = absurd (true≢false (ap is_foreign q))

pub listed_exactly : ListedExactly
unfolding meaning_of
listed_exactly who f =
    record {
      listed = λ m k. (to m k, from m k);
      not_obeyed = (
        (λ q. (obeys_ours who f (read_of f) q, λ m k a. absurd (false≢true (coded m k (sym q ∙ from m k a))))),
        (λ p. ⊎_elim (λ q. q) (λ k. absurd (p.1 _ k (to _ k refl))) (ours_known who f (read_of f) refl p.0)),
      );
      foreign = (
        (λ q u. known_home _ _ _ (ours_known who f (read_of f) refl u) q),
        (λ k. others_foreign who f (read_of f) k),
      );
    }
  where
    i : ℕ
    i = bits f 15 8

    o : ℕ
    o = bits f 7 0

    code : (m : Meaning) → Memᴰ m (listed_with i o) → is_code (code_of m) ≡ true
    code m k = every_at (λ m. is_code (code_of m)) (listed_with i o) (has_code i o) m k

    coded : (m : Meaning) → Memᴰ m (listed_with i o) → Meaning.NotObeyed ≡ m → false ≡ true
    coded m k q = no_code who f m Meaning.NotObeyed (code m k) q

    to : (m : Meaning) → Memᴰ m (listed_with i o) → meaning_of who f ≡ m → Asks who f (code_of m)
    to m k q = means_asks who f m (code m k) (read_of f) refl q

    from : (m : Meaning) → Memᴰ m (listed_with i o) → Asks who f (code_of m) → meaning_of who f ≡ m
    from m k a = asks_means who f (code_of m) a ∙ same_at (λ m. asked (code_of m)) (listed_with i o) (table i o) m k
