-- The eight bytes of a room: those in use, and zeros behind them.
-- Assumes nothing.
use Prim.Native.Nat.{ℕ, zero, suc, ◌+◌, ◌-◌, ◌≤◌, ◌<◌}
use mathlib.Core.Path.{◌≡◌, refl, ap, sym, ◌∙◌}
use mathlib.Core.Bool.{Bool, true}
use mathlib.Core.List.{List, [], ◌∷◌, ◌++◌, append_assoc}
use native.Mathlib.Omega.{arith}
use native.Mathlib.Numerals.{add-one}
use borrow.Author.Tests.{eq-eqb, eqb-true}
use lib.Dec.{eqb}
use lib.ListN.{length, take, drop, set, get_or, replicate}
use lib.ListN.{length-append, length-drop, length-replicate}
use lib.Seq.{length-take-le, drop-cons, drop-append_seam, set_split}
use Rattle.laws.specs.Lists.{every}
use Rattle.laws.proofs.Tests.{both}
use Rattle.banks.specs.Values.{padded}
use Rattle.memory.specs.Rules.{zero_from}

abbrev zeros : List ℕ → Bool
zeros bs = every (λ b. eqb b 0) bs

-- byte number i, and those from i + 1 on
module _ (bytes : List ℕ) (i : ℕ) (h : i < 8) (l : length bytes ≡ 8) where
  next : drop i bytes ≡ get_or bytes i 0 ∷ drop (i + 1) bytes
  next = drop-cons bytes i 0 (omega arith) ∙ ap (λ (k : ℕ). get_or bytes i 0 ∷ drop k bytes) (sym (add-one i))

-- a room has eight bytes
pub room_bytes : (used : ℕ) (bytes : List ℕ) → zero_from used bytes ≡ true → length bytes ≡ 8
unfolding zero_from
room_bytes used bytes e = eqb-true (length bytes) 8 (both (eqb (length bytes) 8) (zeros (drop used bytes)) e).0

zeros_are : (bs : List ℕ) → zeros bs ≡ true → bs ≡ replicate (length bs) 0
zeros_are [] e = refl
zeros_are (b ∷ bs) e =
    let p = both (eqb b 0) (zeros bs) e in
    λ i. eqb-true b 0 p.0 i ∷ zeros_are bs p.1 i

-- what is not in use is zero
unused : (used : ℕ) (bytes : List ℕ) → zero_from used bytes ≡ true
    → drop used bytes ≡ replicate (length (drop used bytes)) 0
unfolding zero_from
unused used bytes e = zeros_are (drop used bytes) (both (eqb (length bytes) 8) (zeros (drop used bytes)) e).1

-- the next byte is in use now, and those behind it still are not
zero_rest : (bytes : List ℕ) (i : ℕ) → i < 8 → zero_from i bytes ≡ true → zero_from (i + 1) bytes ≡ true
unfolding zero_from
zero_rest bytes i h e =
    let p = both (eqb (length bytes) 8) (zeros (drop i bytes)) e in
    let n = next bytes i h (room_bytes i bytes e) in
    rw p.0 (both (eqb (get_or bytes i 0) 0) (zeros (drop (i + 1) bytes)) (sym (ap zeros n) ∙ p.1)).1

pub set_next : (bytes : List ℕ) (i b : ℕ) → i < 8 → zero_from i bytes ≡ true
    → set bytes i b ≡ padded (take i bytes ++ b ∷ [])
set_next bytes i b h e =
    let l : length bytes ≡ 8 = room_bytes i bytes e in
    let t : length (take i bytes) ≡ i = length-take-le i bytes (omega arith) in
    let n : length (take i bytes ++ b ∷ []) ≡ length (take i bytes) + 1 = length-append (take i bytes) (b ∷ []) in
    let d : length (drop (i + 1) bytes) ≡ 8 - length (take i bytes ++ b ∷ []) =
    length-drop (i + 1) bytes ∙ omega arith in
    let z : drop (i + 1) bytes ≡ replicate (8 - length (take i bytes ++ b ∷ [])) 0 =
    unused (i + 1) bytes (zero_rest bytes i h e) ∙ ap (λ (k : ℕ). replicate k 0) d in
    set_split bytes i b (omega arith)
    ∙ ap (λ (k : ℕ). take i bytes ++ b ∷ drop k bytes) (sym (add-one i))
    ∙ ap (λ (l : List ℕ). take i bytes ++ b ∷ l) z
    ∙ sym (append_assoc (take i bytes) (b ∷ []) (replicate (8 - length (take i bytes ++ b ∷ [])) 0))

zeros_of : (n : ℕ) → zeros (replicate n 0) ≡ true
zeros_of zero = refl
zeros_of (suc n) = zeros_of n

-- a value with zeros behind it fills a room
pub padded_zero : (value : List ℕ) → length value ≤ 8 → zero_from (length value) (padded value) ≡ true
unfolding zero_from
padded_zero value h =
    let n : length (padded value) ≡ 8 = simp (length-append, length-replicate) (omega arith) in
    rw (eq-eqb (length (padded value)) 8 n, drop-append_seam value (replicate (8 - length value) 0))
    (zeros_of (8 - length value))
