-- Bytes written into an output, one by one and one part behind the other.
-- Assumes nothing.
use Prim.Native.Nat.{ℕ, suc, ◌+◌, ◌-◌, ◌≤◌}
use mathlib.Core.Path.{◌≡◌, refl, ap, sym, ◌∙◌}
use mathlib.Core.List.{List, [], ◌∷◌, ◌++◌, append-nil, append_assoc}
use native.Mathlib.Omega.{arith}
use native.Mathlib.Nat.{add-zero, add-sub_cancel_left}
use borrow.Rule.Slice.PartMut.{put_mid}
use lib.ListN.{length, take, drop, set, length-append, length-drop}
use lib.Seq.{sets, sets-eq, length-sets, take_at, drop_at, length-take-le, drop-drop}
use Rattle.laws.specs.Parts.{put}
use Rattle.compare.specs.Compare.{listed_over}

-- bytes copied over a part are put there
put_copy : (s : List ℕ) (at end : ℕ) (bytes left : List ℕ) → left ≡ bytes → end ≡ at + length bytes → end ≤ length s
    → put_mid at (end - at) s left ≡ put at bytes s
unfolding put
put_copy s at end bytes left e k h =
    rw (e, k, add-sub_cancel_left at (length bytes), drop-drop (length bytes) at s)
    (sym (append_assoc (take at s) bytes (drop (at + length bytes) s)) ∙ sym (sets-eq bytes s at (omega arith)))

-- two parts that are put one behind the other are put as one
pub put_two : (at next : ℕ) (a b s : List ℕ) → next ≡ at + length a → put next b (put at a s) ≡ put at (a ++ b) s
unfolding put
put_two at next [] b s e = ap (λ (k : ℕ). sets s k b) (e ∙ add-zero at)
put_two at next (x ∷ a) b s e = put_two (suc at) next a b (set s at x) (omega arith)

-- and three are, copied over parts of 8 bytes
pub put_three : (at : ℕ) (a b c s : List ℕ) {l m n : List ℕ} → length a ≡ 8 → length b ≡ 8 → length c ≡ 8 → at + 24 ≤ length s
    → l ≡ a → m ≡ b → n ≡ c
    → put_mid (at + 16) (at + 24 - (at + 16)) (put_mid (at + 8) (at + 16 - (at + 8)) (put_mid at (at + 8 - at) s l) m) n
    ≡ put at (a ++ b ++ c) s
unfolding put
put_three at a b c s {l} {m} {n} h k j room p q r =
    let first = put_copy s at (at + 8) a l p (omega arith) (omega arith) in
    let second = put_copy (put at a s) (at + 8) (at + 16) b m q (omega arith) (omega (arith, length-sets s at a)) in
    let third = put_copy (put at (a ++ b) s) (at + 16) (at + 24) c n r (omega arith) (omega (arith, length-sets s at (a ++ b))) in
    rw (first, second, put_two at (at + 8) a b s (omega arith), third)
    (put_two at (at + 16) (a ++ b) c s (omega (arith, length-append a b)))

-- a list over what was there, written up to a place, and what is still to come
pub record Written (list before rest : List ℕ) (at : ℕ) (output : List ℕ) : Type 0 where
  pub so_far : output ≡ take at list ++ drop at before
  pub to_come : list ≡ take at list ++ rest
  pub within : at ≤ length list
  pub room : length list ≤ length before

pub nothing_yet : (list before rest : List ℕ) → list ≡ rest → length list ≤ length before → Written list before rest 0 before
nothing_yet list before rest e h = record { so_far = refl; to_come = e; within = omega arith; room = h }

module _ (list before rest : List ℕ) (at : ℕ) (output : List ℕ) (w : Written list before rest at output) where
  front : length (take at list) ≡ at
  front = length-take-le at list w.within

  pub as_long : length output ≡ length before
  as_long =
      let within = w.within in
      let room = w.room in
      ap length w.so_far ∙ length-append (take at list) (drop at before)
      ∙ omega (arith, front, length-drop at before)

  -- nothing is to come
  pub all_written : rest ≡ [] → output ≡ listed_over list before
  unfolding listed_over
  all_written e =
      let whole : list ≡ take at list = w.to_come ∙ ap (λ (r : List ℕ). take at list ++ r) e ∙ append-nil (take at list) in
      let end : at ≡ length list = sym (ap length whole ∙ front) in
      w.so_far ∙ ap (λ (l : List ℕ). l ++ drop at before) (sym whole)
      ∙ ap (λ (n : ℕ). list ++ drop n before) end

  -- the next part
  module _ (part more : List ℕ) (e : rest ≡ part ++ more) where
    split : list ≡ take at list ++ part ++ more
    split =
        w.to_come ∙ ap (λ (r : List ℕ). take at list ++ r) e ∙ sym (append_assoc (take at list) part more)

    ends : length (take at list ++ part) ≡ at + length part
    ends = length-append (take at list) part ∙ ap (λ (n : ℕ). n + length part) front

    inside : at + length part ≤ length list
    inside = omega (arith, ends, ap length split ∙ length-append (take at list ++ part) more)

    pub fits : at + length part ≤ length output
    fits =
        let room = w.room in
        omega (arith, inside, as_long)

    pub goes_on : Written list before more (at + length part) (put at part output)
    unfolding put
    goes_on =
        let longer : take (at + length part) list ≡ take at list ++ part =
        ap (take (at + length part)) split ∙ take_at (take at list ++ part) more (at + length part) ends in
        let head : take at output ≡ take at list = ap (take at) w.so_far ∙ take_at (take at list) (drop at before) at front in
        let tail : drop at output ≡ drop at before = ap (drop at) w.so_far ∙ drop_at (take at list) (drop at before) at front in
        let behind : drop (at + length part) output ≡ drop (at + length part) before =
        sym (drop-drop (length part) at output) ∙ ap (drop (length part)) tail ∙ drop-drop (length part) at before in
        record {
          so_far = sets-eq part output at fits ∙ rw (head, behind, longer);
          to_come = split ∙ ap (λ (l : List ℕ). l ++ more) (sym longer);
          within = inside;
          room = w.room;
        }
