-- Of any machine: where at every accepted point the store has the grammar's value, and there is one, the rest of the
-- demand follows.
-- Assumes nothing.
use mathlib.Core.Path.{◌≡◌, ap, ◌∙◌}
use mathlib.Core.Logic.{◌⊎◌, inl, inr}
use mathlib.Core.List.{List, [], ◌∷◌}
use Prim.Native.Nat.{ℕ, zero, suc, ◌-◌, ◌≤◌, ◌<◌}
use native.Mathlib.Omega.{arith}
use lib.ListN.{length, drop}
use Rattle.records.specs.Map.{records_of}
use Rattle.records.specs.declared.record.Record.{Record}
use Rattle.hearing.specs.declared.heard.Who.{Who}
use Rattle.unit.specs.Run.{Input}
use Rattle.history.specs.Writing.{past, WritingAt}
use Rattle.history.specs.Value.{Put, by_writing, PutsNone, ValueAt, as_left, last_put}
use Rattle.history.specs.Machine.{Machine, Start, Accepted}
use Rattle.history.specs.Demand.{bytes_of, Value, Whole, OthersFollow}
use Rattle.history.proofs.Past.{past_all, past_old, length_past, past_past}
use Rattle.history.proofs.Short.{none_inside}

lt_or_le : (a b : ℕ) → (a < b) ⊎ (b ≤ a)
lt_or_le zero zero = inr (omega arith)
lt_or_le zero (suc b) = inl (omega arith)
lt_or_le (suc a) zero = inr (omega arith)
lt_or_le (suc a) (suc b) = go (lt_or_le a b)
  where
    go : (a < b) ⊎ (b ≤ a) → (suc a < suc b) ⊎ (suc b ≤ suc a)
    go (inl e) = inl (omega arith)
    go (inr e) = inr (omega arith)

module _ (rs : List Record) (who : Who) (image left : List ℕ) (v : Record) where
  -- a value that nothing was put in since is the value still
  pub value_since : (h : List Input) (i : ℕ) → i ≤ length h
      → ((j : ℕ) → i ≤ j → j < length h → PutsNone rs who image v h j) → (bytes : List ℕ)
      → ValueAt rs who image left v (past h i) bytes → ValueAt rs who image left v h bytes
  value_since h i l no' bytes (as_left e none) = as_left e (λ k r cs p. go k r cs p (lt_or_le k i))
    where
      go : (k : ℕ) → k < length h → (cs : List ℕ) → Put rs who image v (past h (suc k)) cs → (k < i) ⊎ (i ≤ k) → ⊥
      go k r cs p (inl z) = none k (rw (length_past h i l) z) cs (rw (past_past h (suc k) i z l) p)
      go k r cs p (inr z) = no' k z r cs p
  value_since h i l no' bytes (last_put k r p none) =
      let z : k < i = rw (length_past h i l) at r in
      last_put k (omega arith) (rw (past_past h (suc k) i z l) at p) (λ j a b cs q. go j a b cs q (lt_or_le j i))
    where
      go : (j : ℕ) → k < j → j < length h → (cs : List ℕ) → Put rs who image v (past h (suc j)) cs
          → (j < i) ⊎ (i ≤ j) → ⊥
      go j a b cs q (inl z) = none j a (rw (length_past h i l) z) cs (rw (past_past h (suc j) i z l) q)
      go j a b cs q (inr z) = no' j z b cs q

  -- what the newest input put is the value
  pub value_now : (h : List Input) → 0 < length h → (bytes : List ℕ) → Put rs who image v h bytes
      → ValueAt rs who image left v h bytes
  value_now h l bytes p =
      let e : suc (length h - 1) ≡ length h = omega arith in
      last_put (length h - 1) (omega arith) (rw (e, past_all h) p) (λ j a b cs q. absurd (omega arith))

module _ {S : Type 0} (machine : Machine S) (start : Start) where
  -- an earlier point of an accepted history
  drop_accepted : (h : List Input) → Accepted machine start h → (n : ℕ) → Accepted machine start (drop n h)
  drop_accepted h A zero = A
  drop_accepted [] A (suc n) = A
  drop_accepted (x ∷ h) A (suc n) = drop_accepted h A.1 n

  pub past_accepted : (h : List Input) → Accepted machine start h → (i : ℕ) → Accepted machine start (past h i)
  unfolding past
  past_accepted h A i = drop_accepted h A (length h - i)

  module _ (v : Record) (wide : 1 ≤ v.width)
      (value : (h : List Input) → Accepted machine start h → Value machine start v h (bytes_of machine start v h))
      (one : (h : List Input) → Accepted machine start h → (bytes : List ℕ) → Value machine start v h bytes
      → bytes_of machine start v h ≡ bytes) where
    abbrev rs : List Record
    rs = records_of start.map

    -- the value of the earlier point is that of this one
    same_since : (h : List Input) → Accepted machine start h → (i : ℕ) → i ≤ length h
        → ((j : ℕ) → i ≤ j → j < length h → PutsNone rs start.who start.image v h j)
        → bytes_of machine start v h ≡ bytes_of machine start v (past h i)
    same_since h A i l no' =
        one h A (bytes_of machine start v (past h i))
        (value_since rs start.who start.image _ v h i l no' _ (value (past h i) (past_accepted h A i)))

    some_inputs : (h : List Input) (bytes : List ℕ) → WritingAt rs start.who v bytes h → 0 < length h
    some_inputs h bytes w = omega (arith, w.ending (v.width - 1) (omega arith))

    follows : (h : List Input) → Accepted machine start h → Whole machine start v h
    follows h A = record {
      value = value h A;
      one = one h A;
      complete = λ bs w.
          one h A bs (value_now rs start.who start.image _ v h (some_inputs h bs w) bs (by_writing w));
      cut_short = λ bs w i lo hi.
          let L : length (past h i) ≡ i = length_past h i (omega arith) in
          same_since (past h i) (past_accepted h A i) (w.place 0) (omega arith)
          (λ j a b cs p. none_inside rs start.who start.image v wide h bs w j a (omega arith) cs
          (rw (past_past h (suc j) i (omega arith) (omega arith)) at p))
          ∙ ap (bytes_of machine start v) (past_past h (w.place 0) i lo (omega arith));
      cut = λ x B no'.
          same_since (x ∷ h) B (length h) (omega arith)
          (λ j a b cs p. let e : j ≡ length h = omega arith in no' cs (rw (e, past_all (x ∷ h)) at p))
          ∙ ap (bytes_of machine start v) (past_old x h (length h) (omega arith) ∙ past_all h);
      unchanged = λ i l no'. same_since h A i l no';
    }

pub others_follow : {S : Type 0} (machine : Machine S) → OthersFollow machine
others_follow machine start v wide value one h A = follows machine start v wide value one h A
