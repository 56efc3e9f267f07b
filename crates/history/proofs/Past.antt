-- Inputs by their numbers: what one more input changes.
-- Assumes nothing.
use mathlib.Core.Path.{◌≡◌, ap}
use mathlib.Core.Logic.{◌⊎◌, inl, inr}
use mathlib.Core.List.{List, [], ◌∷◌}
use Prim.Native.Nat.{ℕ, suc, ◌-◌, ◌≤◌, ◌<◌}
use native.Mathlib.Omega.{arith}
use native.Mathlib.Nat.{eq-or-lt_of_le}
use lib.ListN.{length}
use Rattle.records.specs.declared.record.Record.{Record}
use Rattle.hearing.specs.declared.heard.Who.{Who}
use Rattle.unit.specs.Run.{Input}
use Rattle.history.specs.Context.{deed_after}
use Rattle.history.specs.Writing.{past, latest, deed_at}

pub past_all : (h : List Input) → past h (length h) ≡ h
unfolding past
past_all h = let e : length h - length h ≡ 0 = omega arith in rw e

pub past_old : (x : Input) (h : List Input) (i : ℕ) → i ≤ length h → past (x ∷ h) i ≡ past h i
unfolding past
past_old x h i k = let e : suc (length h) - i ≡ suc (length h - i) = omega arith in rw e

module _ (rs : List Record) (who : Who) where
  pub at_old : (x : Input) (h : List Input) (i : ℕ) → i < length h → deed_at rs who (x ∷ h) i ≡ deed_at rs who h i
  unfolding deed_at
  at_old x h i k = ap (latest rs who) (past_old x h (suc i) k)

  pub at_new : (x : Input) (h : List Input) → deed_at rs who (x ∷ h) (length h) ≡ deed_after rs who h x
  unfolding deed_at latest
  at_new x h = ap (latest rs who) (past_all (x ∷ h))

-- the last, or an earlier one
pub last_or : (j n : ℕ) → j < suc n → (j ≡ n) ⊎ (j < n)
last_or j n h = go (eq-or-lt_of_le h)
  where
    go : (suc j ≡ suc n) ⊎ (suc j < suc n) → (j ≡ n) ⊎ (j < n)
    go (inl e) = inl (omega arith)
    go (inr e) = inr (omega arith)

-- how long an earlier point's history is, and an earlier point of it
pub length_past : (h : List Input) (i : ℕ) → i ≤ length h → length (past h i) ≡ i
length_past [] i l = let z : i ≡ 0 = omega arith in rw (z, past_all [])
length_past (x ∷ h) i l = go (length_past h i) (last_or i (suc (length h)) (omega arith))
  where
    go : (i ≤ length h → length (past h i) ≡ i) → (i ≡ suc (length h)) ⊎ (i < suc (length h))
        → length (past (x ∷ h) i) ≡ i
    go ih (inl z) = rw (z, past_all (x ∷ h))
    go ih (inr z) = let k : i ≤ length h = omega arith in rw (past_old x h i k) (ih k)

pub past_past : (h : List Input) (j i : ℕ) → j ≤ i → i ≤ length h → past (past h i) j ≡ past h j
past_past [] j i l k = let z : i ≡ 0 = omega arith in rw (z, past_all [])
past_past (x ∷ h) j i l k = go (past_past h j i l) (last_or i (suc (length h)) (omega arith))
  where
    go : (i ≤ length h → past (past h i) j ≡ past h j) → (i ≡ suc (length h)) ⊎ (i < suc (length h))
        → past (past (x ∷ h) i) j ≡ past (x ∷ h) j
    go ih (inl z) = rw (z, past_all (x ∷ h))
    go ih (inr z) =
        let a : i ≤ length h = omega arith in
        let b : j ≤ length h = omega arith in
        rw (past_old x h i a, past_old x h j b) (ih a)
