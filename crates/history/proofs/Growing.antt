-- A writing as it grows input by input, and as the function of proofs/Progress.antt: they are one.
-- Assumes nothing.
use mathlib.Core.Path.{◌≡◌, refl, ap, ◌∙◌}
use mathlib.Core.Logic.{◌⊎◌, inl, inr}
use mathlib.Core.Bool.{Bool, true, false, ◌||◌}
use mathlib.Core.List.{List, [], ◌∷◌, ◌++◌}
use Prim.Native.Nat.{ℕ, suc, ◌+◌, ◌≤◌, ◌<◌}
use native.Mathlib.Omega.{arith}
use lib.Dec.{ltb, eqb}
use lib.ListN.{length, length-append}
use borrow.Author.Tests.{eqb-true, ltb-true, eq-eqb, ne_eqb}
use Rattle.std.specs.Prelude.{if◌then◌else◌}
use Rattle.laws.proofs.Sides.{or_left, or_right}
use Rattle.records.specs.Map.{writable}
use Rattle.records.specs.declared.record.Record.{Record}
use Rattle.records.specs.Facts.{FieldsHold}
use Rattle.memory.proofs.ForHistoryStaged.{taking, unfinished, unfinished_short, taking_first, taking_next, Taking}
use Rattle.memory.proofs.ForHistoryStaged.{begins, goes_on, misses, takings}
use Rattle.hearing.specs.declared.heard.Who.{Who}
use Rattle.unit.specs.Run.{Input}
use Rattle.history.specs.Deeds.{Deed, opens, resets, puts, spares, breaks, powers}
use Rattle.history.specs.Context.{deed_after}
use Rattle.history.specs.Lock.{lock, Unlocks}
use Rattle.history.proofs.Progress.{ripe_by, ok_for, ripe, progress}

pub length_snoc : (bs : List ℕ) (b : ℕ) → length (bs ++ b ∷ []) ≡ suc (length bs)
length_snoc bs b = rw length-append (omega arith)

module _ (rs : List Record) (who : Who) (v : Record) where
  abbrev pub Unlocked : List Input → Type 0
  Unlocked h = Unlocks v (lock rs who h v.bank)

  -- the last executed writes put these bytes to v's locations, from the first on, one after the other
  pub data Begun : List ℕ → List Input → Type 0 where
    first : {h : List Input} {x : Input} {b : ℕ} → deed_after rs who h x ≡ puts v.bank v.first b → Unlocked h
        → Begun (b ∷ []) (x ∷ h)
    later : {h : List Input} {x : Input} {bs : List ℕ} → Begun bs h → length bs < v.width
        → deed_after rs who h x ≡ spares
        → Begun bs (x ∷ h)
    next : {h : List Input} {x : Input} {b : ℕ} {bs : List ℕ} → Begun bs h → length bs < v.width
        → deed_after rs who h x ≡ puts v.bank (v.first + length bs) b → Unlocked h → Begun (bs ++ b ∷ []) (x ∷ h)

  -- the newest input is the last write of a writing of v
  pub record Writing (bs : List ℕ) (h : List Input) : Type 0 where
    pub begun : Begun bs h
    pub whole : length bs ≡ v.width

module _ (v : Record) (F : FieldsHold v) where
  wide : 1 ≤ v.width
  wide = F.some_width

  unfinished_length : (bs : List ℕ) → length (unfinished v bs) < v.width
  unfolding unfinished wide
  unfinished_length bs = go (ltb (length bs) v.width) refl
    where
      go : (b : Bool) → ltb (length bs) v.width ≡ b → length (if b then bs else []) < v.width
      go true b = ltb-true _ _ b
      go false b = wide

  unfinished_some : (bs : List ℕ) → 1 ≤ length (unfinished v bs) → unfinished v bs ≡ bs
  unfolding unfinished
  unfinished_some bs = go (ltb (length bs) v.width)
    where
      go : (b : Bool) → 1 ≤ length (if b then bs else []) → (if b then bs else []) ≡ bs
      go true h = refl
      go false h = absurd (omega arith)

  module _ (rs : List Record) (who : Who) where
    abbrev ok_at : List Input → Bool
    ok_at h = ok_for v (lock rs who h v.bank)

    ok_of : (h : List Input) → Unlocked rs who v h → ok_at h ≡ true
    unfolding ok_for
    ok_of h u = go F.locks
      where
        go : (v.lockable ≡ 0) ⊎ ((v.lockable ≡ 1) × (writable v ≡ true))
            → (eqb v.lockable 0 || eqb (lock rs who h v.bank) 0x55) ≡ true
        go (inl e) = or_left _ _ (eq-eqb v.lockable 0 e)
        go (inr e) = or_right (eqb v.lockable 0) _ (eq-eqb (lock rs who h v.bank) 0x55 (u e.0))

    of_ok : (h : List Input) → ok_at h ≡ true → Unlocked rs who v h
    unfolding ok_for
    of_ok h e l =
        let no' : v.lockable ≡ 0 → ⊥ = λ z. omega arith in
        eqb-true (lock rs who h v.bank) 0x55 (rw (ne_eqb v.lockable 0 no') at e)

    pub progress_length : (h : List Input) → length (progress rs who v h) < v.width
    progress_length h = unfinished_length (ripe rs who v h)

    progress_of : (h : List Input) (bs : List ℕ) → ripe rs who v h ≡ bs → length bs < v.width
        → progress rs who v h ≡ bs
    progress_of h bs e k = ap (unfinished v) e ∙ unfinished_short v bs k

    -- ---- the relation gives the function

    record Ripe (bs : List ℕ) (h : List Input) : Type 0 where
      is : ripe rs who v h ≡ bs
      some : 1 ≤ length bs

    begun_ripe : {bs : List ℕ} {h : List Input} → Begun rs who v bs h → Ripe bs h
    unfolding ripe ripe_by
    begun_ripe (first {h = h} {b = b} e u) = record {
      is = rw e (taking_first v (progress rs who v h) (ok_at h) v.bank v.first b refl refl (ok_of h u));
      some = omega arith;
    }
    begun_ripe (later {h = h} {bs = bs} r k e) =
        let R = begun_ripe r in record { is = rw e (progress_of h bs R.is k); some = R.some }
    begun_ripe (next {h = h} {b = b} {bs = bs} r k e u) =
        let R = begun_ripe r in
        record {
          is = rw (e, progress_of h bs R.is k) (taking_next v bs (ok_at h) v.bank
              (v.first + length bs) b refl refl R.some (ok_of h u));
          some = rw length_snoc (omega arith);
        }

    pub writing_ripe : {bs : List ℕ} {h : List Input} → Writing rs who v bs h → ripe rs who v h ≡ bs
    writing_ripe w = (begun_ripe w.begun).is

    -- ---- the function gives the relation

    ripe_short : (h : List Input) → length (ripe rs who v h) ≤ v.width
    unfolding ripe ripe_by
    ripe_short [] = omega arith
    ripe_short (x ∷ h) = go (deed_after rs who h x)
      where
        P : List ℕ
        P = progress rs who v h

        pick : (bank location byte : ℕ) → Taking v P (ok_at h) bank location byte
            → length (taking v P (ok_at h) bank location byte) ≤ v.width
        pick bank location byte (begins a b o e) = rw e wide
        pick bank location byte (goes_on a b n o e) = rw e (rw length_snoc (progress_length h))
        pick bank location byte (misses e) = rw e (omega arith)

        go : (d : Deed) → length (ripe_by v P (ok_at h) d) ≤ v.width
        go opens = omega arith
        go (resets dtr0) = omega arith
        go (puts bank location byte) = pick bank location byte (takings v P (ok_at h) bank location byte)
        go spares = let l : length (progress rs who v h) < v.width = progress_length h in omega arith
        go breaks = omega arith
        go powers = omega arith

    ripe_begun : (h : List Input) → 1 ≤ length (ripe rs who v h) → Begun rs who v (ripe rs who v h) h
    unfolding ripe ripe_by
    ripe_begun [] k = absurd (omega arith)
    ripe_begun (x ∷ h) k = go (λ y. ripe_begun h y) (deed_after rs who h x) refl k
      where
        P : List ℕ
        P = progress rs who v h

        -- what was begun before
        earlier : (1 ≤ length (ripe rs who v h) → Begun rs who v (ripe rs who v h) h) → 1 ≤ length P
            → Begun rs who v P h
        earlier ih n = rw (unfinished_some (ripe rs who v h) n) (ih (rw (unfinished_some (ripe rs who v h) n) at n))

        pick : (1 ≤ length (ripe rs who v h) → Begun rs who v (ripe rs who v h) h) → (bank location byte : ℕ)
            → deed_after rs who h x ≡ puts bank location byte
            → 1 ≤ length (taking v P (ok_at h) bank location byte) → Taking v P (ok_at h) bank location byte
            → Begun rs who v (taking v P (ok_at h) bank location byte) (x ∷ h)
        pick ih bank location byte e n (begins a b o q) =
            let d : deed_after rs who h x ≡ puts v.bank v.first byte = cc in rw q (first d (of_ok h o))
        pick ih bank location byte e n (goes_on a b s o q) =
            let d : deed_after rs who h x ≡ puts v.bank (v.first + length P) byte = cc in
            rw q (next (earlier ih s) (progress_length h) d (of_ok h o))
        pick ih bank location byte e n (misses q) = let z : 1 ≤ length {A = ℕ} [] = rw q at n in absurd (omega arith)

        go : (1 ≤ length (ripe rs who v h) → Begun rs who v (ripe rs who v h) h) → (d : Deed) → deed_after rs who h x ≡ d
            → 1 ≤ length (ripe_by v P (ok_at h) d) → Begun rs who v (ripe_by v P (ok_at h) d) (x ∷ h)
        go ih opens e n = absurd (omega arith)
        go ih (resets dtr0) e n = absurd (omega arith)
        go ih (puts bank location byte) e n = pick ih bank location byte e n (takings v P (ok_at h) bank location byte)
        go ih spares e n = later (earlier ih n) (progress_length h) e
        go ih breaks e n = absurd (omega arith)
        go ih powers e n = absurd (omega arith)

    pub ripe_writing : (h : List Input) → v.width ≤ length (ripe rs who v h) → Writing rs who v (ripe rs who v h) h
    ripe_writing h k =
        let u : length (ripe rs who v h) ≤ v.width = ripe_short h in
        record { begun = ripe_begun h (omega (arith, wide)); whole = omega arith }
