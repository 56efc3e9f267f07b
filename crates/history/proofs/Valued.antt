-- The value as specs/Value.antt has it, and the value as the function of proofs/Progress.antt, are one: it exists and
-- is unique.
-- Assumes nothing.
use mathlib.Core.Path.{◌≡◌, refl, sym, ap, ◌∙◌}
use mathlib.Core.Logic.{◌⊎◌, inl, inr}
use mathlib.Core.Bool.{Bool, true, false, ◌&&◌}
use mathlib.Core.List.{List, [], ◌∷◌}
use Prim.Native.Nat.{ℕ, suc, ◌≤◌, ◌<◌}
use native.Mathlib.Omega.{arith}
use lib.Dec.{ltb, eqb}
use lib.ListN.{length}
use borrow.Author.Tests.{eqb-true, eqb-false, ltb-true, ltb-false, eq-eqb, le-ltb}
use Rattle.laws.proofs.Tests.{both, and_of, clash}
use Rattle.records.specs.declared.record.Record.{Record}
use Rattle.records.specs.Facts.{FieldsHold}
use Rattle.memory.specs.Filled.{selects, fresh}
use Rattle.memory.proofs.ForHistoryStaged.{taking, finished}
use Rattle.hearing.specs.declared.heard.Who.{Who}
use Rattle.unit.specs.Run.{Input, power_on, hears}
use Rattle.history.specs.Deeds.{Deed, opens, resets, puts, spares, breaks, powers}
use Rattle.history.specs.Context.{deed_after}
use Rattle.history.specs.Lock.{lock}
use Rattle.history.specs.Writing.{past, WritingAt, ResetAt}
use Rattle.history.specs.Value.{Put, by_writing, by_reset, by_power_on, PutsNone, ValueAt, as_left, last_put}
use Rattle.history.proofs.Enabled.{frame_no_power}
use Rattle.history.proofs.Selecting.{selects_of, of_selects}
use Rattle.history.proofs.Growing.{writing_ripe, ripe_writing, progress_length}
use Rattle.history.proofs.Past.{past_all, past_old, last_or}
use Rattle.history.proofs.Placed.{placed, unplaced}
use Rattle.history.proofs.Progress.{ripe_by, value_by, ok_for, ripe, progress, value}

module _ (rs : List Record) (who : Who) (image left : List ℕ) (v : Record) (F : FieldsHold v) where
  abbrev val : List Input → List ℕ
  val h = value rs who v image left h

  abbrev ok : List Input → Bool
  ok h = ok_for v (lock rs who h v.bank)

  -- the bytes of a writing are the ripe ones, all of them
  written : {bs : List ℕ} {h : List Input} → WritingAt rs who v bs h → (ripe rs who v h ≡ bs) × (length bs ≡ v.width)
  written {bs} {h} w = let W = unplaced rs who v bs h w F.some_width in (writing_ripe v F rs who W, W.whole)

  -- ---- an input that puts bytes there

  value_written : (h : List Input) (bs : List ℕ) → ripe rs who v h ≡ bs → length bs ≡ v.width → val h ≡ bs
  unfolding value ripe ripe_by value_by finished
  value_written [] bs i k = let z : 0 ≡ length bs = ap length i in absurd (omega (arith, F.some_width))
  value_written (x ∷ h) bs i k = go (deed_after rs who h x) i
    where
      P : List ℕ
      P = progress rs who v h

      none : [] ≡ bs → {A : Type 0} → A
      none e = let z : 0 ≡ length bs = ap length e in absurd (omega (arith, F.some_width))

      go : (d : Deed) → ripe_by v P (ok h) d ≡ bs → value_by image v (val h) P (ok h) (lock rs who h v.bank) d ≡ bs
      go opens i = none i
      go (resets dtr0) i = none i
      go (puts bank location byte) i = rw i (rw (le-ltb (length bs) v.width (omega arith)))
      go spares i =
          let z : length P ≡ length bs = ap length i in
          let y : length P < v.width = progress_length v F rs who h in
          absurd (omega arith)
      go breaks i = none i
      go powers i = none i

  put_value : {h : List Input} {bs : List ℕ} → Put rs who image v h bs → val h ≡ bs
  unfolding value value_by deed_after
  put_value (by_writing {h = h} {bytes = bs} w) = value_written h bs (written w).0 (written w).1
  put_value (by_reset {x = x} {h = h} r) =
      let u : lock rs who h v.bank ≡ 0x55 = omega (arith, r.unlocked) in
      rw (r.pair, selects_of r.dtr0 v.bank r.selected, eq-eqb (lock rs who h v.bank) 0x55 u)
  put_value (by_power_on e) = rw (eq-eqb v.kind 2 e)

  -- ---- an input that puts none

  none_put : (x : Input) (h : List Input) → length (ripe rs who v (x ∷ h)) < v.width
      → ((dtr0 : ℕ) → deed_after rs who h x ≡ resets dtr0 → selects dtr0 v.bank ≡ true
      → lock rs who h v.bank ≡ 0x55 → ⊥)
      → (deed_after rs who h x ≡ powers → v.kind ≡ 2 → ⊥) → (bs : List ℕ) → Put rs who image v (x ∷ h) bs → ⊥
  unfolding deed_after
  none_put x h short no-reset no_power bs (by_writing w) =
      let e : length (ripe rs who v (x ∷ h)) ≡ length bs = ap length (written w).0 in omega (arith, (written w).1)
  none_put x h short no-reset no_power bs (by_reset r) =
      no-reset r.dtr0 r.pair (selects_of r.dtr0 v.bank r.selected) r.unlocked
  none_put x h short no-reset no_power bs (by_power_on e) = no_power refl e

  -- one more input puts the value anew, or leaves it
  data Change (x : Input) (h : List Input) : Type 0 where
    puts_it : Put rs who image v (x ∷ h) (val (x ∷ h)) → Change x h
    leaves_it : ((bs : List ℕ) → ¬ Put rs who image v (x ∷ h) bs) → val (x ∷ h) ≡ val h → Change x h

  module _ (x : Input) (h : List Input) where
    abbrev P : List ℕ
    P = progress rs who v h

    abbrev locked : ℕ
    locked = lock rs who h v.bank

    -- no reset, no power-on, and no whole value ripe
    still : (d : Deed) → deed_after rs who h x ≡ d → ((dtr0 : ℕ) → d ≡ resets dtr0 → ⊥) → (d ≡ powers → ⊥)
        → length (ripe_by v P (ok h) d) < v.width → value_by image v (val h) P (ok h) locked d ≡ val h → Change x h
    unfolding ripe value
    still d e no-reset no_power short same =
        leaves_it (none_put x h (rw e short) (λ dtr0 q s l. no-reset dtr0 (sym e ∙ q)) (λ q k. no_power (sym e ∙ q)))
        (rw e same)

    change_reset : (dtr0 : ℕ) → deed_after rs who h x ≡ resets dtr0 → (b : Bool)
        → (selects dtr0 v.bank && eqb locked 0x55) ≡ b → Change x h
    unfolding ripe ripe_by value value_by
    change_reset dtr0 e true b =
        let p = both (selects dtr0 v.bank) (eqb locked 0x55) b in
        let S = of_selects dtr0 v.bank p.0 in
        let R : ResetAt rs who v.bank x h = record
        { dtr0 = dtr0; pair = e; selected = S; unlocked = eqb-true locked 0x55 p.1 } in
        let q : val (x ∷ h) ≡ fresh image v = rw (e, b) in
        puts_it (rw q (by_reset R))
    change_reset dtr0 e false b =
        leaves_it (none_put x h (rw e F.some_width)
        (λ d q s l. let y : dtr0 ≡ d = cc in
        clash (selects dtr0 v.bank && eqb locked 0x55)
        (and_of (selects dtr0 v.bank) (eqb locked 0x55) (rw y s) (eq-eqb locked 0x55 l)) b)
        (λ q k. let z : ◌≡◌ {A = ℕ} 0 1 = cc in omega arith)) (rw (e, b))

    change_puts : (bank location byte : ℕ) → deed_after rs who h x ≡ puts bank location byte
        → (b : Bool) → ltb (length (taking v P (ok h) bank location byte)) v.width ≡ b → Change x h
    unfolding ripe ripe_by value value_by finished
    change_puts bank location byte e true b =
        still (puts bank location byte) e (λ d q. let z : ◌≡◌ {A = ℕ} 0 1 = cc in omega arith)
        (λ q. let z : ◌≡◌ {A = ℕ} 0 1 = cc in omega arith) (ltb-true _ _ b) (rw b)
    change_puts bank location byte e false b =
        let T : List ℕ = taking v P (ok h) bank location byte in
        let i : ripe rs who v (x ∷ h) ≡ T = rw e in
        let q : val (x ∷ h) ≡ ripe rs who v (x ∷ h) = rw (e, b) in
        puts_it (rw q (by_writing (placed rs who v (ripe rs who v (x ∷ h)) (x ∷ h)
        (ripe_writing v F rs who (x ∷ h) (rw i (ltb-false _ _ b))))))

  change_power : (x : Input) (h : List Input) → deed_after rs who h x ≡ powers → (b : Bool) → eqb v.kind 2 ≡ b
      → Change x h
  unfolding ripe ripe_by value value_by deed_after
  change_power (hears x) h e b k = absurd (frame_no_power rs who x h e)
  change_power power_on h e true k =
      let q : val (power_on ∷ h) ≡ fresh image v = rw k in puts_it (rw q (by_power_on (eqb-true v.kind 2 k)))
  change_power power_on h e false k =
      leaves_it (none_put power_on h F.some_width (λ d q s l. let z : ◌≡◌ {A = ℕ} 0 1 = cc in omega arith)
      (λ q y. eqb-false v.kind 2 k y)) (rw k)

  change : (x : Input) (h : List Input) → Change x h
  unfolding ripe_by value_by
  change x h = go (deed_after rs who h x) refl
    where
      go : (d : Deed) → deed_after rs who h x ≡ d → Change x h
      go opens e =
          still x h opens e (λ y q. let z : ◌≡◌ {A = ℕ} 0 1 = cc in omega arith)
          (λ q. let z : ◌≡◌ {A = ℕ} 0 1 = cc in omega arith) F.some_width refl
      go (resets dtr0) e = change_reset x h dtr0 e (selects dtr0 v.bank && eqb (lock rs who h v.bank) 0x55) refl
      go (puts bank location byte) e =
          change_puts x h bank location byte e (ltb
          (length (taking v (progress rs who v h) (ok h) bank location byte)) v.width) refl
      go spares e =
          still x h spares e (λ y q. let z : ◌≡◌ {A = ℕ} 0 1 = cc in omega arith)
          (λ q. let z : ◌≡◌ {A = ℕ} 0 1 = cc in omega arith)
          (progress_length v F rs who h) refl
      go breaks e =
          still x h breaks e (λ y q. let z : ◌≡◌ {A = ℕ} 0 1 = cc in omega arith)
          (λ q. let z : ◌≡◌ {A = ℕ} 0 1 = cc in omega arith) F.some_width refl
      go powers e = change_power x h e (eqb v.kind 2) refl

  -- ---- one value

  unput : (x : Input) (h : List Input) → ((bs : List ℕ) → ¬ Put rs who image v (x ∷ h) bs) → val (x ∷ h) ≡ val h
  unput x h no' = go (change x h)
    where
      go : Change x h → val (x ∷ h) ≡ val h
      go (puts_it p) = absurd (no' (val (x ∷ h)) p)
      go (leaves_it n e) = e

  none_last : (x : Input) (h : List Input) → PutsNone rs who image v (x ∷ h) (length h) → (bs : List ℕ)
      → ¬ Put rs who image v (x ∷ h) bs
  none_last x h no' bs p = no' bs (rw (past_all (x ∷ h)) p)

  -- the grammar's value is the function's
  pub at_value : (h : List Input) (bs : List ℕ) → ValueAt rs who image left v h bs → val h ≡ bs
  unfolding value
  at_value [] bs (as_left e no') = e
  at_value [] bs (last_put i l p no') = absurd (omega arith)
  at_value (x ∷ h) bs (as_left e no') =
      unput x h (none_last x h (no' (length h) (omega arith)))
      ∙ at_value h bs (as_left e (λ i l cs p. let k : suc i ≤ length h = l in
      no' i (omega arith) cs (rw (past_old x h (suc i) k) p)))
  at_value (x ∷ h) bs (last_put i l p no') = go (λ y. at_value h bs y) (last_or i (length h) l)
    where
      go : (ValueAt rs who image left v h bs → val h ≡ bs) → (i ≡ length h) ⊎ (i < length h) → val (x ∷ h) ≡ bs
      go ih (inl z) = put_value (rw (z, past_all (x ∷ h)) at p)
      go ih (inr z) =
          unput x h (none_last x h (no' (length h) z (omega arith)))
          ∙ ih (last_put i z (rw (past_old x h (suc i) z) at p)
          (λ j q r cs y. no' j q (omega arith) cs (rw (past_old x h (suc j) r) y)))

  -- ---- there is one

  more : (x : Input) (h : List Input) (bs : List ℕ) → ((cs : List ℕ) → ¬ Put rs who image v (x ∷ h) cs)
      → ValueAt rs who image left v h bs → ValueAt rs who image left v (x ∷ h) bs
  more x h bs no' (as_left e none') = as_left e (λ i l cs p. go i cs p (last_or i (length h) l))
    where
      go : (i : ℕ) (cs : List ℕ) → Put rs who image v (past (x ∷ h) (suc i)) cs → (i ≡ length h) ⊎ (i < length h) → ⊥
      go i cs p (inl z) = no' cs (rw (z, past_all (x ∷ h)) at p)
      go i cs p (inr z) = none' i z cs (rw (past_old x h (suc i) z) at p)
  more x h bs no' (last_put i l p none') =
      last_put i (omega arith) (rw (past_old x h (suc i) l) p) (λ j q r cs y. go j q cs y (last_or j (length h) r))
    where
      go : (j : ℕ) → i < j → (cs : List ℕ) → Put rs who image v (past (x ∷ h) (suc j)) cs
          → (j ≡ length h) ⊎ (j < length h) → ⊥
      go j q cs y (inl z) = no' cs (rw (z, past_all (x ∷ h)) at y)
      go j q cs y (inr z) = none' j q z cs (rw (past_old x h (suc j) z) at y)

  put_now : (x : Input) (h : List Input) (bs : List ℕ) → Put rs who image v (x ∷ h) bs
      → ValueAt rs who image left v (x ∷ h) bs
  put_now x h bs p = last_put (length h) (omega arith) (rw (past_all (x ∷ h)) p) (λ j q r cs y. absurd (omega arith))

  pub value_at : (h : List Input) → ValueAt rs who image left v h (val h)
  unfolding value
  value_at [] = as_left refl (λ i l cs p. omega arith)
  value_at (x ∷ h) = go (value_at h) (change x h)
    where
      go : ValueAt rs who image left v h (val h) → Change x h → ValueAt rs who image left v (x ∷ h) (val (x ∷ h))
      go ih (puts_it p) = put_now x h (val (x ∷ h)) p
      go ih (leaves_it n e) = rw e (more x h (val h) n ih)
