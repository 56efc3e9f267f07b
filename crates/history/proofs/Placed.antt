-- A writing by the numbers of its inputs, as specs/Writing.antt has it, and a writing as it grows are one.
-- Assumes nothing.
use mathlib.Core.Path.{◌≡◌, refl, sym, ap, ◌∙◌}
use mathlib.Core.Logic.{◌⊎◌, inl, inr}
use mathlib.Core.Bool.{Bool, true, false}
use mathlib.Core.List.{List, [], ◌∷◌, ◌++◌}
use Prim.Native.Nat.{ℕ, zero, suc, ◌+◌, ◌-◌, ◌≤◌, ◌<◌}
use native.Mathlib.Omega.{arith}
use native.Mathlib.Nat.{eq-or-lt_of_le}
use lib.Dec.{ltb, eqb}
use lib.ListN.{length, drop, take, get_or, get_or-append}
use lib.Seq.{get_or-append_seam, drop-cons, take-suc, take_all, length-take-le}
use borrow.Author.Tests.{eq-eqb, ne_eqb, ltb-true, ltb-false}
use Rattle.std.specs.Prelude.{if◌then◌else◌}
use Rattle.laws.proofs.Tests.{clash}
use Rattle.records.specs.declared.record.Record.{Record}
use Rattle.hearing.specs.declared.heard.Who.{Who}
use Rattle.unit.specs.Run.{Input, power_on}
use Rattle.history.specs.Deeds.{Deed, opens, resets, puts, spares, breaks, powers, keeping}
use Rattle.history.specs.Context.{deed_after}
use Rattle.history.specs.Lock.{lock, Unlocks}
use Rattle.history.specs.Writing.{past, latest, deed_at, WritingAt}
use Rattle.history.proofs.Past.{past_all, past_old, at_old, at_new, last_or}
use Rattle.history.proofs.Enabled.{Since, more, puts_since}
use Rattle.history.proofs.Growing.{length_snoc, Unlocked, Begun, first, later, next, Writing}

-- ---- a function changed at one place

extend : (ℕ → ℕ) → ℕ → ℕ → ℕ → ℕ
extend p n y j = if eqb j n then y else p j

extend_at : (p : ℕ → ℕ) (n y j : ℕ) → j ≡ n → extend p n y j ≡ y
unfolding extend
extend_at p n y j e = rw (eq-eqb j n e)

extend_off : (p : ℕ → ℕ) (n y j : ℕ) → (j ≡ n → ⊥) → extend p n y j ≡ p j
unfolding extend
extend_off p n y j e = rw (ne_eqb j n e)

lt_or_ge : (a b : ℕ) → (a < b) ⊎ (b ≤ a)
lt_or_ge a b = go (ltb a b) refl
  where
    go : (t : Bool) → ltb a b ≡ t → (a < b) ⊎ (b ≤ a)
    go true e = inl (ltb-true a b e)
    go false e = inr (ltb-false a b e)

-- ---- a deed that keeps write-enable

keeps_or : (d : Deed) → keeping d ≡ true → ((bank location byte : ℕ) → d ≡ puts bank location byte → ⊥) → d ≡ spares
unfolding keeping
keeps_or opens e no' = clash false e refl
keeps_or (resets dtr0) e no' = clash false e refl
keeps_or (puts bank location byte) e no' = absurd (no' bank location byte refl)
keeps_or spares e no' = refl
keeps_or breaks e no' = clash false e refl
keeps_or powers e no' = clash false e refl

keeping_no_power : (d : Deed) → keeping d ≡ true → d ≡ powers → ⊥
unfolding keeping
keeping_no_power d e q = clash false (rw q at e) refl

module _ (rs : List Record) (who : Who) (v : Record) where
  -- a writing as far as it has come
  record Partly (bs : List ℕ) (h : List Input) : Type 0 where
    since : Since rs who h
    place : ℕ → ℕ
    some : 1 ≤ length bs
    follow : since.pair_end < place 0
    rising : (i j : ℕ) → i < j → j < length bs → place i < place j
    within : (j : ℕ) → j < length bs → place j < length h
    writes : (j : ℕ) → j < length bs → deed_at rs who h (place j) ≡ puts v.bank (v.first + j) (get_or bs j 0)
    alone : (i bank location byte : ℕ) → place 0 ≤ i → i < length h → deed_at rs who h i ≡ puts bank location byte
        → (j : ℕ) × (j < length bs) × (i ≡ place j)
    unlocked : (j : ℕ) → j < length bs → Unlocks v (lock rs who (past h (place j)) v.bank)

  begun_partly : {bs : List ℕ} {h : List Input} → Begun rs who v bs h → Partly bs h
  unfolding keeping more
  begun_partly (first {h = h} {x = x} {b = b} e u) =
      let S : Since rs who h = puts_since rs who x h v.bank v.first b e in
      record {
        since = more rs who x h S (rw e);
        place = λ j. length h;
        some = omega arith;
        follow = S.inside;
        rising = λ i j l r. absurd (omega arith);
        within = λ j r. omega arith;
        writes = λ j r. let z : j ≡ 0 = omega arith in let y : v.first + 0 ≡ v.first = omega arith in
            rw (z, y) (at_new rs who x h ∙ e);
        alone = λ i k l c lo hi q. (0, omega arith, omega arith);
        unlocked = λ j r. rw (past_old x h (length h) (omega arith), past_all h) u;
      }
  begun_partly (later {h = h} {x = x} {bs = bs} r k e) =
      let P : Partly bs h = begun_partly r in
      record {
        since = more rs who x h P.since (rw e);
        place = P.place;
        some = P.some;
        follow = P.follow;
        rising = P.rising;
        within = λ j r. omega (arith, P.within j r);
        writes = λ j r. at_old rs who x h (P.place j) (P.within j r) ∙ P.writes j r;
        alone = λ i k l c lo hi q. go P i k l c lo (last_or i (length h) hi) q;
        unlocked = λ j r. let w : P.place j ≤ length h = omega (arith, P.within j r) in
            rw (past_old x h (P.place j) w) (P.unlocked j r);
      }
    where
      go : (P : Partly bs h) (i k l c : ℕ) → P.place 0 ≤ i → (i ≡ length h) ⊎ (i < length h)
          → deed_at rs who (x ∷ h) i ≡ puts k l c
          → (j : ℕ) × (j < length bs) × (i ≡ P.place j)
      go P i k l c lo (inl y) q =
          let w : deed_at rs who (x ∷ h) i ≡ spares = rw y (at_new rs who x h ∙ e) in
          let z : ◌≡◌ {A = ℕ} 0 1 = cc in absurd (omega arith)
      go P i k l c lo (inr y) q = P.alone i k l c lo y (sym (at_old rs who x h i y) ∙ q)
  begun_partly (next {h = h} {x = x} {b = b} {bs = bs} r k e u) =
      let P : Partly bs h = begun_partly r in
      let zeroth = extend_off P.place (length bs) (length h) 0 (λ z. omega (arith, P.some)) in
      record {
        since = more rs who x h P.since (rw e);
        place = extend P.place (length bs) (length h);
        some = rw length_snoc (omega arith);
        follow = rw zeroth P.follow;
        rising = λ i j l q. up P i j l (last_or j (length bs) (rw length_snoc at q));
        within = λ j q. inside P j (last_or j (length bs) (rw length_snoc at q));
        writes = λ j q. wrote P j (last_or j (length bs) (rw length_snoc at q));
        alone = λ i k l c lo hi q. only P i k l c (rw zeroth at lo) (last_or i (length h) hi) q;
        unlocked = λ j q. free P j (last_or j (length bs) (rw length_snoc at q));
      }
    where
      px : Partly bs h → ℕ → ℕ
      px P = extend P.place (length bs) (length h)

      new : (P : Partly bs h) (j : ℕ) → j ≡ length bs → px P j ≡ length h
      new P j z = extend_at P.place (length bs) (length h) j z

      old : (P : Partly bs h) (j : ℕ) → j < length bs → px P j ≡ P.place j
      old P j z = extend_off P.place (length bs) (length h) j (λ y. omega arith)

      inside : (P : Partly bs h) (j : ℕ) → (j ≡ length bs) ⊎ (j < length bs) → px P j < suc (length h)
      inside P j (inl z) = rw (new P j z) (omega arith)
      inside P j (inr z) = rw (old P j z) (omega (arith, P.within j z))

      up : (P : Partly bs h) (i j : ℕ) → i < j → (j ≡ length bs) ⊎ (j < length bs) → px P i < px P j
      up P i j l (inl z) = let y : i < length bs = omega arith in rw (new P j z, old P i y) (P.within i y)
      up P i j l (inr z) = let y : i < length bs = omega arith in rw (old P j z, old P i y) (P.rising i j l z)

      wrote : (P : Partly bs h) (j : ℕ) → (j ≡ length bs) ⊎ (j < length bs)
          → deed_at rs who (x ∷ h) (px P j) ≡ puts v.bank (v.first + j) (get_or (bs ++ b ∷ []) j 0)
      wrote P j (inl z) = rw (new P j z, z, get_or-append_seam bs b [] 0) (at_new rs who x h ∙ e)
      wrote P j (inr z) =
          rw (old P j z, get_or-append bs (b ∷ []) 0 j z)
          (at_old rs who x h (P.place j) (P.within j z) ∙ P.writes j z)

      only : (P : Partly bs h) (i k l c : ℕ) → P.place 0 ≤ i → (i ≡ length h) ⊎ (i < length h)
          → deed_at rs who (x ∷ h) i ≡ puts k l c
          → (j : ℕ) × (j < length (bs ++ b ∷ [])) × (i ≡ px P j)
      only P i k l c lo (inl y) q = (length bs, rw length_snoc (omega arith), y ∙ sym (new P (length bs) refl))
      only P i k l c lo (inr y) q =
          let w = P.alone i k l c lo y (sym (at_old rs who x h i y) ∙ q) in
          (w.0, rw length_snoc (omega (arith, w.1)), w.2 ∙ sym (old P w.0 w.1))

      free : (P : Partly bs h) (j : ℕ) → (j ≡ length bs) ⊎ (j < length bs)
          → Unlocks v (lock rs who (past (x ∷ h) (px P j)) v.bank)
      free P j (inl z) = rw (new P j z, past_old x h (length h) (omega arith), past_all h) u
      free P j (inr z) =
          let w : P.place j ≤ length h = omega (arith, P.within j z) in
          rw (old P j z, past_old x h (P.place j) w) (P.unlocked j z)

  record Last (h : List Input) : Type 0 where
    number : ℕ
    bank : ℕ
    location : ℕ
    byte : ℕ
    is : suc number ≡ length h
    wrote : deed_at rs who h number ≡ puts bank location byte

  -- a whole writing ends with a write
  ends : {bs : List ℕ} {h : List Input} → Begun rs who v bs h → length bs ≡ v.width → Last h
  ends (first {h = h} {x = x} {b = b} e u) w =
      record {
        number = length h;
        bank = v.bank;
        location = v.first;
        byte = b;
        is = refl;
        wrote = at_new rs who x h
            ∙ e;
      }
  ends (later r k e) w = absurd (omega arith)
  ends (next {h = h} {x = x} {b = b} {bs = bs} r k e u) w =
      record {
        number = length h;
        bank = v.bank;
        location = v.first + length bs;
        byte = b;
        is = refl;
        wrote =
            at_new rs who x h ∙ e;
      }

  pub placed : (bs : List ℕ) (h : List Input) → Writing rs who v bs h → WritingAt rs who v bs h
  placed bs h w =
      let P : Partly bs h = begun_partly w.begun in
      let E : length bs ≡ v.width = w.whole in
      let Z : Last h = ends w.begun E in
      record {
        pair_end = P.since.pair_end;
        pair = P.since.pair;
        only = P.since.only;
        n_bytes = E;
        place = P.place;
        follow = P.follow;
        rising = λ i j l r. omega (arith, P.rising i j l (omega arith));
        ending = λ j e.
            let w0 : P.place 0 < length h = P.within 0 P.some in
            let q = P.alone Z.number Z.bank Z.location Z.byte (omega (arith, Z.is))
            (omega (arith, Z.is)) Z.wrote in
            let lt : q.0 < suc j = omega (arith, q.1) in
            go P Z j (omega arith) q.0 q.2 (last_or q.0 j lt);
        writes = λ j r. P.writes j (omega arith);
        alone = λ i k l b lo hi q. let y = P.alone i k l b lo hi q in (y.0, omega (arith, y.1), omega (arith, y.2));
        unlocked = λ j r. P.unlocked j (omega arith);
        no_power_on = λ i l r q. keeping_no_power (deed_at rs who h i) (P.since.only i l r) q;
      }
    where
      go : (P : Partly bs h) (Z : Last h) (j : ℕ) → j < length bs → (i : ℕ) → Z.number ≡ P.place i → (i ≡ j) ⊎ (i < j)
          → suc (P.place j) ≡ length h
      go P Z j r i e (inl z) = let y : P.place i ≡ P.place j = ap P.place z in omega (arith, Z.is)
      go P Z j r i e (inr z) = absurd (omega (arith, Z.is, P.rising i j z r, P.within j r))

  -- ---- and back

  record Nth (h : List Input) (i : ℕ) : Type 0 where
    input : Input
    is : past h (suc i) ≡ input ∷ past h i
    does : deed_after rs who (past h i) input ≡ deed_at rs who h i

  nth : (h : List Input) (i : ℕ) → i < length h → Nth h i
  unfolding deed_at latest past
  nth h i l =
      let x : Input = get_or h (length h - suc i) power_on in
      let e : suc (length h - suc i) ≡ length h - i = omega arith in
      let y : drop (length h - suc i) h ≡ x ∷ drop (length h - i) h =
      drop-cons h (length h - suc i) power_on (omega arith) ∙ ap (λ (n : ℕ). x ∷ drop n h) e in
      record { input = x; is = y; does = sym (ap (latest rs who) y) }

  module _ (bs : List ℕ) (h : List Input) (w : WritingAt rs who v bs h) where
    earlier : (j : ℕ) → j < v.width → w.place j < length h
    earlier j r = go (last_or j (v.width - 1) (omega arith))
      where
        go : (j ≡ v.width - 1) ⊎ (j < v.width - 1) → w.place j < length h
        go (inl z) = omega (arith, w.ending j (omega arith))
        go (inr z) = omega (arith, w.ending (v.width - 1) (omega arith), w.rising j (v.width - 1) z (omega arith))

    mono : (i j : ℕ) → i ≤ j → j < v.width → w.place i ≤ w.place j
    mono i j l r = go (eq-or-lt_of_le l)
      where
        go : (i ≡ j) ⊎ (i < j) → w.place i ≤ w.place j
        go (inl z) = rw z (omega arith)
        go (inr z) = omega (arith, w.rising i j z r)

    open_at : (j : ℕ) → j < v.width → Unlocked rs who v (past h (w.place j))
    open_at j r = w.unlocked j r

    length_part : (j : ℕ) → suc j ≤ v.width → length (take (suc j) bs) ≡ suc j
    length_part j r = length-take-le (suc j) bs (omega (arith, w.n_bytes))

    after_all : (j : ℕ) → j < v.width → w.pair_end < w.place j
    after_all j r = omega (arith, w.follow, mono 0 j (omega arith) r)

    -- an input between write j and write j + 1 keeps
    quiet : (i j : ℕ) → suc j < v.width → w.place j < i → i < w.place (suc j) → deed_at rs who h i ≡ spares
    quiet i j r lo hi =
        let top : w.place (suc j) < length h = earlier (suc j) r in
        keeps_or (deed_at rs who h i) (w.only i (omega (arith, after_all j (omega arith))) (omega arith))
        (λ k l b q. let x = w.alone i k l b (omega (arith, mono 0 j (omega arith) (omega arith))) (omega arith) q in
        let e : i ≡ w.place x.0 = omega (arith, x.2) in
        no' x.0 x.1 e (lt_or_ge x.0 (suc j)))
      where
        no' : (y : ℕ) → y < v.width → i ≡ w.place y → (y < suc j) ⊎ (suc j ≤ y) → ⊥
        no' y l e (inl z) = omega (arith, mono y j (omega arith) (omega arith))
        no' y l e (inr z) = omega (arith, mono (suc j) y z l)

    quiet_step : (i j : ℕ) → suc j < v.width → w.place j < i → i < w.place (suc j)
        → Begun rs who v (take (suc j) bs) (past h i)
        → Begun rs who v (take (suc j) bs) (past h (suc i))
    quiet_step i j r lo hi B =
        let top : w.place (suc j) < length h = earlier (suc j) r in
        go (nth h i (omega arith)) (quiet i j r lo hi)
      where
        go : Nth h i → deed_at rs who h i ≡ spares → Begun rs who v (take (suc j) bs) (past h (suc i))
        go N K = rw N.is (later B (rw (length_part j (omega arith)) r) (N.does ∙ K))

    -- the inputs between write j and write j + 1
    gap : (j : ℕ) → suc j < v.width → Begun rs who v (take (suc j) bs) (past h (suc (w.place j)))
        → (d : ℕ) → suc (w.place j) + d ≤ w.place (suc j)
        → Begun rs who v (take (suc j) bs) (past h (suc (w.place j) + d))
    gap j r B zero k = let e : suc (w.place j) + 0 ≡ suc (w.place j) = omega arith in rw e B
    gap j r B (suc d) k =
        let e : suc (w.place j) + suc d ≡ suc (suc (w.place j) + d) = omega arith in
        rw e (quiet_step (suc (w.place j) + d) j r (omega arith) (omega arith) (gap j r B d (omega arith)))

    reach : (j : ℕ) → j < v.width → Begun rs who v (take (suc j) bs) (past h (suc (w.place j)))
    reach zero r = go (nth h (w.place zero) (earlier zero r)) (w.writes zero r)
      where
        e : take 1 bs ≡ get_or bs 0 0 ∷ []
        e = take-suc bs 0 0 (omega (arith, w.n_bytes))

        go : Nth h (w.place 0) → deed_at rs who h (w.place 0) ≡ puts v.bank (v.first + 0) (get_or bs 0 0)
            → Begun rs who v (take 1 bs) (past h (suc (w.place 0)))
        go N K =
            let z : v.first + 0 ≡ v.first = omega arith in
            let q : deed_after rs who (past h (w.place 0)) N.input ≡ puts v.bank v.first (get_or bs 0 0) =
            N.does ∙ (rw z at K) in
            rw (e, N.is) (first q (open_at 0 r))
    reach (suc j) r =
        let lt : w.place j < w.place (suc j) = w.rising j (suc j) (omega arith) r in
        let z : suc (w.place j) + (w.place (suc j) - suc (w.place j)) ≡ w.place (suc j) = omega arith in
        let B : Begun rs who v (take (suc j) bs) (past h (w.place (suc j))) =
        rw z at (gap j r (reach j (omega arith)) (w.place (suc j) - suc (w.place j)) (omega arith)) in
        go B (nth h (w.place (suc j)) (earlier (suc j) r)) (w.writes (suc j) r)
      where
        e : take (suc (suc j)) bs ≡ take (suc j) bs ++ (get_or bs (suc j) 0 ∷ [])
        e = take-suc bs (suc j) 0 (omega (arith, w.n_bytes))

        go : Begun rs who v (take (suc j) bs) (past h (w.place (suc j))) → Nth h (w.place (suc j))
            → deed_at rs who h (w.place (suc j)) ≡ puts v.bank (v.first + suc j) (get_or bs (suc j) 0)
            → Begun rs who v (take (suc (suc j)) bs) (past h (suc (w.place (suc j))))
        go B N K =
            let L : length (take (suc j) bs) ≡ suc j = length_part j (omega arith) in
            let q : deed_after rs who (past h (w.place (suc j))) N.input
            ≡ puts v.bank (v.first + length (take (suc j) bs)) (get_or bs (suc j) 0) = N.does ∙ K ∙ rw L in
            rw (e, N.is) (next B (omega arith) q (open_at (suc j) r))

    pub unplaced : 1 ≤ v.width → Writing rs who v bs h
    unplaced k =
        let e : suc (v.width - 1) ≡ v.width = omega arith in
        let B : Begun rs who v (take (suc (v.width - 1)) bs) (past h (suc (w.place (v.width - 1)))) =
        reach (v.width - 1) (omega arith) in
        let T : take (suc (v.width - 1)) bs ≡ bs = take_all (suc (v.width - 1)) bs (omega (arith, w.n_bytes)) in
        record {
          begun = rw (past_all h) at (rw (T, w.ending (v.width - 1) e) at B);
          whole = w.n_bytes;
        }
