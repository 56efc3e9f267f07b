-- Inside a writing, from its first write to before its last, nothing is put in its value.
-- Assumes nothing.
use mathlib.Core.Path.{◌≡◌, refl}
use mathlib.Core.Logic.{◌⊎◌, inl, inr}
use mathlib.Core.Bool.{false}
use mathlib.Core.List.{List}
use Prim.Native.Nat.{ℕ, suc, ◌+◌, ◌-◌, ◌≤◌, ◌<◌}
use native.Mathlib.Omega.{arith}
use lib.ListN.{length, get_or}
use Rattle.laws.proofs.Tests.{clash}
use Rattle.records.specs.declared.record.Record.{Record}
use Rattle.hearing.specs.declared.heard.Who.{Who}
use Rattle.unit.specs.Run.{Input}
use Rattle.history.specs.Deeds.{puts, keeping}
use Rattle.history.specs.Context.{deed_after}
use Rattle.history.specs.Writing.{past, latest, deed_at, WritingAt}
use Rattle.history.specs.Value.{Put, by_writing, by_reset, by_power_on, PutsNone}
use Rattle.history.proofs.Past.{length_past, past_past}

module _ (rs : List Record) (who : Who) (image : List ℕ) (v : Record) where
  -- what puts bytes there is a writing, or keeps write-enable not
  put_or : {g : List Input} {bs : List ℕ} → Put rs who image v g bs
      → WritingAt rs who v bs g ⊎ (keeping (latest rs who g) ≡ false)
  unfolding latest keeping deed_after
  put_or (by_writing w) = inl w
  put_or (by_reset r) = inr (rw r.pair)
  put_or (by_power_on e) = inr refl

  -- the last location of the value
  abbrev end : ℕ
  end = v.first + (v.width - 1)

  -- where a writing ends at input number j, that input is the write to the last location
  last_write : (wide : 1 ≤ v.width) (h : List Input) (j : ℕ) → suc j ≤ length h → (cs : List ℕ)
      → WritingAt rs who v cs (past h (suc j)) → deed_at rs who h j ≡ puts v.bank end (get_or cs (v.width - 1) 0)
  unfolding deed_at
  last_write wide h j l cs y =
      let L : length (past h (suc j)) ≡ suc j = length_past h (suc j) l in
      let e : y.place (v.width - 1) ≡ j =
      omega (arith, y.ending (v.width - 1) (omega (arith, wide)), L) in
      let q : latest rs who (past (past h (suc j)) (suc j)) ≡ puts v.bank end (get_or cs (v.width - 1) 0) =
      rw e at (y.writes (v.width - 1) (omega (arith, wide))) in
      rw (past_past h (suc j) (suc j) (omega arith) l) at q

  -- a writing of it writes there once: at its end
  once : (wide : 1 ≤ v.width) (h : List Input) (bs : List ℕ) (w : WritingAt rs who v bs h) (j byte : ℕ)
      → w.place 0 ≤ j → j < length h → deed_at rs who h j ≡ puts v.bank end byte → suc j ≡ length h
  once wide h bs w j byte lo hi e = go (w.alone j v.bank end byte lo hi e)
    where
      go : (k : ℕ) × (k < v.width) × (j ≡ w.place k) → suc j ≡ length h
      go a =
          let p : j ≡ w.place a.0 = omega (arith, a.2) in
          let s : deed_at rs who h j ≡ puts v.bank (v.first + a.0) (get_or bs a.0 0) =
          rw p (w.writes a.0 a.1) in
          let t : end ≡ v.first + a.0 = cc in
          omega (arith, w.ending a.0 (omega (arith, wide)))

  pub none_inside : (wide : 1 ≤ v.width) (h : List Input) (bs : List ℕ) (w : WritingAt rs who v bs h) (j : ℕ)
      → w.place 0 ≤ j → suc j < length h → PutsNone rs who image v h j
  unfolding deed_at
  none_inside wide h bs w j lo hi cs p = go (put_or p)
    where
      go : WritingAt rs who v cs (past h (suc j)) ⊎ (keeping (latest rs who (past h (suc j))) ≡ false) → ⊥
      go (inr e) = clash (keeping (deed_at rs who h j)) (w.only j (omega (arith, w.follow)) (omega arith)) e
      go (inl y) =
          let d = last_write wide h j (omega arith) cs y in
          omega (arith, once wide h bs w j (get_or cs (v.width - 1) 0) lo (omega arith) d)
