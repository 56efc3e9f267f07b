-- The grammar as functions: how far a writing of one value has come, and the value. Proofs work with them; that they
-- are the grammar of specs/ is proved in proofs/Growing.antt to proofs/Valued.antt.
-- Assumes nothing.
use mathlib.Core.Bool.{Bool, ◌&&◌, ◌||◌}
use mathlib.Core.List.{List, [], ◌∷◌}
use Prim.Native.Nat.{ℕ}
use lib.Dec.{eqb}
use Rattle.std.specs.Prelude.{if◌then◌else◌}
use Rattle.records.specs.declared.record.Record.{Record}
use Rattle.banks.specs.Values.{value_of}
use Rattle.memory.specs.Filled.{selects, fresh}
use Rattle.memory.proofs.ForHistoryStaged.{taking, unfinished, finished}
use Rattle.hearing.specs.declared.heard.Who.{Who}
use Rattle.unit.specs.Run.{Input}
use Rattle.history.specs.Deeds.{Deed, opens, resets, puts, spares, breaks, powers}
use Rattle.history.specs.Context.{deed_after}
use Rattle.history.specs.Lock.{lock}

-- the bytes of v that a writing of it has come to, a whole one too: `ok` says that it is unlocked
unfoldable pub ripe_by : Record → List ℕ → Bool → Deed → List ℕ
ripe_by v bs ok opens = []
ripe_by v bs ok (resets dtr0) = []
ripe_by v bs ok (puts bank location byte) = taking v bs ok bank location byte
ripe_by v bs ok spares = bs
ripe_by v bs ok breaks = []
ripe_by v bs ok powers = []

unfoldable pub value_by : List ℕ → Record → List ℕ → List ℕ → Bool → ℕ → Deed → List ℕ
value_by image v old bs ok lock opens = old
value_by image v old bs ok lock (resets dtr0) = if selects dtr0 v.bank && eqb lock 0x55 then fresh image v else old
value_by image v old bs ok lock (puts bank location byte) = finished v old (taking v bs ok bank location byte)
value_by image v old bs ok lock spares = old
value_by image v old bs ok lock breaks = old
value_by image v old bs ok lock powers = if eqb v.kind 2 then fresh image v else old

unfoldable pub ok_for : Record → ℕ → Bool
ok_for v lock = eqb v.lockable 0 || eqb lock 0x55

module _ (rs : List Record) (who : Who) (v : Record) where
  unfoldable pub ripe : List Input → List ℕ
  ripe [] = []
  ripe (x ∷ h) = ripe_by v (unfinished v (ripe h)) (ok_for v (lock rs who h v.bank)) (deed_after rs who h x)

  -- the bytes of a writing that is not whole
  abbrev pub progress : List Input → List ℕ
  progress h = unfinished v (ripe h)

  -- from what the start left
  unfoldable pub value : List ℕ → List ℕ → List Input → List ℕ
  value image left [] = value_of v left
  value image left (x ∷ h) =
      value_by image v (value image left h) (progress h) (ok_for v (lock rs who h v.bank)) (lock rs who h v.bank)
      (deed_after rs who h x)
