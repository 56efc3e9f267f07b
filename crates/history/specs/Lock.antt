-- The lock byte of a bank, by this same grammar. Paper 01, "Grammar of a complete writing". That it is the grammar's
-- value of the lock byte is stated in specs/Demand.antt.
-- Assumes nothing.
use Rattle.std.specs.Prelude.{◌≡◌, ◌&&◌, List, [], ◌∷◌, ℕ, eqb, if◌then◌else◌}
use Rattle.records.specs.declared.record.Record.{Record}
use Rattle.memory.specs.Filled.{selects}
use Rattle.hearing.specs.declared.heard.Who.{Who}
use Rattle.unit.specs.Run.{Input}
use Rattle.history.specs.Deeds.{Deed, opens, resets, puts, spares, breaks, powers}
use Rattle.history.specs.Context.{deed_after}

-- the lock byte of a bank has width 1 and is not lockable, so a writing of it is one executed write to 0x02
unfoldable pub lock_by : ℕ → ℕ → Deed → ℕ
lock_by bank old opens = old
lock_by bank old (resets dtr0) = if selects dtr0 bank && eqb old 0x55 then 0xFF else old
lock_by bank old (puts k location byte) = if eqb bank k && eqb 0x02 location then byte else old
lock_by bank old spares = old
lock_by bank old breaks = old
lock_by bank old powers = 0xFF

-- the lock byte by this same grammar
unfoldable pub lock : List Record → Who → List Input → ℕ → ℕ
lock rs who [] bank = 0xFF
lock rs who (x ∷ h) bank = lock_by bank (lock rs who h bank) (deed_after rs who h x)

-- for a lockable value, the lock byte being 0x55
abbrev pub Unlocks : Record → ℕ → Type 0
Unlocks v byte = v.lockable ≡ 1 → byte ≡ 0x55
