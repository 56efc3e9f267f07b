-- The rules of a state that concern its staged and latched bytes. Paper 01, "State and clock". "While enabled" is not
-- said here: write-enable is another room.
-- Assumes nothing.
use Rattle.std.specs.Prelude.{ℕ, Bool, false, ◌&&◌, List, leb, ltb, eqb, length, drop, if◌then◌else◌, Option, Some, None}
use Rattle.laws.specs.Lists.{every}
use Rattle.records.specs.Map.{writable}
use Rattle.records.specs.Lookup.{beginner}
use Rattle.records.specs.declared.record.Record.{Record}
use Rattle.memory.specs.Staged.{unlocked}
use Rattle.memory.specs.declared.staged.Staged.{Staged}
use Rattle.memory.specs.declared.latched.Latch.{Latch}

-- a room has eight bytes; whatever is not in use is zero
unfoldable pub zero_from : ℕ → List ℕ → Bool
zero_from used bytes = eqb (length bytes) 8 && every (λ b. eqb b 0) (drop used bytes)

-- at least one, not all, of a writable value of width 2 or more, its lock byte 0x55 if it is lockable
unfoldable pub staged_in : List Record → List ℕ → Staged → Option Record → Bool
staged_in rs store g (Some r) =
    ltb g.count r.width && writable r && leb 2 r.width && unlocked rs store r && zero_from g.count g.bytes
staged_in rs store g None = false

-- staged bytes are those of the value that begins at their bank and first location
unfoldable pub staged_holds : List Record → List ℕ → Staged → Bool
staged_holds rs store g =
    if eqb g.count 0 then eqb g.bank 0 && eqb g.first 0 && zero_from 0 g.bytes
    else staged_in rs store g (beginner rs g.bank g.first)

-- latched bytes, whatever they are, belong to a mapped value of width 2 or more
unfoldable pub latched_in : Latch → Option Record → Bool
latched_in l (Some r) = leb 2 r.width && zero_from r.width l.bytes
latched_in l None = false

unfoldable pub latch_holds : List Record → Latch → Bool
latch_holds rs l =
    if l.held then latched_in l (beginner rs l.bank l.first)
    else eqb l.bank 0 && eqb l.first 0 && zero_from 0 l.bytes
