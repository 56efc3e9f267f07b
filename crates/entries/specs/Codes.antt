-- The number and the values of each case of a record. Paper 01, "The trace program", "Refusal numbers".
-- Assumes nothing.
use Rattle.std.specs.Prelude.{ℕ, ◌≡◌, List, [], ◌∷◌, eqb}
use Rattle.entries.specs.Entry.{is_broken}
use Rattle.entries.specs.declared.entry.Entry.{Entry}

pub record EntryCode : Type 0 where
  pub number : ℕ
  pub values : List ℕ

-- kind 0 frame, with its clock; kind 1 power-on; a record of another kind is refused with 13
abbrev pub entry_code : Entry → EntryCode
entry_code (Entry.Frame clock frame) = record { number = 0; values = clock ∷ frame ∷ [] }
entry_code Entry.PowerOn = record { number = 1; values = [] }
entry_code Entry.Broken = record { number = 13; values = [] }

-- no two cases share their number and values
abbrev pub OneEntry : Type 0
OneEntry = (entry other : Entry) → entry_code entry ≡ entry_code other → entry ≡ other

-- one of unknown kind is one that 13 is the number of
abbrev pub BrokenIs13 : Type 0
BrokenIs13 = (entry : Entry) → is_broken entry ≡ eqb (entry_code entry).number 13
