-- Look-up by halving, and the positions that it visits. Paper 02, Items 3 and 5.
-- Assumes nothing.
use Rattle.std.specs.Prelude.{ℕ, zero, suc, ◌+◌, ◌-◌, ◌/◌, Bool, ◌&&◌, ◌||◌, List, [], ◌∷◌, map as each, ltb, eqb, length, if◌then◌else◌, Result}
use Rattle.records.specs.Map.{record_at, mapped}
use Rattle.records.specs.Lookup.{holds, holder}
use Rattle.records.specs.declared.record.Record.{Record}
use Rattle.records.specs.declared.holder.Sought.{Sought}
use Rattle.records.specs.declared.holder.Why.{Why}
use Rattle.records.specs.declared.holder.Why.TheVariants.{Absent, Hole, Past}

-- what is wanted, against a record: it is here, or on the left; else on the right
pub record Wanted : Type 0 where
  pub here : Record → Bool
  pub left : Record → Bool

-- a location: here if the record holds it; left or right by (bank, location) against the record's bank and first location
abbrev pub at_location : ℕ → ℕ → Wanted
at_location bank location =
    record {
      here = λ r. holds r bank location;
      left = λ r. ltb bank r.bank || (eqb bank r.bank && ltb location r.first);
    }

-- a bank: here if the record has that bank; left or right by the bank alone
abbrev pub in_bank : ℕ → Wanted
in_bank bank = record { here = λ r. eqb r.bank bank; left = λ r. ltb bank r.bank }

-- of the positions from low up to high, high left out, the middle one
abbrev pub middle : ℕ → ℕ → ℕ
middle low high = low + (high - low) / 2

-- after a record: nothing, if what is wanted is here; else what the left half gives, or what the right half gives
abbrev pub after : Wanted → Record → List ℕ → List ℕ → List ℕ
after wanted r left right = if wanted.here r then [] else if wanted.left r then left else right

-- The halving rule: the positions that it visits, of those from low up to high, high left out: none, or the middle one and
-- what comes after it. The left half goes up to the middle, which is left out; the right half begins one later.
unfoldable pub visits : List ℕ → Wanted → ℕ → ℕ → ℕ → List ℕ
visits map wanted zero low high = []
visits map wanted (suc fuel) low high =
    let m = middle low high in
    let left = visits map wanted fuel low m in
    let right = visits map wanted fuel (m + 1) high in
    let rest = after wanted (record_at map m) left right in
    if ltb low high then m ∷ rest else []

-- of a whole map, with as much fuel as it has records
abbrev pub visits_of : List ℕ → Wanted → List ℕ
visits_of map wanted = visits map wanted (length map / 8) 0 (length map / 8)

-- the positions of the records that a look-up visits, in order
unfoldable pub visited : List ℕ → ℕ → ℕ → List ℕ
visited map bank location = visits_of map (at_location bank location)

-- why no record holds a location, by the neighbours of the gap: the bank below it, the bank above it and the first location
-- there; 256 is no bank
unfoldable pub beside : ℕ → ℕ → ℕ → ℕ → Why
beside bank below above next = if eqb above bank then Hole next else if eqb below bank then Past else Absent

-- what halving finds: of the records that it visits, the one that holds the location, or why none of them does
unfoldable pub halved : List ℕ → ℕ → ℕ → Result Record Why
halved map bank location = holder (each (record_at map) (visited map bank location)) bank location

-- and how many records it examines: the length of the list of record positions that it visits
unfoldable pub sought : List ℕ → ℕ → ℕ → Sought
sought map bank location =
    record { found = halved map bank location; count = length (visited map bank location) }

-- whether it finds a bank: some record that it visits has that bank
unfoldable pub halved_bank : List ℕ → ℕ → Bool
halved_bank map bank = mapped (each (record_at map) (visits_of map (in_bank bank))) bank
