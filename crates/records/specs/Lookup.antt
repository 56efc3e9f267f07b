-- Which record holds a location, or why none does; and which value begins there. Paper 01, "Map, store, reset image", and
-- paper 02, Item 4.
-- Assumes nothing.
use Rattle.std.specs.Prelude.{ℕ, Bool, ◌&&◌, List, [], ◌∷◌, leb, ltb, eqb, if◌then◌else◌, Option, Some, None, Result, Ok, Err}
use Rattle.records.specs.Map.{locations_end, mapped}
use Rattle.records.specs.declared.record.Record.{Record}
use Rattle.records.specs.declared.holder.Why.{Why}
use Rattle.records.specs.declared.holder.Why.TheVariants.{Absent, Hole, Past}

-- the location lies in the record
abbrev pub holds : Record → ℕ → ℕ → Bool
holds r bank location = eqb r.bank bank && (leb r.first location && ltb location (locations_end r))

-- the record begins above the location, in its bank
abbrev pub above : ℕ → ℕ → Record → Bool
above bank location r = eqb r.bank bank && ltb location r.first

-- the lower of a location and the next one so far
unfoldable pub nearer : ℕ → Why → Why
nearer n Absent = Hole n
nearer n (Hole m) = Hole (if ltb n m then n else m)
nearer n Past = Hole n

-- the next mapped location in that bank, the lowest at which a record begins above; or past the bank's last one
unfoldable pub next : List Record → ℕ → ℕ → Why
next [] bank location = Past
next (r ∷ rs) bank location =
    if above bank location r then nearer r.first (next rs bank location) else next rs bank location

-- why no record holds the location: bank absent, hole with the next mapped location in that bank, or past the bank's last one
unfoldable pub why : List Record → ℕ → ℕ → Why
why rs bank location = if mapped rs bank then next rs bank location else Absent

-- the record that holds the location, or what is said where none does
abbrev pub held_or : Result Record Why → List Record → ℕ → ℕ → Result Record Why
held_or none [] bank location = none
held_or none (r ∷ rs) bank location = if holds r bank location then Ok r else held_or none rs bank location

-- the record that holds the location, or why none does
unfoldable pub holder : List Record → ℕ → ℕ → Result Record Why
holder rs bank location = held_or (Err (why rs bank location)) rs bank location

-- of the record that holds a location: the value that begins there, or none
unfoldable pub if_first : ℕ → Result Record Why → Option Record
if_first location (Ok r) = if eqb r.first location then Some r else None
if_first location (Err w) = None

-- the value that begins at a location
unfoldable pub beginner : List Record → ℕ → ℕ → Option Record
beginner rs bank location = if_first location (holder rs bank location)
