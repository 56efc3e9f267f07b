-- What stands at a location, in words.
-- Assumes nothing.
use Rattle.std.specs.Prelude.{ℕ, ◌++◌, List, if◌then◌else◌, ◌==◌, codes, decimal, Result, Ok, Err}
use Rattle.text.specs.Words.{in_hex}
use Rattle.records.specs.declared.record.Record.{Record}
use Rattle.records.specs.declared.holder.Why.{Why}
use Rattle.records.specs.declared.holder.Why.TheVariants.{Absent, Hole, Past}

-- "1 byte", "4 bytes"
abbrev pub width_text : ℕ → List ℕ
width_text n = if n == 1 then codes "1 byte" else decimal n ++ codes " bytes"

-- the record that holds the location
abbrev pub held_text : ℕ → Record → List ℕ
held_text location r = if r.first == location then codes ", location 0x" ++ in_hex location ++ codes ": a value begins there, " ++ width_text r.width
    else codes ", location 0x" ++ in_hex location ++ codes ": inside the value at 0x" ++ in_hex r.first ++ codes ", " ++ width_text r.width

-- why none does
abbrev pub why_text : ℕ → Why → List ℕ
why_text location Absent = codes " is absent: no value lies in it"
why_text location (Hole next) = codes " has a hole at 0x" ++ in_hex location ++ codes "; the next mapped location is 0x" ++ in_hex next
why_text location Past = codes " has nothing at 0x" ++ in_hex location ++ codes ": that is past its last mapped location"

abbrev pub found_text : ℕ → Result Record Why → List ℕ
found_text location (Ok r) = held_text location r
found_text location (Err why) = why_text location why

abbrev pub examined_text : ℕ → ℕ → List ℕ
examined_text count records = codes "examined " ++ decimal count ++ codes " of "
    ++ (if records == 1 then codes "1 record" else decimal records ++ codes " records")
