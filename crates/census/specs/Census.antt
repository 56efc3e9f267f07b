-- What a capture of trace records holds: its records, counted by class. Paper 02, Item 7; paper 01, "The trace program".
-- Assumes nothing.
use Rattle.std.specs.Prelude.{◌≡◌, ℕ, ◌+◌, ◌%◌, ◌^◌, ◌<◌, List, [], ◌∷◌, ◌++◌, length, replicate, ◌==◌, nat_lt, slice_index, slice_set, if◌then◌else◌, Ok, Err}
use Rattle.laws.specs.Lists.{items}
use Rattle.refusals.specs.Numbers.{number_in}
use Rattle.refusals.specs.declared.refusal.Refusal.TheVariants.{BrokenRecord}
use Rattle.entries.specs.Entry.{whole_entries}
use Rattle.entries.specs.declared.entry.Entry.{Entry}
use Rattle.census.specs.Class.{frame_class}
use Rattle.census.specs.declared.counts.Census.{Census}

-- none of the 15 classes, and no power-on record
abbrev pub nothing : Census
nothing = record { counts = replicate 15 0; power_ons = 0; end = Ok tt }

-- 13 where a record ended the count, and else 0
abbrev pub end_number : Census → ℕ
end_number c = number_in c.end

-- what the numbers of a list add up to
abbrev pub sum : List ℕ → ℕ
sum [] = 0
sum (n ∷ ns) = n + sum ns

-- how many records are counted
abbrev pub total : Census → ℕ
total c = sum c.counts + c.power_ons

-- there are 15 counts, and each has room for one more
abbrev pub HasRoom : Census → Type 0
HasRoom c = (length c.counts ≡ 15) × (total c < 2 ^ 61)

-- one more of class k; a number that is no class is counted nowhere
abbrev pub one_more : ℕ → List ℕ → List ℕ
one_more k counts = slice_set counts k (slice_index counts k + 1)

-- a frame record, in the class of its frame; its clock is ignored
abbrev pub with_frame : Census → ℕ → Census
with_frame c frame = record { counts = one_more (frame_class frame) c.counts; power_ons = c.power_ons; end = c.end }

-- "power-on records are counted apart"
abbrev pub with_power_on : Census → Census
with_power_on c = record { counts = c.counts; power_ons = c.power_ons + 1; end = c.end }

-- "number 13 ends the count and is counted nowhere; the counts so far stand"
abbrev pub ended : Census → Census
ended c = record { counts = c.counts; power_ons = c.power_ons; end = Err BrokenRecord }

-- one record more
abbrev pub counted : Census → Entry → Census
counted c (Entry.Frame clock frame) = with_frame c frame
counted c Entry.PowerOn = with_power_on c
counted c Entry.Broken = ended c

-- records, one after the other; where a number has ended the count, no further one
unfoldable pub counted_all : Census → List Entry → Census
counted_all c [] = c
counted_all c (e ∷ es) = if end_number c == 0 then counted_all (counted c e) es else c

-- an unfinished record behind the whole ones: 13, as one of unknown kind
unfoldable pub unfinished : ℕ → List Entry
unfinished long = if long % 8 == 0 then [] else Entry.Broken ∷ []

-- the records of a capture
unfoldable pub entries_of : List ℕ → List Entry
entries_of capture = whole_entries capture ++ unfinished (length capture)

-- the census of a capture
unfoldable pub census_of : List ℕ → Census
census_of capture = counted_all nothing (entries_of capture)

-- ---- added to 16 counts

-- the 15 classes, and as the sixteenth the power-on records
abbrev pub count_at : Census → ℕ → ℕ
count_at c k = if nat_lt k 15 then slice_index c.counts k else c.power_ons

-- each added to what stands there, modulo 2^64
unfoldable pub added_to : List ℕ → Census → List ℕ
added_to before c = items (λ k. (slice_index before k + count_at c k) % 2 ^ 64) 0 16
