-- A capture and a place in it. Paper 02, Item 7: "The reader keeps the capture and its place together". Its statement is proved
-- in proofs/ReadOn.antt.
-- Assumes nothing.
use Rattle.std.specs.Prelude.{◌≡◌, ℕ, zero, suc, ◌+◌, ◌-◌, ◌*◌, ◌<◌, ◌≤◌, Bool, ◌&&◌, List, length, drop, ◌==◌, nat_lt, if◌then◌else◌}
use Rattle.std.specs.Borrow.{Bor}
use Rattle.entries.specs.Entry.{entry_at}
use Rattle.census.specs.Census.{counted, ended}
use Rattle.census.specs.declared.counts.Census.{Census}
use Rattle.census.specs.declared.next.Next.{Next}
use Rattle.census.specs.declared.next.Next.TheVariants.{Whole, Unfinished, End}
use Rattle.census.specs.declared.reader.Reader.{Reader}

-- how many bytes stand from a place on; none at the end, or past it
abbrev pub rest_at : ℕ → ℕ → ℕ
rest_at long at = long - at

-- what stands there: nothing, fewer than 8 bytes, or a record
unfoldable pub next_at : List ℕ → ℕ → Next
next_at capture at =
    if rest_at (length capture) at == 0 then End
    else if nat_lt (rest_at (length capture) at) 8 then Unfinished
    else Whole (entry_at (drop at capture) 0)

-- the place behind it
unfoldable pub place_after : ℕ → ℕ → ℕ
place_after long at = if nat_lt (rest_at long at) 8 then at + rest_at long at else at + 8

-- the count goes on while no number has ended it and something stands there
abbrev pub goes_on : ℕ → ℕ → Bool
goes_on number rest = number == 0 && nat_lt 0 rest

-- what stands there, counted
abbrev pub counted_next : Census → Next → Census
counted_next c (Whole e) = counted c e
counted_next c Unfinished = ended c
counted_next c End = c

-- ---- the same, of capture and place together

abbrev pub reader_of : Bor (List ℕ) → Reader
reader_of capture = record { capture = capture; at = 0 }

abbrev pub next_of : Reader → Next
next_of r = next_at r.capture.now r.at

abbrev pub moved_on : Reader → Reader
moved_on r = record { capture = r.capture; at = place_after (length r.capture.now) r.at }

abbrev pub rest_of : Reader → ℕ
rest_of r = rest_at (length r.capture.now) r.at

-- ---- reading on

-- i times moved
abbrev pub moves : ℕ → Reader → Reader
moves zero r = r
moves (suc i) r = moved_on (moves i r)

-- behind i records, from the capture's begin on: record i, or what there is of it, or the end
pub record Reads (capture : List ℕ) (i : ℕ) (next : Next) : Type 0 where
  pub whole : 8 * i + 8 ≤ length capture → next ≡ Whole (entry_at capture i)
  pub unfinished : 8 * i < length capture → length capture < 8 * i + 8 → next ≡ Unfinished
  pub end : length capture ≤ 8 * i → next ≡ End

-- a reader that is moved on meets every record in turn, and then the end
abbrev pub ReaderReads : Type 0
ReaderReads = (capture : Bor (List ℕ)) (i : ℕ) → Reads capture.now i (next_of (moves i (reader_of capture)))
