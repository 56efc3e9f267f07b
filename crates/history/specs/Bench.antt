-- What the bench sheet's lists are to the grammar. Paper 01, P11 and P12.
-- Assumes nothing.
use Rattle.std.specs.Prelude.{List, [], ◌∷◌, ◌++◌, reverse, ℕ, suc, ◌<◌, length}
use Rattle.records.specs.Map.{records_of}
use Rattle.records.specs.declared.record.Record.{Record}
use Rattle.unit.specs.Run.{Input}
use Rattle.unit.specs.Bench.{bench_map, bench_store, bench_image, bench_who, at, bench_frames, last_frame}
use Rattle.history.specs.Machine.{Start}
use Rattle.history.specs.Writing.{past, WritingAt}

-- the sheet's start
abbrev pub bench : Start
bench = record { map = bench_map; store = bench_store; image = bench_image; who = bench_who }

-- P12's frames, and P11's
abbrev pub p12_frames : List Input
p12_frames = bench_frames 0 100

abbrev pub p11_frames : List Input
p11_frames = bench_frames 0 100 ++ last_frame

-- the lockable value of width 4
abbrev pub bench_value : Record
bench_value = record { bank = 2; first = 3; width = 4; kind = 4; lockable = 1; zero = 0; offset = 2 }

-- P11's list has a complete writing of it
abbrev pub P11Writing : Type 0
P11Writing = WritingAt (records_of bench_map) bench_who bench_value (0x00 ∷ 0x00 ∷ 0x01 ∷ 0x2C ∷ []) (reverse p11_frames)

-- P12's has none, at any point
abbrev pub P12NoWriting : Type 0
P12NoWriting = (i : ℕ) → i < length p12_frames → (bytes : List ℕ)
    → ¬ WritingAt (records_of bench_map) bench_who bench_value bytes (past (reverse p12_frames) (suc i))

-- P11, and then a second writing of the value: DTR0 3, and the bytes 00 00 02 2C
abbrev pub p11_twice : List Input
p11_twice = p11_frames ++ at 900 0xC13003 ∷ at 1000 0xC12000 ∷ at 1100 0xC12000 ∷ at 1200 0xC12002 ∷ at 1300 0xC1202C ∷ []

-- P12, and then a write to ROM, which drops what is staged; then the value anew: DTR0 3, and the bytes 00 00 01 2C
abbrev pub p11_anew : List Input
p11_anew =
    p12_frames ++ at 800 0xC50000 ∷ at 900 0xC13003 ∷ at 1000 0xC12000 ∷ at 1100 0xC12000 ∷ at 1200 0xC12001
    ∷ at 1300 0xC1202C ∷ []
