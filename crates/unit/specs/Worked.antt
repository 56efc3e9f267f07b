-- Worked runs of the bench unit: each listed command, and the errors that fitters have seen, with what is written for
-- each frame and the store at the end; then runs of a unit with two banks, for RESET MEMORY BANK and the latch. Two
-- tables, each with one statement. Proved in proofs/Worked.antt.
-- Assumes nothing.
use Rattle.std.specs.Prelude.{ℕ, ◌≡◌, List, [], ◌∷◌, ◌++◌, map}
use Rattle.memory.specs.Cases.{two_banks, two_store, two_image}
use Rattle.unit.specs.Run.{Input, power_on, Run, run_of}
use Rattle.unit.specs.Bench.{bench_store, bench_who, at, none, answer, Line, runs, LinesHold}

-- frames, all heard at one clock
abbrev sent : List ℕ → List Input
sent frames = map (at 0) frames

-- ENABLE to short 5 twice, DTR1 2 and DTR0 2; the lock byte 0x55; then the four bytes of the value
abbrev opened : List ℕ
opened = 0x0BFE15 ∷ 0x0BFE15 ∷ 0xC70202 ∷ []

abbrev unlocked : List ℕ
unlocked = opened ++ 0xC12055 ∷ []

abbrev stored : List ℕ
stored = unlocked ++ 0xC12001 ∷ 0xC12002 ∷ 0xC12003 ∷ 0xC12004 ∷ []

-- what is written for these
abbrev quietly : List ℕ
quietly = none ++ none ++ none

abbrev lock_answered : List ℕ
lock_answered = quietly ++ answer 0x55

abbrev four_answered : List ℕ
four_answered = lock_answered ++ answer 0x01 ++ answer 0x02 ++ answer 0x03 ++ answer 0x04

-- a store with this lock byte and these bytes of the value
abbrev holding : ℕ → ℕ → ℕ → ℕ → ℕ → List ℕ
holding lock a b c d = 0x06 ∷ lock ∷ a ∷ b ∷ c ∷ d ∷ []

-- READ: answer the byte, or none if the location is unmapped; DTR0 rises unless 0xFF
abbrev reading : Line
reading =
    runs (sent (0xC70203 ∷ 0x0BFE3C ∷ 0x0BFE3C ∷ 0x0BFE3C ∷ 0x0BFE3C ∷ 0x0BFE36 ∷ 0x0BFE3C ∷ 0x0BFE36 ∷ []))
    (none ++ answer 0x00 ++ answer 0x00 ++ answer 0x00 ++ answer 0x64 ++ answer 0x07 ++ none ++ answer 0x08)
    bench_store

abbrev reading_last : Line
reading_last =
    runs (sent (0xC702FE ∷ 0x0BFE3C ∷ 0x0BFE36 ∷ 0x0BFE3C ∷ 0x0BFE36 ∷ []))
    (none ++ none ++ answer 0xFF ++ none ++ answer 0xFF)
    bench_store

-- unmapped bank, no answer, DTR0 stays
abbrev reading_nowhere : Line
reading_nowhere = runs (sent (0xC70303 ∷ 0x0BFE3C ∷ 0x0BFE36 ∷ [])) (none ++ none ++ answer 0x03) bench_store

-- a first byte latches that value's bytes, its later bytes are answered from the latch; writes don't touch it
abbrev latching : Line
latching =
    runs
    (sent
    ((0xC70203 ∷ 0x0BFE3C ∷ []) ++ stored ++ 0xC13004 ∷ 0x0BFE3C ∷ 0x0BFE3C ∷ 0x0BFE3C ∷ 0xC13003 ∷ 0x0BFE3C ∷ []))
    (none ++ answer 0x00 ++ four_answered ++ none ++ answer 0x00 ++ answer 0x00 ++ answer 0x64 ++ none ++ answer 0x01)
    (holding 0x55 0x01 0x02 0x03 0x04)

-- the no-reply form, and DIRECT WRITE
abbrev unanswered : Line
unanswered =
    runs (sent (opened ++ 0xC12155 ∷ 0x0BFE36 ∷ 0xC50311 ∷ 0xC12122 ∷ 0xC12133 ∷ 0xC12144 ∷ []))
    (quietly ++ none ++ answer 0x03 ++ answer 0x11 ++ none ++ none ++ none)
    (holding 0x55 0x11 0x22 0x33 0x44)

-- a write executes only if enabled and bank DTR1 is mapped
abbrev not_enabled : Line
not_enabled = runs (sent (0xC70202 ∷ 0xC12055 ∷ 0x0BFE36 ∷ [])) (none ++ none ++ answer 0x02) bench_store

abbrev not_mapped : Line
not_mapped =
    runs (sent (0x0BFE15 ∷ 0x0BFE15 ∷ 0xC70302 ∷ 0xC12055 ∷ 0x0BFE36 ∷ [])) (quietly ++ none ++ answer 0x02) bench_store

-- a byte of a locked value, of ROM and of no value is not taken; DTR0 rises
abbrev not_taken : Line
not_taken =
    runs (sent (opened ++ 0xC50301 ∷ 0x0BFE36 ∷ 0xC50001 ∷ 0x0BFE36 ∷ 0xC50101 ∷ 0x0BFE36 ∷ []))
    (quietly ++ none ++ answer 0x04 ++ none ++ answer 0x01 ++ none ++ answer 0x02)
    bench_store

-- checking the lock only at the last byte: three bytes of a locked value, then the lock byte 0x55, then the last byte
abbrev late_lock : Line
late_lock =
    runs (sent (opened ++ 0xC50301 ∷ 0xC12002 ∷ 0xC12003 ∷ 0xC50255 ∷ 0xC50604 ∷ []))
    (quietly ++ none ++ none ++ none ++ answer 0x55 ++ none)
    (holding 0x55 0x00 0x00 0x00 0x64)

-- storing each byte as it comes: three bytes of four
abbrev unfinished : Line
unfinished =
    runs (sent (unlocked ++ 0xC12001 ∷ 0xC12002 ∷ 0xC12003 ∷ []))
    (lock_answered ++ answer 0x01 ++ answer 0x02 ++ answer 0x03)
    (holding 0x55 0x00 0x00 0x00 0x64)

-- an executed write that isn't the next staged byte drops staging
abbrev dropping : Line
dropping =
    runs (sent (unlocked ++ 0xC12001 ∷ 0xC12002 ∷ 0xC50000 ∷ 0xC50503 ∷ 0xC50604 ∷ []))
    (lock_answered ++ answer 0x01 ++ answer 0x02 ++ none ++ none ++ none)
    (holding 0x55 0x00 0x00 0x00 0x64)

-- a first byte begins anew
abbrev anew : Line
anew =
    runs (sent (unlocked ++ 0xC12001 ∷ 0xC50309 ∷ 0xC1200A ∷ 0xC1200B ∷ 0xC1200C ∷ []))
    (lock_answered ++ answer 0x01 ++ answer 0x09 ++ answer 0x0A ++ answer 0x0B ++ answer 0x0C)
    (holding 0x55 0x09 0x0A 0x0B 0x0C)

-- READ closes write-enable; QUERY CONTENT DTR0 keeps it
abbrev closing : Line
closing =
    runs (sent (opened ++ 0x0BFE3C ∷ 0xC50255 ∷ 0x0BFE36 ∷ [])) (quietly ++ answer 0xFF ++ none ++ answer 0x03)
    bench_store

abbrev keeping : Line
keeping =
    runs (sent (opened ++ 0x0BFE36 ∷ 0xC12055 ∷ [])) (quietly ++ answer 0x02 ++ answer 0x55)
    (holding 0x55 0x00 0x00 0x00 0x64)

-- the third ENABLE is a first half again, and closes; the fourth opens
abbrev third : Line
third = runs (sent (0x0BFE15 ∷ opened ++ 0xC12055 ∷ [])) (none ++ quietly ++ none) bench_store

abbrev fourth : Line
fourth =
    runs (sent (0x0BFE15 ∷ 0x0BFE15 ∷ unlocked)) (none ++ none ++ lock_answered) (holding 0x55 0x00 0x00 0x00 0x64)

-- letting an event between two halves pass as a pair; a reserved frame, too
abbrev event_between : Line
event_between =
    runs (sent (0x0BFE15 ∷ 0x828805 ∷ 0x0BFE15 ∷ 0xC70202 ∷ 0xC12055 ∷ [])) (none ++ quietly ++ none) bench_store

abbrev reserved_between : Line
reserved_between =
    runs (sent (0x0BFE15 ∷ 0xE10000 ∷ 0x0BFE15 ∷ 0xC70202 ∷ 0xC12055 ∷ [])) (none ++ quietly ++ none) bench_store

-- a command for others leaves write-enable open, and one for the unit that is not listed closes it
abbrev others : Line
others =
    runs (sent (opened ++ 0x0DFE3C ∷ 0xC12055 ∷ 0x0BFE10 ∷ 0xC502FF ∷ []))
    (quietly ++ none ++ answer 0x55 ++ none ++ none)
    (holding 0x55 0x00 0x00 0x00 0x64)

-- RESET MEMORY BANK 2, then of each bank, then of a bank that is locked
abbrev resetting : Line
resetting =
    runs (sent (stored ++ 0xC13002 ∷ 0x0BFE11 ∷ 0x0BFE11 ∷ [])) (four_answered ++ quietly)
    (holding 0xFF 0x00 0x00 0x00 0x32)

abbrev resetting_all : Line
resetting_all =
    runs (sent (stored ++ 0xC13000 ∷ 0x0BFE11 ∷ 0x0BFE11 ∷ [])) (four_answered ++ quietly)
    (holding 0xFF 0x00 0x00 0x00 0x32)

abbrev resetting_locked : Line
resetting_locked = runs (sent (0xC13002 ∷ 0x0BFE11 ∷ 0x0BFE11 ∷ [])) quietly bench_store

-- a power-on: the lock byte 0xFF, an NVM value stays, DTRs 0
abbrev powering : Line
powering =
    runs (sent stored ++ power_on ∷ sent (0x0BFE36 ∷ 0x0BFE37 ∷ []))
    (four_answered ++ none ++ answer 0x00 ++ answer 0x00)
    (holding 0xFF 0x01 0x02 0x03 0x04)

-- SET SHORT ADDRESS takes DTR0 if below 0x40 or 255, else does nothing; QUERY MISSING SHORT ADDRESS; broadcast
-- unaddressed
abbrev addressing : Line
addressing =
    runs
    (sent (0xC13040 ∷ 0x0BFE14 ∷ 0x0BFE14 ∷ 0x0BFE36 ∷ 0x0BFE33 ∷ 0xFDFE36 ∷ 0xC1303F ∷ 0x0BFE14 ∷ 0x0BFE14 ∷ 0x0BFE36
    ∷ 0x7FFE36 ∷ 0xC130FF ∷ 0x7FFE14 ∷ 0x7FFE14 ∷ 0xFFFE33 ∷ 0xFDFE36 ∷ []))
    (quietly ++ answer 0x40 ++ none ++ none ++ quietly ++ none ++ answer 0x3F ++ quietly ++ answer 0xFF ++ answer 0xFF)
    bench_store

-- ADD TO and REMOVE FROM DEVICE GROUPS: DTR2 as high byte, DTR1 as low; QUERY DEVICE GROUPS, low byte first
abbrev grouping : Line
grouping =
    runs
    (sent (0xC98001 ∷ 0x0BFE19 ∷ 0x0BFE19 ∷ 0x0BFE1A ∷ 0x0BFE1A ∷ 0x0BFE41 ∷ 0x0BFE42 ∷ 0x81FE43 ∷ 0x9FFE44
    ∷ 0xC90001 ∷ 0x0BFE1B ∷ 0x0BFE1B ∷ 0x0BFE41 ∷ 0x81FE42 ∷ 0xC98000 ∷ 0x0BFE1C ∷ 0x0BFE1C ∷ 0x0BFE43 ∷ 0x0BFE44 ∷ []))
    (quietly ++ none ++ none ++ answer 0x01 ++ answer 0x80 ++ answer 0x01 ++ answer 0x80
    ++ quietly ++ answer 0x00 ++ none ++ quietly ++ answer 0x01 ++ answer 0x00)
    bench_store

-- the five DTR commands, and QUERY CONTENT DTR0, 1, 2
abbrev loading : Line
loading =
    runs
    (sent (0xC13011 ∷ 0xC13122 ∷ 0xC13233 ∷ 0x0BFE36 ∷ 0x0BFE37 ∷ 0x0BFE38 ∷ 0xC74455 ∷ 0x0BFE36 ∷ 0x0BFE37
    ∷ 0xC96677 ∷ 0x0BFE37 ∷ 0x0BFE38 ∷ []))
    (quietly ++ answer 0x11 ++ answer 0x22 ++ answer 0x33 ++ none ++ answer 0x55 ++ answer 0x44
    ++ none ++ answer 0x77 ++ answer 0x66)
    bench_store

abbrev pub worked : List Line
worked =
    reading ∷ reading_last ∷ reading_nowhere ∷ latching ∷ unanswered ∷ not_enabled ∷ not_mapped ∷ not_taken ∷ late_lock
    ∷ unfinished ∷ dropping ∷ anew ∷ closing ∷ keeping ∷ third ∷ fourth ∷ event_between ∷ reserved_between ∷ others
    ∷ resetting ∷ resetting_all ∷ resetting_locked ∷ powering ∷ addressing ∷ grouping ∷ loading ∷ []

abbrev pub WorkedHold : Type 0
WorkedHold = LinesHold worked

-- ---- a unit with banks 1 and 2: memory's worked map, store and image

-- what is sent, what is written for it, and the store at the end
pub record TwoRun : Type 0 where
  pub sends : List ℕ
  pub writes : List ℕ
  pub leaves : List ℕ

abbrev two : List ℕ → List ℕ → List ℕ → TwoRun
two sends writes leaves = record { sends = sends; writes = writes; leaves = leaves }

-- the start sets both lock bytes 0xFF and takes bank 2's value, which is RAM-RW, from the image
abbrev run_of_two : TwoRun → Run
run_of_two c = run_of two_banks (two_store 0x55 0x11 0x12 0x55 0x21 0x22) two_image bench_who (sent c.sends)

abbrev enable : List ℕ
enable = 0x0BFE15 ∷ 0x0BFE15 ∷ []

-- the lock byte of bank 1 is set 0x55
abbrev unlock_first : List ℕ
unlock_first = 0xC70102 ∷ 0xC12055 ∷ []

-- that of bank 2, and its value written
abbrev unlock_second : List ℕ
unlock_second = 0xC70202 ∷ 0xC12055 ∷ 0xC50321 ∷ 0xC12022 ∷ []

-- what is written for these
abbrev first_answered : List ℕ
first_answered = none ++ answer 0x55

abbrev second_answered : List ℕ
second_answered = none ++ answer 0x55 ++ answer 0x21 ++ answer 0x22

abbrev unlock_both : List ℕ
unlock_both = unlock_first ++ unlock_second

abbrev both_answered : List ℕ
both_answered = first_answered ++ second_answered

-- DTR0, and RESET MEMORY BANK twice
abbrev reset : ℕ → List ℕ
reset frame = frame ∷ 0x0BFE11 ∷ 0x0BFE11 ∷ []

-- after ENABLE these frames, and a reset: what is written for them, and the store
abbrev resets : List ℕ → ℕ → List ℕ → List ℕ → TwoRun
resets sends frame writes leaves = two (enable ++ sends ++ reset frame) (none ++ none ++ writes ++ quietly) leaves

abbrev pub two_runs : List TwoRun
two_runs =
    -- both unlocked: RESET with DTR0 0 resets both, with DTR0 1 or 2 that bank and no other
    resets unlock_both 0xC13000 both_answered (two_store 0xFF 0x31 0x32 0xFF 0x41 0x42)
    ∷ resets unlock_both 0xC13001 both_answered (two_store 0xFF 0x31 0x32 0x55 0x21 0x22)
    ∷ resets unlock_both 0xC13002 both_answered (two_store 0x55 0x11 0x12 0xFF 0x41 0x42)
    -- bank 1 is locked: it stays
    ∷ resets unlock_second 0xC13000 second_answered (two_store 0xFF 0x11 0x12 0xFF 0x41 0x42)
    ∷ resets unlock_second 0xC13001 second_answered (two_store 0xFF 0x11 0x12 0x55 0x21 0x22)
    -- bank 1's value is latched and reset; a later byte of bank 2's value is answered from the store, and one of bank
    -- 1's from the latch until a single byte is read
    ∷ two
    ((0xC70103 ∷ 0x0BFE3C ∷ []) ++ enable ++ unlock_first ++ reset 0xC13001
    ++ 0xC70204 ∷ 0x0BFE3C ∷ 0xC70104 ∷ 0x0BFE3C ∷ 0xC70102 ∷ 0x0BFE3C ∷ 0xC70104 ∷ 0x0BFE3C ∷ [])
    (none ++ answer 0x11 ++ none ++ none ++ first_answered ++ quietly
    ++ none ++ answer 0x42 ++ none ++ answer 0x12 ++ none ++ answer 0xFF ++ none ++ answer 0x32)
    (two_store 0xFF 0x31 0x32 0xFF 0x41 0x42)
    ∷ []

-- each run writes and leaves what its line says
unfoldable pub TwoBanksHold : Type 0
TwoBanksHold =
    (map (λ c. (run_of_two c).output) two_runs ≡ map (λ c. c.writes) two_runs)
    × (map (λ c. (run_of_two c).store) two_runs ≡ map (λ c. c.leaves) two_runs)
