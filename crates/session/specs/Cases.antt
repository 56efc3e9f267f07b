-- Worked cases: sessions of paper 01's bench unit and of a wide value, with their frames; refusals in their order; and the bench
-- unit's session run from states that it has reached. Three tables and one statement.
-- Assumes nothing.
use Rattle.std.specs.Prelude.{◌≡◌, List, [], ◌∷◌, ◌++◌, map as each, ℕ, Result, Err}
use Rattle.refusals.specs.Numbers.{number_in, refusal_of}
use Rattle.refusals.specs.declared.refusal.Refusal.{Refusal}
use Rattle.records.specs.Cases.{bench_map, map_row}
use Rattle.unit.specs.Bench.{bench_image, bench_run, at, none, answer}
use Rattle.unit.specs.Run.{Input, Run, run_from}
use Rattle.session.specs.Session.{without_frames, session_of, handed, session_word}
use Rattle.session.specs.Running.{heard_of, clock_at}
use Rattle.session.specs.declared.answer.Session.{Session}

-- ---- frames

pub record SessionCase : Type 0 where
  pub records : List ℕ
  pub address : ℕ
  pub bank : ℕ
  pub location : ℕ
  pub bytes : List ℕ
  pub frames : List ℕ

abbrev asks : List ℕ → ℕ → ℕ → ℕ → List ℕ → List ℕ → SessionCase
asks records address bank location bytes frames =
    record { records = records; address = address; bank = bank; location = location; bytes = bytes; frames = frames }

-- the bench unit's value: nine frames
abbrev pub bench_value : List ℕ
bench_value = 0x00 ∷ 0x00 ∷ 0x01 ∷ 0x2C ∷ []

abbrev pub bench_session : Session
bench_session = handed (session_of bench_map 5 2 0x03 bench_value)

abbrev eight : List ℕ
eight = 0x11 ∷ 0x22 ∷ 0x33 ∷ 0x44 ∷ 0x55 ∷ 0x66 ∷ 0x77 ∷ 0x88 ∷ []

-- a value of eight bytes that ends at 0xFE, in a map without a byte at 0x00 and without a lock byte: it breaks 11, and with its
-- places 10, and gets its frames
abbrev wide : ℕ → List ℕ
wide lockable = map_row 199 0xF7 8 4 lockable 0 0xFF 0xFF

abbrev pub frame_cases : List SessionCase
frame_cases =
    asks bench_map 5 2 0x03 bench_value
    (0xC13102 ∷ 0x0BFE15 ∷ 0x0BFE15 ∷ 0xC50255 ∷ 0xC50300 ∷ 0xC50400 ∷ 0xC50501 ∷ 0xC5062C ∷ 0xC502FF
    ∷ 0 ∷ 0 ∷ 0 ∷ 0 ∷ [])
    -- the lock byte itself has nothing round it
    ∷ asks bench_map 63 2 0x02 (0x55 ∷ [])
    (0xC13102 ∷ 0x7FFE15 ∷ 0x7FFE15 ∷ 0xC50255 ∷ 0 ∷ 0 ∷ 0 ∷ 0 ∷ 0 ∷ 0 ∷ 0 ∷ 0 ∷ 0 ∷ [])
    -- eight bytes, and at most 13 frames
    ∷ asks (wide 0) 0 199 0xF7 eight
    (0xC131C7 ∷ 0x01FE15 ∷ 0x01FE15
    ∷ 0xC5F711 ∷ 0xC5F822 ∷ 0xC5F933 ∷ 0xC5FA44 ∷ 0xC5FB55 ∷ 0xC5FC66 ∷ 0xC5FD77 ∷ 0xC5FE88 ∷ 0 ∷ 0 ∷ [])
    ∷ asks (wide 1) 0 199 0xF7 eight
    (0xC131C7 ∷ 0x01FE15 ∷ 0x01FE15 ∷ 0xC50255
    ∷ 0xC5F711 ∷ 0xC5F822 ∷ 0xC5F933 ∷ 0xC5FA44 ∷ 0xC5FB55 ∷ 0xC5FC66 ∷ 0xC5FD77 ∷ 0xC5FE88 ∷ 0xC502FF ∷ [])
    ∷ []

abbrev session_in : SessionCase → Result Session Refusal
session_in c = session_of c.records c.address c.bank c.location c.bytes

-- ---- refusals

pub record RefusedCase : Type 0 where
  pub number : ℕ
  pub asked : SessionCase

abbrev refuses : ℕ → List ℕ → ℕ → ℕ → ℕ → List ℕ → RefusedCase
refuses number records address bank location bytes =
    record { number = number; asked = asks records address bank location bytes [] }

abbrev pub refused_cases : List RefusedCase
refused_cases =
    -- 7, 8 and 9 come before 14, 16 and 6
    refuses 7 (0 ∷ []) 64 2 0x03 []
    ∷ refuses 8 (map_row 200 0x03 4 4 0 0 0 0) 64 200 0x03 []
    ∷ refuses 9 (map_row 5 0x20 1 4 0 0 0 0 ++ map_row 3 0x05 1 4 0 0 0 1) 64 5 0x20 []
    -- 14: a bank that is absent, a hole, a place inside a value, past the bank's last; it comes before 6, and nothing is cut
    ∷ refuses 14 bench_map 5 3 0x03 bench_value
    ∷ refuses 14 bench_map 5 2 0x01 bench_value
    ∷ refuses 14 bench_map 5 2 0x04 bench_value
    ∷ refuses 14 bench_map 5 2 0x07 bench_value
    ∷ refuses 14 bench_map 64 2 0x04 []
    ∷ refuses 14 bench_map 5 0x102 0x03 bench_value
    ∷ refuses 14 bench_map 5 2 0x103 bench_value
    -- 16: the byte at 0x00 is ROM; it comes before 6
    ∷ refuses 16 bench_map 5 2 0x00 (0x06 ∷ [])
    ∷ refuses 16 bench_map 64 2 0x00 []
    -- 6: too few bytes, too many, none; an address over 63, 255 too, and none is cut
    ∷ refuses 6 bench_map 5 2 0x03 (0x00 ∷ 0x01 ∷ 0x2C ∷ [])
    ∷ refuses 6 bench_map 5 2 0x03 (0x00 ∷ bench_value)
    ∷ refuses 6 bench_map 5 2 0x03 []
    ∷ refuses 6 bench_map 64 2 0x03 bench_value
    ∷ refuses 6 bench_map 255 2 0x03 bench_value
    ∷ refuses 6 bench_map 0x105 2 0x03 bench_value
    ∷ []

-- ---- runs

-- what the bench unit has heard since its start, and the clock of the session's first frame
pub record RunCase : Type 0 where
  pub heard : List Input
  pub clock : ℕ

abbrev heard : ℕ → List Input → RunCase
heard clock inputs = record { heard = inputs; clock = clock }

-- the very ENABLE of the session waits
abbrev pub waits : RunCase
waits = heard 1000 (at 950 0x0BFE15 ∷ [])

-- write-enable is open, the bank unlocked, and three bytes of the value are staged
abbrev open_and_staged : List Input
open_and_staged =
    each (at 900) (0x0BFE15 ∷ 0x0BFE15 ∷ 0xC13102 ∷ 0xC50255 ∷ 0xC503AA ∷ 0xC504AA ∷ 0xC505AA ∷ [])

abbrev pub run_cases : List RunCase
run_cases =
    -- from its start
    heard 0 []
    ∷ heard 901 open_and_staged
    -- unlocked, and write-enable closed again by the ENABLE that waits
    ∷ heard 901 (open_and_staged ++ at 900 0x0BFE15 ∷ [])
    -- a value is latched
    ∷ heard 7 (each (at 0) (0xC70203 ∷ 0x0BFE3C ∷ []))
    -- the clock runs over between the two ENABLE
    ∷ heard 4294967294 (at 4294967293 0x0BFE15 ∷ [])
    ∷ []

abbrev ran : RunCase → Run
ran c =
    run_from bench_map bench_image (bench_run c.heard).store (bench_run c.heard).state (heard_of (clock_at c.clock) bench_session)

-- what is written for the nine frames, and the store that they leave
abbrev pub bench_answers : List ℕ
bench_answers =
    none ++ none ++ none ++ answer 0x55 ++ answer 0x00 ++ answer 0x00 ++ answer 0x01 ++ answer 0x2C ++ answer 0xFF

abbrev pub bench_written : List ℕ
bench_written = 0x06 ∷ 0xFF ∷ 0x00 ∷ 0x00 ∷ 0x01 ∷ 0x2C ∷ []

pub record SessionCases : Type 0 where
  -- where its ENABLE waits already, the session leaves the value, and the lock byte 0xFF
  pub waiting : (ran waits).store ≡ bench_written
  -- each run leaves them, and has the same answers
  pub stores : each (λ c. (ran c).store) (waits ∷ run_cases) ≡ each (λ c. bench_written) (waits ∷ run_cases)
  pub outputs : each (λ c. (ran c).output) (waits ∷ run_cases) ≡ each (λ c. bench_answers) (waits ∷ run_cases)
  -- each refused case gets its number, and no frame
  pub numbers : each (λ c. number_in (session_in c.asked)) refused_cases ≡ each (λ c. c.number) refused_cases
  pub refusals : each (λ c. session_in c.asked) refused_cases ≡ each (λ c. Err (refusal_of c.number)) refused_cases
  pub no_frames : each (λ c. handed (session_in c.asked)) refused_cases ≡ each (λ c. without_frames) refused_cases
  -- each session has its frames
  pub frames : each (λ c. (handed (session_in c)).frames) frame_cases ≡ each (λ c. c.frames) frame_cases
  -- and as one number its count
  pub words : each (λ c. session_word (session_in c)) frame_cases ≡ 0x900 ∷ 0x400 ∷ 0xB00 ∷ 0xD00 ∷ []
