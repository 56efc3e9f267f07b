-- What is proved of a trace: one run after the other, slices, how much is written, 13 and the tail, one check, the
-- numbers of the files. Paper 01, "The trace program". Proved in proofs/: Continued, Cutting, Checks, Starts, Settled.
-- Assumes nothing.
use Rattle.std.specs.Prelude.{ℕ, suc, ◌*◌, ◌<◌, ◌≡◌, true, false, ◌&&◌, List, [], ◌∷◌, ◌++◌, eqb, length, take, if◌then◌else◌}
use Rattle.laws.specs.Lists.{every, some}
use Rattle.laws.specs.Settled.{Settles}
use Rattle.banks.specs.Rules.{check_number}
use Rattle.hearing.specs.declared.heard.Who.{Who}
use Rattle.rooms.specs.Rules.{address_holds}
use Rattle.rooms.specs.declared.state.State.{State}
use Rattle.numbers.specs.Numbers.{power_number, start_number}
use Rattle.numbers.specs.Promises.{GivenBy}
use Rattle.unit.specs.Step.{start_of}
use Rattle.entries.specs.Entry.{entries, whole_entries, is_broken}
use Rattle.entries.specs.Promises.{is_whole}
use Rattle.entries.specs.declared.entry.Entry.{Entry}
use Rattle.tracing.specs.Trace.{Traced, traced_of, broken, who_of, file_tests, file_number, closed, trace_of}
use Rattle.tracing.specs.Run.{turn_of, continued, room_for, Runs}
use Rattle.tracing.specs.declared.runs.Ran.{Ran}

-- ---- one after the other

-- a run over two lists of records, one after the other, is the run over both
abbrev pub OneAfterOther : Type 0
OneAfterOther = (map image store : List ℕ) (s : State) (es fs : List Entry)
    → traced_of map image store s (es ++ fs) ≡ continued map image (traced_of map image store s es) fs

-- nothing read and nothing written yet
abbrev pub begun : List ℕ → State → Traced
begun store s = record { output = []; ended = false; state = s; store = store }

-- slice after slice
abbrev pub in_slices : List ℕ → List ℕ → Traced → List (List ℕ) → Traced
in_slices map image t [] = t
in_slices map image t (slice ∷ slices) = in_slices map image (continued map image t (whole_entries slice)) slices

abbrev pub joined : List (List ℕ) → List ℕ
joined [] = []
joined (slice ∷ slices) = slice ++ joined slices

-- however the input is cut into slices of whole records, with an unfinished one behind them or none, the trace is the
-- same
abbrev pub CutAnywhere : Type 0
CutAnywhere = (map store image adr : List ℕ) (slices : List (List ℕ)) (rest : List ℕ)
    → every is_whole slices ≡ true → length rest < 8 → file_number map store (length image) adr ≡ 0
    → trace_of map store image adr (joined slices ++ rest)
    ≡ closed (length rest)
    (in_slices map image
    (begun (start_of map store image (who_of adr)).store (start_of map store image (who_of adr)).answer.state) slices)

-- ---- how much is written

-- the records that are answered: those up to the first broken one, and that one
abbrev pub answered_count : List Entry → ℕ
answered_count [] = 0
answered_count (e ∷ es) = if is_broken e then 1 else suc (answered_count es)

-- per record 4 bytes
abbrev pub FourEach : Type 0
FourEach = (map image store : List ℕ) (s : State) (es : List Entry)
    → length (traced_of map image store s es).output ≡ 4 * answered_count es

-- ---- 13 and the tail

pub record Thirteen (map image store : List ℕ) (s : State) (es : List Entry) : Type 0 where
  -- a record of unknown kind behind others that are known: 13, its 4 bytes written; state and store stay
  pub writes : some is_broken es ≡ false
      → traced_of map image store s (es ++ Entry.Broken ∷ [])
      ≡ record {
        output = (traced_of map image store s es).output ++ broken;
        ended = true;
        state = (traced_of map image store s es).state;
        store = (traced_of map image store s es).store;
      }
  -- it ends the input
  pub ends : (fs : List Entry)
      → traced_of map image store s (es ++ Entry.Broken ∷ fs) ≡ traced_of map image store s (es ++ Entry.Broken ∷ [])
  -- an unfinished record counts as one of unknown kind, and the store still follows
  pub tail : (rest : ℕ) → 0 < rest
      → closed rest (traced_of map image store s es) ≡ closed 0 (traced_of map image store s (es ++ Entry.Broken ∷ []))

abbrev pub ThirteenEnds : Type 0
ThirteenEnds = (map image store : List ℕ) (s : State) (es : List Entry) → Thirteen map image store s es

-- ---- one check is enough

-- the number of map, store, image and state is the same after a record as before it
abbrev pub OneCheck : Type 0
OneCheck = (map image store : List ℕ) (s : State) (e : Entry)
    → power_number map (turn_of map image store s e).store (length image) (turn_of map image store s e).answer.state
    ≡ power_number map store (length image) s

-- ---- the files

pub record FileNumbers (map store : List ℕ) (size : ℕ) (adr : List ℕ) : Type 0 where
  -- exactly if
  pub exactly : GivenBy (file_number map store size adr) (file_tests map store size adr)
  -- 7 to 11 come first, then 6
  pub first : 0 < check_number map store size → file_number map store size adr ≡ check_number map store size
  pub last : check_number map store size ≡ 0
      → file_number map store size adr ≡ (if eqb (length adr) 5 && address_holds (who_of adr).address then 0 else 6)
  -- of a unit.adr of 5 bytes it is start's number
  pub start : length adr ≡ 5 → file_number map store size adr ≡ start_number map store size (who_of adr)

abbrev pub FilesNumbered : Type 0
FilesNumbered = (map store : List ℕ) (size : ℕ) (adr : List ℕ) → FileNumbers map store size adr

-- a file longer than its limit is seen to be longer: one byte more than the limit of each is enough
abbrev pub OneByteMore : Type 0
OneByteMore = (map store image adr input : List ℕ)
    → trace_of (take 513 map) (take 4097 store) (take 4097 image) (take 6 adr) input ≡ trace_of map store image adr input

-- ---- what each public call promises of its result r

-- and of the store and the output that are left, where the output was `before`: of the whole records, as many as the
-- output has room for
abbrev pub RunPromise : List ℕ → List ℕ → List ℕ → State → List ℕ → List ℕ → Ran → List ℕ → List ℕ → Type 0
RunPromise map store image s records before r left output =
    Runs r left output before
    (traced_of map image store s (entries records (room_for (length records) (length before))))

abbrev pub WhoOfPromise : List ℕ → Who → Type 0
WhoOfPromise adr r = r ≡ who_of adr

abbrev pub CheckFilesPromise : List ℕ → List ℕ → List ℕ → List ℕ → ℕ → Type 0
CheckFilesPromise map store image adr r = r ≡ file_number map store (length image) adr

-- ---- results meeting the same promise are equal

-- two results of a run that meet one promise, the stores and the outputs that are left are equal
abbrev pub SettlesRan : (Ran → List ℕ → List ℕ → Type 0) → Type 0
SettlesRan promise = (q r : Ran) (s t o p : List ℕ) → promise q s o → promise r t p → (q ≡ r) × (s ≡ t) × (o ≡ p)

abbrev pub RunSettled : Type 0
RunSettled = (map store image : List ℕ) (s : State) (records before : List ℕ)
    → SettlesRan (RunPromise map store image s records before)

abbrev pub WhoSettled : Type 0
WhoSettled = (adr : List ℕ) → Settles (WhoOfPromise adr)

abbrev pub FilesSettled : Type 0
FilesSettled = (map store image adr : List ℕ) → Settles (CheckFilesPromise map store image adr)
