-- The promises about the definitions. They are proved in proofs/: Words, LowByte, Numbers, NoByte
-- and Settled.
-- Assumes nothing.
use Rattle.std.specs.Prelude.{◌≡◌, Bool, ◌&&◌, List, [], ◌∷◌, ◌++◌, ℕ, ◌+◌, ◌*◌, ◌<◌, ◌^◌, Result, Ok, Err, IsErr, length, replicate}
use Rattle.laws.specs.Bits.{bits}
use Rattle.laws.specs.Numbers.{Test, test}
use Rattle.laws.specs.Settled.{Settles}
use Rattle.refusals.specs.Numbers.{number_of, number_in}
use Rattle.refusals.specs.declared.refusal.Refusal.{Refusal}
use Rattle.frames.specs.Values.{writing_word, WritingFits}
use Rattle.frames.specs.Read.{read_of}
use Rattle.words.specs.Word.{message_of}
use Rattle.composing.specs.Compose.{compose_of, compose_power_of}
use Rattle.records.specs.Map.{records_of}
use Rattle.banks.specs.Rules.{check_tests, check_number}
use Rattle.looks.specs.Look.{look_number}
use Rattle.looks.specs.declared.looked.Place.{Place}
use Rattle.finds.specs.Find.{find_number, find_word}
use Rattle.compare.specs.Compare.{compare_number, compare_of, compare_word}
use Rattle.compare.specs.Promises.{CompareWordPromise, SettlesCompared}
use Rattle.session.specs.Session.{session_number, session_of, session_word}
use Rattle.session.specs.Promises.{SessionWordPromise, SettlesWritten}
use Rattle.hearing.specs.Pairs.{heard_at}
use Rattle.rooms.specs.Rules.{state_holds}
use Rattle.rooms.specs.Reply.{Reply, answered, answer_byte}
use Rattle.numbers.specs.Numbers.{start_tests, heard_tests}
use Rattle.numbers.specs.Promises.{GivenBy}
use Rattle.entries.specs.Entry.{entries}
use Rattle.census.specs.Census.{census_of, end_number}
use Rattle.census.specs.Promises.{AddCensusPromise, SettlesAdded}
use Rattle.tracing.specs.Run.{room_for}
use Rattle.packing.specs.StateBytes.{flag, state_of, shape_holds}
use Rattle.packing.specs.Promises.{Bytes}
use Rattle.faces.specs.Answers.{reply_word, look_word, written_of, source}
use Rattle.faces.specs.Answers.{check_answer, look_answer, read_answer, write_answer, event_answer, power_answer}
use Rattle.faces.specs.Face.{Faced, then_number, frame_face, power_on_face, start_face, Faces}
use Rattle.faces.specs.Face.{run_face, RunFaces}

-- ---- an answer as one number

-- number | answered << 8 | answer << 16: each part stands in its bits
pub record ReplyBack (r : Reply) : Type 0 where
  pub number : bits (reply_word r) 7 0 ≡ number_in r
  pub answered : bits (reply_word r) 15 8 ≡ flag (answered r)
  pub answer : bits (reply_word r) 31 16 ≡ answer_byte r

abbrev pub RepliesBack : Type 0
RepliesBack = (r : Reply) → answer_byte r < 256 → ReplyBack r

-- number | width << 8 | offset << 16: a place has number 0, a refusal width and offset 0
abbrev pub LookBack : Result Place Refusal → Type 0
LookBack (Ok place) = (bits (look_word (Ok place)) 7 0 ≡ 0)
    × (bits (look_word (Ok place)) 15 8 ≡ place.width) × (bits (look_word (Ok place)) 31 16 ≡ place.offset)
LookBack (Err refusal) = (bits (look_word (Err refusal)) 7 0 ≡ number_of refusal)
    × (bits (look_word (Err refusal)) 15 8 ≡ 0) × (bits (look_word (Err refusal)) 31 16 ≡ 0)

-- what the types of a place can hold
abbrev pub PlaceHeld : Result Place Refusal → Type 0
PlaceHeld (Ok place) = (place.width < 256) × (place.offset < 2 ^ 16)
PlaceHeld (Err refusal) = Unit {0}

abbrev pub LooksBack : Type 0
LooksBack = (l : Result Place Refusal) → PlaceHeld l → LookBack l

-- number | frame << 8: a frame has number 0, a refusal frame 0
abbrev pub WritingBack : Result ℕ Refusal → Type 0
WritingBack (Ok f) = (bits (writing_word (Ok f)) 7 0 ≡ 0) × (bits (writing_word (Ok f)) 31 8 ≡ f)
WritingBack (Err refusal) = (bits (writing_word (Err refusal)) 7 0 ≡ number_of refusal)
    × (bits (writing_word (Err refusal)) 31 8 ≡ 0)

abbrev pub WritingsBack : Type 0
WritingsBack = (w : Result ℕ Refusal) → WritingFits w → WritingBack w

-- the same of bare numbers, whatever they are: number | middle << 8 | high << 16
pub record PartsBack (w number middle high : ℕ) : Type 0 where
  pub first : bits w 7 0 ≡ number
  pub second : bits w 15 8 ≡ middle
  pub third : bits w 31 16 ≡ high

abbrev pub ThreePartsBack : Type 0
ThreePartsBack = (number middle high : ℕ) → number < 256 → middle < 256 → high < 2 ^ 16 →
    PartsBack (number + middle * 2 ^ 8 + high * 2 ^ 16) number middle high

-- number | rest << 8: the number stands there under any rest, and the rest if it has 24 bits
abbrev pub TwoPartsBack : Type 0
TwoPartsBack = (number rest : ℕ) → number < 256 → (bits (number + rest * 2 ^ 8) 7 0 ≡ number)
    × (rest < 2 ^ 24 → bits (number + rest * 2 ^ 8) 31 8 ≡ rest)

-- one rule for every answer, but for a run's count of records: its low byte is the number
abbrev pub LowReply : Faced → Type 0
LowReply f = bits (reply_word f.reply) 7 0 ≡ number_in f.reply

pub record LowByte : Type 0 where
  pub check : (map store image : List ℕ) →
      bits (check_answer map store image) 7 0 ≡ check_number map store (length image)
  pub look : (map store : List ℕ) (bank location : ℕ) →
      bits (look_answer map store bank location) 7 0 ≡ look_number map store bank location
  pub find : (map : List ℕ) (bank location : ℕ) → bits (find_word map bank location) 7 0 ≡ find_number map bank location
  pub compare : (map old new : List ℕ) (room : ℕ) →
      bits (compare_word (compare_of map old new room)) 7 0 ≡ compare_number map old new room
  pub session : (map : List ℕ) (address bank location : ℕ) (bytes : List ℕ) →
      bits (session_word (session_of map address bank location bytes)) 7 0
      ≡ session_number map address bank location (length bytes)
  pub census : (records : List ℕ) → bits (end_number (census_of records)) 7 0 ≡ end_number (census_of records)
  pub start : (map store image : List ℕ) (address groups : ℕ) → LowReply (start_face map store image address groups)
  pub frame : (map store image bytes : List ℕ) (frame clock : ℕ) →
      LowReply (frame_face map store image bytes frame clock)
  pub power_on : (map store image bytes : List ℕ) → LowReply (power_on_face map store image bytes)
  pub read : (frame : ℕ) → bits (read_answer frame) 7 0 ≡ number_in (read_of frame)
  pub write : (word : ℕ) → bits (write_answer word) 7 0 ≡ number_in (written_of (message_of word))
  pub compose_event : (sort number primary short groups information scheme : ℕ) →
      bits (event_answer sort number primary short groups information scheme) 7 0
      ≡ number_in (compose_of (source sort number primary short groups information scheme))
  pub compose_power : (short groups : ℕ) →
      bits (power_answer short groups) 7 0 ≡ number_in (compose_power_of short groups)

-- ---- the numbers

-- a rule of a state is broken also by bytes that are no state's
abbrev pub bytes_hold : List ℕ → List ℕ → List ℕ → Bool
bytes_hold map store bytes = shape_holds bytes && state_holds (records_of map) store (state_of bytes)

-- a later power-on tests 7 to 12
abbrev pub power_on_tests : List ℕ → List ℕ → ℕ → List ℕ → List Test
power_on_tests map store size bytes = check_tests map store size ++ test 12 (bytes_hold map store bytes) ∷ []

-- a frame tests 7 to 12, then what is heard: 1
abbrev pub frame_tests : List ℕ → List ℕ → ℕ → List ℕ → ℕ → ℕ → List Test
frame_tests map store size bytes frame clock =
    power_on_tests map store size bytes ++ heard_tests map store (state_of bytes) (heard_at clock frame)

-- each number is given exactly if every test before its own passes and its own fails
pub record Numbered (map store image : List ℕ) : Type 0 where
  pub start : (address groups : ℕ) →
      GivenBy (number_in (start_face map store image address groups).reply)
      (start_tests map store (length image) (record { address = address; groups = groups }))
  pub frame : (bytes : List ℕ) (frame clock : ℕ) →
      GivenBy (number_in (frame_face map store image bytes frame clock).reply)
      (frame_tests map store (length image) bytes frame clock)
  pub power_on : (bytes : List ℕ) →
      GivenBy (number_in (power_on_face map store image bytes).reply) (power_on_tests map store (length image) bytes)

abbrev pub FacesNumbered : Type 0
FacesNumbered = (map store image : List ℕ) → Numbered map store image

-- a number that does not fit a byte is refused, and not cut: 7 to 11, then 6 of a start, 14 of a look
pub record NotCut (map store : List ℕ) : Type 0 where
  pub start : (image : List ℕ) (address groups : ℕ) → 255 < address →
      number_in (start_face map store image address groups).reply ≡ then_number map store (length image) 6
  pub bank : (bank location : ℕ) → 255 < bank →
      look_number map store bank location ≡ then_number map store (length store) 14
  pub location : (bank location : ℕ) → 255 < location →
      look_number map store bank location ≡ then_number map store (length store) 14

abbrev pub FacesNotCut : Type 0
FacesNotCut = (map store : List ℕ) → NotCut map store

-- a refusal, and so no answer; these state bytes and this store, byte for byte
pub record Refuses (f : Faced) (bytes store : List ℕ) : Type 0 where
  pub refuses : IsErr f.reply
  pub state_stays : f.state ≡ bytes
  pub store_stays : f.store ≡ store

pub record Refused (map store image : List ℕ) : Type 0 where
  -- a refused start writes all zeros
  pub start : (address groups : ℕ) → 0 < number_in (start_face map store image address groups).reply →
      Refuses (start_face map store image address groups) (replicate 96 0) store
  pub frame : (bytes : List ℕ) → Bytes bytes → (frame clock : ℕ) →
      0 < number_in (frame_face map store image bytes frame clock).reply →
      Refuses (frame_face map store image bytes frame clock) bytes store
  pub power_on : (bytes : List ℕ) → Bytes bytes → 0 < number_in (power_on_face map store image bytes).reply →
      Refuses (power_on_face map store image bytes) bytes store

abbrev pub FacesRefused : Type 0
FacesRefused = (map store image : List ℕ) → Refused map store image

-- ---- what each call promises of its answer r, and the C call of the same name with it

-- mf_check
abbrev pub CheckFacePromise : List ℕ → List ℕ → List ℕ → ℕ → Type 0
CheckFacePromise map store image r = r ≡ check_answer map store image

-- mf_look
abbrev pub LookFacePromise : List ℕ → List ℕ → ℕ → ℕ → ℕ → Type 0
LookFacePromise map store bank location r = r ≡ look_answer map store bank location

-- mf_find
abbrev pub FindFacePromise : List ℕ → ℕ → ℕ → ℕ → Type 0
FindFacePromise map bank location r = r ≡ find_word map bank location

-- mf_compare; the output was `before`
abbrev pub CompareFacePromise : List ℕ → List ℕ → List ℕ → List ℕ → ℕ → List ℕ → Type 0
CompareFacePromise map old new before r output = CompareWordPromise map old new before r output

-- mf_session; frames are the 13 places of the lent array afterwards
abbrev pub SessionFacePromise : List ℕ → ℕ → ℕ → ℕ → List ℕ → ℕ → List ℕ → Type 0
SessionFacePromise map address bank location bytes r frames = SessionWordPromise map address bank location bytes r frames

-- mf_census; the 16 counts were `before`
abbrev pub CensusFacePromise : List ℕ → List ℕ → ℕ → List ℕ → Type 0
CensusFacePromise records before r counts = AddCensusPromise records before r counts

-- mf_start; state and left are the state's bytes and the store afterwards
abbrev pub StartFacePromise : List ℕ → List ℕ → List ℕ → ℕ → ℕ → ℕ → List ℕ → List ℕ → Type 0
StartFacePromise map store image address groups r state left =
    Faces r state left (start_face map store image address groups)

-- mf_frame
abbrev pub FrameFacePromise : List ℕ → List ℕ → List ℕ → List ℕ → ℕ → ℕ → ℕ → List ℕ → List ℕ → Type 0
FrameFacePromise map store image bytes frame clock r state left =
    Faces r state left (frame_face map store image bytes frame clock)

-- mf_power_on
abbrev pub PowerOnFacePromise : List ℕ → List ℕ → List ℕ → List ℕ → ℕ → List ℕ → List ℕ → Type 0
PowerOnFacePromise map store image bytes r state left = Faces r state left (power_on_face map store image bytes)

-- mf_run: of the whole records, as many as the output has room for; the output was `before`
abbrev pub RunFacePromise : List ℕ → List ℕ → List ℕ → List ℕ → List ℕ → List ℕ →
    ℕ → List ℕ → List ℕ → List ℕ → Type 0
RunFacePromise map store image bytes records before r state left output =
    RunFaces r state left output before
    (run_face map store image bytes (entries records (room_for (length records) (length before))))

-- mf_read
abbrev pub ReadFacePromise : ℕ → ℕ → Type 0
ReadFacePromise frame r = r ≡ read_answer frame

-- mf_write
abbrev pub WriteFacePromise : ℕ → ℕ → Type 0
WriteFacePromise word r = r ≡ write_answer word

-- mf_compose_event
abbrev pub ComposeEventFacePromise : ℕ → ℕ → ℕ → ℕ → ℕ → ℕ → ℕ → ℕ → Type 0
ComposeEventFacePromise sort number primary short groups information scheme r =
    r ≡ event_answer sort number primary short groups information scheme

-- mf_compose_power
abbrev pub ComposePowerFacePromise : ℕ → ℕ → ℕ → Type 0
ComposePowerFacePromise short groups r = r ≡ power_answer short groups

-- ---- results that meet the same promise are equal

abbrev pub SettlesFaced : (ℕ → List ℕ → List ℕ → Type 0) → Type 0
SettlesFaced promise = (a b : ℕ) (s t u v : List ℕ) → promise a s u → promise b t v → (a ≡ b) × (s ≡ t) × (u ≡ v)

abbrev pub SettlesRun : (ℕ → List ℕ → List ℕ → List ℕ → Type 0) → Type 0
SettlesRun promise = (m n : ℕ) (s t u v o p : List ℕ) → promise m s u o → promise n t v p →
    (m ≡ n) × (s ≡ t) × (u ≡ v) × (o ≡ p)

pub record Settled : Type 0 where
  pub check : (map store image : List ℕ) → Settles (CheckFacePromise map store image)
  pub start : (map store image : List ℕ) (address groups : ℕ) →
      SettlesFaced (StartFacePromise map store image address groups)
  pub frame : (map store image bytes : List ℕ) (frame clock : ℕ) →
      SettlesFaced (FrameFacePromise map store image bytes frame clock)
  pub power_on : (map store image bytes : List ℕ) → SettlesFaced (PowerOnFacePromise map store image bytes)
  pub run : (map store image bytes records before : List ℕ) →
      SettlesRun (RunFacePromise map store image bytes records before)
  pub look : (map store : List ℕ) (bank location : ℕ) → Settles (LookFacePromise map store bank location)
  pub find : (map : List ℕ) (bank location : ℕ) → Settles (FindFacePromise map bank location)
  pub compare : (map old new before : List ℕ) → SettlesCompared (CompareFacePromise map old new before)
  pub session : (map : List ℕ) (address bank location : ℕ) (bytes : List ℕ) →
      SettlesWritten (SessionFacePromise map address bank location bytes)
  pub census : (records before : List ℕ) → SettlesAdded (CensusFacePromise records before)
  pub read : (frame : ℕ) → Settles (ReadFacePromise frame)
  pub write : (word : ℕ) → Settles (WriteFacePromise word)
  pub compose_event : (sort number primary short groups information scheme : ℕ) →
      Settles (ComposeEventFacePromise sort number primary short groups information scheme)
  pub compose_power : (short groups : ℕ) → Settles (ComposePowerFacePromise short groups)
