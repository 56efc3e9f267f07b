-- What is proved of a session as a call. The proofs stand in proofs/.
-- Assumes nothing.
use Rattle.std.specs.Prelude.{◌≡◌, ◌⊎◌, ◌↔◌, true, List, map as each, ℕ, ◌-◌, ◌≤◌, ◌<◌, eqb, length, take, drop, replicate, if◌then◌else◌, Some, Result, Ok}
use Rattle.laws.specs.Bits.{bits}
use Rattle.laws.specs.Numbers.{Given}
use Rattle.laws.specs.Settled.{Settles}
use Rattle.refusals.specs.Numbers.{number_in}
use Rattle.refusals.specs.declared.refusal.Refusal.{Refusal}
use Rattle.frames.specs.Read.{read_of}
use Rattle.records.specs.Map.{records_of, writable}
use Rattle.records.specs.Order.{ordered, order_number}
use Rattle.records.specs.Lookup.{beginner}
use Rattle.records.specs.Facts.{Member}
use Rattle.records.specs.declared.record.Record.{Record}
use Rattle.session.specs.Session.{messages_of, without_frames, session_tests, session_number, session_of, handed, session_word}
use Rattle.session.specs.Running.{AreBytes}
use Rattle.session.specs.declared.answer.Session.{Session}

-- ---- the numbers

-- 7, 8, 9, 14, 16 and 6 are given exactly if every test before passes and that one fails
abbrev pub SessionNumbers : Type 0
SessionNumbers =
    (map : List ℕ) (address bank location count n : ℕ) → 0 < n
    → (session_number map address bank location count ≡ n) ↔ Given (session_tests map address bank location count) n

-- a writable value of the map that begins at the bank and location, of so many bytes
pub record ValueThere (map : List ℕ) (bank location count : ℕ) (r : Record) : Type 0 where
  pub member : Member r map
  pub its_bank : r.bank ≡ bank
  pub its_first : r.first ≡ location
  pub may_write : writable r ≡ true
  pub its_width : r.width ≡ count

-- 0 is given exactly if 7, 8 and 9 hold, such a value is there, and the address is 0..63
abbrev pub SessionStands : Type 0
SessionStands =
    (map : List ℕ) (address bank location count : ℕ)
    → (session_number map address bank location count ≡ 0)
    ↔ ((ordered map ≡ true) × ((r : Record) × ValueThere map bank location count r) × (address ≤ 63))

-- a bank or location that does not fit a byte is not cut: 7, 8, 9, then 14
abbrev pub SessionNotCut : Type 0
SessionNotCut =
    (map : List ℕ) (address bank location count : ℕ) → (255 < bank) ⊎ (255 < location)
    → session_number map address bank location count ≡ (if eqb (order_number map) 0 then 14 else order_number map)

-- ---- the frames

-- whatever is handed in: 13 places, of which at most 13 are counted, and those that are not are 0
pub record Places (s : Session) : Type 0 where
  pub as_many : length s.frames ≡ 13
  pub most : s.count ≤ 13
  pub unused : drop s.count s.frames ≡ replicate (13 - s.count) 0

abbrev pub SessionPlaces : Type 0
SessionPlaces =
    (map : List ℕ) (address bank location : ℕ) (bytes : List ℕ) → Places (handed (session_of map address bank location bytes))

-- number 0: what is written reads back the same. The frames that are counted read as the session's messages, in their order
abbrev pub SessionReads : Type 0
SessionReads =
    (map : List ℕ) (address bank location : ℕ) (bytes : List ℕ) (r : Record) → AreBytes bytes
    → session_number map address bank location (length bytes) ≡ 0 → beginner (records_of map) bank location ≡ Some r
    → each read_of
    (take (handed (session_of map address bank location bytes)).count (handed (session_of map address bank location bytes)).frames)
    ≡ each Ok (messages_of address r bytes)

-- a refusal: its number, no frame
abbrev pub SessionRefuses : Type 0
SessionRefuses =
    (map : List ℕ) (address bank location : ℕ) (bytes : List ℕ) (n : ℕ) → 0 < n
    → ((number_in (session_of map address bank location bytes) ≡ n)
    × (handed (session_of map address bank location bytes) ≡ without_frames))
    ↔ (session_number map address bank location (length bytes) ≡ n)

-- ---- as one number

-- number | count << 8: each part stands in its bits
pub record SessionBack (w : ℕ) (r : Result Session Refusal) : Type 0 where
  pub number : bits w 7 0 ≡ number_in r
  pub count : bits w 31 8 ≡ (handed r).count

abbrev pub SessionShows : Type 0
SessionShows =
    (map : List ℕ) (address bank location : ℕ) (bytes : List ℕ) → session_number map address bank location (length bytes) ≡ 0
    → SessionBack (session_word (session_of map address bank location bytes)) (session_of map address bank location bytes)

-- a refusal is its number alone
abbrev pub SessionAlone : Type 0
SessionAlone =
    (map : List ℕ) (address bank location : ℕ) (bytes : List ℕ) → 0 < session_number map address bank location (length bytes)
    → session_word (session_of map address bank location bytes) ≡ session_number map address bank location (length bytes)

-- ---- what each public call promises of its result r, and of the lent array. Results that meet the same promise are equal, and
-- so are the arrays

abbrev pub SessionPromise : List ℕ → ℕ → ℕ → ℕ → List ℕ → Result Session Refusal → Type 0
SessionPromise map address bank location bytes r = r ≡ session_of map address bank location bytes

-- result and array are those of the session
pub record Written (r : ℕ) (frames : List ℕ) (s : Result Session Refusal) : Type 0 where
  pub answers : r ≡ session_word s
  pub writes : frames ≡ (handed s).frames

abbrev pub SessionWordPromise : List ℕ → ℕ → ℕ → ℕ → List ℕ → ℕ → List ℕ → Type 0
SessionWordPromise map address bank location bytes r frames =
    Written r frames (session_of map address bank location bytes)

abbrev pub SettlesWritten : (ℕ → List ℕ → Type 0) → Type 0
SettlesWritten promise = (r s : ℕ) (frames other : List ℕ) → promise r frames → promise s other → (r ≡ s) × (frames ≡ other)

abbrev pub SessionSettled : Type 0
SessionSettled =
    (map : List ℕ) (address bank location : ℕ) (bytes : List ℕ) → Settles (SessionPromise map address bank location bytes)

abbrev pub SessionWordSettled : Type 0
SessionWordSettled =
    (map : List ℕ) (address bank location : ℕ) (bytes : List ℕ)
    → SettlesWritten (SessionWordPromise map address bank location bytes)
