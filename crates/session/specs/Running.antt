-- Running a session: its frames 1 ms apart, no others on the wire, and a unit holding that address; what the unit's own steps
-- leave and answer. Paper 02, Item 2.
-- Assumes nothing.
use Rattle.std.specs.Prelude.{ℕ, ◌+◌, ◌%◌, ◌^◌, ◌≤◌, ◌<◌, ◌≡◌, ◌⊎◌, List, [], ◌∷◌, ◌++◌, eqb, length, get_or, if◌then◌else◌, Some, Result, Ok, Err}
use Rattle.laws.specs.Lists.{items}
use Rattle.refusals.specs.Numbers.{number_in}
use Rattle.records.specs.Map.{records_of, locations_end, places_end}
use Rattle.records.specs.Lookup.{holder, beginner}
use Rattle.records.specs.declared.record.Record.{Record}
use Rattle.records.specs.declared.holder.Why.{Why}
use Rattle.banks.specs.Values.{value_of, put_value, lock_byte}
use Rattle.hearing.specs.Pairs.{heard_at, passed, none_waits}
use Rattle.rooms.specs.State.{with_registers, with_waiting, with_door, open_door}
use Rattle.rooms.specs.declared.state.State.{State}
use Rattle.numbers.specs.Numbers.{power_number}
use Rattle.unit.specs.Run.{Input, hears, run_from}
use Rattle.unit.specs.Keeping.{AllAccepted}
use Rattle.unit.specs.Bench.{none, answer}
use Rattle.session.specs.Session.{session_of, handed}
use Rattle.session.specs.declared.answer.Session.{Session}

-- ---- what is heard

-- the frames that are counted, frame i at clock i
unfoldable pub heard_of : (ℕ → ℕ) → Session → List Input
heard_of clocks session = items (λ i. hears (heard_at (clocks i) (get_or session.frames i 0))) 0 session.count

-- 1 ms apart, from a first clock on: clock + i, modulo 4,294,967,296
abbrev pub clock_at : ℕ → ℕ → ℕ
clock_at clock i = (clock + i) % 2 ^ 32

-- ---- what is left

-- a lock byte, put where one is
unfoldable pub put_lock : Result Record Why → ℕ → List ℕ → List ℕ
put_lock (Ok lock) byte store = put_value lock (byte ∷ []) store
put_lock (Err why) byte store = store

-- the store with the value as given and, for a lockable value, its bank's lock byte 0xFF
unfoldable pub store_left : List Record → Record → List ℕ → List ℕ → List ℕ
store_left rs r bytes store =
    if eqb r.lockable 0 then put_value r bytes store
    else put_lock (holder rs r.bank 0x02) 0xFF (put_value r bytes store)

-- the same in half-sentences, by the bytes of the store
pub record StoreLeft (map store : List ℕ) (r : Record) (bytes after : List ℕ) : Type 0 where
  -- the value as given
  pub value : value_of r after ≡ bytes
  -- the lock byte of a lockable value 0xFF
  pub lock : r.lockable ≡ 1 → lock_byte (records_of map) after r.bank ≡ 0xFF
  -- and every other store byte as it was, be it under a record or under none
  pub others :
      (j : ℕ) → (j < r.offset) ⊎ (places_end r ≤ j)
      → (r.lockable ≡ 1 → (lock : Record) → holder (records_of map) r.bank 0x02 ≡ Ok lock → j ≡ lock.offset → ⊥)
      → get_or after j 0 ≡ get_or store j 0
  pub as_long : length after ≡ length store

-- the state: DTR1 is the bank, and DTR0 has risen from the last write; nothing waits; write-enable stays open, with nothing
-- staged. Address, groups, DTR2 and what is latched are as they were
unfoldable pub state_left : Record → State → State
state_left r s =
    with_door
    (with_waiting
    (with_registers s
    (record {
      dtr0 = if eqb r.lockable 0 then locations_end r else 0x03;
      dtr1 = r.bank;
      dtr2 = s.registers.dtr2;
    }))
    none_waits)
    open_door

-- ---- what is answered

-- each write is answered by its own byte
abbrev pub byte_answers : List ℕ → List ℕ
byte_answers [] = []
byte_answers (b ∷ bs) = answer b ++ byte_answers bs

unfoldable pub lock_answers : Record → ℕ → List ℕ
lock_answers r byte = if eqb r.lockable 0 then [] else answer byte

-- as the trace program writes it, four bytes for each frame; DTR1 and the ENABLE pair have no answer
unfoldable pub answers_of : Record → List ℕ → List ℕ
answers_of r bytes = none ++ none ++ none ++ lock_answers r 0x55 ++ byte_answers bytes ++ lock_answers r 0xFF

-- ---- the theorem

-- what running the frames from a state comes to, for the value r
pub record Runs (map store image : List ℕ) (s : State) (clocks : ℕ → ℕ) (session : Session) (r : Record) (bytes : List ℕ)
    : Type 0 where
  -- each step is accepted
  pub accepted : AllAccepted map image store s (heard_of clocks session)
  -- exactly the old store with the value's bytes put and, for a lockable value, the lock byte 0xFF
  pub store_is : (run_from map image store s (heard_of clocks session)).store ≡ store_left (records_of map) r bytes store
  pub store_left_lem : StoreLeft map store r bytes (run_from map image store s (heard_of clocks session)).store
  pub state_is : (run_from map image store s (heard_of clocks session)).state ≡ state_left r s
  pub answers : (run_from map image store s (heard_of clocks session)).output ≡ answers_of r bytes

-- bytes are below 256
abbrev pub AreBytes : List ℕ → Type 0
AreBytes bytes = (i : ℕ) → get_or bytes i 0 < 256

-- a session of number 0 is run from any accepted state whose address is the one given: the value that begins there is written
pub record RunsFrom (map store image : List ℕ) (s : State) (address bank location : ℕ) (bytes : List ℕ) (clocks : ℕ → ℕ)
    : Type 0 where
  pub r : Record
  pub begins : beginner (records_of map) bank location ≡ Some r
  pub runs : Runs map store image s clocks (handed (session_of map address bank location bytes)) r bytes

-- frames 1 ms apart, from any clock on
abbrev pub SessionRuns : Type 0
SessionRuns =
    (map store image : List ℕ) (s : State) (address bank location : ℕ) (bytes : List ℕ)
    → power_number map store (length image) s ≡ 0 → s.who.address ≡ address → AreBytes bytes
    → number_in (session_of map address bank location bytes) ≡ 0
    → (clock : ℕ) → RunsFrom map store image s address bank location bytes (clock_at clock)

-- and at any other pace: of all clocks only those of the two ENABLE count, frames 1 and 2, which have to be a pair
abbrev pub SessionRunsAtAnyPace : Type 0
SessionRunsAtAnyPace =
    (map store image : List ℕ) (s : State) (address bank location : ℕ) (bytes : List ℕ)
    → power_number map store (length image) s ≡ 0 → s.who.address ≡ address → AreBytes bytes
    → number_in (session_of map address bank location bytes) ≡ 0
    → (clocks : ℕ → ℕ) → passed (clocks 1) (clocks 2) ≤ 100 → RunsFrom map store image s address bank location bytes clocks
