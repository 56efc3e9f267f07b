-- A session: the frames that write a value. Paper 02, Item 2; the numbers 7 to 9, 14 and 6 are those of paper 01.
-- Assumes nothing.
use Rattle.std.specs.Prelude.{ℕ, ◌+◌, ◌-◌, ◌*◌, ◌^◌, Bool, true, false, ◌&&◌, List, [], ◌∷◌, ◌++◌, map as each, leb, eqb, length, set, replicate, if◌then◌else◌, Option, Some, None, Result, Ok, Err}
use Rattle.laws.specs.Numbers.{Test, test, first_failing}
use Rattle.refusals.specs.Numbers.{number_in, refusal_of}
use Rattle.refusals.specs.declared.refusal.Refusal.{Refusal}
use Rattle.refusals.specs.declared.refusal.Refusal.TheVariants.{NoValue}
use Rattle.frames.specs.Write.{write_of}
use Rattle.frames.specs.declared.message.Address.{Address}
use Rattle.frames.specs.declared.message.Message.{Message}
use Rattle.frames.specs.declared.message.Target.{Target}
use Rattle.records.specs.Map.{records_of, writable}
use Rattle.records.specs.Order.{order_tests}
use Rattle.records.specs.Lookup.{beginner}
use Rattle.records.specs.declared.record.Record.{Record}
use Rattle.session.specs.declared.answer.Session.{Session}

-- ---- the messages

-- DTR1 first, which clears any waiting frame
abbrev pub set_bank : ℕ → Message
set_bank bank = Message.Special 0 0x31 bank

-- ENABLE WRITE MEMORY to the unit's short address
abbrev pub enable_write : ℕ → Message
enable_write address = Message.Command (Address.Short address) Target.Device 0x15

-- DIRECT WRITE MEMORY (offset, data)
abbrev pub direct_write : ℕ → ℕ → Message
direct_write offset byte = Message.Special 2 offset byte

-- the bytes in order
abbrev pub byte_writes : ℕ → List ℕ → List Message
byte_writes location [] = []
byte_writes location (b ∷ bs) = direct_write location b ∷ byte_writes (location + 1) bs

-- for a lockable value a write of its bank's lock byte; whether it is one goes by the record's lockable byte alone
unfoldable pub lock_writes : Record → ℕ → List Message
lock_writes r byte = if eqb r.lockable 0 then [] else direct_write 0x02 byte ∷ []

-- DTR1 first; the ENABLE pair
abbrev pub opening : ℕ → ℕ → List Message
opening address bank = set_bank bank ∷ enable_write address ∷ enable_write address ∷ []

-- the bytes in order; and for a lockable value lock byte 0x55 before them and 0xFF after
unfoldable pub messages_of : ℕ → Record → List ℕ → List Message
messages_of address r bytes =
    opening address r.bank ++ lock_writes r 0x55 ++ byte_writes r.first bytes ++ lock_writes r 0xFF

-- ---- the frames

-- the frame that a message is written as; 0 where it cannot be, which no message of a session is
abbrev pub frame_in : Result ℕ Refusal → ℕ
frame_in (Ok frame) = frame
frame_in (Err refusal) = 0

unfoldable pub framed : Message → ℕ
framed m = frame_in (write_of m)

-- no frame: all 13 places are 0
abbrev pub without_frames : Session
without_frames = record { count = 0; frames = replicate 13 0 }

-- a frame for each message; unused places are 0
unfoldable pub session_with : List Message → Session
session_with ms =
    record { count = length ms; frames = each framed ms ++ replicate (13 - length ms) 0 }

-- ---- the tests

-- 14 where no value begins
abbrev pub begins : Option Record → Bool
begins (Some r) = true
begins None = false

-- 16 if it isn't writable
abbrev pub may_write : Option Record → Bool
may_write (Some r) = writable r
may_write None = false

-- 6 for a wrong byte count or an address over 63
abbrev pub fits : Option Record → ℕ → ℕ → Bool
fits (Some r) address count = eqb count r.width && leb address 63
fits None address count = false

abbrev pub value_tests : Option Record → ℕ → ℕ → List Test
value_tests value address count =
    test 14 (begins value) ∷ test 16 (may_write value) ∷ test 6 (fits value address count) ∷ []

-- tested in order: 7, 8, 9, then 14, 16, 6. No store is asked for, so 10 and 11 are not tested
abbrev pub session_tests : List ℕ → ℕ → ℕ → ℕ → ℕ → List Test
session_tests map address bank location count =
    order_tests map ++ value_tests (beginner (records_of map) bank location) address count

unfoldable pub session_number : List ℕ → ℕ → ℕ → ℕ → ℕ → ℕ
session_number map address bank location count = first_failing (session_tests map address bank location count)

-- ---- the call

-- the session of a value that begins where it is asked for; where none does, it is refused (above)
unfoldable pub session_at : Option Record → ℕ → List ℕ → Result Session Refusal
session_at (Some r) address bytes = Ok (session_with (messages_of address r bytes))
session_at None address bytes = Err NoValue

-- from a map, a unit's short address, a bank, a value's first location and its bytes: the frames
unfoldable pub session_of : List ℕ → ℕ → ℕ → ℕ → List ℕ → Result Session Refusal
session_of map address bank location bytes =
    if eqb (session_number map address bank location (length bytes)) 0
    then session_at (beginner (records_of map) bank location) address bytes
    else Err (refusal_of (session_number map address bank location (length bytes)))

-- what is handed out: the session, and of a refusal no frame
abbrev pub handed : Result Session Refusal → Session
handed (Ok s) = s
handed (Err e) = without_frames

-- as one number: number | count << 8
unfoldable pub session_word : Result Session Refusal → ℕ
session_word r = number_in r + (handed r).count * 2 ^ 8

-- ---- inside the call: a session as it grows

-- one frame more
unfoldable pub sent : Session → ℕ → Session
sent s frame = record { count = s.count + 1; frames = set s.frames s.count frame }

-- a frame for each message
abbrev pub sent_all : Session → List Message → Session
sent_all s [] = s
sent_all s (m ∷ ms) = sent_all (sent s (framed m)) ms

-- of a value, where 7 to 9 and 14 have passed: 16, 6, then the frames
unfoldable pub value_number : ℕ → Record → ℕ → ℕ
value_number address r count = first_failing (value_tests (Some r) address count)

unfoldable pub value_session : ℕ → Record → List ℕ → Result Session Refusal
value_session address r bytes =
    if eqb (value_number address r (length bytes)) 0 then Ok (session_with (messages_of address r bytes))
    else Err (refusal_of (value_number address r (length bytes)))
