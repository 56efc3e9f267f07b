-- Worked cases on a map with banks 1 and 2: RESET MEMORY BANK by DTR0 and lock bytes, and what READ answers and leaves
-- latched. Two tables and two statements. Paper 01, "Commands obeyed". Proved in proofs/Cases.antt.
-- Assumes nothing.
use Rattle.std.specs.Prelude.{◌≡◌, true, false, Some, None, List, [], ◌∷◌, ◌++◌, map, ℕ, replicate}
use Rattle.records.specs.Map.{records_of}
use Rattle.records.specs.Cases.{map_row}
use Rattle.memory.specs.Latched.{read_byte}
use Rattle.memory.specs.Filled.{filled_of}
use Rattle.memory.specs.declared.latched.Latch.{Latch}
use Rattle.memory.specs.declared.latched.Shown.{Shown}
use Rattle.memory.specs.declared.filled.Filling.TheVariants.{Reset}

-- each bank has the byte at 0x00, the lock byte, and a value of two bytes at 0x03: in bank 1 NVM-RW and lockable, in
-- bank 2 RAM-RW and not lockable
abbrev pub two_banks : List ℕ
two_banks =
    map_row 1 0x00 1 0 0 0 0 0 ++ map_row 1 0x02 1 2 0 0 0 1 ++ map_row 1 0x03 2 4 1 0 0 2
    ++ map_row 2 0x00 1 0 0 0 0 4 ++ map_row 2 0x02 1 2 0 0 0 5 ++ map_row 2 0x03 2 2 0 0 0 6

-- lock byte and value of bank 1, then of bank 2, and a byte under no record
abbrev pub two_store : ℕ → ℕ → ℕ → ℕ → ℕ → ℕ → List ℕ
two_store lock₁ a b lock₂ c d = 0x04 ∷ lock₁ ∷ a ∷ b ∷ 0x04 ∷ lock₂ ∷ c ∷ d ∷ 0x77 ∷ []

abbrev pub two_image : List ℕ
two_image = 0x00 ∷ 0x00 ∷ 0x31 ∷ 0x32 ∷ 0x00 ∷ 0x00 ∷ 0x41 ∷ 0x42 ∷ 0x00 ∷ []

-- ---- RESET MEMORY BANK

-- the lock bytes before it, DTR0, and the store after it
pub record ResetCase : Type 0 where
  pub lock₁ : ℕ
  pub lock₂ : ℕ
  pub dtr0 : ℕ
  pub after : List ℕ

abbrev resets : ℕ → ℕ → ℕ → List ℕ → ResetCase
resets lock₁ lock₂ dtr0 after = record { lock₁ = lock₁; lock₂ = lock₂; dtr0 = dtr0; after = after }

abbrev pub reset_cases : List ResetCase
reset_cases =
    -- DTR0 0: both; DTR0 1 or 2: that bank and no other; DTR0 3: none
    resets 0x55 0x55 0 (two_store 0xFF 0x31 0x32 0xFF 0x41 0x42)
    ∷ resets 0x55 0x55 1 (two_store 0xFF 0x31 0x32 0x55 0x21 0x22)
    ∷ resets 0x55 0x55 2 (two_store 0x55 0x11 0x12 0xFF 0x41 0x42)
    ∷ resets 0x55 0x55 3 (two_store 0x55 0x11 0x12 0x55 0x21 0x22)
    -- a locked bank stays
    ∷ resets 0xFF 0x55 0 (two_store 0xFF 0x11 0x12 0xFF 0x41 0x42)
    ∷ resets 0x55 0x54 0 (two_store 0xFF 0x31 0x32 0x54 0x21 0x22)
    ∷ resets 0xFF 0x55 1 (two_store 0xFF 0x11 0x12 0x55 0x21 0x22)
    ∷ resets 0x55 0x56 2 (two_store 0x55 0x11 0x12 0x56 0x21 0x22)
    ∷ []

abbrev reset_of : ResetCase → List ℕ
reset_of c =
    filled_of (records_of two_banks) (two_store c.lock₁ 0x11 0x12 c.lock₂ 0x21 0x22) two_image (Reset c.dtr0)

-- each case leaves its store
unfoldable pub ResetCases : Type 0
ResetCases = map reset_of reset_cases ≡ map (λ c. c.after) reset_cases

-- ---- READ

-- what is latched before it, bank and location, what is latched after it and what it answers
pub record ReadCase : Type 0 where
  pub before : Latch
  pub bank : ℕ
  pub location : ℕ
  pub shows : Shown

abbrev reads : Latch → ℕ → ℕ → Latch → ℕ → ReadCase
reads before bank location after byte =
    record {
      before = before;
      bank = bank;
      location = location;
      shows = record { latch = after; answer = Some byte };
    }

abbrev none : Latch
none = record { held = false; bank = 0; first = 0; bytes = replicate 8 0 }

-- a value at 0x03 is latched
abbrev value : ℕ → ℕ → ℕ → Latch
value bank a b = record { held = true; bank = bank; first = 0x03; bytes = a ∷ b ∷ replicate 6 0 }

-- that of bank 1, with other bytes than the store has by now
abbrev old : Latch
old = value 1 0x51 0x52

abbrev pub read_cases : List ReadCase
read_cases =
    -- a later byte is answered from the latch, and one of another bank's value is not; the latch stays
    reads old 1 0x04 old 0x52
    ∷ reads old 2 0x04 old 0x22
    ∷ reads none 1 0x04 none 0x12
    -- reading a single byte ends the latch, be it of this bank or of another
    ∷ reads old 1 0x02 none 0xFF
    ∷ reads old 2 0x00 none 0x04
    -- and so does a first byte, which latches its own value
    ∷ reads old 1 0x03 (value 1 0x11 0x12) 0x11
    ∷ reads old 2 0x03 (value 2 0x21 0x22) 0x21
    ∷ reads none 2 0x03 (value 2 0x21 0x22) 0x21
    -- no answer at an unmapped location, and the latch stays
    ∷ record { before = old; bank = 1; location = 0x05; shows = record { latch = old; answer = None } }
    ∷ []

abbrev read_case : ReadCase → Shown
read_case c =
    read_byte (records_of two_banks) (two_store 0xFF 0x11 0x12 0xFF 0x21 0x22) c.before c.bank c.location

-- each READ leaves its latch and gives its answer
unfoldable pub ReadCases : Type 0
ReadCases = map read_case read_cases ≡ map (λ c. c.shows) read_cases
