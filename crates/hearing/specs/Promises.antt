-- What is proved about the definitions. The proofs stand in proofs/, under the same names.
-- Assumes nothing.
use Rattle.std.specs.Prelude.{◌≡◌, ℕ, ◌/◌, ◌%◌, ◌^◌, true, false, ◌⊎◌, ◌↔◌, List, [], ◌∷◌, ◌++◌, ◌≢◌, if◌then◌else◌, Result, Ok, Err}
use mathlib.Core.List.{Memᴰ}
use Rattle.laws.specs.Bits.{bits, bit}
use Rattle.refusals.specs.declared.refusal.Refusal.{Refusal}
use Rattle.frames.specs.Read.{read_of}
use Rattle.frames.specs.declared.message.Address.{Address}
use Rattle.frames.specs.declared.message.Message.{Message}
use Rattle.hearing.specs.Codes.{Code, none, device, special, listed_with, eleven_with, code_of, StandsIn}
use Rattle.hearing.specs.Meaning.{Row, is_for, device_rows, first_rows, other_rows, meaning_of, closes}
use Rattle.hearing.specs.Pairs.{heard_at, passed, completes, none_waits, waits_for}
use Rattle.hearing.specs.declared.heard.Heard.{Heard}
use Rattle.hearing.specs.declared.heard.Who.{Who}
use Rattle.hearing.specs.declared.meaning.Meaning.{Meaning}

-- a command is for the unit exactly if its short address or group matches, if broadcast,
-- if broadcast unaddressed while its address is 255
pub record ForTheUnit (who : Who) : Type 0 where
  pub short : (a : ℕ) → is_for who (Address.Short a) ≡ true ↔ who.address ≡ a
  pub group : (g : ℕ) → is_for who (Address.Group g) ≡ true ↔ who.groups / 2 ^ g % 2 ≡ 1
  pub unaddressed : is_for who Address.Unaddressed ≡ true ↔ who.address ≡ 255
  pub broadcast : is_for who Address.Broadcast ≡ true

-- the bytes of every frame that means a listed command are those of paper 01
abbrev pub CodeStands : Type 0
CodeStands = (who : Who) (f : ℕ) → StandsIn (code_of (meaning_of who f)) f

-- a frame that is read as a command whose address means the unit
abbrev pub ToUnit : Who → Result Message Refusal → Type 0
ToUnit who (Ok (Message.Command address target opcode)) = is_for who address ≡ true
ToUnit who (Ok (Message.Special number first second)) = ⊥
ToUnit who (Ok (Message.Event scheme first second information)) = ⊥
ToUnit who (Ok (Message.Power group short)) = ⊥
ToUnit who (Err refusal) = ⊥

-- or as a special one
abbrev pub IsSpecial : Result Message Refusal → Type 0
IsSpecial (Ok (Message.Command address target opcode)) = ⊥
IsSpecial (Ok (Message.Special number first second)) = Unit {0}
IsSpecial (Ok (Message.Event scheme first second information)) = ⊥
IsSpecial (Ok (Message.Power group short)) = ⊥
IsSpecial (Err refusal) = ⊥

-- the frame is a command for the unit, and the code's bytes stand in it; a special command has no instance byte
abbrev pub Asks : Who → ℕ → Code → Type 0
Asks who f none = ⊥
Asks who f (device opcode) = ToUnit who (read_of f) × StandsIn (device opcode) f
Asks who f (special address first second) = IsSpecial (read_of f) × StandsIn (special address first second) f

-- the four answers, each exactly if
pub record MeansExactly (who : Who) (f : ℕ) : Type 0 where
  -- a listed command: a frame for the unit with that command's bytes
  pub listed : (m : Meaning) → Memᴰ m (listed_with (bits f 15 8) (bits f 7 0))
      → (meaning_of who f ≡ m) ↔ Asks who f (code_of m)
  -- not obeyed: a command for the unit with no listed command's bytes
  pub not_obeyed : (meaning_of who f ≡ Meaning.NotObeyed) ↔ ((ToUnit who (read_of f) ⊎ IsSpecial (read_of f))
      × ((m : Meaning) → Memᴰ m (listed_with (bits f 15 8) (bits f 7 0)) → Asks who f (code_of m) → ⊥))
  -- foreign: no command for the unit
  pub foreign : (meaning_of who f ≡ Meaning.Foreign) ↔ (ToUnit who (read_of f) ⊎ IsSpecial (read_of f) → ⊥)

abbrev pub ListedExactly : Type 0
ListedExactly = (who : Who) (f : ℕ) → MeansExactly who f

-- an event and a reserved frame are foreign for every unit
abbrev pub EventForeign : Type 0
EventForeign = (who : Who) (f : ℕ) → bit f 16 ≡ 0 → meaning_of who f ≡ Meaning.Foreign

abbrev pub ReservedForeign : Type 0
ReservedForeign = (who : Who) (f : ℕ) (refusal : Refusal) → read_of f ≡ Err refusal → meaning_of who f ≡ Meaning.Foreign

-- a special frame is for every unit: what it means does not depend on who hears it
abbrev pub SpecialForAll : Type 0
SpecialForAll =
    (who other : Who) (f number first second : ℕ) → read_of f ≡ Ok (Message.Special number first second) →
    meaning_of who f ≡ meaning_of other f

-- the codes of those rows that keep write-enable
abbrev pub keepers : List Row → List Code
keepers [] = []
keepers (r ∷ rs) = if closes r.means then keepers rs else code_of r.means ∷ keepers rs

-- write-enable keeps through the three writes, the five DTR commands and QUERY CONTENT DTR0..2, and through no other
abbrev pub ElevenKeep : Type 0
ElevenKeep =
    (first second : ℕ) →
    keepers (device_rows ++ first_rows second ++ other_rows first second) ≡ eleven_with first second

-- a command for the unit, or a special one
abbrev pub CommandFor : Who → ℕ → Type 0
CommandFor who f = ToUnit who (read_of f) ⊎ IsSpecial (read_of f)

-- one of the eleven: for the unit, and with that command's bytes
abbrev pub OneOfEleven : Who → ℕ → Type 0
OneOfEleven who f = (c : Code) × Memᴰ c (eleven_with (bits f 15 8) (bits f 7 0)) × Asks who f c

-- every command for the unit closes write-enable, except the eleven that keep it: any device, instance or feature
-- command, and any special one; reserved bytes still don't. Both answers, each exactly if
pub record ClosesExactly (who : Who) (f : ℕ) : Type 0 where
  pub closing : (closes (meaning_of who f) ≡ true) ↔ (CommandFor who f × (OneOfEleven who f → ⊥))
  pub keeping : (closes (meaning_of who f) ≡ false) ↔ (OneOfEleven who f ⊎ (CommandFor who f → ⊥))

-- the bench sheet's clocks: 0 and 100 a pair, 101 none; 4,294,967,250 then 50: difference 96, a pair
pub record PairClocks (frame : ℕ) : Type 0 where
  pub in_time_lem : completes (waits_for (heard_at 0 frame)) (heard_at 100 frame) ≡ true
  pub too_late : completes (waits_for (heard_at 0 frame)) (heard_at 101 frame) ≡ false
  pub difference : passed 4294967250 50 ≡ 96
  pub run_over : completes (waits_for (heard_at 4294967250 frame)) (heard_at 50 frame) ≡ true

-- where none waits, none is completed; and by another frame neither
pub record NoPair (heard : Heard) : Type 0 where
  pub none : completes none_waits heard ≡ false
  pub other : (first : Heard) → (first.frame ≢ heard.frame) → completes (waits_for first) heard ≡ false
