-- The bench sheet's frames, P1 to P10, as one table, and the statement about it. It is proved in proofs/Bench.antt.
-- Assumes nothing.
use Rattle.std.specs.Prelude.{◌≡◌, List, [], ◌∷◌, ℕ, ◌+◌, ◌^◌, Some, None, Ok, Err}
use Rattle.refusals.specs.declared.refusal.Refusal.{Refusal}
use Rattle.refusals.specs.declared.refusal.Refusal.TheVariants.{BlankNotZero}
use Rattle.frames.specs.Read.{read_of}
use Rattle.frames.specs.Write.{write_of}
use Rattle.frames.specs.declared.message.Address.{Address}
use Rattle.frames.specs.declared.message.Message.{Message}
use Rattle.frames.specs.declared.message.Scheme.{Scheme}
use Rattle.frames.specs.declared.message.Target.{Target}
use Rattle.composing.specs.Compose.{compose_of, compose_power_of}
use Rattle.composing.specs.declared.source.Source.{Source}

-- a line of the sheet
pub data Case : Type 0 where
  command : ℕ → Message → Case  -- the frame of a command, read and written
  event : Source → ℕ → Message → Case  -- an event is composed as the frame, which is read as the message
  power : ℕ → ℕ → ℕ → Message → Case  -- the same of a power event, from a short address and group bits
  refused : ℕ → Refusal → Case  -- the frame is refused so

abbrev pub CaseHolds : Case → Type 0
CaseHolds (command f m) = (read_of f ≡ Ok m) × (write_of m ≡ Ok f)
CaseHolds (event e f m) = (compose_of e ≡ Ok f) × (read_of f ≡ Ok m)
CaseHolds (power s g f m) = (compose_power_of s g ≡ Ok f) × (read_of f ≡ Ok m)
CaseHolds (refused f e) = read_of f ≡ Err e

abbrev pub AllHold : List Case → Type 0
AllHold [] = Unit {0}
AllHold (c ∷ cs) = CaseHolds c × AllHold cs

-- scheme, type, number, primary group, short address, group bits, information
abbrev pub from : ℕ → ℕ → ℕ → ℕ → ℕ → ℕ → ℕ → Source
from scheme sort number primary short groups information =
    record {
      sort = sort;
      number = number;
      primary = primary;
      short = short;
      groups = groups;
      information = information;
      scheme = scheme;
    }

abbrev pub sheet : List Case
sheet =
    command 0x0BFE15 (Message.Command (Address.Short 5) Target.Device 0x15)  -- P1
    ∷ command 0xFFFE3C (Message.Command Address.Broadcast Target.Device 0x3C)  -- P2
    ∷ event (from 0 1 2 255 255 0 5) 0x828805 (Message.Event Scheme.TypeNumber 1 2 5)  -- P3
    ∷ event (from 1 3 0 255 5 0 0x155) 0x0A0D55 (Message.Event Scheme.ShortType 5 3 0x155)  -- P4
    ∷ event (from 2 0 31 255 63 0 1023) 0x7EFFFF (Message.Event Scheme.ShortNumber 63 31 1023)  -- P5
    ∷ event (from 3 4 0 255 255 (2 ^ 7 + 2 ^ 9) 0) 0x8E1000 (Message.Event Scheme.GroupType 7 4 0)  -- P6
    ∷ event (from 4 0 5 31 255 0 1) 0xFE0001 (Message.Event Scheme.PrimaryType 31 0 1)  -- P7
    ∷ power 5 (2 ^ 3) 0xFEF1C5 (Message.Power (Some 3) (Some 5))  -- P8
    ∷ power 255 0 0xFEE000 (Message.Power None None)  -- P9
    ∷ refused 0xFEE001 BlankNotZero  -- P10
    ∷ []

abbrev pub SheetHolds : Type 0
SheetHolds = AllHold sheet
