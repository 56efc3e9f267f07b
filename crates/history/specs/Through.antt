-- Which frames the grammar lets through. Paper 02, Item 6: "besides those eleven, only events, reserved frames and
-- commands not for this unit". Proved in proofs/Through.antt.
-- Assumes nothing.
use Rattle.std.specs.Prelude.{◌≡◌, ◌⊎◌, ◌↔◌, true, false, List, ℕ, Result, Ok, Err}
use Rattle.refusals.specs.declared.refusal.Refusal.{Refusal}
use Rattle.frames.specs.Read.{read_of}
use Rattle.frames.specs.declared.message.Message.{Message}
use Rattle.records.specs.declared.record.Record.{Record}
use Rattle.hearing.specs.Meaning.{is_for}
use Rattle.hearing.specs.Promises.{OneOfEleven}
use Rattle.hearing.specs.declared.heard.Who.{Who}
use Rattle.hearing.specs.declared.heard.Heard.{Heard}
use Rattle.unit.specs.Run.{Input, hears}
use Rattle.history.specs.Deeds.{keeping}
use Rattle.history.specs.Context.{context, deed_after}

-- an event, or a power cycle, which is one too
abbrev pub IsEvent : Result Message Refusal → Type 0
IsEvent (Ok (Message.Command address target opcode)) = ⊥
IsEvent (Ok (Message.Special number first second)) = ⊥
IsEvent (Ok (Message.Event scheme first second information)) = Unit {0}
IsEvent (Ok (Message.Power group short)) = Unit {0}
IsEvent (Err refusal) = ⊥

-- a reserved frame is refused by the reader (so is a number of 16,777,216 or more, which no step accepts)
abbrev pub IsReserved : Result Message Refusal → Type 0
IsReserved (Ok message) = ⊥
IsReserved (Err refusal) = Unit {0}

-- a command not for this unit: its address is another's; a special one is for every unit
abbrev pub ForOthers : Who → Result Message Refusal → Type 0
ForOthers who (Ok (Message.Command address target opcode)) = is_for who address ≡ false
ForOthers who (Ok (Message.Special number first second)) = ⊥
ForOthers who (Ok (Message.Event scheme first second information)) = ⊥
ForOthers who (Ok (Message.Power group short)) = ⊥
ForOthers who (Err refusal) = ⊥

-- one of the eleven, an event, a reserved frame, or a command not for this unit
abbrev pub LetThrough : Who → ℕ → Type 0
LetThrough who f = OneOfEleven who f ⊎ (IsEvent (read_of f) ⊎ (IsReserved (read_of f) ⊎ ForOthers who (read_of f)))

-- for every map, start and list: the next frame is let through exactly if it is one of these, by the address and groups
-- that the grammar works out
abbrev pub LetsThroughExactly : Type 0
LetsThroughExactly = (rs : List Record) (who : Who) (h : List Input) (x : Heard)
    → (keeping (deed_after rs who h (hears x)) ≡ true) ↔ LetThrough (context rs who h).who x.frame
