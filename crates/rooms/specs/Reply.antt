-- What a call hands back: a refusal, or the answer if there is one; and the state. Paper 01, "Refusal numbers".
-- Assumes nothing.
use Rattle.std.specs.Prelude.{ℕ, Bool, true, false, Option, Some, None, Result, Ok, Err, if◌then◌else◌}
use Rattle.refusals.specs.declared.refusal.Refusal.{Refusal}
use Rattle.rooms.specs.declared.state.State.{State}
use Rattle.rooms.specs.declared.reply.Stepped.{Stepped}

-- a reply
abbrev pub Reply : Type 0
Reply = Result (Option ℕ) Refusal

-- whether it holds an answer
abbrev pub answered : Reply → Bool
answered (Ok (Some byte)) = true
answered (Ok None) = false
answered (Err refusal) = false

-- and which: 0, where it holds none
abbrev pub answer_byte : Reply → ℕ
answer_byte (Ok (Some byte)) = byte
answer_byte (Ok None) = 0
answer_byte (Err refusal) = 0

-- a byte is answered, or not
abbrev pub answer_if : Bool → ℕ → Option ℕ
answer_if answers byte = if answers then Some byte else None

-- accepted, and no answer
unfoldable pub quiet : State → Stepped
quiet s = record { reply = Ok None; state = s }

-- accepted; answered or not
unfoldable pub answering : State → Option ℕ → Stepped
answering s answer = record { reply = Ok answer; state = s }

-- refused, with the state that was handed in
unfoldable pub refusing : State → Refusal → Stepped
refusing s refusal = record { reply = Err refusal; state = s }
