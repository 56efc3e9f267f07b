-- A frame step, a power-on, a start: what each leaves and answers. Paper 01, "State and clock" and "Commands obeyed".
-- Assumes nothing.
use Rattle.std.specs.Prelude.{ℕ, ◌+◌, Bool, ◌&&◌, List, Some, eqb, length, if◌then◌else◌}
use Rattle.laws.specs.Outcome.{Outcome, leaves}
use Rattle.refusals.specs.Numbers.{refusal_of}
use Rattle.records.specs.Map.{records_of}
use Rattle.records.specs.declared.record.Record.{Record}
use Rattle.memory.specs.Staged.{write_byte}
use Rattle.memory.specs.Latched.{read_byte}
use Rattle.memory.specs.Filled.{filled_of}
use Rattle.memory.specs.declared.staged.Wrote.{Wrote}
use Rattle.memory.specs.declared.latched.Shown.{Shown}
use Rattle.memory.specs.declared.filled.Filling.TheVariants.{PowerOn, Reset}
use Rattle.hearing.specs.Meaning.{meaning_of, closes}
use Rattle.hearing.specs.Pairs.{none_waits, waits_for}
use Rattle.hearing.specs.declared.heard.Who.{Who}
use Rattle.hearing.specs.declared.heard.Heard.{Heard}
use Rattle.rooms.specs.State.{with_who, with_registers, with_waiting, with_door, with_latch, shut_door, open_door}
use Rattle.rooms.specs.Reply.{answer_if, quiet, answering, refusing}
use Rattle.rooms.specs.State.{powered_on, zero_state}
use Rattle.rooms.specs.Due.{with_dtr, due_of}
use Rattle.rooms.specs.declared.state.State.{State}
use Rattle.rooms.specs.declared.reply.Stepped.{Stepped}
use Rattle.rooms.specs.declared.due.Due.{Due}
use Rattle.rooms.specs.declared.due.Due.TheVariants.{Nothing, Waits, Opens, Resets, Becomes, Loads, Answers}
use Rattle.rooms.specs.declared.due.Due.TheVariants.{Writes, Reads}
use Rattle.numbers.specs.Numbers.{step_number, power_number, start_number}

-- any frame clears the waiting one; what closes write-enable drops staging
unfoldable pub cleared : State → Bool → State
cleared s closing = with_waiting (if closing then with_door s shut_door else s) none_waits

-- afterwards DTR0 rises by one unless 0xFF
unfoldable pub raised : State → ℕ → State
raised s location =
    with_registers s (with_dtr s.registers 0 (if eqb location 0xFF then 0xFF else location + 1))

-- a taken byte answers itself, except in the no-reply form
unfoldable pub written : State → ℕ → ℕ → Bool → Outcome Wrote → Outcome Stepped
written s location byte replying o =
    leaves
    (answering (with_door (raised s location) (record { enabled = s.door.enabled; staged = o.answer.staged }))
    (answer_if (o.answer.taken && replying) byte))
    o.store

-- answer the byte, or none if the location is unmapped; DTR0 rises unless 0xFF
unfoldable pub read_by : State → ℕ → Shown → Stepped
read_by s location shown = answering (with_latch (raised s location) shown.latch) shown.answer

-- what is due is done
unfoldable pub done : List Record → List ℕ → List ℕ → State → Heard → Due → Outcome Stepped
done rs store image s heard Nothing = leaves (quiet s) store
done rs store image s heard Waits = leaves (quiet (with_waiting s (waits_for heard))) store
done rs store image s heard Opens = leaves (quiet (with_door s open_door)) store
done rs store image s heard (Resets dtr0) = leaves (quiet s) (filled_of rs store image (Reset dtr0))
done rs store image s heard (Becomes who) = leaves (quiet (with_who s who)) store
done rs store image s heard (Loads registers) = leaves (quiet (with_registers s registers)) store
done rs store image s heard (Answers byte) = leaves (answering s (Some byte)) store
done rs store image s heard (Writes bank location byte replying) =
    written s location byte replying (write_byte rs store s.door.staged bank location byte)
done rs store image s heard (Reads bank location) =
    leaves (read_by s location (read_byte rs store s.latch bank location)) store

-- a frame step on a map, store and state that keep the rules
unfoldable pub frame_step : List Record → List ℕ → List ℕ → State → Heard → Outcome Stepped
frame_step rs store image s heard =
    done rs store image (cleared s (closes (meaning_of s.who heard.frame))) heard (due_of rs s heard)

-- a power-on keeps address and groups: lock bytes 0xFF, other RAM-RW values from the reset image
unfoldable pub power_step : List Record → List ℕ → List ℕ → State → Outcome Stepped
power_step rs store image s = leaves (quiet (powered_on s)) (filled_of rs store image PowerOn)

-- a refusal returns the number; state and store stay
abbrev pub unless : ℕ → State → List ℕ → Outcome Stepped → Outcome Stepped
unless number s store outcome = if eqb number 0 then outcome else leaves (refusing s (refusal_of number)) store

unfoldable pub step_of : List ℕ → List ℕ → List ℕ → State → Heard → Outcome Stepped
step_of map store image s heard =
    unless (step_number map store (length image) s heard) s store (frame_step (records_of map) store image s heard)

unfoldable pub power_on_of : List ℕ → List ℕ → List ℕ → State → Outcome Stepped
power_on_of map store image s =
    unless (power_number map store (length image) s) s store (power_step (records_of map) store image s)

-- start takes address and groups and acts as a power-on; a refused start's state is all zeros
unfoldable pub start_of : List ℕ → List ℕ → List ℕ → Who → Outcome Stepped
start_of map store image who =
    unless (start_number map store (length image) who) zero_state store
    (power_step (records_of map) store image (with_who zero_state who))
