-- A foreign frame changes nothing but the waiting frame, and an event or a reserved frame breaks a pair.
-- Assumes nothing.
use Prim.Native.Nat.{ℕ}
use mathlib.Core.Path.{◌≡◌, refl, sym, ap, ◌∙◌}
use mathlib.Core.Bool.{true, false, ◌&&◌}
use mathlib.Core.List.{List}
use borrow.Author.Tests.{eqb-true}
use lib.Dec.{eqb}
use Rattle.std.specs.Prelude.{Result, Ok, Err}
use Rattle.laws.specs.Outcome.{Outcome, leaves}
use Rattle.laws.proofs.Tests.{both, clash}
use Rattle.refusals.specs.declared.refusal.Refusal.{Refusal}
use Rattle.frames.specs.Read.{read_of}
use Rattle.frames.specs.declared.message.Message.{Message}
use Rattle.records.specs.Map.{records_of}
use Rattle.records.specs.declared.record.Record.{Record}
use Rattle.hearing.specs.Meaning.{meaning_of, reading_meaning}
use Rattle.hearing.specs.Pairs.{none_waits, waits_for, completes}
use Rattle.hearing.specs.declared.heard.Who.{Who}
use Rattle.hearing.specs.declared.heard.Heard.{Heard}
use Rattle.hearing.specs.declared.meaning.Meaning.TheVariants.{Foreign}
use Rattle.rooms.specs.State.{with_waiting, with_door, shut_door}
use Rattle.rooms.specs.Rules.{address_holds, waiting_holds, state_holds}
use Rattle.rooms.specs.Due.{due_by, due_of}
use Rattle.rooms.specs.Reply.{quiet}
use Rattle.rooms.specs.declared.state.State.{State}
use Rattle.rooms.specs.declared.reply.Stepped.{Stepped}
use Rattle.rooms.specs.declared.due.Due.TheVariants.{Waits}
use Rattle.rooms.proofs.Dues.{pair_closes, pair_waits, waits_pair}
use Rattle.unit.specs.Step.{cleared, done, frame_step, step_of}
use Rattle.unit.specs.Promises.{number_of}
use Rattle.unit.specs.Leaving.{ForeignPassesBy, no_command, next, Interrupted, EventBreaksPair}
use Rattle.unit.proofs.Numbers.{calls_accepted, calls_reply}

-- where none waits, what is not in use is zero
pub none_waiting : (s : State) → waiting_holds s ≡ true → s.waiting.held ≡ false → s.waiting ≡ none_waits
unfolding waiting_holds
none_waiting s h n =
    let zeros : (eqb s.waiting.frame 0 && eqb s.waiting.clock 0) ≡ true = rw n at h in
    let z = both (eqb s.waiting.frame 0) (eqb s.waiting.clock 0) zeros in
    let frame = eqb-true s.waiting.frame 0 z.0 in
    let clock = eqb-true s.waiting.clock 0 z.1 in
    λ i. record { held = n i; frame = frame i; clock = clock i }

waiting_holds_lem : (rs : List Record) (store : List ℕ) (s : State) → state_holds rs store s ≡ true → waiting_holds s ≡ true
unfolding state_holds
waiting_holds_lem rs store s h = (both (waiting_holds s) _ (both (address_holds s.who.address) _ h).1).0

pub foreign_passes_by : ForeignPassesBy
unfolding frame_step due_of due_by done cleared with_waiting
foreign_passes_by rs store image s heard e =
    record {
      clears = rw e;
      changes_nothing = λ h n. rw e (rw (← none_waiting s (waiting_holds_lem rs store s h) n));
    }

-- an event or a reserved frame is foreign to every unit
pub no_command_foreign : (who : Who) (r : Result Message Refusal) → no_command r ≡ true → reading_meaning who r ≡ Foreign
no_command_foreign who (Ok (Message.Command address target opcode)) e = clash false e refl
no_command_foreign who (Ok (Message.Special number first second)) e = clash false e refl
no_command_foreign who (Ok (Message.Event scheme high low information)) e = refl
no_command_foreign who (Ok (Message.Power group short)) e = refl
no_command_foreign who (Err refusal) e = refl

-- a first half shuts the door and waits; nothing else changes
pub first_half : (rs : List Record) (store image : List ℕ) (s : State) (heard : Heard) → due_of rs s heard ≡ Waits
    → frame_step rs store image s heard ≡ leaves (quiet (with_waiting (with_door s shut_door) (waits_for heard))) store
unfolding frame_step due_of done cleared with_waiting
first_half rs store image s heard e =
    rw (e, pair_closes (meaning_of s.who heard.frame) (waits_pair rs s heard e))

-- after a first half and a foreign frame
unfoldable halved : State → Heard → State
halved s first = with_waiting (with_waiting (with_door s shut_door) (waits_for first)) none_waits

again_waits : (rs : List Record) (s : State) (first again : Heard) → due_of rs s first ≡ Waits
    → again.frame ≡ first.frame → due_of rs (halved s first) again ≡ Waits
unfolding due_of halved with_waiting with_door completes
again_waits rs s first again e q =
    pair_waits rs (halved s first) again (meaning_of s.who again.frame) (rw q (waits_pair rs s first e)) refl

-- an accepted call is the frame step
accepted_step : (map store image : List ℕ) (s : State) (heard : Heard) → number_of (step_of map store image s heard) ≡ 0
    → step_of map store image s heard ≡ frame_step (records_of map) store image s heard
accepted_step map store image s heard e =
    (calls_accepted map store image).step s heard (sym ((calls_reply map store image).step s heard) ∙ e)

module _ (map store image : List ℕ) (s : State) (first between again : Heard) where
  abbrev one : Outcome Stepped
  one = step_of map store image s first

  abbrev two : Outcome Stepped
  two = next map image one between

  abbrev three : Outcome Stepped
  three = next map image two again

  module _ (i : Interrupted map store image s first between again) where
    one_is : one ≡ leaves (quiet (with_waiting (with_door s shut_door) (waits_for first))) store
    one_is =
        accepted_step map store image s first i.accepted
        ∙ first_half (records_of map) store image s first i.is_first

    two_is : two ≡ leaves (quiet (halved s first)) store
    unfolding quiet halved meaning_of
    two_is =
        let t : State = with_waiting (with_door s shut_door) (waits_for first) in
        let e : two ≡ step_of map store image t between = rw one_is in
        let f = no_command_foreign t.who (read_of between.frame) i.is_between in
        e ∙ accepted_step map store image t between (sym (ap number_of e) ∙ i.then_accepted)
        ∙ (foreign_passes_by (records_of map) store image t between f).clears

    due_is : due_of (records_of map) (halved s first) again ≡ Waits
    due_is = again_waits (records_of map) s first again i.is_first i.is_again

    three_is : three ≡ leaves (quiet (with_waiting (with_door s shut_door) (waits_for again))) store
    unfolding quiet halved with_waiting with_door
    three_is =
        let e : three ≡ step_of map store image (halved s first) again = rw two_is in
        e ∙ accepted_step map store image (halved s first) again (sym (ap number_of e) ∙ i.last_accepted)
        ∙ first_half (records_of map) store image (halved s first) again due_is

pub event_breaks_pair : EventBreaksPair
unfolding quiet with_waiting with_door
event_breaks_pair map store image s first between again i =
    let w = three_is map store image s first between again i in
    record {
      due = rw (two_is map store image s first between again i) (due_is map store image s first between again i);
      closed = ap (λ (o : Outcome Stepped). o.answer.state.door) w;
      store_stays = ap (λ (o : Outcome Stepped). o.store) w;
      waits = w;
    }
