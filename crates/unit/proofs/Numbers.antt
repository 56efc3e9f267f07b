-- Start, power-on and frame step as calls: settled, with the number of their tests, and refused without a trace.
-- Assumes nothing.
use Prim.Native.Nat.{ℕ, ◌<◌}
use mathlib.Core.Path.{◌≡◌, refl, ap, sym, ◌∙◌}
use mathlib.Core.List.{List}
use native.Mathlib.Omega.{arith}
use borrow.Author.Tests.{eq-eqb, ne_eqb}
use lib.ListN.{length}
use Rattle.std.specs.Prelude.{Err}
use Rattle.laws.specs.Outcome.{Outcome}
use Rattle.laws.proofs.Settled.{settles_both}
use Rattle.laws.proofs.Tests.{if_eq}
use Rattle.refusals.specs.Numbers.{number_of as refusal_number, refusal_of}
use Rattle.records.specs.Map.{records_of}
use Rattle.records.specs.declared.record.Record.{Record}
use Rattle.hearing.specs.declared.heard.Heard.{Heard}
use Rattle.rooms.specs.Reply.{quiet, answering, refusing}
use Rattle.rooms.specs.State.{with_who, zero_state}
use Rattle.rooms.specs.Due.{due_of}
use Rattle.rooms.specs.declared.state.State.{State}
use Rattle.rooms.specs.declared.reply.Stepped.{Stepped}
use Rattle.rooms.specs.declared.due.Due.{Due}
use Rattle.rooms.specs.declared.due.Due.TheVariants.{Nothing, Waits, Opens, Resets, Becomes, Loads, Answers}
use Rattle.rooms.specs.declared.due.Due.TheVariants.{Writes, Reads}
use Rattle.numbers.proofs.Behind.{start_refuses, power_refuses, step_refuses}
use Rattle.unit.specs.Step.{written, read_by, done, frame_step, power_step, unless, step_of, start_of, power_on_of}
use Rattle.unit.specs.Promises.{number_of, Refuses, CallsSettled, CallsRefused, CallsReply, CallsAccepted}

pub calls_settled : CallsSettled
calls_settled map store image =
    record {
      start = λ who. settles_both (start_of map store image who);
      power_on = λ s. settles_both (power_on_of map store image s);
      step = λ s heard. settles_both (step_of map store image s heard);
    }

-- whatever is due, its reply has number 0
done_number : (rs : List Record) (store image : List ℕ) (s : State) (heard : Heard) (due : Due)
    → number_of (done rs store image s heard due) ≡ 0
unfolding done quiet answering written read_by
done_number rs store image s heard Nothing = refl
done_number rs store image s heard Waits = refl
done_number rs store image s heard Opens = refl
done_number rs store image s heard (Resets dtr0) = refl
done_number rs store image s heard (Becomes who) = refl
done_number rs store image s heard (Loads registers) = refl
done_number rs store image s heard (Answers byte) = refl
done_number rs store image s heard (Writes bank location byte replying) = refl
done_number rs store image s heard (Reads bank location) = refl

frame_number : (rs : List Record) (store image : List ℕ) (s : State) (heard : Heard)
    → number_of (frame_step rs store image s heard) ≡ 0
unfolding frame_step
frame_number rs store image s heard = done_number rs store image _ heard (due_of rs s heard)

module _ (s : State) (store : List ℕ) (o : Outcome Stepped) where
  accepting : (n : ℕ) → n ≡ 0 → unless n s store o ≡ o
  accepting n e = rw (eq-eqb n 0 e)

  -- a number that is not 0 is its refusal's
  abbrev Told : ℕ → Type 0
  Told n = (n ≡ 0 → ⊥) → refusal_number (refusal_of n) ≡ n

  unless_number : (n : ℕ) → Told n → number_of o ≡ 0 → number_of (unless n s store o) ≡ n
  unfolding refusing
  unless_number n t e = if_eq (λ x. number_of x ≡ n) n 0 (λ z. e ∙ sym z) t

  unless_refuses : (m n : ℕ) → Told m → 0 < n → m ≡ n → Refuses (unless m s store o) n s store
  unfolding refusing
  unless_refuses m n t h e =
      rw (ne_eqb m 0 (λ z. omega arith))
      (record {
        returns = t (λ z. omega arith) ∙ e;
        refuses = ap (λ (k : ℕ). Err (refusal_of k)) e;
        state_stays = refl;
        store_stays = refl;
      })

pub calls_accepted : CallsAccepted
unfolding start_of power_on_of step_of
calls_accepted map store image =
    record {
      start = λ who e. accepting _ store (power_step (records_of map) store image (with_who zero_state who)) _ e;
      power_on = λ s e. accepting s store (power_step (records_of map) store image s) _ e;
      step = λ s heard e. accepting s store (frame_step (records_of map) store image s heard) _ e;
    }

pub calls_reply : CallsReply
unfolding start_of power_on_of step_of power_step quiet
calls_reply map store image =
    record {
      start = λ who.
          unless_number _ store (power_step (records_of map) store image (with_who zero_state who)) _
          (λ z. start_refuses map store (length image) _ z who refl) refl;
      power_on = λ s.
          unless_number s store (power_step (records_of map) store image s) _
          (λ z. power_refuses map store (length image) _ z s refl) refl;
      step = λ s heard.
          unless_number s store (frame_step (records_of map) store image s heard) _
          (λ z. step_refuses map store (length image) _ z s heard refl) (frame_number (records_of map) store image s heard);
    }

pub calls_refused : CallsRefused
unfolding start_of power_on_of step_of
calls_refused map store image n h =
    record {
      start = λ who e. unless_refuses zero_state store _ _ n (λ z. start_refuses map store (length image) _ z who refl) h e;
      power_on = λ s e. unless_refuses s store _ _ n (λ z. power_refuses map store (length image) _ z s refl) h e;
      step = λ s heard e. unless_refuses s store _ _ n (λ z. step_refuses map store (length image) _ z s heard refl) h e;
    }
