-- What each frame leaves alone, by what it makes happen.
-- Assumes nothing.
use Prim.Native.Nat.{ℕ}
use mathlib.Core.Path.{◌≡◌, refl, ap, ◌∙◌}
use mathlib.Core.Bool.{Bool, true, false, ◌&&◌}
use mathlib.Core.List.{List}
use borrow.Author.Tests.{eq-eqb, ne_eqb}
use Rattle.std.specs.Prelude.{None, Ok}
use Rattle.laws.specs.Outcome.{Outcome}
use Rattle.records.specs.declared.record.Record.{Record}
use Rattle.memory.specs.Staged.{write_byte}
use Rattle.hearing.specs.declared.heard.Heard.{Heard}
use Rattle.rooms.specs.State.{with_who, with_registers, with_waiting, with_door, with_latch}
use Rattle.rooms.specs.Due.{with_dtr}
use Rattle.rooms.specs.Reply.{answer_if, quiet, answering}
use Rattle.rooms.specs.declared.state.Registers.{Registers}
use Rattle.rooms.specs.declared.state.State.{State}
use Rattle.rooms.specs.declared.reply.Stepped.{Stepped}
use Rattle.rooms.proofs.Dues.{Cases, by_due}
use Rattle.rooms.specs.declared.due.Due.{Due}
use Rattle.rooms.specs.declared.due.Due.TheVariants.{Nothing, Answers}
use Rattle.unit.specs.Step.{cleared, raised, written, read_by, done, frame_step}
use Rattle.unit.specs.Leaving.{Dtr0Rises, Leaves, FramesLeave}

-- the setters of the rooms
rooms : Unit {0}
unfolding with_dtr with_who with_registers with_waiting with_door with_latch
rooms = tt

no_reply : (taken replying : Bool) (byte : ℕ) → replying ≡ false → answer_if (taken && replying) byte ≡ None
no_reply true replying byte e = rw e
no_reply false replying byte e = refl

module _ (rs : List Record) (store image : List ℕ) (s : State) (heard : Heard) where
  -- a frame that closes write-enable or not, and what is due then
  unfoldable Left : Bool → Due → Type 0
  Left closing due = Leaves s store heard closing (done rs store image (cleared s closing) heard due) due

  nothing : (closing : Bool) → Left closing Nothing
  unfolding Left cleared done quiet with_waiting with_door
  nothing true = (refl, refl, refl, refl, refl, refl, refl)
  nothing false = (refl, refl, refl, refl, refl, refl, refl)

  answers : (closing : Bool) (byte : ℕ) → Left closing (Answers byte)
  unfolding Left cleared done answering with_waiting with_door
  answers true byte = (refl, refl, refl, refl, refl, refl)
  answers false byte = (refl, refl, refl, refl, refl, refl)

  -- DTR0 after a write or a read at the location, whatever else they change
  rises : (location : ℕ) (o : Outcome Stepped) → o.answer.state.registers ≡ (raised s location).registers
      → Dtr0Rises location s o
  unfolding raised with_dtr with_registers
  rises location o e =
      record {
        rises = λ n. ap (λ (d : Registers). d.dtr0) e ∙ rw (ne_eqb location 0xFF n);
        stops = λ q. ap (λ (d : Registers). d.dtr0) e ∙ rw (eq-eqb location 0xFF q);
        dtr1 = ap (λ (d : Registers). d.dtr1) e;
        dtr2 = ap (λ (d : Registers). d.dtr2) e;
      }

  all_leave : Cases rs s heard Left
  unfolding Left cleared done quiet written read_by answering raised rooms
  all_leave =
      record {
        nothing = nothing;
        waits = λ e. (refl, refl, refl, refl, refl, refl, refl);
        opens = (refl, refl, refl, refl, refl, refl, refl);
        resets = λ dtr0. (refl, refl, refl, refl, refl, refl);
        becomes = λ who a. (refl, refl, refl, refl, refl, refl);
        loads = λ registers. (refl, refl, refl, refl, refl, refl);
        answers = answers;
        writes = λ e bank location byte replying.
            let wrote = write_byte rs store s.door.staged bank location byte in
            (refl, rises location _ refl, refl, refl, refl, λ n. ap Ok (no_reply wrote.answer.taken replying byte n));
        reads = λ bank location. (refl, rises location _ refl, refl, refl, refl);
      }

pub frames_leave : FramesLeave
unfolding frame_step Left
frames_leave rs store image s heard due e =
    rw (← e) (by_due rs s heard (Left rs store image s heard) (all_leave rs store image s heard))
