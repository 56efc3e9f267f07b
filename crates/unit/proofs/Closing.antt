-- What closes write-enable: of every frame step, by what is due; and worked, each line computed.
-- Assumes nothing.
use mathlib.Core.Path.{◌≡◌, refl, sym, ap, ◌∙◌}
use mathlib.Core.Logic.{◌⊎◌, inl, inr, ⊎_elim}
use mathlib.Core.Bool.{Bool, true, false, true≢false}
use mathlib.Core.List.{List}
use Prim.Native.Nat.{ℕ}
use Rattle.laws.proofs.Tests.{clash}
use Rattle.records.specs.declared.record.Record.{Record}
use Rattle.hearing.specs.Meaning.{meaning_of, closes}
use Rattle.hearing.specs.declared.heard.Heard.{Heard}
use Rattle.hearing.proofs.Closing.{closes_exactly}
use Rattle.rooms.specs.State.{with_who, with_registers, with_waiting, with_door, with_latch, shut_door}
use Rattle.rooms.specs.Reply.{quiet, answering}
use Rattle.rooms.specs.Due.{due_of}
use Rattle.rooms.specs.declared.state.Door.{Door}
use Rattle.rooms.specs.declared.state.State.{State}
use Rattle.rooms.specs.declared.due.Due.{Due}
use Rattle.rooms.specs.declared.due.Due.TheVariants.{Nothing, Opens, Answers}
use Rattle.rooms.proofs.Dues.{Cases, by_due}
use Rattle.numbers.proofs.Computing.{reading, checking, looking, meaning, storing, keeping, rooms}
use Rattle.unit.specs.Step.{cleared, raised, written, read_by, done, frame_step}
use Rattle.unit.specs.Closing.{EveryCommandCloses, ClosingHolds}
use Rattle.unit.proofs.Bench.{filling, acting, calling}

module _ (rs : List Record) (store image : List ℕ) (s : State) (heard : Heard) where
  -- what is due, of a frame that closes or not, leaves the door so
  unfoldable door : Bool → Due → Door
  door closing due = (done rs store image (cleared s closing) heard due).answer.state.door

  -- it is opened, or closing shuts it, or write-enable is as it was; so where it is open, it was opened, or was open
  record Doored (closing : Bool) (due : Due) : Type 0 where
    opened : due ≡ Opens → (door closing due).enabled ≡ true
    shut : closing ≡ true → (due ≡ Opens → ⊥) → door closing due ≡ shut_door
    kept : closing ≡ false → (door closing due).enabled ≡ s.door.enabled
    whence : (door closing due).enabled ≡ true → (due ≡ Opens) ⊎ ((s.door.enabled ≡ true) × (closing ≡ false))

  -- another due than that
  by_shut : (due : Due) → (due ≡ Opens → true ≡ false) → door true due ≡ shut_door → Doored true due
  by_shut due n e =
      record {
        opened = λ q. absurd (true≢false (n q));
        shut = λ c m. e;
        kept = λ c. clash true refl c;
        whence = λ q. clash true refl (sym q ∙ ap (λ (d : Door). d.enabled) e);
      }

  by_kept : (due : Due) → (due ≡ Opens → true ≡ false) → (door false due).enabled ≡ s.door.enabled → Doored false due
  by_kept due n e =
      record {
        opened = λ q. absurd (true≢false (n q));
        shut = λ c m. clash false c refl;
        kept = λ c. e;
        whence = λ q. inr (sym e ∙ q, refl);
      }

  nothing : (closing : Bool) → Doored closing Nothing
  unfolding door cleared done quiet with_waiting with_door
  nothing true = by_shut Nothing (λ q. cc) refl
  nothing false = by_kept Nothing (λ q. cc) refl

  answers : (closing : Bool) (byte : ℕ) → Doored closing (Answers byte)
  unfolding door cleared done answering with_waiting with_door
  answers true byte = by_shut (Answers byte) (λ q. cc) refl
  answers false byte = by_kept (Answers byte) (λ q. cc) refl

  all_doored : Cases rs s heard Doored
  unfolding door cleared done quiet written read_by answering raised with_who with_registers with_waiting with_door with_latch
  all_doored =
      record {
        nothing = nothing;
        waits = λ e. by_shut _ (λ q. cc) refl;
        opens =
            record {
              opened = λ q. refl;
              shut = λ c n. absurd (n refl);
              kept = λ c. clash true refl c;
              whence = λ q. inl refl;
            };
        resets = λ dtr0. by_shut _ (λ q. cc) refl;
        becomes = λ who a. by_shut _ (λ q. cc) refl;
        loads = λ registers. by_kept _ (λ q. cc) refl;
        answers = answers;
        writes = λ e bank location byte replying. by_kept _ (λ q. cc) refl;
        reads = λ bank location. by_shut _ (λ q. cc) refl;
      }

  doored : Doored (closes (meaning_of s.who heard.frame)) (due_of rs s heard)
  doored = by_due rs s heard Doored all_doored

pub every_command_closes : EveryCommandCloses
unfolding frame_step door
every_command_closes rs store image s heard =
    let C = closes_exactly s.who heard.frame in
    let D = doored rs store image s heard in
    record {
      shut = λ u n o. D.shut (C.closing.1 (u, n)) o;
      enabled = (
        (λ e. ⊎_elim inl (λ p. inr (p.0, C.keeping.0 p.1)) (D.whence e)),
        (λ p. ⊎_elim D.opened (λ q. D.kept (C.keeping.1 q.1) ∙ q.0) p),
      );
    }

pub closing_holds : ClosingHolds
unfolding reading checking looking meaning storing filling keeping rooms acting calling
closing_holds =
    record {
      output = refl;
      store = refl;
      enabled = refl;
      waits = refl;
      between_output = refl;
      between_store = refl;
    }
