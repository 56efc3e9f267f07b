-- What a frame and a power-on change of the store, and that 7 to 12 hold after them.
-- Assumes nothing.
use Prim.Native.Nat.{ℕ}
use mathlib.Core.Path.{◌≡◌, refl, subst, ◌∙◌}
use mathlib.Core.Logic.{◌⊎◌, inl, inr, ⊎_elim}
use mathlib.Core.Bool.{Bool, true}
use mathlib.Core.List.{List}
use borrow.Author.Tests.{eqb-true, eq-eqb}
use lib.ListN.{length}
use Rattle.laws.specs.Outcome.{Outcome}
use Rattle.laws.proofs.Sides.{and_left, and_right}
use Rattle.records.specs.Map.{records_of, writable}
use Rattle.records.specs.Facts.{Member}
use Rattle.records.specs.declared.record.Record.{Record}
use Rattle.banks.specs.Rules.{placed}
use Rattle.banks.specs.Values.{value_of}
use Rattle.banks.specs.Facts.{Stands}
use Rattle.banks.proofs.Standing.{check_stands}
use Rattle.banks.proofs.Places.{holder_within}
use Rattle.memory.specs.Promises.{ChangesOnly, Takes, locks_bank}
use Rattle.memory.specs.Staged.{write_byte}
use Rattle.memory.specs.Latched.{none_latched}
use Rattle.memory.specs.Filled.{chosen, fresh}
use Rattle.memory.specs.Rules.{zero_from, staged_holds, latch_holds}
use Rattle.memory.specs.declared.staged.Staged.{Staged}
use Rattle.memory.specs.declared.staged.Wrote.{Wrote}
use Rattle.memory.proofs.Writes.{taken_is, write_cases}
use Rattle.memory.proofs.Changes.{write_changes_only}
use Rattle.memory.proofs.Fills.{chosen_writable, fill_value, fill_changes_only}
use Rattle.memory.proofs.Locks.{fill_locks}
use Rattle.memory.specs.declared.filled.Filling.TheVariants.{PowerOn, Reset}
use Rattle.hearing.specs.Meaning.{meaning_of, closes}
use Rattle.hearing.specs.declared.heard.Who.{Who}
use Rattle.hearing.specs.declared.heard.Heard.{Heard}
use Rattle.rooms.specs.State.{powered_on}
use Rattle.rooms.specs.Rules.{address_holds, waiting_holds}
use Rattle.rooms.specs.Promises.{StatePowered}
use Rattle.rooms.specs.Due.{due_of}
use Rattle.rooms.specs.Reply.{quiet}
use Rattle.rooms.specs.declared.state.State.{State}
use Rattle.rooms.specs.declared.reply.Stepped.{Stepped}
use Rattle.rooms.specs.declared.due.Due.{Due}
use Rattle.rooms.specs.declared.due.Due.TheVariants.{Nothing, Waits, Opens, Resets, Becomes, Loads, Answers}
use Rattle.rooms.specs.declared.due.Due.TheVariants.{Writes, Reads}
use Rattle.rooms.proofs.Powered.{powered_who, powered_waiting, powered_door, powered_latch}
use Rattle.rooms.proofs.Promises.{powered_on_lem}
use Rattle.unit.specs.Step.{cleared, written, done, frame_step, power_step}
use Rattle.unit.specs.Keeping.{OneValue, StorePowered, PowersOn}
use Rattle.unit.proofs.Keeping.{shut_holds, heard_staged, frame_keeps}
use Rattle.unit.proofs.Sound.{Sound}

none_latched_holds : (rs : List Record) → latch_holds rs none_latched ≡ true
unfolding latch_holds zero_from
none_latched_holds rs = refl

pub unchanged : (map store : List ℕ) (changed : Record → Type 0) → ChangesOnly map store store changed
unchanged map store changed =
    record {
      as_long = refl;
      others = λ r m n. refl;
      read_only = λ r m e. refl;
      unmapped = λ j u. refl;
      checks = λ size. refl;
    }

-- what changes only these changes only more
wider : (map store after : List ℕ) (these more : Record → Type 0) → ((r : Record) → these r → more r)
    → ChangesOnly map store after these → ChangesOnly map store after more
wider map store after these more f k =
    record {
      as_long = k.as_long;
      others = λ r m n. k.others r m (λ t. n (f r t));
      read_only = k.read_only;
      unmapped = k.unmapped;
      checks = k.checks;
    }

-- 7 to 11 go on holding
stands_after : (map store after : List ℕ) (size : ℕ) (changed : Record → Type 0) → ChangesOnly map store after changed
    → Stands map store size → Stands map after size
stands_after map store after size changed k S =
    (check_stands map after size).0 (k.checks size ∙ (check_stands map store size).1 S)

module _ (map store : List ℕ) (p : placed map (length store) ≡ true) (g : Staged)
    (h : staged_holds (records_of map) store g ≡ true) (bank location byte : ℕ) where
  abbrev wrote : Outcome Wrote
  wrote = write_byte (records_of map) store g bank location byte

  takes_writable : (r : Record) → Takes (records_of map) store g bank location r → writable r ≡ true
  takes_writable r t = (taken_is (records_of map) store g r location t.took).writes

  write_changes : ChangesOnly map store wrote.store (λ r. writable r ≡ true)
  write_changes =
      wider map store wrote.store _ _ (λ r t. takes_writable r t.takes)
      (write_changes_only map store p g h bank location byte)

  -- the store stays, or this value takes the byte
  taker : (wrote.store ≡ store) ⊎ ((r : Record) × Takes (records_of map) store g bank location r)
  taker =
      write_cases (records_of map) store g bank location byte
      (λ o. (o.store ≡ store) ⊎ ((r : Record) × Takes (records_of map) store g bank location r))
      (inl refl) (λ r t w. inl refl) (λ r t w. inr (r, t))

  write_one : (wrote.store ≡ store) ⊎ OneValue map store wrote.store
  write_one = ⊎_elim (λ e. inl e) (λ x. inr (go x.0 x.1)) taker
    where
      go : (v : Record) → Takes (records_of map) store g bank location v → OneValue map store wrote.store
      go v t =
          record {
            value = v;
            member = (holder_within map (length store) bank location p v t.found).member;
            writes = takes_writable v t;
            only =
                wider map store wrote.store _ _ (λ r last. let a = last.takes.found in let b = t.found in cc)
                (write_changes_only map store p g h bank location byte);
          }

module _ (map store image : List ℕ) (s : State) (heard : Heard) (S : Sound map store (length image) s) where
  abbrev framed : Outcome Stepped
  framed = frame_step (records_of map) store image s heard

  abbrev place : placed map (length store) ≡ true
  place = S.standing.in_place

  closing : Bool
  closing = closes (meaning_of s.who heard.frame)

  -- the staged bytes when the frame has been heard, before what is due is done
  abbrev staged : Staged
  staged = (cleared s closing).door.staged

  staged_holds_lem : staged_holds (records_of map) store staged ≡ true
  staged_holds_lem = heard_staged map store image s heard place S.rules closing

  pub record Changes (due : Due) (after : List ℕ) : Type 0 where
    pub writable_only : ChangesOnly map store after (λ r. writable r ≡ true)
    pub one : ((dtr0 : ℕ) → due ≡ Resets dtr0 → ⊥) → (after ≡ store) ⊎ OneValue map store after

  same : (due : Due) → Changes due store
  same due = record { writable_only = unchanged map store _; one = λ e. inl refl }

  done_changes : (due : Due) → Changes due (done (records_of map) store image (cleared s closing) heard due).store
  unfolding done written
  done_changes Nothing = same Nothing
  done_changes Waits = same Waits
  done_changes Opens = same Opens
  done_changes (Resets dtr0) =
      record {
        writable_only =
            wider map store _ _ _ (chosen_writable (records_of map) store (Reset dtr0))
            (fill_changes_only map store image place S.standing.as_long (Reset dtr0));
        one = λ e. absurd (e dtr0 refl);
      }
  done_changes (Becomes who) = same (Becomes who)
  done_changes (Loads registers) = same (Loads registers)
  done_changes (Answers byte) = same (Answers byte)
  done_changes (Writes bank location byte replying) =
      record {
        writable_only = write_changes map store place staged staged_holds_lem bank location byte;
        one = λ e. write_one map store place staged staged_holds_lem bank location byte;
      }
  done_changes (Reads bank location) = same (Reads bank location)

  pub changes : Changes (due_of (records_of map) s heard) framed.store
  unfolding frame_step closing
  changes = done_changes (due_of (records_of map) s heard)

  -- 7 to 12 hold after it
  pub frame_sound : Sound map framed.store (length image) framed.answer.state
  frame_sound =
      record {
        standing = stands_after map store framed.store (length image) _ changes.writable_only S.standing;
        rules = frame_keeps map store image s heard place S.rules;
      }

module _ (map store image : List ℕ) (s : State) (S : Stands map store (length image)) where
  abbrev powered : Outcome Stepped
  powered = power_step (records_of map) store image s

  pub powered_changes : ChangesOnly map store powered.store (λ r. r.kind ≡ 2)
  unfolding power_step chosen
  powered_changes =
      wider map store powered.store _ _ (λ r e. eqb-true r.kind 2 e)
      (fill_changes_only map store image S.in_place S.as_long PowerOn)

  -- a RAM-RW value takes its fresh bytes
  ram_fresh : (r : Record) → Member r map → r.kind ≡ 2 → value_of r powered.store ≡ fresh image r
  unfolding power_step chosen
  ram_fresh r m k = fill_value map store image S.in_place S.as_long PowerOn r m ∙ rw (eq-eqb r.kind 2 k)

  powered_store : StorePowered map store image powered.store
  unfolding fresh power_step locks_bank
  powered_store =
      record {
        locks = λ r m e. ram_fresh r m (search (and_left, and_right, eqb-true)) ∙ rw e;
        lock_bytes = λ bank h m. fill_locks map store image S PowerOn bank h m;
        ram = λ r m e k. ram_fresh r m k ∙ rw e;
        others = powered_changes.others;
        unmapped = powered_changes.unmapped;
      }

  pub powered_sound : address_holds s.who.address ≡ true
      → Sound map powered.store (length image) powered.answer.state
  unfolding power_step quiet waiting_holds
  powered_sound e =
      record {
        standing = stands_after map store powered.store (length image) _ powered_changes S;
        rules = record {
          address = rw (powered_who s) e;
          waiting = rw (powered_waiting s);
          door = shut_holds (records_of map) _ _ (powered_door s);
          latch = rw (powered_latch s) (none_latched_holds (records_of map));
        };
      }

  pub powers_on : (who : Who) → s.who ≡ who → (o : Outcome Stepped) → o ≡ powered → PowersOn map store image s who o
  unfolding power_step quiet
  powers_on who w o e =
      rw e (record {
        acts = refl;
        unanswered = refl;
        state_is = subst (λ (x : Who). StatePowered x (powered_on s)) w (powered_on_lem s);
        store_is = powered_store;
      })
