-- The laws by which a history knows the unit: what an accepted call was handed, and what a frame and a power-on
-- leave in each room, by what the frame means.
-- Assumes nothing.
use mathlib.Core.Path.{◌≡◌, refl, sym, ◌∙◌}
use mathlib.Core.Bool.{Bool, true, false, ◌&&◌, ◌||◌}
use mathlib.Core.List.{List}
use Prim.Native.Nat.{ℕ, ◌+◌, ◌-◌}
use lib.Bits.{bit_or, bit_and}
use lib.Dec.{ltb, eqb}
use lib.ListN.{length}
use Rattle.std.specs.Prelude.{if◌then◌else◌}
use Rattle.laws.specs.Outcome.{Outcome}
use Rattle.records.specs.Map.{records_of, mapped}
use Rattle.records.specs.declared.record.Record.{Record}
use Rattle.banks.specs.Facts.{Stands}
use Rattle.memory.specs.Staged.{write_byte}
use Rattle.memory.specs.Rules.{staged_holds}
use Rattle.memory.specs.Filled.{filled_of}
use Rattle.memory.specs.declared.filled.Filling.TheVariants.{PowerOn, Reset}
use Rattle.hearing.specs.Meaning.{meaning_of}
use Rattle.hearing.specs.Pairs.{none_waits, waits_for, completes}
use Rattle.hearing.specs.declared.heard.Who.{Who}
use Rattle.hearing.specs.declared.heard.Heard.{Heard}
use Rattle.hearing.specs.declared.heard.Waiting.{Waiting}
use Rattle.hearing.specs.declared.meaning.Once.TheVariants.{QueryMissingShortAddress, QueryContentDtr, SetDtr, SetDtrs}
use Rattle.hearing.specs.declared.meaning.Once.TheVariants.{QueryDeviceGroups}
use Rattle.hearing.specs.declared.meaning.Once.TheVariants.{ReadMemoryLocation, WriteMemoryLocation, DirectWriteMemory}
use Rattle.hearing.specs.declared.meaning.Twice.{Twice}
use Rattle.hearing.specs.declared.meaning.Twice.TheVariants.{ResetMemoryBank, SetShortAddress, EnableWriteMemory}
use Rattle.hearing.specs.declared.meaning.Twice.TheVariants.{AddToDeviceGroups, RemoveFromDeviceGroups}
use Rattle.hearing.specs.declared.meaning.Meaning.{Meaning}
use Rattle.hearing.specs.declared.meaning.Meaning.TheVariants.{Foreign, NotObeyed, AtOnce, NeedsPair}
use Rattle.rooms.specs.State.{with_who, with_registers, with_waiting, with_door, with_latch, zero_registers, shut_door}
use Rattle.rooms.specs.State.{open_door, zero_state}
use Rattle.rooms.specs.Due.{with_dtr, group_word, in_groups, short_due, write_due, read_due, once_due, pair_due, due_by, due_of}
use Rattle.rooms.specs.Reply.{quiet, answering}
use Rattle.rooms.specs.declared.state.Registers.{Registers}
use Rattle.rooms.specs.declared.state.Door.{Door}
use Rattle.rooms.specs.declared.state.State.{State}
use Rattle.rooms.specs.declared.reply.Stepped.{Stepped}
use Rattle.rooms.specs.declared.due.Due.TheVariants.{Nothing, Becomes, Answers, Reads}
use Rattle.rooms.proofs.Powered.{powered_who, powered_registers, powered_waiting, powered_door}
use Rattle.unit.specs.Step.{cleared, raised, written, read_by, done, frame_step, power_step, step_of, power_on_of}
use Rattle.unit.specs.Step.{start_of}
use Rattle.unit.specs.Promises.{number_of}
use Rattle.unit.proofs.Numbers.{calls_accepted, calls_reply}
use Rattle.unit.proofs.Keeping.{door_staged}
use Rattle.unit.proofs.Sound.{Sound, start_sound, power_sound, step_sound}

-- ---- an accepted call

-- map, store and image that passed the tests, and staged bytes that keep their rule
pub record Ready (map store image : List ℕ) (s : State) : Type 0 where
  pub stands : Stands map store (length image)
  pub staged_holds_lem : staged_holds (records_of map) store s.door.staged ≡ true

ready : (map store image : List ℕ) (s : State) → Sound map store (length image) s → Ready map store image s
ready map store image s h =
    record { stands = h.standing; staged_holds_lem = door_staged (records_of map) store s h.rules.door }

-- number 0: no test failed, and the outcome is that of the internal step
module _ (map store image : List ℕ) where
  pub step_accepted : (s : State) (x : Heard) → number_of (step_of map store image s x) ≡ 0
      → Ready map store image s × (step_of map store image s x ≡ frame_step (records_of map) store image s x)
  step_accepted s x e =
      let n = sym ((calls_reply map store image).step s x) ∙ e in
      (ready map store image s (step_sound map store (length image) s x n), (calls_accepted map store image).step s x n)

  pub power_accepted : (s : State) → number_of (power_on_of map store image s) ≡ 0
      → Ready map store image s × (power_on_of map store image s ≡ power_step (records_of map) store image s)
  power_accepted s e =
      let n = sym ((calls_reply map store image).power_on s) ∙ e in
      (ready map store image s (power_sound map store (length image) s n), (calls_accepted map store image).power_on s n)

  pub start_accepted : (who : Who) → number_of (start_of map store image who) ≡ 0
      → Stands map store (length image)
      × (start_of map store image who ≡ power_step (records_of map) store image (with_who zero_state who))
  start_accepted who e =
      let n = sym ((calls_reply map store image).start who) ∙ e in
      ((start_sound map store (length image) who n).0, (calls_accepted map store image).start who n)

-- ---- what a call leaves in each room but the latch, and in the store

pub record Rooms : Type 0 where
  pub who : Who
  pub registers : Registers
  pub waiting : Waiting
  pub door : Door
  pub store : List ℕ

abbrev pub rooms_of : Outcome Stepped → Rooms
rooms_of o =
    record {
      who = o.answer.state.who;
      registers = o.answer.state.registers;
      waiting = o.answer.state.waiting;
      door = o.answer.state.door;
      store = o.store;
    }

-- power-on and start: DTRs 0, nothing waiting, enabled or staged; address and groups stay
pub power_rooms : (rs : List Record) (store image : List ℕ) (s : State) (who : Who) → s.who ≡ who
    → rooms_of (power_step rs store image s)
    ≡ record {
      who = who;
      registers = zero_registers;
      waiting = none_waits;
      door = shut_door;
      store =
          filled_of rs store image PowerOn;
    }
unfolding power_step quiet
power_rooms rs store image s who e =
    rw (powered_who s, powered_registers s, powered_waiting s, powered_door s, e)

-- DTR0 after a location that was used
abbrev pub registers_past : Registers → ℕ → Registers
registers_past d location = with_dtr d 0 (if eqb location 0xFF then 0xFF else location + 1)

module _ (rs : List Record) (store image : List ℕ) (s : State) (x : Heard) where
  -- the frame clears the waiting one, and touches the other rooms so
  abbrev Leaves : Who → Registers → Door → List ℕ → Type 0
  Leaves who registers door store' =
      rooms_of (frame_step rs store image s x)
      ≡ record { who = who; registers = registers; waiting = none_waits; door = door; store = store' }

  abbrev Means : Meaning → Type 0
  Means m = meaning_of s.who x.frame ≡ m

  pub foreign_leaves : Means Foreign → Leaves s.who s.registers s.door store
  unfolding frame_step due_of due_by done cleared quiet with_waiting
  foreign_leaves e = rw e

  pub not_obeyed_leaves : Means NotObeyed → Leaves s.who s.registers shut_door store
  unfolding frame_step due_of due_by done cleared quiet with_waiting with_door
  not_obeyed_leaves e = rw e

  pub missing_leaves : Means (AtOnce QueryMissingShortAddress) → Leaves s.who s.registers shut_door store
  unfolding frame_step due_of due_by once_due done cleared quiet answering with_waiting with_door
  missing_leaves e = rw e (go (eqb s.who.address 255))
    where
      go : (b : Bool) → rooms_of (done rs store image (cleared s true) x (if b then Answers 0xFF else Nothing))
          ≡ record { who = s.who; registers = s.registers; waiting = none_waits; door = shut_door; store = store }
      go true = refl
      go false = refl

  pub content_leaves : (k : ℕ) → Means (AtOnce (QueryContentDtr k)) → Leaves s.who s.registers s.door store
  unfolding frame_step due_of due_by once_due done cleared answering with_waiting
  content_leaves k e = rw e

  pub groups_leaves : (k : ℕ) → Means (AtOnce (QueryDeviceGroups k)) → Leaves s.who s.registers shut_door store
  unfolding frame_step due_of due_by once_due done cleared answering with_waiting with_door
  groups_leaves k e = rw e

  pub dtr_leaves : (k byte : ℕ) → Means (AtOnce (SetDtr k byte))
      → Leaves s.who (with_dtr s.registers k byte) s.door store
  unfolding frame_step due_of due_by once_due done cleared quiet with_waiting with_registers
  dtr_leaves k byte e = rw e

  pub dtrs_leaves : (k high low : ℕ) → Means (AtOnce (SetDtrs k high low))
      → Leaves s.who (with_dtr (with_dtr s.registers (k + 1) high) k low) s.door store
  unfolding frame_step due_of due_by once_due done cleared quiet with_waiting with_registers
  dtrs_leaves k high low e = rw e

  pub read_leaves : Means (AtOnce ReadMemoryLocation)
      → Leaves s.who (if mapped rs s.registers.dtr1 then registers_past s.registers s.registers.dtr0
      else s.registers) shut_door store
  unfolding frame_step due_of due_by once_due read_due done cleared quiet read_by raised answering with_waiting with_registers
      with_door with_latch
  read_leaves e = rw e (go (mapped rs s.registers.dtr1))
    where
      go : (b : Bool) → rooms_of (done rs store image (cleared s true) x
          (if b then Reads s.registers.dtr1 s.registers.dtr0 else Nothing))
          ≡ record {
            who = s.who;
            registers = if b then registers_past s.registers s.registers.dtr0 else s.registers;
            waiting = none_waits;
            door = shut_door;
            store = store;
          }
      go true = refl
      go false = refl

  -- the door after an executed write
  abbrev pub door_past : ℕ → ℕ → Door
  door_past location byte =
      record {
        enabled = s.door.enabled;
        staged =
            (write_byte rs store s.door.staged s.registers.dtr1 location byte).answer.staged;
      }

  -- the three writes: at DTR0, or at DIRECT WRITE's offset
  pub data WritesAt : ℕ → ℕ → Type 0 where
    at_dtr0 : {byte : ℕ} {replies : Bool} → Means (AtOnce (WriteMemoryLocation byte replies))
        → WritesAt s.registers.dtr0 byte
    at_offset : {offset byte : ℕ} → Means (AtOnce (DirectWriteMemory offset byte)) → WritesAt offset byte

  pub write_leaves : (location byte : ℕ) → WritesAt location byte
      → (s.door.enabled && mapped rs s.registers.dtr1) ≡ true
      → Leaves s.who (registers_past s.registers location) (door_past location byte)
      (write_byte rs store s.door.staged s.registers.dtr1 location byte).store
  unfolding frame_step due_of due_by once_due write_due done written cleared answering raised with_waiting with_registers
      with_door
  write_leaves location byte (at_dtr0 e) b = rw (e, b)
  write_leaves location byte (at_offset e) b = rw (e, b)

  pub no_write_leaves : (location byte : ℕ) → WritesAt location byte
      → (s.door.enabled && mapped rs s.registers.dtr1) ≡ false
      → Leaves s.who s.registers s.door store
  unfolding frame_step due_of due_by once_due write_due done cleared quiet with_waiting
  no_write_leaves location byte (at_dtr0 e) b = rw (e, b)
  no_write_leaves location byte (at_offset e) b = rw (e, b)

  -- a pair that executes
  module _ (pair : completes s.waiting x ≡ true) where
    pub reset_leaves : Means (NeedsPair ResetMemoryBank)
        → Leaves s.who s.registers shut_door (filled_of rs store image (Reset s.registers.dtr0))
    unfolding frame_step due_of due_by pair_due done cleared quiet with_waiting with_door
    reset_leaves e = rw (e, pair)

    pub enable_leaves : Means (NeedsPair EnableWriteMemory) → Leaves s.who s.registers open_door store
    unfolding frame_step due_of due_by pair_due done cleared quiet with_waiting with_door
    enable_leaves e = rw (e, pair)

    pub short_leaves : Means (NeedsPair SetShortAddress)
        → Leaves
        (if ltb s.registers.dtr0 0x40 || eqb s.registers.dtr0 255
        then record { address = s.registers.dtr0; groups = s.who.groups } else s.who)
        s.registers shut_door store
    unfolding frame_step due_of due_by pair_due short_due done cleared quiet with_waiting with_door with_who
    short_leaves e = rw (e, pair) (go (ltb s.registers.dtr0 0x40 || eqb s.registers.dtr0 255))
      where
        who : Who
        who = record { address = s.registers.dtr0; groups = s.who.groups }

        go : (b : Bool) → rooms_of (done rs store image (cleared s true) x (if b then Becomes who else Nothing))
            ≡ record {
              who = if b then who else s.who;
              registers = s.registers;
              waiting = none_waits;
              door =
                  shut_door;
              store = store;
            }
        go true = refl
        go false = refl

    pub add_leaves : (half : ℕ) → Means (NeedsPair (AddToDeviceGroups half))
        → Leaves (in_groups s.who (bit_or s.who.groups (group_word s.registers half)))
        s.registers shut_door store
    unfolding frame_step due_of due_by pair_due done cleared quiet with_waiting with_door with_who
    add_leaves half e = rw (e, pair)

    pub remove_leaves : (half : ℕ) → Means (NeedsPair (RemoveFromDeviceGroups half))
        → Leaves (in_groups s.who (bit_and s.who.groups (0xFFFFFFFF - group_word s.registers half)))
        s.registers shut_door store
    unfolding frame_step due_of due_by pair_due done cleared quiet with_waiting with_door with_who
    remove_leaves half e = rw (e, pair)

  -- a pair command that is no pair waits
  pub half_leaves : (twice : Twice) → completes s.waiting x ≡ false → Means (NeedsPair twice)
      → rooms_of (frame_step rs store image s x)
      ≡ record { who = s.who; registers = s.registers; waiting = waits_for x; door = shut_door; store = store }
  unfolding frame_step due_of due_by done cleared quiet with_waiting with_door
  half_leaves twice pair e = rw (e, pair)
