-- The unit's address, groups, DTRs and write-enable are the grammar's context, and its staged bytes and store move by
-- the deed of each input.
-- Assumes nothing.
use mathlib.Core.Path.{◌≡◌, refl, sym, ap, ◌∙◌}
use mathlib.Core.Bool.{Bool, true, false, not, ◌&&◌}
use mathlib.Core.List.{List, [], ◌∷◌}
use Prim.Native.Nat.{ℕ}
use native.Mathlib.Omega.{arith}
use lib.ListN.{length}
use Rattle.std.specs.Prelude.{if◌then◌else◌}
use Rattle.laws.specs.Outcome.{Outcome}
use Rattle.records.specs.Map.{records_of, mapped}
use Rattle.records.specs.declared.record.Record.{Record}
use Rattle.banks.specs.Facts.{Stands}
use Rattle.memory.specs.Staged.{none_staged, write_byte}
use Rattle.memory.specs.Filled.{filled_of}
use Rattle.memory.specs.declared.staged.Staged.{Staged}
use Rattle.memory.specs.declared.filled.Filling.TheVariants.{PowerOn, Reset}
use Rattle.hearing.specs.Meaning.{meaning_of}
use Rattle.hearing.specs.Pairs.{none_waits, waits_for, in_time, completes}
use Rattle.hearing.specs.declared.heard.Who.{Who}
use Rattle.hearing.specs.declared.heard.Heard.{Heard}
use Rattle.hearing.specs.declared.heard.Waiting.{Waiting}
use Rattle.hearing.specs.declared.meaning.Once.{Once}
use Rattle.hearing.specs.declared.meaning.Once.TheVariants.{QueryMissingShortAddress, QueryContentDtr, SetDtr, SetDtrs}
use Rattle.hearing.specs.declared.meaning.Once.TheVariants.{QueryDeviceGroups}
use Rattle.hearing.specs.declared.meaning.Once.TheVariants.{ReadMemoryLocation, WriteMemoryLocation, DirectWriteMemory}
use Rattle.hearing.specs.declared.meaning.Twice.{Twice}
use Rattle.hearing.specs.declared.meaning.Twice.TheVariants.{ResetMemoryBank, SetShortAddress, EnableWriteMemory}
use Rattle.hearing.specs.declared.meaning.Twice.TheVariants.{AddToDeviceGroups, RemoveFromDeviceGroups}
use Rattle.hearing.specs.declared.meaning.Meaning.{Meaning}
use Rattle.hearing.specs.declared.meaning.Meaning.TheVariants.{Foreign, NotObeyed, AtOnce, NeedsPair}
use Rattle.hearing.proofs.ForHistory.{none_completes, one_completes, in_time_equal}
use Rattle.rooms.specs.State.{with_who, zero_registers, shut_door, zero_state}
use Rattle.rooms.specs.declared.reply.Stepped.{Stepped}
use Rattle.rooms.specs.declared.state.State.{State}
use Rattle.unit.specs.Run.{Input, power_on, hears}
use Rattle.unit.specs.Step.{frame_step}
use Rattle.unit.proofs.ForHistory.{Ready, step_accepted, power_accepted, start_accepted, content_leaves, groups_leaves}
use Rattle.unit.proofs.ForHistory.{Rooms, rooms_of, power_rooms, foreign_leaves, not_obeyed_leaves, missing_leaves}
use Rattle.unit.proofs.ForHistory.{dtr_leaves, dtrs_leaves, read_leaves, WritesAt, at_dtr0, at_offset, write_leaves}
use Rattle.unit.proofs.ForHistory.{no_write_leaves}
use Rattle.unit.proofs.ForHistory.{reset_leaves, enable_leaves, short_leaves, add_leaves, remove_leaves, half_leaves}
use Rattle.history.specs.Machine.{Left, Start, left_after, Accepted, unit_machine}
use Rattle.history.specs.Pairs.{ends_pair}
use Rattle.history.specs.Deeds.{Context, Deed, opens, resets, puts, spares, breaks, powers, executes, write_deed}
use Rattle.history.specs.Deeds.{once_deed, pair_deed, deed_by, deed_of, keeping, enabled_by}
use Rattle.history.specs.Context.{raised_from, once_registers, registers_of, pair_who, who_after, meant, deed_in}
use Rattle.history.specs.Context.{heard_in, powered_in, started_in, context, deed_after}

-- the unit's rooms, as a context
abbrev pub context_in : State → Context
context_in s = record { who = s.who; registers = s.registers; enabled = s.door.enabled }

abbrev context_of : Rooms → Context
context_of r = record { who = r.who; registers = r.registers; enabled = r.door.enabled }

-- what a deed does to the staged bytes, and to the store
unfoldable pub staged_by : List Record → List ℕ → Staged → Deed → Staged
staged_by rs store g opens = none_staged
staged_by rs store g (resets dtr0) = none_staged
staged_by rs store g (puts bank location byte) = (write_byte rs store g bank location byte).answer.staged
staged_by rs store g spares = g
staged_by rs store g breaks = none_staged
staged_by rs store g powers = none_staged

unfoldable pub store_by : List Record → List ℕ → List ℕ → Staged → Deed → List ℕ
store_by rs image store g opens = store
store_by rs image store g (resets dtr0) = filled_of rs store image (Reset dtr0)
store_by rs image store g (puts bank location byte) = (write_byte rs store g bank location byte).store
store_by rs image store g spares = store
store_by rs image store g breaks = store
store_by rs image store g powers = filled_of rs store image PowerOn

-- the context after a frame with this meaning
abbrev heard_by : List Record → Context → Bool → Meaning → Context
heard_by rs k pair m =
    record {
      who = who_after k pair m;
      registers = registers_of rs k m;
      enabled = enabled_by k.enabled (deed_of rs k pair m);
    }

-- a pair command that ends no pair waits; nothing else does
abbrev waiting_by : Heard → Bool → Meaning → Waiting
waiting_by x pair Foreign = none_waits
waiting_by x pair NotObeyed = none_waits
waiting_by x pair (AtOnce c) = none_waits
waiting_by x pair (NeedsPair c) = if pair then none_waits else waits_for x

-- what a history sees of the rooms
record View : Type 0 where
  context : Context
  waiting : Waiting
  staged : Staged
  store : List ℕ

abbrev view : Rooms → View
view r = record { context = context_of r; waiting = r.waiting; staged = r.door.staged; store = r.store }

abbrev view_by : List Record → List ℕ → List ℕ → Staged → Context → Waiting → Deed → View
view_by rs image store g k w d =
    record { context = k; waiting = w; staged = staged_by rs store g d; store = store_by rs image store g d }

module _ (rs : List Record) (image store : List ℕ) (s : State) (x : Heard) where
  abbrev Moves : Bool → Meaning → Type 0
  Moves p m =
      view (rooms_of (frame_step rs store image s x))
      ≡ view_by rs image store s.door.staged (heard_by rs (context_in s) p m) (waiting_by x p m)
      (deed_of rs (context_in s) p m)

  -- a write executes or not
  write_moves : (location byte : ℕ) → WritesAt rs store image s x location byte
      → (b : Bool) → (s.door.enabled && mapped rs s.registers.dtr1) ≡ b
      → view (rooms_of (frame_step rs store image s x))
      ≡ view_by rs image store s.door.staged
      (record {
        who = s.who;
        registers = if b then raised_from s.registers location else s.registers;
        enabled = enabled_by s.door.enabled (if b then puts s.registers.dtr1 location byte else spares);
      })
      none_waits (if b then puts s.registers.dtr1 location byte else spares)
  unfolding enabled_by keeping raised_from staged_by store_by
  write_moves location byte w true b = ap view (write_leaves rs store image s x location byte w b)
  write_moves location byte w false b = ap view (no_write_leaves rs store image s x location byte w b)

  once_moves : (p : Bool) (c : Once) → meaning_of s.who x.frame ≡ AtOnce c → Moves p (AtOnce c)
  unfolding registers_of once_registers raised_from who_after deed_of deed_by once_deed write_deed executes enabled_by
      keeping staged_by store_by
  once_moves p QueryMissingShortAddress e = ap view (missing_leaves rs store image s x e)
  once_moves p (QueryContentDtr k) e = ap view (content_leaves rs store image s x k e)
  once_moves p ReadMemoryLocation e = ap view (read_leaves rs store image s x e)
  once_moves p (QueryDeviceGroups k) e = ap view (groups_leaves rs store image s x k e)
  once_moves p (WriteMemoryLocation byte replies) e =
      write_moves s.registers.dtr0 byte (at_dtr0 e) (s.door.enabled && mapped rs s.registers.dtr1) refl
  once_moves p (DirectWriteMemory offset byte) e =
      write_moves offset byte (at_offset e) (s.door.enabled && mapped rs s.registers.dtr1) refl
  once_moves p (SetDtr k byte) e = ap view (dtr_leaves rs store image s x k byte e)
  once_moves p (SetDtrs k high low) e = ap view (dtrs_leaves rs store image s x k high low e)

  pair_moves : (c : Twice) → completes s.waiting x ≡ true → meaning_of s.who x.frame ≡ NeedsPair c
      → Moves true (NeedsPair c)
  unfolding registers_of pair_who who_after deed_of deed_by pair_deed enabled_by keeping staged_by store_by
  pair_moves ResetMemoryBank q e = ap view (reset_leaves rs store image s x q e)
  pair_moves SetShortAddress q e = ap view (short_leaves rs store image s x q e)
  pair_moves EnableWriteMemory q e = ap view (enable_leaves rs store image s x q e)
  pair_moves (AddToDeviceGroups half) q e = ap view (add_leaves rs store image s x q half e)
  pair_moves (RemoveFromDeviceGroups half) q e = ap view (remove_leaves rs store image s x q half e)

  -- a frame moves the rooms as the grammar says, if it ends a pair by the unit exactly if it does by the list
  moves : (m : Meaning) (p : Bool) → meaning_of s.who x.frame ≡ m
      → ((c : Twice) → m ≡ NeedsPair c → completes s.waiting x ≡ p) → Moves p m
  unfolding registers_of who_after deed_of deed_by enabled_by keeping staged_by store_by
  moves Foreign p e q = ap view (foreign_leaves rs store image s x e)
  moves NotObeyed p e q = ap view (not_obeyed_leaves rs store image s x e)
  moves (AtOnce c) p e q = once_moves p c e
  moves (NeedsPair c) true e q = pair_moves c (q c refl) e
  moves (NeedsPair c) false e q = ap view (half_leaves rs store image s x c (q c refl) e)

-- ---- the waiting frame is the pair rule of the list

and_no : (b : Bool) → (b && false) ≡ false
and_no true = refl
and_no false = refl

and_yes : (b : Bool) → (b && true) ≡ b
and_yes true = refl
and_yes false = refl

module _ (y x : Heard) (p : Bool) (before now : Who) (c : Twice) (is : meaning_of now x.frame ≡ NeedsPair c) where
  -- x repeats y in time
  abbrev again : Bool
  again = in_time y.frame y.clock x.frame x.clock

  -- where y is no pair command and left address and groups, x does not repeat it
  no_repeat : (m : Meaning) → meaning_of before y.frame ≡ m → before ≡ now → (m ≡ NeedsPair c → ⊥)
      → again ≡ false
  no_repeat m e w no' = go again refl
    where
      go : (b : Bool) → again ≡ b → b ≡ false
      go true b =
          let f : y.frame ≡ x.frame = in_time_equal y.frame y.clock x.frame x.clock b in
          absurd (no' (sym e ∙ ap (λ (n : ℕ). meaning_of before n) f ∙ rw w is))
      go false b = refl

  -- after y, the frame that waits makes a pair with x exactly if y ends no pair and x repeats it in time
  repeats : (m : Meaning) → meaning_of before y.frame ≡ m → (k : Context) → who_after k p m ≡ now → k.who ≡ before
      → completes (waiting_by y p m) x ≡ (again && not p)
  unfolding who_after
  repeats Foreign e k w b =
      rw (none_completes x, no_repeat Foreign e (sym b ∙ w) (λ z. let q : ◌≡◌ {A = ℕ} 0 1 = cc in omega arith))
  repeats NotObeyed e k w b =
      rw (none_completes x, no_repeat NotObeyed e (sym b ∙ w) (λ z. let q : ◌≡◌ {A = ℕ} 0 1 = cc in omega arith))
  repeats (AtOnce d) e k w b =
      rw (none_completes x, no_repeat (AtOnce d) e (sym b ∙ w) (λ z. let q : ◌≡◌ {A = ℕ} 0 1 = cc in omega arith))
  repeats (NeedsPair d) e k w b = go p
    where
      go : (b : Bool) → completes (if b then none_waits else waits_for y) x ≡ (again && not b)
      go true = rw (none_completes x, and_no again)
      go false = rw (one_completes y x, and_yes again)

-- the list's pair rule is that of the frame that waits
ends_by : (y x : Heard) (h : List Input)
    → (in_time y.frame y.clock x.frame x.clock && not (ends_pair h y)) ≡ ends_pair (hears y ∷ h) x
unfolding ends_pair in_time
ends_by y x h = refl

-- ---- over a history of accepted calls

abbrev rooms_in : Left State → Rooms
rooms_in l =
    record {
      who = l.state.who;
      registers = l.state.registers;
      waiting = l.state.waiting;
      door = l.state.door;
      store = l.store;
    }

module _ (start : Start) where
  abbrev pub records : List Record
  records = records_of start.map

  abbrev pub Runs : List Input → Type 0
  Runs h = Accepted unit_machine start h

  abbrev pub at : List Input → Left State
  at h = left_after unit_machine start h

  frame_rooms : (x : Heard) (h : List Input) → Runs (hears x ∷ h)
      → rooms_in (at (hears x ∷ h)) ≡ rooms_of (frame_step records (at h).store start.image (at h).state x)
  unfolding unit_machine
  frame_rooms x h A = ap (λ (o : Outcome Stepped). rooms_of o)
      (step_accepted start.map (at h).store start.image (at h).state x A.0).1

  -- start and power-on
  abbrev fresh_rooms : List ℕ → Who → Rooms
  fresh_rooms store who =
      record {
        who = who;
        registers = zero_registers;
        waiting = none_waits;
        door = shut_door;
        store = filled_of records store start.image PowerOn;
      }

  start_rooms : Runs [] → rooms_in (at []) ≡ fresh_rooms start.store start.who
  unfolding unit_machine with_who
  start_rooms A = ap (λ (o : Outcome Stepped). rooms_of o)
      (start_accepted start.map start.store start.image start.who A).1
      ∙ power_rooms records start.store start.image (with_who zero_state start.who) start.who refl

  power_rooms_at : (h : List Input) → Runs (power_on ∷ h)
      → rooms_in (at (power_on ∷ h)) ≡ fresh_rooms (at h).store (at h).state.who
  unfolding unit_machine
  power_rooms_at h A = ap (λ (o : Outcome Stepped). rooms_of o)
      (power_accepted start.map (at h).store start.image (at h).state A.0).1
      ∙ power_rooms records (at h).store start.image (at h).state (at h).state.who refl

  -- a pair command for the unit makes a pair with the waiting frame exactly if it ends a pair of the list
  pub halves : (h : List Input) → Runs h → (x : Heard) (c : Twice)
      → meaning_of (at h).state.who x.frame ≡ NeedsPair c
      → completes (at h).state.waiting x ≡ ends_pair h x
  unfolding ends_pair
  halves [] A x c e =
      let w : (at []).state.waiting ≡ none_waits = ap (λ (r : Rooms). r.waiting) (start_rooms A) in
      rw w (none_completes x)
  halves (power_on ∷ h) A x c e =
      let w : (at (power_on ∷ h)).state.waiting ≡ none_waits =
      ap (λ (r : Rooms). r.waiting) (power_rooms_at h A) in
      rw w (none_completes x)
  halves (hears y ∷ h) A x c e =
      let s : State = (at h).state in
      let m : Meaning = meaning_of s.who y.frame in
      let M = moves records start.image (at h).store s y m (ends_pair h y) refl (λ d q. halves h A.1 y d q) in
      let F = frame_rooms y h A in
      let w : (at (hears y ∷ h)).state.waiting ≡ waiting_by y (ends_pair h y) m = ap (λ (r : Rooms). r.waiting) F
      ∙ ap (λ (u : View). u.waiting) M in
      let k : (at (hears y ∷ h)).state.who ≡ who_after (context_in s) (ends_pair h y) m =
      ap (λ (r : Rooms). r.who) F ∙ ap (λ (u : View). u.context.who) M in
      rw w (repeats y x (ends_pair h y) s.who (at (hears y ∷ h)).state.who c e m refl (context_in s) (sym k) refl)
      ∙ ends_by y x h

  -- a frame's move, by the unit's own rooms
  frame_moved : (x : Heard) (h : List Input) → Runs (hears x ∷ h)
      → let s : State = (at h).state in
      view (rooms_in (at (hears x ∷ h)))
      ≡ view_by records start.image (at h).store s.door.staged
      (heard_in records (context_in s) (ends_pair h x) x) (waiting_by x (ends_pair h x) (meant (context_in s) x))
      (deed_in records (context_in s) (ends_pair h x) x)
  unfolding heard_in deed_in meant
  frame_moved x h A =
      ap view (frame_rooms x h A)
      ∙ moves records start.image (at h).store (at h).state x _ (ends_pair h x) refl (λ c q. halves h A.1 x c q)

  -- the unit's context is the grammar's
  pub agree : (h : List Input) → Runs h → context_in (at h).state ≡ context records start.who h
  unfolding context powered_in started_in
  agree [] A = ap context_of (start_rooms A)
  agree (power_on ∷ h) A =
      ap context_of (power_rooms_at h A) ∙ ap powered_in (agree h A.1)
  agree (hears x ∷ h) A =
      ap (λ (u : View). u.context) (frame_moved x h A)
      ∙ ap (λ (k : Context). heard_in records k (ends_pair h x) x) (agree h A.1)

  -- what an input does to the staged bytes and to the store, by the grammar's reading of it
  pub record Done (x : Input) (h : List Input) : Type 0 where
    pub staged_is : (at (x ∷ h)).state.door.staged
        ≡ staged_by records (at h).store (at h).state.door.staged (deed_after records start.who h x)
    pub store_is : (at (x ∷ h)).store ≡ store_by records start.image (at h).store (at h).state.door.staged
        (deed_after records start.who h x)

  pub done_by : (x : Input) (h : List Input) → Runs (x ∷ h) → Done x h
  unfolding deed_after staged_by store_by
  done_by power_on h A =
      let F = power_rooms_at h A in
      record { staged_is = ap (λ (r : Rooms). r.door.staged) F; store_is = ap (λ (r : Rooms). r.store) F }
  done_by (hears x) h A =
      let M = frame_moved x h A in
      let d : deed_in records (context_in (at h).state) (ends_pair h x) x ≡ deed_after records start.who h (hears x) =
      ap (λ (k : Context). deed_in records k (ends_pair h x) x) (agree h A.1) in
      record {
        staged_is = ap (λ (u : View). u.staged) M
            ∙ ap (staged_by records (at h).store (at h).state.door.staged) d;
        store_is = ap (λ (u : View). u.store) M
            ∙ ap (store_by records start.image (at h).store (at h).state.door.staged) d;
      }

  -- the start leaves nothing staged, and the store filled
  pub start_staged : Runs [] → (at []).state.door.staged ≡ none_staged
  start_staged A = ap (λ (r : Rooms). r.door.staged) (start_rooms A)

  pub start_store : Runs [] → (at []).store ≡ filled_of records start.store start.image PowerOn
  start_store A = ap (λ (r : Rooms). r.store) (start_rooms A)

  -- what an accepted input was handed
  pub ready : (x : Input) (h : List Input) → Runs (x ∷ h)
      → Ready start.map (at h).store start.image (at h).state
  unfolding unit_machine
  ready power_on h A = (power_accepted start.map (at h).store start.image (at h).state A.0).0
  ready (hears x) h A = (step_accepted start.map (at h).store start.image (at h).state x A.0).0

  pub start_stands : (h : List Input) → Runs h → Stands start.map start.store (length start.image)
  unfolding unit_machine
  start_stands [] A = (start_accepted start.map start.store start.image start.who A).0
  start_stands (x ∷ h) A = start_stands h A.1
