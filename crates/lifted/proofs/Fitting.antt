-- Each call leaves a state that 96 bytes hold, where what it is told has 32 bits.
-- Assumes nothing.
use mathlib.Core.Path.{◌≡◌, refl, ◌∙◌}
use mathlib.Core.Bool.{Bool, true, false, ◌&&◌, ◌||◌}
use mathlib.Core.List.{List}
use Prim.Native.Nat.{ℕ, ◌+◌, ◌-◌, ◌^◌, ◌<◌}
use native.Mathlib.Omega.{arith}
use borrow.Author.Tests.{eqb-true}
use lib.Bits.{or_lt, and_le_l}
use lib.Dec.{leb, eqb, ltb}
use lib.ListN.{length, replicate, length-set, length-append, length-replicate}
use Rattle.std.specs.Prelude.{Result, Ok, Err}
use Rattle.laws.specs.Bits.{bits}
use Rattle.laws.specs.Outcome.{Outcome}
use Rattle.laws.proofs.Bits.{small}
use Rattle.laws.proofs.Tests.{if_by}
use Rattle.laws.proofs.Parts.{length_part}
use Rattle.records.specs.Map.{records_of, mapped}
use Rattle.records.specs.Lookup.{holder}
use Rattle.records.specs.declared.record.Record.{Record}
use Rattle.records.specs.declared.holder.Why.{Why}
use Rattle.banks.specs.Rules.{placed}
use Rattle.banks.specs.Values.{value_of, padded}
use Rattle.banks.specs.Facts.{Within}
use Rattle.banks.proofs.Places.{holder_within}
use Rattle.memory.specs.Staged.{bytes_with, take_byte, taken, write_found, write_at, write_byte}
use Rattle.memory.specs.Latched.{latch_from, latches, show_byte, read_at, read_byte}
use Rattle.memory.specs.declared.staged.Staged.{Staged}
use Rattle.memory.specs.declared.staged.Wrote.{Wrote}
use Rattle.memory.specs.declared.latched.Latch.{Latch}
use Rattle.memory.specs.declared.latched.Shown.{Shown}
use Rattle.hearing.specs.Meaning.{meaning_of, closes}
use Rattle.hearing.specs.Pairs.{completes}
use Rattle.hearing.specs.declared.heard.Heard.{Heard}
use Rattle.hearing.specs.declared.heard.Who.{Who}
use Rattle.hearing.specs.declared.meaning.Once.{Once}
use Rattle.hearing.specs.declared.meaning.Twice.{Twice}
use Rattle.hearing.specs.declared.meaning.Meaning.{Meaning}
use Rattle.hearing.specs.declared.meaning.Meaning.TheVariants.{Foreign, NotObeyed, AtOnce, NeedsPair}
use Rattle.hearing.proofs.Codes.{code_stands}
use Rattle.rooms.specs.State.{with_who, with_registers, with_waiting, with_door, with_latch, powered_on, zero_state}
use Rattle.rooms.specs.Due.{with_dtr, group_word, short_due, write_due, read_due, once_due, pair_due, due_by, due_of}
use Rattle.rooms.specs.Reply.{quiet, answering, refusing}
use Rattle.rooms.specs.declared.state.Registers.{Registers}
use Rattle.rooms.specs.declared.state.State.{State}
use Rattle.rooms.specs.declared.reply.Stepped.{Stepped}
use Rattle.rooms.specs.declared.due.Due.{Due}
use Rattle.rooms.specs.declared.due.Due.TheVariants.{Nothing, Waits, Opens, Resets, Becomes, Loads, Answers}
use Rattle.rooms.specs.declared.due.Due.TheVariants.{Writes, Reads}
use Rattle.numbers.specs.Numbers.{step_number, power_number, start_number}
use Rattle.unit.specs.Step.{cleared, raised, written, read_by, done, frame_step, power_step, step_of, power_on_of, start_of}
use Rattle.unit.proofs.Sound.{step_sound}
use Rattle.packing.specs.Promises.{StateHeld}

-- the two DTRs that become groups are bytes
pub record Low (d : Registers) : Type 0 where
  pub one : d.dtr1 < 256
  pub two : d.dtr2 < 256

-- a state that 96 bytes hold, and that stays one
pub record Fits (s : State) : Type 0 where
  pub held : StateHeld s
  pub low : Low s.registers

-- ---- staged and latched bytes are eight

module _ (g : Staged) (long : length g.bytes ≡ 8) where
  abbrev Eight : Outcome Wrote → Type 0
  Eight o = length o.answer.staged.bytes ≡ 8

  with_eight : (k byte : ℕ) → length (bytes_with g k byte) ≡ 8
  unfolding bytes_with
  with_eight k byte =
      if_by (λ (b : List ℕ). length b ≡ 8) (eqb k 0)
      (λ e. length-set (replicate 8 0) 0 byte) (λ e. length-set g.bytes k byte ∙ long)

  write_eight : (rs : List Record) (store : List ℕ) (bank location byte : ℕ)
      → Eight (write_byte rs store g bank location byte)
  unfolding write_byte write_at write_found take_byte
  write_eight rs store bank location byte = go (holder rs bank location)
    where
      go : (f : Result Record Why) → Eight (write_at rs store g location byte f)
      go (Ok r) =
          if_by Eight (taken rs store g r location)
          (λ e. if_by Eight (eqb (location - r.first + 1) r.width) (λ q. refl)
          (λ q. with_eight (location - r.first) byte))
          (λ e. refl)
      go (Err w) = refl

module _ (map store : List ℕ) (p : placed map (length store) ≡ true) (l : Latch) (long : length l.bytes ≡ 8) where
  abbrev EightShown : Shown → Type 0
  EightShown a = length a.latch.bytes ≡ 8

  padded_eight : (bank location : ℕ) (r : Record) → holder (records_of map) bank location ≡ Ok r
      → length (padded (value_of r store)) ≡ 8
  unfolding value_of
  padded_eight bank location r f =
      let w : Within map (length store) bank location r = holder_within map (length store) bank location p r f in
      let n = length_part r.offset r.width store w.inside in
      let k = w.fields.most_width in
      length-append (value_of r store) _ ∙ rw (length-replicate) (omega arith)

  read_eight : (bank location : ℕ) → EightShown (read_byte (records_of map) store l bank location)
  unfolding read_byte read_at show_byte latch_from
  read_eight bank location = go (holder (records_of map) bank location) refl
    where
      go : (f : Result Record Why) → holder (records_of map) bank location ≡ f → EightShown (read_at store l location f)
      go (Ok r) q =
          if_by EightShown (eqb (location - r.first) 0)
          (λ e. if_by (λ (m : Latch). length m.bytes ≡ 8) (leb 2 r.width)
          (λ t. padded_eight bank location r q) (λ t. refl))
          (λ e. if_by EightShown (latches l r) (λ t. long) (λ t. long))
      go (Err w) q = long

-- ---- what is due

-- new groups have 32 bits, and new DTRs are bytes
abbrev FitsDue : Due → Type 0
FitsDue Nothing = Unit
FitsDue Waits = Unit
FitsDue Opens = Unit
FitsDue (Resets dtr0) = Unit
FitsDue (Becomes who) = who.groups < 2 ^ 32
FitsDue (Loads d) = Low d
FitsDue (Answers byte) = Unit
FitsDue (Writes bank location byte replying) = Unit
FitsDue (Reads bank location) = Unit

module _ (rs : List Record) (s : State) (x : Heard) (h : Fits s) where
  with_low : (d : Registers) → Low d → (k byte : ℕ) → byte < 256 → Low (with_dtr d k byte)
  unfolding with_dtr
  with_low d l k byte b =
      if_by Low (eqb k 0) (λ e. record { one = l.one; two = l.two })
      (λ e. if_by Low (eqb k 1) (λ t. record { one = b; two = l.two }) (λ t. record { one = l.one; two = b }))

  word_fits : (half : ℕ) → group_word s.registers half < 2 ^ 32
  unfolding group_word
  word_fits half =
      let a = h.low.one in
      let b = h.low.two in
      if_by (λ (n : ℕ). n < 2 ^ 32) (eqb half 0) (λ e. omega arith) (λ e. omega arith)

  byte_fits : (n hi lo : ℕ) → hi + 1 - lo ≡ 8 → bits x.frame hi lo ≡ n → n < 256
  byte_fits n hi lo w e = rw (e, w) at (small x.frame hi lo)

  once_fits : (once : Once) → meaning_of s.who x.frame ≡ AtOnce once → FitsDue (once_due rs s once)
  unfolding once_due read_due write_due
  once_fits Once.QueryMissingShortAddress e = if_by FitsDue (eqb s.who.address 255) (λ t. tt) (λ t. tt)
  once_fits (Once.QueryContentDtr k) e = tt
  once_fits Once.ReadMemoryLocation e = if_by FitsDue (mapped rs s.registers.dtr1) (λ t. tt) (λ t. tt)
  once_fits (Once.QueryDeviceGroups k) e = tt
  once_fits (Once.WriteMemoryLocation byte replies) e =
      if_by FitsDue (s.door.enabled && mapped rs s.registers.dtr1) (λ t. tt) (λ t. tt)
  once_fits (Once.DirectWriteMemory offset byte) e =
      if_by FitsDue (s.door.enabled && mapped rs s.registers.dtr1) (λ t. tt) (λ t. tt)
  once_fits (Once.SetDtr k byte) e =
      let c = rw e at (code_stands s.who x.frame) in
      with_low s.registers h.low k byte (byte_fits byte 7 0 refl c.2)
  once_fits (Once.SetDtrs k high low) e =
      let c = rw e at (code_stands s.who x.frame) in
      with_low _ (with_low s.registers h.low (k + 1) high (byte_fits high 15 8 refl c.1))
      k low (byte_fits low 7 0 refl c.2)

  pair_fits : (twice : Twice) → FitsDue (pair_due s twice)
  unfolding pair_due short_due
  pair_fits Twice.ResetMemoryBank = tt
  pair_fits Twice.SetShortAddress =
      if_by FitsDue (ltb s.registers.dtr0 0x40 || eqb s.registers.dtr0 255) (λ t. h.held.groups) (λ t. tt)
  pair_fits Twice.EnableWriteMemory = tt
  pair_fits (Twice.AddToDeviceGroups half) = or_lt 32 _ _ h.held.groups (word_fits half)
  pair_fits (Twice.RemoveFromDeviceGroups half) =
      omega (arith, and_le_l s.who.groups (0xFFFFFFFF - group_word s.registers half), h.held.groups)

  due_fits : (m : Meaning) → meaning_of s.who x.frame ≡ m → FitsDue (due_by rs s x m)
  unfolding due_by
  due_fits Foreign e = tt
  due_fits NotObeyed e = tt
  due_fits (AtOnce once) e = once_fits once e
  due_fits (NeedsPair twice) e = if_by FitsDue (completes s.waiting x) (λ t. pair_fits twice) (λ t. tt)

-- ---- what is done

-- C's numbers
pub record Heard32 (x : Heard) : Type 0 where
  pub frame : x.frame < 2 ^ 32
  pub clock : x.clock < 2 ^ 32

-- from what stands in each room
fit : (s : State) → s.who.groups < 2 ^ 32 → Low s.registers
    → s.waiting.frame < 2 ^ 32 → s.waiting.clock < 2 ^ 32
    → length s.door.staged.bytes ≡ 8 → length s.latch.bytes ≡ 8 → Fits s
fit s g d f c a b = record { held = record { groups = g; frame = f; clock = c; staged = a; latched = b }; low = d }

pub hearing_fits : (s : State) (closing : Bool) → Fits s → Fits (cleared s closing)
unfolding cleared with_waiting with_door
hearing_fits s true h = fit _ h.held.groups h.low (omega arith) (omega arith) refl h.held.latched
hearing_fits s false h =
    fit _ h.held.groups h.low (omega arith) (omega arith) h.held.staged h.held.latched

-- DTR0 is the one that rises
raised_low : (d : Registers) (byte : ℕ) → Low d → Low (with_dtr d 0 byte)
unfolding with_dtr
raised_low d byte l = record { one = l.one; two = l.two }

module _ (map store image : List ℕ) (x : Heard) (xh : Heard32 x) where
  done_fits : placed map (length store) ≡ true → (s : State) → Fits s → (due : Due) → FitsDue due
      → Fits (done (records_of map) store image s x due).answer.state
  unfolding done quiet answering written read_by raised with_who with_registers with_waiting with_door with_latch
  done_fits p s h Nothing d = h
  done_fits p s h Waits d =
      fit _ h.held.groups h.low xh.frame xh.clock h.held.staged h.held.latched
  done_fits p s h Opens d =
      fit _ h.held.groups h.low h.held.frame h.held.clock refl h.held.latched
  done_fits p s h (Resets dtr0) d = h
  done_fits p s h (Becomes who) d =
      fit _ d h.low h.held.frame h.held.clock h.held.staged h.held.latched
  done_fits p s h (Loads registers) d =
      fit _ h.held.groups d h.held.frame h.held.clock h.held.staged h.held.latched
  done_fits p s h (Answers byte) d = h
  done_fits p s h (Writes bank location byte replying) d =
      fit _ h.held.groups (raised_low s.registers _ h.low) h.held.frame h.held.clock
      (write_eight s.door.staged h.held.staged (records_of map) store bank location byte) h.held.latched
  done_fits p s h (Reads bank location) d =
      fit _ h.held.groups (raised_low s.registers _ h.low) h.held.frame h.held.clock
      h.held.staged (read_eight map store p s.latch h.held.latched bank location)

  -- a frame step
  pub step_fits : (s : State) → Fits s → Fits (step_of map store image s x).answer.state
  unfolding step_of frame_step due_of refusing
  step_fits s h =
      if_by (λ (o : Outcome Stepped). Fits o.answer.state) (eqb (step_number map store (length image) s x) 0)
      (λ e. done_fits (step_sound map store (length image) s x (eqb-true _ 0 e)).standing.in_place
      (cleared s (closes (meaning_of s.who x.frame))) (hearing_fits s _ h)
      (due_by (records_of map) s x (meaning_of s.who x.frame))
      (due_fits (records_of map) s x h (meaning_of s.who x.frame) refl))
      (λ e. h)

module _ (map store image : List ℕ) where
  powered_fits : (s : State) → s.who.groups < 2 ^ 32 → Fits (power_step (records_of map) store image s).answer.state
  unfolding power_step quiet powered_on with_registers with_waiting with_door with_latch
  powered_fits s g = fit _ g (record { one = omega arith; two = omega arith }) (omega arith) (omega arith) refl refl

  -- a later power-on
  pub power_fits_lem : (s : State) → Fits s → Fits (power_on_of map store image s).answer.state
  unfolding power_on_of refusing
  power_fits_lem s h =
      if_by (λ (o : Outcome Stepped). Fits o.answer.state) (eqb (power_number map store (length image) s) 0)
      (λ e. powered_fits s h.held.groups) (λ e. h)

  -- a start; a refused one leaves all zeros
  pub start_fits : (who : Who) → who.groups < 2 ^ 32 → Fits (start_of map store image who).answer.state
  unfolding start_of refusing zero_state with_who
  start_fits who g =
      if_by (λ (o : Outcome Stepped). Fits o.answer.state) (eqb (start_number map store (length image) who) 0)
      (λ e. powered_fits (with_who zero_state who) g)
      (λ e. fit _ (omega arith) (record { one = omega arith; two = omega arith }) (omega arith) (omega arith) refl refl)
