-- What may be due, and what is then known of the command: the one walk over the listed commands, for any statement.
-- Assumes nothing.
use Prim.Native.Nat.{ℕ}
use mathlib.Core.Path.{◌≡◌, refl, sym, ap, ◌∙◌}
use mathlib.Core.Bool.{Bool, true, false, ◌&&◌, ◌||◌}
use mathlib.Core.List.{List}
use lib.Dec.{eqb, ltb, leb-suc-suc}
use Rattle.laws.proofs.Tests.{if_by, both, clash}
use Rattle.records.specs.Map.{mapped}
use Rattle.records.specs.declared.record.Record.{Record}
use Rattle.hearing.specs.Meaning.{meaning_of, closes}
use Rattle.hearing.specs.Pairs.{completes}
use Rattle.hearing.specs.declared.heard.Who.{Who}
use Rattle.hearing.specs.declared.heard.Heard.{Heard}
use Rattle.hearing.specs.declared.meaning.Once.{Once}
use Rattle.hearing.specs.declared.meaning.Twice.{Twice}
use Rattle.hearing.specs.declared.meaning.Meaning.{Meaning}
use Rattle.hearing.specs.declared.meaning.Meaning.TheVariants.{Foreign, NotObeyed, AtOnce, NeedsPair}
use Rattle.rooms.specs.Rules.{address_holds, needs_pair}
use Rattle.rooms.specs.Due.{short_due, write_due, read_due, once_due, pair_due, due_by, due_of}
use Rattle.rooms.specs.declared.state.Registers.{Registers}
use Rattle.rooms.specs.declared.state.State.{State}
use Rattle.rooms.specs.declared.due.Due.{Due}
use Rattle.rooms.specs.declared.due.Due.TheVariants.{Nothing, Waits, Opens, Resets, Becomes, Loads, Answers}
use Rattle.rooms.specs.declared.due.Due.TheVariants.{Writes, Reads}

-- SET SHORT ADDRESS takes exactly what may be an address
pub short_same : (dtr0 : ℕ) → (ltb dtr0 0x40 || eqb dtr0 255) ≡ address_holds dtr0
short_same dtr0 = ap (λ below. below || eqb dtr0 255) (leb-suc-suc dtr0 _)

module _ (rs : List Record) (s : State) (heard : Heard) where
  -- a statement about whether the frame closes write-enable and what is due, case by case
  pub record Cases (P : Bool → Due → Type 0) : Type 0 where
    pub nothing : (closing : Bool) → P closing Nothing
    -- a pair command for the unit
    pub waits : needs_pair (meaning_of s.who heard.frame) ≡ true → P true Waits
    pub opens : P true Opens
    pub resets : (dtr0 : ℕ) → P true (Resets dtr0)
    -- what was an address is one again
    pub becomes : (who : Who) → (address_holds s.who.address ≡ true → address_holds who.address ≡ true)
        → P true (Becomes who)
    pub loads : (registers : Registers) → P false (Loads registers)
    pub answers : (closing : Bool) (byte : ℕ) → P closing (Answers byte)
    -- write-enable is open
    pub writes : s.door.enabled ≡ true → (bank location byte : ℕ) (replying : Bool)
        → P false (Writes bank location byte replying)
    pub reads : (bank location : ℕ) → P true (Reads bank location)

  module _ (P : Bool → Due → Type 0) (c : Cases P) where
    write_due_lem : (location byte : ℕ) (replies : Bool)
        → P false (write_due rs s.door.enabled s.registers location byte replies)
    unfolding write_due
    write_due_lem location byte replies =
        if_by (P false) (s.door.enabled && mapped rs s.registers.dtr1)
        (λ e. c.writes (both s.door.enabled _ e).0 s.registers.dtr1 location byte replies)
        (λ e. c.nothing false)

    at_once : (once : Once) → P (closes (AtOnce once)) (once_due rs s once)
    unfolding once_due read_due
    at_once Once.QueryMissingShortAddress =
        if_by (P true) (eqb s.who.address 255) (λ e. c.answers true 0xFF) (λ e. c.nothing true)
    at_once (Once.QueryContentDtr k) = c.answers false _
    at_once Once.ReadMemoryLocation =
        if_by (P true) (mapped rs s.registers.dtr1) (λ e. c.reads _ _) (λ e. c.nothing true)
    at_once (Once.QueryDeviceGroups k) = c.answers true _
    at_once (Once.WriteMemoryLocation byte replies) = write_due_lem s.registers.dtr0 byte replies
    at_once (Once.DirectWriteMemory offset byte) = write_due_lem offset byte true
    at_once (Once.SetDtr k byte) = c.loads _
    at_once (Once.SetDtrs k high low) = c.loads _

    paired : (twice : Twice) → P true (pair_due s twice)
    unfolding pair_due short_due
    paired Twice.ResetMemoryBank = c.resets s.registers.dtr0
    paired Twice.SetShortAddress =
        if_by (P true) (ltb s.registers.dtr0 0x40 || eqb s.registers.dtr0 255)
        (λ e. c.becomes _ (λ a. sym (short_same s.registers.dtr0) ∙ e)) (λ e. c.nothing true)
    paired Twice.EnableWriteMemory = c.opens
    paired (Twice.AddToDeviceGroups half) = c.becomes _ (λ a. a)
    paired (Twice.RemoveFromDeviceGroups half) = c.becomes _ (λ a. a)

    by_meaning : (m : Meaning) → meaning_of s.who heard.frame ≡ m → P (closes m) (due_by rs s heard m)
    unfolding due_by
    by_meaning Foreign e = c.nothing false
    by_meaning NotObeyed e = c.nothing true
    by_meaning (AtOnce once) e = at_once once
    by_meaning (NeedsPair twice) e =
        if_by (P true) (completes s.waiting heard) (λ t. paired twice) (λ t. c.waits (ap needs_pair e))

    pub by_due : P (closes (meaning_of s.who heard.frame)) (due_of rs s heard)
    unfolding due_of
    by_due = by_meaning (meaning_of s.who heard.frame) refl

-- ---- a command that needs a pair

pub pair_closes : (m : Meaning) → needs_pair m ≡ true → closes m ≡ true
pair_closes Foreign e = clash false e refl
pair_closes NotObeyed e = clash false e refl
pair_closes (AtOnce once) e = clash false e refl
pair_closes (NeedsPair twice) e = refl

-- waits, unless it completes a pair
pub pair_waits : (rs : List Record) (s : State) (heard : Heard) (m : Meaning) → needs_pair m ≡ true
    → completes s.waiting heard ≡ false → due_by rs s heard m ≡ Waits
unfolding due_by
pair_waits rs s heard Foreign e c = clash false e refl
pair_waits rs s heard NotObeyed e c = clash false e refl
pair_waits rs s heard (AtOnce once) e c = clash false e refl
pair_waits rs s heard (NeedsPair twice) e c = rw c

-- and nothing else waits
pub waits_pair : (rs : List Record) (s : State) (heard : Heard) → due_of rs s heard ≡ Waits
    → needs_pair (meaning_of s.who heard.frame) ≡ true
waits_pair rs s heard =
    by_due rs s heard (λ closing due. due ≡ Waits → needs_pair (meaning_of s.who heard.frame) ≡ true)
    (record {
      nothing = λ closing e. cc;
      waits = λ h e. h;
      opens = λ e. cc;
      resets = λ dtr0 e. cc;
      becomes = λ who a e. cc;
      loads = λ registers e. cc;
      answers = λ closing byte e. cc;
      writes = λ h bank location byte replying e. cc;
      reads = λ bank location e. cc;
    })
