-- P11's list has a complete writing of its value of width 4, P12's has none.
-- Assumes nothing.
use mathlib.Core.Path.{◌≡◌, refl, ap}
use mathlib.Core.Logic.{◌⊎◌, inl, inr}
use mathlib.Core.Bool.{Bool, true, ◌&&◌}
use mathlib.Core.List.{List, [], ◌∷◌, reverse}
use Prim.Native.Nat.{ℕ, suc, ◌≤◌, ◌<◌}
use native.Mathlib.Omega.{arith}
use lib.Dec.{ltb}
use lib.ListN.{length}
use borrow.Author.Tests.{ltb-true}
use Rattle.laws.specs.Bits.{bits}
use Rattle.laws.proofs.Tests.{both}
use Rattle.frames.specs.Kind.{kind_of}
use Rattle.frames.specs.Read as read
use Rattle.frames.specs.Values.{target_at}
use Rattle.records.specs.Map.{record_at, records_of}
use Rattle.records.specs.declared.record.Record.{Record}
use Rattle.records.specs.Facts.{FieldsHold}
use Rattle.memory.proofs.ForHistoryStaged.{taking, unfinished}
use Rattle.hearing.specs.Meaning.{device_command, first_special, special_command, meaning_of}
use Rattle.hearing.specs.Pairs.{passed}
use Rattle.hearing.specs.declared.heard.Who.{Who}
use Rattle.rooms.specs.Due.{with_dtr}
use Rattle.unit.specs.Bench.{bench_map, bench_who}
use Rattle.unit.specs.Run.{Input}
use Rattle.history.specs.Bench.{p11_frames, p12_frames, bench_value, P11Writing, P12NoWriting}
use Rattle.history.specs.Context.{raised_from, once_registers, registers_of, pair_who, who_after, heard_in, powered_in}
use Rattle.history.specs.Context.{started_in, meant, deed_in, context, deed_after}
use Rattle.history.specs.Lock.{lock_by, lock}
use Rattle.history.specs.Deeds.{executes, write_deed, once_deed, pair_deed, deed_by, deed_of, keeping, enabled_by}
use Rattle.history.specs.Pairs.{ends_pair}
use Rattle.history.specs.Writing.{past, WritingAt}
use Rattle.history.proofs.Growing.{Writing, writing_ripe, ripe_writing}
use Rattle.history.proofs.Past.{past_all, past_old, last_or}
use Rattle.history.proofs.Placed.{placed, unplaced}
use Rattle.history.proofs.Progress.{ripe_by, ok_for, ripe}

fields : FieldsHold bench_value
fields =
    record {
      low_bank = omega arith;
      some_width = omega arith;
      most_width = omega arith;
      last = omega arith;
      low_kind = omega arith;
      locks = inr (refl, refl);
    }

-- no point of the list has a whole value ripe
never : List Record → Who → Record → List Input → Bool
never rs who v [] = true
never rs who v (x ∷ h) = ltb (length (ripe rs who v (x ∷ h))) v.width && never rs who v h

module _ (rs : List Record) (who : Who) (v : Record) (F : FieldsHold v) where
  not_ripe : (h : List Input) → ltb (length (ripe rs who v h)) v.width ≡ true → (bs : List ℕ)
      → WritingAt rs who v bs h → ⊥
  not_ripe h e bs w =
      let W : Writing rs who v bs h = unplaced rs who v bs h w F.some_width in
      let l : length (ripe rs who v h) ≡ length bs = ap length (writing_ripe v F rs who W) in
      let k : length (ripe rs who v h) < v.width = ltb-true _ _ e in
      omega (arith, W.whole)

  no_writing : (h : List Input) → never rs who v h ≡ true → (i : ℕ) → i < length h → (bs : List ℕ)
      → ¬ WritingAt rs who v bs (past h (suc i))
  unfolding never
  no_writing [] e i l bs w = elim l [ ]
  no_writing (x ∷ h) e i l bs w = go (no_writing h p.1 i) (last_or i (length h) l)
    where
      p : (ltb (length (ripe rs who v (x ∷ h))) v.width ≡ true) × (never rs who v h ≡ true)
      p = both (ltb (length (ripe rs who v (x ∷ h))) v.width) (never rs who v h) e

      go : (i < length h → (cs : List ℕ) → ¬ WritingAt rs who v cs (past h (suc i))) → (i ≡ length h) ⊎ (i < length h)
          → ⊥
      go ih (inl z) = not_ripe (x ∷ h) p.0 bs (rw (z, past_all (x ∷ h)) at w)
      go ih (inr z) = ih z bs (rw (past_old x h (suc i) z) at w)

-- what the grammar makes of the two lists, computed
record Read : Type 0 where
  of_p11 : ripe (records_of bench_map) bench_who bench_value (reverse p11_frames) ≡ 0x00 ∷ 0x00 ∷ 0x01 ∷ 0x2C ∷ []
  of_p12 : never (records_of bench_map) bench_who bench_value (reverse p12_frames) ≡ true

reads : Read
unfolding never ripe ripe_by ok_for taking unfinished lock lock_by deed_after context meant deed_in powered_in started_in
    heard_in who_after pair_who registers_of once_registers raised_from enabled_by keeping deed_of deed_by pair_deed once_deed
    write_deed executes ends_pair passed with_dtr meaning_of special_command first_special device_command target_at
    read.address_of read.target_of read.command_of read.read_of kind_of records_of record_at bits
reads = record { of_p11 = refl; of_p12 = refl }

pub p11_writing : P11Writing
p11_writing =
    let R : List Record = records_of bench_map in
    let k : 4 ≤ length (ripe (records_of bench_map) bench_who bench_value (reverse p11_frames)) =
    rw reads.of_p11 (omega arith) in
    rw reads.of_p11 at (placed R bench_who bench_value _ (reverse p11_frames)
    (ripe_writing bench_value fields R bench_who (reverse p11_frames) k))

pub p12_no_writing : P12NoWriting
p12_no_writing i l bs w =
    no_writing (records_of bench_map) bench_who bench_value fields (reverse p12_frames) reads.of_p12 i l bs w
