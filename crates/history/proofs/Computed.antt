-- The bench sheet's lists on the machines, computed.
-- Assumes nothing.
use mathlib.Core.Path.{◌≡◌, refl}
use mathlib.Core.List.{List, [], ◌∷◌, reverse}
use Prim.Native.Nat.{ℕ}
use Rattle.laws.specs.Bits.{bits}
use Rattle.laws.specs.Numbers.{first_failing}
use Rattle.laws.specs.Parts.{part, put}
use Rattle.frames.specs.Kind.{kind_of}
use Rattle.frames.specs.Read as read
use Rattle.frames.specs.Values.{target_at}
use Rattle.records.specs.Lookup.{holder, if_first, beginner}
use Rattle.records.specs.Map.{record_at, records_of}
use Rattle.records.specs.Order.{size_holds}
use Rattle.banks.specs.Values.{value_of, put_value, byte_at, lock_byte}
use Rattle.banks.specs.Rules.{lengths_hold, places_hold, bank_holds, banks_hold, head_byte_holds, head_holds, head_bytes_hold}
use Rattle.memory.specs.Filled.{selects, chosen, fresh, filled_of}
use Rattle.memory.specs.Rules.{zero_from, staged_in, staged_holds, latched_in, latch_holds}
use Rattle.memory.specs.Staged.{unlocked, taken, bytes_with, take_byte, write_found, write_at, write_byte}
use Rattle.hearing.specs.Meaning.{device_command, first_special, special_command, meaning_of}
use Rattle.hearing.specs.Pairs.{passed, in_time, completes}
use Rattle.rooms.specs.Due.{dtr_of, with_dtr, short_due, write_due, once_due, pair_due, due_by, due_of}
use Rattle.rooms.specs.Rules.{waiting_holds, door_holds, state_holds}
use Rattle.rooms.specs.State.{with_who, with_registers, with_waiting, with_door, with_latch, powered_on, zero_state}
use Rattle.rooms.specs.Reply.{quiet, answering, refusing}
use Rattle.numbers.specs.Numbers.{step_number, start_number}
use Rattle.unit.specs.Run.{Input}
use Rattle.unit.specs.Step.{cleared, raised, written, done, frame_step, power_step, step_of, start_of}
use Rattle.history.specs.Bench.{bench, p11_frames, p12_frames, bench_value, p11_twice, p11_anew}
use Rattle.history.specs.Demand.{bytes_of}
use Rattle.history.specs.Wrong.{each_byte, first_only, never_stores}
use Rattle.history.specs.Machine.{Machine, Accepted, unit_machine}

-- on the bench, after the list: every call accepted, and the value of width 4 is these bytes
abbrev pub Gives : {S : Type 0} → Machine S → List Input → List ℕ → Type 0
Gives machine xs bytes =
    Accepted machine bench (reverse xs) × (bytes_of machine bench bench_value (reverse xs) ≡ bytes)

pub record Runs : Type 0 where
  pub ours_p12 : Gives unit_machine p12_frames (0x00 ∷ 0x00 ∷ 0x00 ∷ 0x64 ∷ [])
  pub each_byte_p12 : Gives each_byte p12_frames (0x00 ∷ 0x00 ∷ 0x01 ∷ 0x64 ∷ [])
  pub ours_p11 : Gives unit_machine p11_frames (0x00 ∷ 0x00 ∷ 0x01 ∷ 0x2C ∷ [])
  pub never_stores_p11 : Gives never_stores p11_frames (0x00 ∷ 0x00 ∷ 0x00 ∷ 0x64 ∷ [])
  pub ours_twice : Gives unit_machine p11_twice (0x00 ∷ 0x00 ∷ 0x02 ∷ 0x2C ∷ [])
  pub first_only_twice : Gives first_only p11_twice (0x00 ∷ 0x00 ∷ 0x01 ∷ 0x2C ∷ [])
  pub first_only_anew : bytes_of first_only bench bench_value (reverse p11_anew) ≡ 0x00 ∷ 0x00 ∷ 0x01 ∷ 0x2C ∷ []
  pub ours_anew : bytes_of unit_machine bench bench_value (reverse p11_anew) ≡ 0x00 ∷ 0x00 ∷ 0x01 ∷ 0x2C ∷ []

pub runs : Runs
unfolding unit_machine each_byte first_only never_stores step_of start_of step_number start_number frame_step power_step done
    written raised cleared refusing answering quiet powered_on zero_state with_latch with_door with_waiting with_registers
    with_who state_holds door_holds waiting_holds due_of due_by pair_due once_due write_due short_due with_dtr dtr_of completes
    in_time passed meaning_of special_command first_special device_command write_byte write_at write_found take_byte bytes_with
    taken unlocked latch_holds latched_in zero_from staged_holds staged_in filled_of fresh chosen selects head_bytes_hold
    head_holds head_byte_holds banks_hold bank_holds places_hold lengths_hold size_holds records_of record_at lock_byte byte_at
    put_value value_of beginner if_first holder target_at read.address_of read.target_of read.command_of read.read_of kind_of
    put part first_failing bits
runs = record {
  ours_p12 = ((refl, (refl, (refl, (refl, (refl, (refl, (refl, (refl, refl)))))))), refl);
  each_byte_p12 = ((refl, (refl, (refl, (refl, (refl, (refl, (refl, (refl, refl)))))))), refl);
  ours_p11 = ((refl, (refl, (refl, (refl, (refl, (refl, (refl, (refl, (refl, refl))))))))), refl);
  never_stores_p11 = ((refl, (refl, (refl, (refl, (refl, (refl, (refl, (refl, (refl, refl))))))))), refl);
  ours_twice = (
    (
      refl,
      (
        refl,
        (
          refl,
          (
            refl,
            (
              refl,
              (
                refl,
                (refl, (refl, (refl, (refl, (refl, (refl, (refl, (refl, refl)))))))),
              ),
            ),
          ),
        ),
      ),
    ),
    refl,
  );
  first_only_twice = (
    (
      refl,
      (
        refl,
        (
          refl,
          (
            refl,
            (
              refl,
              (refl, (refl, (refl, (refl, (refl, (refl, (refl, (refl, (refl, refl))))))))),
            ),
          ),
        ),
      ),
    ),
    refl,
  );
  first_only_anew = refl;
  ours_anew = refl;
}
