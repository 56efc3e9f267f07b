-- Three wrong machines fail the demand, each by a computed list on which it and ours differ.
-- Assumes nothing.
use mathlib.Core.Path.{◌≡◌, refl, sym, ◌∙◌}
use mathlib.Core.List.{List, [], ◌∷◌, reverse, Memᴰ}
use Prim.Native.Nat.{ℕ}
use native.Mathlib.Omega.{arith}
use Rattle.records.specs.Map.{record_at, records_of}
use Rattle.unit.specs.Bench.{bench_map}
use Rattle.unit.specs.Run.{Input}
use Rattle.history.specs.Bench.{bench, p11_frames, p12_frames, bench_value, p11_twice}
use Rattle.history.specs.Demand.{bytes_of, Demand}
use Rattle.history.specs.Machine.{Machine, left_after, unit_machine}
use Rattle.history.specs.Wrong.{each_byte, first_only, never_stores, WrongOnesFail}
use Rattle.history.proofs.Computed.{Gives, runs}
use Rattle.history.proofs.Demand.{unit_demand}

-- the value of width 4 is the map's third record
pub bench_member : Memᴰ bench_value (records_of bench_map)
unfolding records_of record_at
bench_member = Memᴰ.tail (Memᴰ.tail (Memᴰ.head refl))

-- a machine that starts as ours does and meets the demand has our bytes
same_bytes : {S : Type 0} (machine : Machine S) (xs : List Input) (ours theirs : List ℕ)
    → (left_after machine bench []).store ≡ (left_after unit_machine bench []).store
    → Gives unit_machine xs ours → Gives machine xs theirs → Demand machine → ours ≡ theirs
same_bytes machine xs ours theirs e a b d =
    let W = d bench (reverse xs) b.0 bench_value bench_member refl in
    let U = unit_demand bench (reverse xs) a.0 bench_value bench_member refl in
    sym a.1 ∙ U.one (bytes_of machine bench bench_value (reverse xs)) (rw e at W.value) ∙ b.1

pub wrong_ones_fail : WrongOnesFail
unfolding each_byte first_only never_stores
wrong_ones_fail = record {
  each_byte_lem = λ d.
      let e : ◌≡◌ {A = List ℕ} (0x00 ∷ 0x00 ∷ 0x00 ∷ 0x64 ∷ []) (0x00 ∷ 0x00 ∷ 0x01 ∷ 0x64 ∷ []) =
      same_bytes each_byte p12_frames _ _ refl runs.ours_p12 runs.each_byte_p12 d in
      let z : ◌≡◌ {A = ℕ} 0 1 = cc in omega arith;
  first_only_lem = λ d.
      let e : ◌≡◌ {A = List ℕ} (0x00 ∷ 0x00 ∷ 0x02 ∷ 0x2C ∷ []) (0x00 ∷ 0x00 ∷ 0x01 ∷ 0x2C ∷ []) =
      same_bytes first_only p11_twice _ _ refl runs.ours_twice runs.first_only_twice d in
      let z : ◌≡◌ {A = ℕ} 2 1 = cc in omega arith;
  first_stored = runs.first_only_anew ∙ sym runs.ours_anew;
  never_stores_lem = λ d.
      let e : ◌≡◌ {A = List ℕ} (0x00 ∷ 0x00 ∷ 0x01 ∷ 0x2C ∷ []) (0x00 ∷ 0x00 ∷ 0x00 ∷ 0x64 ∷ []) =
      same_bytes never_stores p11_frames _ _ refl runs.ours_p11 runs.never_stores_p11 d in
      let z : ◌≡◌ {A = ℕ} 1 0 = cc in omega arith;
}
