-- Three wrong machines, each ours with one change. Proved in proofs/Wrong.antt not to meet the demand.
-- Assumes nothing.
use Rattle.std.specs.Prelude.{◌≡◌, ℕ, Bool, true, false, not, ◌&&◌, ◌||◌, List, [], ◌∷◌, reverse, Result, Ok, Err, leb, eqb, take, if◌then◌else◌}
use Rattle.laws.specs.Parts.{put}
use Rattle.records.specs.Map.{records_of}
use Rattle.records.specs.Lookup.{holder}
use Rattle.records.specs.declared.record.Record.{Record}
use Rattle.records.specs.declared.holder.Why.{Why}
use Rattle.banks.specs.Values.{value_of}
use Rattle.memory.specs.declared.staged.Staged.{Staged}
use Rattle.rooms.specs.declared.state.State.{State}
use Rattle.history.specs.Machine.{Left, Machine, unit_machine}
use Rattle.history.specs.Demand.{bytes_of, Demand}
use Rattle.history.specs.Bench.{bench, bench_value, p11_anew}

-- what was left, over another store
abbrev pub over : {S : Type 0} → List ℕ → Left S → Left S
over store l = record { number = l.number; state = l.state; store = store }

-- the bytes that are staged, put at their places already
abbrev pub early : Staged → List ℕ → Result Record Why → List ℕ
early g store (Ok r) = put r.offset (take g.count g.bytes) store
early g store (Err w) = store

abbrev pub early_left : List Record → Staged → Left State → Left State
early_left rs g l = over (if leb 1 g.count then early g l.store (holder rs g.bank g.first) else l.store) l

-- stores each byte as it comes
unfoldable pub each_byte : Machine State
each_byte = record {
  starts = unit_machine.starts;
  steps = λ map store image s x.
      let l : Left State = unit_machine.steps map store image s x in
      early_left (records_of map) l.state.door.staged l;
  powers_on = unit_machine.powers_on;
}

-- a state that knows whether a staged value was stored
pub record Sated : Type 0 where
  pub state : State
  pub sated : Bool

abbrev pub ready : Left State → Left Sated
ready l = record { number = l.number; state = record { state = l.state; sated = false }; store = l.store }

-- byte for byte the same
abbrev pub same : List ℕ → List ℕ → Bool
same [] [] = true
same [] (b ∷ bs) = false
same (a ∷ rest) [] = false
same (a ∷ rest) (b ∷ bs) = eqb a b && same rest bs

-- a staged value has landed: bytes of it were staged before, and in the store it is another one now (staging that is
-- dropped changes no byte of it)
abbrev pub landed : Staged → Result Record Why → List ℕ → List ℕ → Bool
landed g (Ok r) before now = leb 1 g.count && not (same (value_of r before) (value_of r now))
landed g (Err w) before now = false

abbrev pub sated_left : List Record → List ℕ → Sated → Left State → Left Sated
sated_left rs store s l =
    let g : Staged = s.state.door.staged in
    record {
      number = l.number;
      state = record {
        state = l.state;
        sated = s.sated || landed g (holder rs g.bank g.first) store l.store;
      };
      store = if s.sated then store else l.store;
    }

-- stores only the first value, then just answers
unfoldable pub first_only : Machine Sated
first_only = record {
  starts = λ start. ready (unit_machine.starts start);
  steps = λ map store image s x. sated_left (records_of map) store s (unit_machine.steps map store image s.state x);
  powers_on = λ map store image s. ready (unit_machine.powers_on map store image s.state);
}

-- never stores
unfoldable pub never_stores : Machine State
never_stores = record {
  starts = unit_machine.starts;
  steps = λ map store image s x. over store (unit_machine.steps map store image s x);
  powers_on = unit_machine.powers_on;
}

-- none of them meets the demand
pub record WrongOnesFail : Type 0 where
  pub each_byte_lem : ¬ Demand each_byte
  pub first_only_lem : ¬ Demand first_only
  -- though it stores its first value as ours does, bytes that were staged and dropped before it or not
  pub first_stored : bytes_of first_only bench bench_value (reverse p11_anew)
      ≡ bytes_of unit_machine bench bench_value (reverse p11_anew)
  pub never_stores_lem : ¬ Demand never_stores
