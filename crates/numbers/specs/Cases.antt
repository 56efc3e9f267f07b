-- Worked cases: states of the bench unit at each boundary of rule 12, starts at each boundary of 6, and the number that
-- each must get. One table for the states and one for the starts. Proved in proofs/Cases.antt.
-- Assumes nothing.
use Rattle.std.specs.Prelude.{ℕ, ◌≡◌, Bool, true, false, List, [], ◌∷◌, map, length}
use Rattle.records.specs.Cases.{bench_map}
use Rattle.banks.specs.Cases.{bench_store}
use Rattle.hearing.specs.Pairs.{heard_at}
use Rattle.hearing.specs.declared.heard.Heard.{Heard}
use Rattle.rooms.specs.State.{with_who, with_waiting, with_door, with_latch, powered_on, zero_state}
use Rattle.rooms.specs.declared.state.State.{State}
use Rattle.numbers.specs.Numbers.{start_number, power_number, step_number}

-- a state, the store with it, what is heard, and the number of a step; a power-on has the same, but for 1
pub record StateCase : Type 0 where
  pub state : State
  pub store : List ℕ
  pub heard : Heard
  pub step : ℕ
  pub power_on : ℕ

abbrev idle : State
idle = powered_on (with_who zero_state (record { address = 5; groups = 0 }))

-- the lock byte 0x55
abbrev open_store : List ℕ
open_store = 0x06 ∷ 0x55 ∷ 0x00 ∷ 0x00 ∷ 0x00 ∷ 0x64 ∷ []

abbrev in12 : State → List ℕ → StateCase
in12 s store = record { state = s; store = store; heard = heard_at 0 0; step = 12; power_on = 12 }

abbrev in0 : State → List ℕ → StateCase
in0 s store = record { state = s; store = store; heard = heard_at 0 0; step = 0; power_on = 0 }

abbrev address : ℕ → State
address a = with_who idle (record { address = a; groups = 0 })

abbrev waiting : Bool → ℕ → ℕ → State
waiting held frame clock = with_waiting idle (record { held = held; frame = frame; clock = clock })

-- eight bytes of a room
abbrev eight : ℕ → ℕ → ℕ → ℕ → ℕ → List ℕ
eight a b c d e = a ∷ b ∷ c ∷ d ∷ e ∷ 0 ∷ 0 ∷ 0 ∷ []

abbrev door : Bool → ℕ → ℕ → ℕ → List ℕ → State
door enabled count bank first bytes =
    with_door idle
    (record { enabled = enabled; staged = record { count = count; bank = bank; first = first; bytes = bytes } })

abbrev latch : Bool → ℕ → ℕ → List ℕ → State
latch held bank first bytes = with_latch idle (record { held = held; bank = bank; first = first; bytes = bytes })

-- a waiting frame, and write-enable open
abbrev waiting_open : State
waiting_open =
    with_waiting (door true 0 0 0 (eight 0 0 0 0 0)) (record { held = true; frame = 0x0BFE15; clock = 7 })

abbrev pub state_cases : List StateCase
state_cases =
    in0 idle bench_store
    -- the address is 0..63 or 255
    ∷ in0 (address 0) bench_store
    ∷ in0 (address 63) bench_store
    ∷ in12 (address 64) bench_store
    ∷ in12 (address 254) bench_store
    ∷ in0 (address 255) bench_store
    -- a waiting frame is a pair command for the unit, and write-enable is then closed
    ∷ in0 (waiting true 0x0BFE15 7) bench_store
    ∷ in0 (waiting true 0xFFFE11 0) bench_store
    ∷ in12 (waiting true 0x0DFE15 7) bench_store
    ∷ in12 (waiting true 0x0BFE3C 7) bench_store
    ∷ in12 (waiting true 0xC13102 7) bench_store
    ∷ in12 (waiting true 0x828805 7) bench_store
    ∷ in12 (waiting true 0xFDFE15 7) bench_store
    ∷ in12 waiting_open bench_store
    -- staged bytes exist only while enabled: at least one, not all, of a writable value of width 2 or more
    ∷ in0 (door true 0 0 0 (eight 0 0 0 0 0)) bench_store
    ∷ in0 (door true 1 2 3 (eight 9 0 0 0 0)) open_store
    ∷ in0 (door true 3 2 3 (eight 9 9 9 0 0)) open_store
    ∷ in12 (door false 1 2 3 (eight 9 0 0 0 0)) open_store
    ∷ in12 (door true 4 2 3 (eight 9 9 9 9 0)) open_store
    ∷ in12 (door true 1 2 2 (eight 9 0 0 0 0)) open_store
    ∷ in12 (door true 1 2 0 (eight 9 0 0 0 0)) open_store
    ∷ in12 (door true 1 2 4 (eight 9 0 0 0 0)) open_store
    ∷ in12 (door true 1 1 3 (eight 9 0 0 0 0)) open_store
    -- its lock byte 0x55 if it is lockable
    ∷ in12 (door true 1 2 3 (eight 9 0 0 0 0)) bench_store
    -- latched bytes, whatever they are, belong to a mapped value of width 2 or more
    ∷ in0 (latch true 2 3 (eight 9 9 9 9 0)) bench_store
    ∷ in0 (latch true 2 3 (eight 0 0 0 0 0)) bench_store
    ∷ in12 (latch true 2 2 (eight 9 0 0 0 0)) bench_store
    ∷ in12 (latch true 2 4 (eight 9 0 0 0 0)) bench_store
    ∷ in12 (latch true 3 3 (eight 9 0 0 0 0)) bench_store
    -- whatever is not in use is zero
    ∷ in12 (waiting false 1 0) bench_store
    ∷ in12 (waiting false 0 1) bench_store
    ∷ in12 (door true 0 2 0 (eight 0 0 0 0 0)) bench_store
    ∷ in12 (door true 0 0 3 (eight 0 0 0 0 0)) bench_store
    ∷ in12 (door true 0 0 0 (eight 9 0 0 0 0)) bench_store
    ∷ in12 (door true 1 2 3 (eight 9 9 0 0 0)) open_store
    ∷ in12 (latch false 2 0 (eight 0 0 0 0 0)) bench_store
    ∷ in12 (latch false 0 3 (eight 0 0 0 0 0)) bench_store
    ∷ in12 (latch false 0 0 (eight 9 0 0 0 0)) bench_store
    ∷ in12 (latch true 2 3 (eight 9 9 9 9 9)) bench_store
    -- a frame then 1; 7 to 11 before 12, and 12 before 1
    ∷ record { state = idle; store = bench_store; heard = heard_at 0 16777215; step = 0; power_on = 0 }
    ∷ record { state = idle; store = bench_store; heard = heard_at 0 16777216; step = 1; power_on = 0 }
    ∷ record { state = address 64; store = bench_store; heard = heard_at 0 16777216; step = 12; power_on = 12 }
    ∷ record { state = address 64; store = 0x05 ∷ bench_store; heard = heard_at 0 16777216; step = 10; power_on = 10 }
    ∷ []

-- each case gets its numbers
unfoldable pub StateCases : Type 0
StateCases =
    (map (λ c. step_number bench_map c.store (length bench_store) c.state c.heard) state_cases
    ≡ map (λ c. c.step) state_cases)
    × (map (λ c. power_number bench_map c.store (length bench_store) c.state) state_cases
    ≡ map (λ c. c.power_on) state_cases)

-- start: the address handed in, the store, the number: 7 to 11, then 6
pub record StartCase : Type 0 where
  pub address : ℕ
  pub store : List ℕ
  pub number : ℕ

abbrev starts : ℕ → List ℕ → ℕ → StartCase
starts a store n = record { address = a; store = store; number = n }

abbrev pub start_cases : List StartCase
start_cases =
    starts 0 bench_store 0
    ∷ starts 63 bench_store 0
    ∷ starts 64 bench_store 6
    ∷ starts 254 bench_store 6
    ∷ starts 255 bench_store 0
    ∷ starts 64 (0x05 ∷ bench_store) 10
    ∷ []

unfoldable pub StartCases : Type 0
StartCases =
    map (λ c. start_number bench_map c.store (length bench_store) (record { address = c.address; groups = 0 }))
    start_cases
    ≡ map (λ c. c.number) start_cases
