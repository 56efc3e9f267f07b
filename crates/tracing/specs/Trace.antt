-- A run of trace records, and a whole trace. Paper 01, "The trace program".
-- Assumes nothing.
use Rattle.std.specs.Prelude.{ℕ, ◌%◌, Bool, ◌&&◌, List, [], ◌∷◌, ◌++◌, eqb, length, get_or, if◌then◌else◌}
use Rattle.laws.specs.Lists.{some}
use Rattle.laws.specs.Numbers.{Test, test, first_failing}
use Rattle.laws.specs.Outcome.{Outcome}
use Rattle.banks.specs.Rules.{check_tests}
use Rattle.hearing.specs.Pairs.{heard_at}
use Rattle.hearing.specs.declared.heard.Who.{Who}
use Rattle.rooms.specs.Rules.{address_holds}
use Rattle.rooms.specs.declared.state.State.{State}
use Rattle.rooms.specs.declared.reply.Stepped.{Stepped}
use Rattle.unit.specs.Step.{start_of}
use Rattle.unit.specs.Run.{Input, power_on, hears, Run, run_from}
use Rattle.entries.specs.Entry.{four_bytes, whole_entries, is_broken}
use Rattle.entries.specs.declared.entry.Entry.{Entry}

-- the inputs before the first broken record, which ends the input
abbrev pub inputs_of : List Entry → List Input
inputs_of [] = []
inputs_of (Entry.Frame clock frame ∷ es) = hears (heard_at clock frame) ∷ inputs_of es
inputs_of (Entry.PowerOn ∷ es) = power_on ∷ inputs_of es
inputs_of (Entry.Broken ∷ es) = []

-- number 13, not answered
abbrev pub broken : List ℕ
broken = 13 ∷ 0 ∷ 0 ∷ 0 ∷ []

-- a run of whole records: each input's four bytes, and 13's where a record is of unknown kind
pub record Traced : Type 0 where
  pub output : List ℕ
  pub ended : Bool
  pub state : State
  pub store : List ℕ

unfoldable pub traced_of : List ℕ → List ℕ → List ℕ → State → List Entry → Traced
traced_of map image store s es =
    let run : Run = run_from map image store s (inputs_of es) in
    record {
      output = run.output ++ (if some is_broken es then broken else []);
      ended = some is_broken es;
      state = run.state;
      store = run.store;
    }

-- unit.adr: address, then 32 group bits, high byte first
unfoldable pub who_of : List ℕ → Who
who_of adr =
    record {
      address = get_or adr 0 0;
      groups = four_bytes (get_or adr 1 0) (get_or adr 2 0) (get_or adr 3 0) (get_or adr 4 0);
    }

-- 6: the address is out of range; a wrong length of unit.adr is 6 too
abbrev pub adr_tests : List ℕ → List Test
adr_tests adr = test 6 (eqb (length adr) 5 && address_holds (who_of adr).address) ∷ []

-- start's tests: 7 to 11, then 6
abbrev pub file_tests : List ℕ → List ℕ → ℕ → List ℕ → List Test
file_tests map store size adr = check_tests map store size ++ adr_tests adr

unfoldable pub file_number : List ℕ → List ℕ → ℕ → List ℕ → ℕ
file_number map store size adr = first_failing (file_tests map store size adr)

-- what is written for the whole records, then 13's four bytes for an unfinished one, and last the store
abbrev pub closed : ℕ → Traced → List ℕ
closed rest t = t.output ++ (if t.ended then [] else if eqb rest 0 then [] else broken) ++ t.store

-- from a start on
abbrev pub traced_from : Outcome Stepped → List ℕ → List ℕ → List Entry → Traced
traced_from started map image es = traced_of map image started.store started.answer.state es

-- a refused start writes its 4 bytes only
unfoldable pub trace_of : List ℕ → List ℕ → List ℕ → List ℕ → List ℕ → List ℕ
trace_of map store image adr input =
    if eqb (file_number map store (length image) adr) 0
    then
    closed (length input % 8) (traced_from (start_of map store image (who_of adr)) map image (whole_entries input))
    else file_number map store (length image) adr ∷ 0 ∷ 0 ∷ 0 ∷ []
