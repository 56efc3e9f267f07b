-- RESET MEMORY BANK and power-on, for the store: which values are put anew, and with what. Paper 01, "State and
-- clock" and "Commands obeyed".
-- Assumes nothing.
use Rattle.std.specs.Prelude.{◌≡◌, ℕ, ◌-◌, ◌/◌, ◌<◌, Bool, false, ◌&&◌, List, [], ◌∷◌, leb, eqb, length, get_or, if◌then◌else◌}
use Rattle.laws.specs.Lists.{items}
use Rattle.records.specs.Map.{record_at, records_of, writable}
use Rattle.records.specs.declared.record.Record.{Record}
use Rattle.banks.specs.Rules.{is_lock}
use Rattle.banks.specs.Values.{value_of, put_value, lock_byte}
use Rattle.memory.specs.declared.filled.Filling.{Filling}
use Rattle.memory.specs.declared.filled.Filling.TheVariants.{PowerOn, Reset}

-- number and values of each case: a power-on is a record of kind 1; RESET MEMORY BANK is 0x11, and goes by DTR0
abbrev pub filling_number : Filling → ℕ
filling_number PowerOn = 1
filling_number (Reset dtr0) = 0x11

abbrev pub filling_values : Filling → List ℕ
filling_values PowerOn = []
filling_values (Reset dtr0) = dtr0 ∷ []

-- DTR0=0 means each mapped bank 1..199, else bank DTR0
unfoldable pub selects : ℕ → ℕ → Bool
selects dtr0 bank = if eqb dtr0 0 then leb 1 bank else eqb bank dtr0

-- a reset: the writable values of the selected banks, and only of a bank whose lock byte is 0x55;
-- a power-on: the RAM-RW values
unfoldable pub chosen : List Record → List ℕ → Filling → Record → Bool
chosen rs store (Reset dtr0) r = writable r && (selects dtr0 r.bank && eqb (lock_byte rs store r.bank) 0x55)
chosen rs store PowerOn r = eqb r.kind 2

-- the lock byte becomes 0xFF, another value takes the reset image
unfoldable pub fresh : List ℕ → Record → List ℕ
fresh image r = if is_lock r then 0xFF ∷ [] else value_of r image

-- each record of the list that is chosen takes its fresh bytes
abbrev pub filled_by : (Record → Bool) → List ℕ → List ℕ → List Record → List ℕ
filled_by such image store [] = store
filled_by such image store (r ∷ rs) =
    if such r then put_value r (fresh image r) (filled_by such image store rs) else filled_by such image store rs

-- which are chosen goes by the store as it was
unfoldable pub filled_of : List Record → List ℕ → List ℕ → Filling → List ℕ
filled_of rs store image filling = filled_by (chosen rs store filling) image store rs

-- the records from number i on, as the loop over the map, from the last one down, comes to them
abbrev pub filled_from : List ℕ → List ℕ → List ℕ → Filling → ℕ → List ℕ
filled_from map store image filling i =
    filled_by (chosen (records_of map) store filling) image store (items (record_at map) i (length map / 8 - i))

-- which of the records are chosen, by their numbers
abbrev pub PickedTo : List ℕ → List ℕ → Filling → List Bool → ℕ → Type 0
PickedTo map store filling picks n =
    (j : ℕ) → j < n → get_or picks j false ≡ chosen (records_of map) store filling (record_at map j)

abbrev pub Picked : List ℕ → List ℕ → Filling → List Bool → Type 0
Picked map store filling picks = (length picks ≡ 64) × PickedTo map store filling picks (length map / 8)
