-- What the rules 10 and 11 say, as facts about numbers: the floors above lean on these, and not on the tests.
-- Assumes nothing.
use Rattle.std.specs.Prelude.{◌≡◌, ◌⊎◌, true, List, ℕ, ◌≤◌, ◌<◌, length, get_or, Ok}
use Rattle.records.specs.Map.{records_of, places_end}
use Rattle.records.specs.Order.{ordered}
use Rattle.records.specs.Lookup.{holder}
use Rattle.records.specs.Facts.{Member, FieldsHold, Holds}
use Rattle.records.specs.declared.record.Record.{Record}
use Rattle.banks.specs.Rules.{placed, banks_hold, head_bytes_hold}
use Rattle.banks.specs.Values.{value_of, put_value, lock_byte}

-- map, store and an image of `size` bytes pass 7 to 11
pub record Stands (map store : List ℕ) (size : ℕ) : Type 0 where
  pub in_order : ordered map ≡ true
  pub in_place : placed map (length store) ≡ true
  pub as_long : size ≡ length store
  pub banks : banks_hold (records_of map) ≡ true
  pub heads : head_bytes_hold (records_of map) store ≡ true

-- 10
abbrev pub Apart : Record → Record → Type 0
Apart p r = (places_end p ≤ r.offset) ⊎ (places_end r ≤ p.offset)

-- what is known of the record that holds a location, in a map whose places lie in a store of n bytes
pub record Within (map : List ℕ) (n bank location : ℕ) (r : Record) : Type 0 where
  pub member : Member r map
  pub holds : Holds r bank location
  pub fields : FieldsHold r
  pub inside : places_end r ≤ n

-- 11: the bank's lock byte
pub record LockRecord (map : List ℕ) (bank : ℕ) (r : Record) : Type 0 where
  pub member : Member r map
  pub its_bank : r.bank ≡ bank
  pub its_first : r.first ≡ 0x02
  pub its_width : r.width ≡ 1
  pub its_kind : r.kind ≡ 2
  pub no_lock : r.lockable ≡ 0

-- the bytes of the value r, put into the store
pub record PutLeaves (map store bytes : List ℕ) (r : Record) : Type 0 where
  -- they are that value's bytes
  pub there : value_of r (put_value r bytes store) ≡ bytes
  -- every other value stays
  pub others :
      (s : Record) → Member s map → (s ≡ r → ⊥) → value_of s (put_value r bytes store) ≡ value_of s store
  -- every byte under no record stays
  pub unmapped :
      (j : ℕ) → ((s : Record) → Member s map → (j < s.offset) ⊎ (places_end s ≤ j))
      → get_or (put_value r bytes store) j 0 ≡ get_or store j 0
  -- every lock byte stays but one that is the value itself
  pub locks :
      (bank : ℕ) → (holder (records_of map) bank 0x02 ≡ Ok r → ⊥)
      → lock_byte (records_of map) (put_value r bytes store) bank ≡ lock_byte (records_of map) store bank
  pub as_long : length (put_value r bytes store) ≡ length store
