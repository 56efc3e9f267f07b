-- A complete writing and a reset, told by the numbers of the inputs. Paper 01, "Grammar of a complete writing",
-- half-sentence by half-sentence. Input number i of a history is the one that i inputs stand before.
-- Assumes nothing.
use Rattle.std.specs.Prelude.{◌≡◌, ◌⊎◌, true, List, [], ◌∷◌, ℕ, suc, ◌+◌, ◌-◌, ◌<◌, ◌≤◌, length, drop, get_or}
use Rattle.records.specs.declared.record.Record.{Record}
use Rattle.hearing.specs.declared.heard.Who.{Who}
use Rattle.unit.specs.Run.{Input}
use Rattle.history.specs.Deeds.{Deed, opens, resets, puts, breaks, powers, keeping}
use Rattle.history.specs.Context.{deed_after}
use Rattle.history.specs.Lock.{lock, Unlocks}

-- the first i inputs of a history
unfoldable pub past : List Input → ℕ → List Input
past h i = drop (length h - i) h

-- DTR0=0 means each mapped bank 1..199, else bank DTR0
abbrev pub Selected : ℕ → ℕ → Type 0
Selected dtr0 bank = ((dtr0 ≡ 0) × (1 ≤ bank)) ⊎ ((1 ≤ dtr0) × (bank ≡ dtr0))

module _ (rs : List Record) (who : Who) where
  -- what the newest input is
  unfoldable pub latest : List Input → Deed
  latest [] = breaks
  latest (x ∷ h) = deed_after rs who h x

  -- what input number i is
  unfoldable pub deed_at : List Input → ℕ → Deed
  deed_at h i = latest (past h (suc i))

  -- a writing of the value v, of width n, with these bytes; the newest input of h is its last write
  pub record WritingAt (v : Record) (bytes : List ℕ) (h : List Input) : Type 0 where
    -- an ENABLE pair for the unit, that ends at input number `pair_end`
    pub pair_end : ℕ
    pub pair : deed_at h pair_end ≡ opens
    -- from it to the last write only frames that keep write-enable or are no command for this unit (a lone first half
    -- for this unit is one, and so ends the writing): paper 02, Item 6
    pub only : (i : ℕ) → pair_end < i → i < length h → keeping (deed_at h i) ≡ true
    -- among them n executed writes, the last of them the newest input
    pub n_bytes : length bytes ≡ v.width
    pub place : ℕ → ℕ
    pub follow : pair_end < place 0
    pub rising : (i j : ℕ) → i < j → j < v.width → place i < place j
    pub ending : (j : ℕ) → suc j ≡ v.width → suc (place j) ≡ length h
    -- to its locations, first to last
    pub writes : (j : ℕ) → j < v.width → deed_at h (place j) ≡ puts v.bank (v.first + j) (get_or bytes j 0)
    -- with no other executed write between
    pub alone : (i bank location byte : ℕ) → place 0 ≤ i → i < length h → deed_at h i ≡ puts bank location byte
        → (j : ℕ) × (j < v.width) × (i ≡ place j)
    -- for a lockable value, the lock byte by this same grammar being 0x55 at each
    pub unlocked : (j : ℕ) → j < v.width → Unlocks v (lock rs who (past h (place j)) v.bank)
    -- no power-on falls inside
    pub no_power_on : (i : ℕ) → pair_end < i → i < length h → deed_at h i ≡ powers → ⊥

  -- the input x, after h, is a reset of the bank
  pub record ResetAt (bank : ℕ) (x : Input) (h : List Input) : Type 0 where
    -- a RESET MEMORY BANK pair for the unit
    pub dtr0 : ℕ
    pub pair : deed_after rs who h x ≡ resets dtr0
    -- whose DTR0 selects the bank
    pub selected : Selected dtr0 bank
    -- while its lock byte, by this grammar, is 0x55
    pub unlocked : lock rs who h bank ≡ 0x55
