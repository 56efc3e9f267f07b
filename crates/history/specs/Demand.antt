-- Demand 3, of any machine: with one map, one reset image and nobody else touching the store, whole values at every
-- point. Proved of ours in proofs/Demand.antt.
-- Assumes nothing.
use Rattle.std.specs.Prelude.{◌≡◌, true, false, ℕ, ◌<◌, ◌≤◌, length}
use mathlib.Core.List.{List, [], ◌∷◌, reverse, Memᴰ}
use Rattle.records.specs.Map.{records_of, writable}
use Rattle.records.specs.declared.record.Record.{Record}
use Rattle.banks.specs.Rules.{is_lock}
use Rattle.banks.specs.Values.{value_of}
use Rattle.unit.specs.Run.{Input, run_of}
use Rattle.history.specs.Lock.{lock}
use Rattle.history.specs.Writing.{past, WritingAt}
use Rattle.history.specs.Value.{Put, PutsNone, ValueAt}
use Rattle.history.specs.Machine.{Machine, Start, left_after, Accepted, unit_machine}

module _ {S : Type 0} (machine : Machine S) (start : Start) where
  -- the bytes of v in the store, after h
  abbrev pub bytes_of : Record → List Input → List ℕ
  bytes_of v h = value_of v (left_after machine start h).store

  -- the grammar's value of v after h, from what the start left
  abbrev pub Value : Record → List Input → List ℕ → Type 0
  Value v h bytes =
      ValueAt (records_of start.map) start.who start.image (left_after machine start []).store v h bytes

  -- what is demanded of a writable value v at the point after h: `value` and `one`. The four lines after them say what
  -- that means; of any machine they follow from these two, of every accepted point (`OthersFollow`)
  pub record Whole (v : Record) (h : List Input) : Type 0 where
    -- its bytes are the whole value of its last complete writing, or what a later reset or power-on put there, or
    -- what the start left
    pub value : Value v h (bytes_of v h)
    -- and there is one such value
    pub one : (bytes : List ℕ) → Value v h bytes → bytes_of v h ≡ bytes
    -- a complete writing is in the store, whole, in the very step of its last byte: by `one`, since its last write is
    -- then what put the value
    pub complete : (bytes : List ℕ) → WritingAt (records_of start.map) start.who v bytes h → bytes_of v h ≡ bytes
    -- a writing cut short at any frame, from its first write on: no byte of its value has changed. By `unchanged`,
    -- since inside a writing of a value nothing else is put there
    pub cut_short : (bytes : List ℕ) (w : WritingAt (records_of start.map) start.who v bytes h) (i : ℕ)
        → w.place 0 ≤ i → i < length h → bytes_of v (past h i) ≡ bytes_of v (past h (w.place 0))
    -- one more input that ends no writing of it, and is no reset or power-on of it, changes no byte: by `unchanged`
    pub cut : (x : Input) → Accepted machine start (x ∷ h)
        → ((bytes : List ℕ) → ¬ Put (records_of start.map) start.who start.image v (x ∷ h) bytes)
        → bytes_of v (x ∷ h) ≡ bytes_of v h
    -- so do any number of them: from input i on nothing was put. By `value` of that point and `one` of this
    pub unchanged : (i : ℕ) → i ≤ length h
        → ((j : ℕ) → i ≤ j → j < length h → PutsNone (records_of start.map) start.who start.image v h j)
        → bytes_of v h ≡ bytes_of v (past h i)

-- of any machine: where the first two lines hold of a value at every accepted point, all of them do. Proved in
-- proofs/Follow.antt
abbrev pub OthersFollow : {S : Type 0} → Machine S → Type 0
OthersFollow machine = (start : Start) (v : Record) → 1 ≤ v.width
    → ((h : List Input) → Accepted machine start h → Value machine start v h (bytes_of machine start v h))
    → ((h : List Input) → Accepted machine start h → (bytes : List ℕ) → Value machine start v h bytes
    → bytes_of machine start v h ≡ bytes)
    → (h : List Input) → Accepted machine start h → Whole machine start v h

-- for every map, image, store, address and groups, accepted start, and every list of inputs, each accepted: at every
-- point each writable value is whole
abbrev pub Demand : {S : Type 0} → Machine S → Type 0
Demand machine = (start : Start) (h : List Input) → Accepted machine start h
    → (v : Record) → Memᴰ v (records_of start.map) → writable v ≡ true → Whole machine start v h

-- beside the demand: a value that is not writable is what it was before the start
abbrev pub ReadOnlyStay : {S : Type 0} → Machine S → Type 0
ReadOnlyStay machine = (start : Start) (h : List Input) → Accepted machine start h
    → (v : Record) → Memᴰ v (records_of start.map) → writable v ≡ false
    → bytes_of machine start v h ≡ value_of v start.store

-- the lock byte by this same grammar: the function `lock` gives the grammar's value of the lock byte
abbrev pub LockByGrammar : Type 0
LockByGrammar = (start : Start) (h : List Input) → Accepted unit_machine start h
    → (v : Record) → Memᴰ v (records_of start.map) → is_lock v ≡ true
    → Value unit_machine start v h (lock (records_of start.map) start.who h v.bank ∷ [])

-- a history has its newest input first: the store after it is that of the run of its reverse
abbrev pub InOrder : Type 0
InOrder = (start : Start) (xs : List Input)
    → (run_of start.map start.store start.image start.who xs).store
    ≡ (left_after unit_machine start (reverse xs)).store
