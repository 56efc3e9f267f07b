-- An executed write, seen from one value: the bytes of it that are staged, and its bytes in the store.
-- Assumes nothing.
use mathlib.Core.Path.{◌≡◌, refl, sym, ap, ◌∙◌}
use mathlib.Core.Logic.{◌⊎◌, inl, inr}
use mathlib.Core.Bool.{Bool, true, false, ◌&&◌, ◌||◌, false≢true}
use mathlib.Core.List.{List, [], ◌∷◌, ◌++◌}
use Prim.Native.Nat.{ℕ, ◌+◌, ◌-◌, ◌≤◌, ◌<◌}
use native.Mathlib.Omega.{arith}
use lib.Dec.{leb, ltb, eqb}
use lib.ListN.{length, take, length-append}
use lib.Seq.{length-take-le, take_at}
use borrow.Author.Tests.{eqb-true, eqb-false, leb-true, ltb-true, ltb-false, le-leb, lt-ltb, le-ltb, eq-eqb, ne_eqb}
use Rattle.std.specs.Prelude.{if◌then◌else◌, Some, Result, Ok, Err}
use Rattle.laws.specs.Outcome.{Outcome, leaves}
use Rattle.laws.proofs.Tests.{both, and_of, clash}
use Rattle.laws.proofs.Sides.{or_left, or_right}
use Rattle.records.specs.Map.{records_of, writable, locations_end}
use Rattle.records.specs.Lookup.{holder, beginner}
use Rattle.records.specs.Facts.{Member, FieldsHold, Holds}
use Rattle.records.specs.declared.record.Record.{Record}
use Rattle.records.specs.declared.holder.Why.{Why}
use Rattle.records.proofs.Locations.{holder_hit, first_found}
use Rattle.records.proofs.Members.{member_fields}
use Rattle.banks.specs.Rules.{placed}
use Rattle.banks.specs.Values.{value_of, put_value, lock_byte, padded}
use Rattle.banks.proofs.Places.{holder_within, placed_ordered}
use Rattle.banks.proofs.Values.{value_put}
use Rattle.memory.specs.Rules.{staged_holds}
use Rattle.memory.specs.Staged.{none_staged, is_next, unlocked, taken, staged_of, wrote, write_byte}
use Rattle.memory.specs.Promises.{Takes, bytes_to}
use Rattle.memory.specs.declared.staged.Staged.{Staged}
use Rattle.memory.specs.declared.staged.Wrote.{Wrote}
use Rattle.memory.proofs.Changes.{write_changes_only}
use Rattle.memory.proofs.StagedRoom.{staged_said, staged_room, bytes_length, write_takes}
use Rattle.memory.proofs.Writes.{Next, Taken, taken_is, write_drops}

-- what is staged is of v
abbrev pub is_of : Staged → Record → Bool
is_of g v = leb 1 g.count && eqb g.bank v.bank && eqb g.first v.first

-- the bytes of v that are staged
unfoldable pub staged_for : Record → Staged → List ℕ
staged_for v g = if is_of g v then take g.count g.bytes else []

abbrev pub some? : List ℕ → Bool
some? [] = false
some? (b ∷ bs) = true

-- the bytes of v that are taken in succession, with those before and this write: `ok` says that v is unlocked
unfoldable pub taking : Record → List ℕ → Bool → ℕ → ℕ → ℕ → List ℕ
taking v bs ok bank location byte =
    if eqb v.bank bank && ok
    then if eqb v.first location then byte ∷ [] else if some? bs && eqb (v.first + length bs) location
    then bs ++ byte ∷ [] else []
    else []

-- what stays staged, and what stands in the store, after these bytes of v
unfoldable pub unfinished : Record → List ℕ → List ℕ
unfinished v bs = if ltb (length bs) v.width then bs else []

unfoldable pub finished : Record → List ℕ → List ℕ → List ℕ
finished v old bs = if ltb (length bs) v.width then old else bs

pub unfinished_short : (v : Record) (bs : List ℕ) → length bs < v.width → unfinished v bs ≡ bs
unfolding unfinished
unfinished_short v bs h = rw (lt-ltb (length bs) v.width h)

-- ---- what a write is to a value: its first byte, its next byte, or neither

some_length : (bs : List ℕ) → some? bs ≡ true → 1 ≤ length bs
some_length [] e = absurd (false≢true e)
some_length (b ∷ bs) e = omega arith

length_some : (bs : List ℕ) → 1 ≤ length bs → some? bs ≡ true
length_some [] h = absurd (omega arith)
length_some (b ∷ bs) h = refl

module _ (v : Record) (bs : List ℕ) (ok : Bool) (bank location byte : ℕ) where
  pub taking_first : v.bank ≡ bank → v.first ≡ location → ok ≡ true → taking v bs ok bank location byte ≡ byte ∷ []
  unfolding taking
  taking_first x y o = rw (eq-eqb v.bank bank x, o, eq-eqb v.first location y)

  pub taking_next : v.bank ≡ bank → v.first + length bs ≡ location → 1 ≤ length bs → ok ≡ true
      → taking v bs ok bank location byte ≡ bs ++ byte ∷ []
  unfolding taking
  taking_next x y h o =
      let no' : v.first ≡ location → ⊥ = λ z. omega arith in
      rw (
        eq-eqb v.bank bank x,
        o,
        ne_eqb v.first location no',
        length_some bs h,
        eq-eqb (v.first + length bs) location y,
      )

  pub data Taking : Type 0 where
    begins : v.bank ≡ bank → v.first ≡ location → ok ≡ true → taking v bs ok bank location byte ≡ byte ∷ [] → Taking
    goes_on : v.bank ≡ bank → v.first + length bs ≡ location → 1 ≤ length bs → ok ≡ true
        → taking v bs ok bank location byte ≡ bs ++ byte ∷ [] → Taking
    misses : taking v bs ok bank location byte ≡ [] → Taking

  pub takings : Taking
  unfolding taking
  takings =
      go (eqb v.bank bank) refl ok refl (eqb v.first location) refl
      (some? bs && eqb (v.first + length bs) location) refl
    where
      go : (a : Bool) → eqb v.bank bank ≡ a → (o : Bool) → ok ≡ o → (f : Bool) → eqb v.first location ≡ f
          → (n : Bool) → (some? bs && eqb (v.first + length bs) location) ≡ n → Taking
      go true a true o true f n x = begins (eqb-true _ _ a) (eqb-true _ _ f) o
          (taking_first (eqb-true _ _ a) (eqb-true _ _ f) o)
      go true a true o false f true x =
          let q = both (some? bs) (eqb (v.first + length bs) location) x in
          let h : 1 ≤ length bs = some_length bs q.0 in
          let y : v.first + length bs ≡ location = eqb-true _ _ q.1 in
          goes_on (eqb-true _ _ a) y h o (taking_next (eqb-true _ _ a) y h o)
      go true a true o false f false x = misses (rw (a, o, f, x))
      go true a false o f x n y = misses (rw (a, o))
      go false a o x f y n z = misses (rw a)

-- ---- what is staged

pub none_staged_for : (v : Record) → staged_for v none_staged ≡ []
unfolding staged_for
none_staged_for v = refl

-- the room of v with the bytes of v in it
staged_padded : (v : Record) (k : ℕ) (bs : List ℕ) → 1 ≤ k → length bs ≡ k → staged_for v (staged_of v k (padded bs)) ≡ bs
unfolding staged_for
staged_padded v k bs h l =
    rw (le-leb 1 k h, eq-eqb v.bank v.bank refl, eq-eqb v.first v.first refl) (take_at bs _ k l)

module _ (map store : List ℕ) (p : placed map (length store) ≡ true) (g : Staged)
    (holding : staged_holds (records_of map) store g ≡ true) (v : Record) (m : Member v map) where
  F : FieldsHold v
  F = member_fields map (placed_ordered map (length store) p) v m

  -- the staged bytes are of v
  record Of : Type 0 where
    some : 1 ≤ g.count
    bank_is : g.bank ≡ v.bank
    first_is : g.first ≡ v.first
    short : g.count < v.width
    is : staged_for v g ≡ take g.count g.bytes

  of : is_of g v ≡ true → Of
  unfolding staged_for
  of e =
      let q = both _ (eqb g.first v.first) e in
      let c = both (leb 1 g.count) (eqb g.bank v.bank) q.0 in
      let n : 1 ≤ g.count = leb-true _ _ c.0 in
      let b : g.bank ≡ v.bank = eqb-true _ _ c.1 in
      let f : g.first ≡ v.first = eqb-true _ _ q.1 in
      let s = staged_said (records_of map) store g holding (λ z. omega arith) in
      let x : beginner (records_of map) g.bank g.first ≡ Some s.0 = s.1.begins in
      let y : beginner (records_of map) v.bank v.first ≡ Some v =
      (first_found map (placed_ordered map (length store) p) v m).1 in
      let same : s.0 ≡ v = cc in
      record { some = n; bank_is = b; first_is = f; short = rw same at s.1.not_all; is = rw e }

  counted : (O : Of) → length (staged_for v g) ≡ g.count
  counted O =
      let l : length g.bytes ≡ 8 = staged_room (records_of map) store g holding in
      let w : v.width ≤ 8 = F.most_width in
      rw O.is (length-take-le g.count g.bytes (omega (arith, O.short)))

  -- where some bytes are staged for v, those that are staged are of it
  held : 1 ≤ length (staged_for v g) → Of
  unfolding staged_for
  held = go (is_of g v) refl
    where
      go : (b : Bool) → is_of g v ≡ b → 1 ≤ length (if b then take g.count g.bytes else []) → Of
      go true b h = of b
      go false b h = absurd (omega arith)

  -- fewer than all bytes of a value are staged
  pub staged_short : length (staged_for v g) < v.width
  staged_short = go (ltb 0 (length (staged_for v g))) refl
    where
      go : (b : Bool) → ltb 0 (length (staged_for v g)) ≡ b → length (staged_for v g) < v.width
      go true b = let O : Of = held (ltb-true _ _ b) in rw (counted O) O.short
      go false b = let z : length (staged_for v g) ≤ 0 = ltb-false _ _ b in omega (arith, F.some_width)

-- ---- what a write leaves, seen from v

pub record Seen (v : Record) (store bs : List ℕ) (o : Outcome Wrote) : Type 0 where
  pub staged : staged_for v o.answer.staged ≡ unfinished v bs
  pub stored : value_of v o.store ≡ finished v (value_of v store) bs

module _ (map store : List ℕ) (p : placed map (length store) ≡ true) (g : Staged)
    (holding : staged_holds (records_of map) store g ≡ true) (bank location byte : ℕ) (v : Record) (m : Member v map)
    (wr : writable v ≡ true) where
  fields : FieldsHold v
  fields = member_fields map (placed_ordered map (length store) p) v m

  abbrev S : List ℕ
  S = staged_for v g

  abbrev T : List ℕ
  T = taking v S (unlocked (records_of map) store v) bank location byte

  abbrev W : Outcome Wrote
  W = write_byte (records_of map) store g bank location byte

  -- a byte of v is taken
  taken_seen : Takes (records_of map) store g bank location v → bytes_to g v location byte ≡ T → Seen v store T W
  unfolding unfinished finished
  taken_seen t e = rw (write_takes map store p g holding bank location byte v t, e)
      (go (eqb (location + 1) (locations_end v)) refl)
    where
      l : length T ≡ location - v.first + 1
      l = ap length (sym e) ∙ bytes_length map store p g holding bank location byte v t

      h : Holds v bank location
      h = (holder_within map (length store) bank location p v t.found).holds

      go : (b : Bool) → eqb (location + 1) (locations_end v) ≡ b
          → Seen v store T
          (if b then leaves (wrote true none_staged) (put_value v T store)
          else leaves (wrote true (staged_of v (location - v.first + 1) (padded T))) store)
      go true b =
          let z : location + 1 ≡ v.first + v.width = eqb-true _ _ b in
          let w : length T ≡ v.width = omega (arith, l, h.from) in
          let x : ltb (length T) v.width ≡ false = le-ltb (length T) v.width (omega arith) in
          record { staged = none_staged_for v ∙ sym (rw x); stored = rw x (value_put map store T v p m w).there }
      go false b =
          let n : location + 1 ≡ v.first + v.width → ⊥ = eqb-false _ _ b in
          let w : length T < v.width = omega (arith, l, h.from, h.to, n) in
          let x : ltb (length T) v.width ≡ true = lt-ltb (length T) v.width w in
          record { staged = rw x (staged_padded v (location - v.first + 1) T (omega arith) l); stored = rw x }

  -- none is
  missed_seen : T ≡ [] → staged_for v W.answer.staged ≡ [] → value_of v W.store ≡ value_of v store
      → Seen v store T W
  unfolding finished
  missed_seen e x y =
      rw e (record {
        staged = x ∙ sym (unfinished_short v [] fields.some_width);
        stored = y ∙ sym (rw (lt-ltb 0 v.width fields.some_width));
      })

  takes : Holds v bank location → unlocked (records_of map) store v ≡ true
      → (eqb location v.first || is_next g v location) ≡ true
      → Takes (records_of map) store g bank location v
  unfolding taken
  takes h o e =
      record {
        found = holder_hit map (placed_ordered map (length store) p) bank location v m h;
        took = and_of _ _ (and_of _ _ wr o) e;
      }

  -- a write that takes a byte of v is its first or its next
  not_missed : Takes (records_of map) store g bank location v → T ≡ [] → ⊥
  not_missed t e =
      go (taken_is (records_of map) store g v location t.took)
    where
      b : v.bank ≡ bank
      b = (holder_within map (length store) bank location p v t.found).holds.same_bank

      none : (c : ℕ) (bs : List ℕ) → bs ++ c ∷ [] ≡ [] → ⊥
      none c bs z = let l = ap length z in omega (arith, rw length-append at l)

      go : Taken (records_of map) store g v location → ⊥
      go K = pick K.first_or_next
        where
          pick : (location ≡ v.first) ⊎ Next g v location → ⊥
          pick (inl f) =
              none byte [] (sym (taking_first v S (unlocked (records_of map) store v) bank location byte b (sym f)
              K.opens) ∙ e)
          pick (inr N) =
              let is : is_of g v ≡ true = and_of _ _
              (and_of _ _ (le-leb 1 g.count N.some) (eq-eqb _ _ N.same_bank))
              (eq-eqb _ _ N.same_first) in
              let O : Of map store p g holding v m = of map store p g holding v m is in
              let c : length S ≡ g.count = counted map store p g holding v m O in
              none byte S (sym (taking_next v S (unlocked (records_of map) store v) bank location byte b
              (omega (arith, N.place)) (omega (arith, O.some)) K.opens) ∙ e)

  -- another value's byte is taken
  other_staged : (r : Record) → Takes (records_of map) store g bank location r → (r ≡ v → ⊥)
      → staged_for v W.answer.staged ≡ []
  unfolding staged_for
  other_staged r t no' = rw (write_takes map store p g holding bank location byte r t)
      (go (eqb (location + 1) (locations_end r)))
    where
      k : ℕ
      k = location - r.first + 1

      B : List ℕ
      B = padded (bytes_to g r location byte)

      not_v : (b : Bool) → is_of (staged_of r k B) v ≡ b → (if b then take k B else []) ≡ []
      not_v true b =
          let q = both _ (eqb r.first v.first) b in
          let c = both (leb 1 k) (eqb r.bank v.bank) q.0 in
          let x : r.bank ≡ v.bank = eqb-true _ _ c.1 in
          let y : r.first ≡ v.first = eqb-true _ _ q.1 in
          let n : Member r map = (holder_within map (length store) bank location p r t.found).member in
          let f : holder (records_of map) r.bank r.first ≡ Ok r =
          (first_found map (placed_ordered map (length store) p) r n).0 in
          let h : holder (records_of map) v.bank v.first ≡ Ok v =
          (first_found map (placed_ordered map (length store) p) v m).0 in
          absurd (no' (cc))
      not_v false b = refl

      go : (b : Bool)
          → staged_for v (if b then leaves (wrote true none_staged) (put_value r (bytes_to g r location byte) store)
          else leaves (wrote true (staged_of r k B)) store).answer.staged ≡ []
      go true = refl
      go false = not_v (is_of (staged_of r k B) v) refl

  missed_staged : T ≡ [] → staged_for v W.answer.staged ≡ []
  missed_staged e = go (holder (records_of map) bank location) refl
    where
      drops : ((r : Record) → Takes (records_of map) store g bank location r → ⊥) → staged_for v W.answer.staged ≡ []
      drops n = rw (write_drops (records_of map) store g bank location byte n) (none_staged_for v)

      pick : (r : Record) → holder (records_of map) bank location ≡ Ok r → (b : Bool)
          → taken (records_of map) store g r location ≡ b
          → staged_for v W.answer.staged ≡ []
      pick r f true b =
          let t : Takes (records_of map) store g bank location r = record { found = f; took = b } in
          other_staged r t (λ z. not_missed (rw z at t) e)
      pick r f false b =
          drops (λ q t. let z : r ≡ q = cc t.found in
          clash (taken (records_of map) store g r location) (rw z t.took) b)

      go : (f : Result Record Why) → holder (records_of map) bank location ≡ f → staged_for v W.answer.staged ≡ []
      go (Err w) f = drops (λ r t. let z : ◌≡◌ {A = ℕ} 0 1 = cc t.found in omega arith)
      go (Ok r) f = pick r f (taken (records_of map) store g r location) refl

  -- an executed write, seen from a writable value
  pub write_seen : Seen v store (taking v (staged_for v g) (unlocked (records_of map) store v) bank location byte)
      (write_byte (records_of map) store g bank location byte)
  write_seen = go (takings v S (unlocked (records_of map) store v) bank location byte)
    where
      go : Taking v S (unlocked (records_of map) store v) bank location byte → Seen v store T W
      go (begins x y o e) =
          let h : Holds v bank location = record {
            same_bank = x;
            from = omega arith;
            to =
                omega (arith, fields.some_width);
          } in
          let z : location - v.first ≡ 0 = omega arith in
          taken_seen (takes h o (or_left (eqb location v.first) (is_next g v location)
          (eq-eqb location v.first (sym y)))) (rw z (sym e))
      go (goes_on x y n o e) =
          let O : Of map store p g holding v m = held map store p g holding v m n in
          let c : length S ≡ g.count = counted map store p g holding v m O in
          let s : g.count < v.width = O.short in
          let h : Holds v bank location = record { same_bank = x; from = omega arith; to = omega arith } in
          let z : location - v.first ≡ g.count = omega arith in
          let is : is_next g v location ≡ true =
          and_of _ _ (and_of _ _ (and_of _ _ (le-leb 1 g.count O.some) (eq-eqb g.bank v.bank O.bank_is))
          (eq-eqb g.first v.first O.first_is)) (eq-eqb location (v.first + g.count) (omega arith)) in
          taken_seen (takes h o (or_right (eqb location v.first) (is_next g v location) is))
          (rw z (rw (← O.is) (sym e)))
      go (misses e) =
          missed_seen e (missed_staged e)
          ((write_changes_only map store p g holding bank location byte).others v m (λ t. not_missed t.takes e))

-- a value that is not writable stays
pub write_stays : (map store : List ℕ) → placed map (length store) ≡ true → (g : Staged)
    → staged_holds (records_of map) store g ≡ true → (bank location byte : ℕ) (v : Record) → Member v map
    → writable v ≡ false
    → value_of v (write_byte (records_of map) store g bank location byte).store ≡ value_of v store
write_stays map store p g holding bank location byte v m w =
    (write_changes_only map store p g holding bank location byte).read_only v m w

-- the lock clause of a write
pub unlocked_by : (rs : List Record) (store : List ℕ) (v : Record)
    → unlocked rs store v ≡ (eqb v.lockable 0 || eqb (lock_byte rs store v.bank) 0x55)
unfolding unlocked
unlocked_by rs store v = refl
