-- A walk over the map, record by record. The invariant says that the answer from the start, x, is the answer from
-- number i on; each law turns it, with what a turn of the loop learns, into what the turn has to show.
-- Assumes nothing.
use Prim.Native.Nat.{ℕ, zero, suc, ◌+◌, ◌*◌, ◌≤◌, ◌<◌, ◌-◌, ◌/◌}
use mathlib.Core.Path.{◌≡◌, refl, ap, sym, subst, ◌∙◌}
use mathlib.Core.Bool.{Bool, true, false, ◌&&◌, false≢true}
use mathlib.Core.List.Memᴰ
use mathlib.Core.List.{List, [], ◌∷◌, ◌++◌, append-nil}
use native.Mathlib.Omega.{arith}
use native.Mathlib.Nat.{zero-add}
use native.Mathlib.Numerals.{add-one}
use lib.ListN.{length, take, drop, get_or}
use Rattle.std.proofs.lemmas.List.{get_or-drop, get_or-take, length-drop}
use denote.Param.Members.{Mut, Called}
use Rattle.std.specs.Iterator.{YieldsFirst}
use Rattle.std.specs.Iterator.Runs.{SomeRun, AllItemsGive, AnyItemGives}
use Rattle.std.specs.Prelude.{MatchBool, IsTrue}
use Rattle.std.specs.Bool.{OnTrue}
use Rattle.std.specs.List.{IsAllAdjacentAnswer}
use Rattle.std.specs.Iterator.Order.{IsSortedAnswer, ActsAsAtTwo}
use denote.Ref.{Bor}
use Rattle.laws.proofs.Tests.{and_of}
use Rattle.laws.proofs.Iterated as Iterated
use Rattle.laws.specs.Lists.{items, every}
use Rattle.laws.proofs.Items.{items_start, items_end, items_cons}
use Rattle.laws.proofs.Members.{items_member}
use Rattle.records.specs.Map.{record_at, records_of}
use Rattle.records.specs.Order.{before, rising_from, rising}
use Rattle.records.specs.Facts.{Member}
use Rattle.records.specs.declared.record.Record.{Record}
use Rattle.records.specs.declared.each.RecordIter.{RecordIter}

-- of a map of n records, those from number i on
abbrev pub from : List ℕ → ℕ → ℕ → List Record
from map n i = items (record_at map) i (n - i)

pub at_start : (map : List ℕ) (n : ℕ) → n ≡ length map / 8 → records_of map ≡ from map n 0
unfolding records_of
at_start map n e = rw e (items_start (record_at map) (length map / 8))

pub at_end : (map : List ℕ) (n i : ℕ) → n ≤ i → from map n i ≡ []
at_end map n i h = items_end (record_at map) i n h

pub next : (map : List ℕ) (n i : ℕ) → i < n → (r : Record) → r ≡ record_at map i → from map n i ≡ r ∷ from map n (i + 1)
next map n i h r e = items_cons (record_at map) i n h r e

pub member : (map : List ℕ) (n i : ℕ) → n ≡ length map / 8 → i < n → (r : Record) → r ≡ record_at map i → Member r map
unfolding records_of
member map n i k h r e =
    Memᴰ.cast (e ∙ ap (record_at map) (sym (zero-add i))) (items_member (record_at map) 0 (length map / 8) i
    (omega arith))

-- the records of bytes, as an iterator that leaves out eight of them at each turn meets them
module _ (bytes : List ℕ) where
  byte : (i j : ℕ) → j ≡ 8 + i → get_or (drop 8 bytes) i 0 ≡ get_or bytes j 0
  byte i j e = get_or-drop 8 bytes i 0 ∙ ap (λ (k : ℕ). get_or bytes k 0) (sym e)

  one_later : (i : ℕ) → record_at (drop 8 bytes) i ≡ record_at bytes (suc i)
  unfolding record_at
  one_later i =
      rw (
        byte (8 * i) (8 * suc i) (omega arith),
        byte (8 * i + 1) (8 * suc i + 1) (omega arith),
        byte (8 * i + 2) (8 * suc i + 2) (omega arith),
        byte (8 * i + 3) (8 * suc i + 3) (omega arith),
        byte (8 * i + 4) (8 * suc i + 4) (omega arith),
        byte (8 * i + 5) (8 * suc i + 5) (omega arith),
        byte (8 * i + 6) (8 * suc i + 6) (omega arith),
        byte (8 * i + 7) (8 * suc i + 7) (omega arith),
      )

  all_later : (n i : ℕ) → items (record_at (drop 8 bytes)) i n ≡ items (record_at bytes) (suc i) n
  all_later zero i = refl
  all_later (suc n) i =
      ap (λ (r : Record). r ∷ items (record_at (drop 8 bytes)) (suc i) n) (one_later i)
      ∙ ap (λ (rs : List Record). record_at bytes (suc i) ∷ rs) (all_later n (suc i))

  pub none_of : length bytes < 8 → records_of bytes ≡ []
  none_of h = at_start bytes (length bytes / 8) refl ∙ at_end bytes (length bytes / 8) 0 (omega arith)

  first_record : record_at (take 8 bytes) 0 ≡ record_at bytes 0
  unfolding record_at
  first_record =
      rw (
        get_or-take 8 bytes 0 0 (omega arith),
        get_or-take 8 bytes 1 0 (omega arith),
        get_or-take 8 bytes 2 0 (omega arith),
        get_or-take 8 bytes 3 0 (omega arith),
        get_or-take 8 bytes 4 0 (omega arith),
        get_or-take 8 bytes 5 0 (omega arith),
        get_or-take 8 bytes 6 0 (omega arith),
        get_or-take 8 bytes 7 0 (omega arith),
      )

  pub first_of : 8 ≤ length bytes → (r : Record) → r ≡ record_at (take 8 bytes) 0
      → records_of bytes ≡ r ∷ records_of (drop 8 bytes)
  unfolding records_of
  first_of h r e =
      let n = length bytes / 8 in
      at_start bytes n refl ∙ next bytes n 0 (omega arith) r (e ∙ first_record)
      ∙ ap (λ (rs : List Record). r ∷ rs)
      (ap (items (record_at bytes) 1) (omega (arith, length-drop 8 bytes))
      ∙ sym (all_later (length (drop 8 bytes) / 8) 0))

-- `all` of the records: the test that the closure computes, of each
pub all_is : {F : Type 0} {g : Mut F (Record × Unit {0}) Bool} {f : F} (test : Record → Bool) {s : RecordIter} {r : Bool}
    {map : List ℕ}
    → SomeRun (YieldsFirst (λ (t : RecordIter). records_of t.bytes.now)) s
    (λ p. MatchBool r (IsTrue p.whole × AllItemsGive p g f true) (AnyItemGives p g f false))
    → s.bytes.now ≡ map
    → ((x : Record) (b : Bool) (q : F) → Called g f (x, tt) b q → (q ≡ f) × (b ≡ test x))
    → r ≡ every test (records_of map)
all_is test {s} {r} runs e k =
    Iterated.all_is (λ (t : RecordIter). records_of t.bytes.now) test r runs k
    ∙ ap (λ (bytes : List ℕ). every test (records_of bytes)) e

-- 9, by neighbours
failed_after : (a b : Bool) → b ≡ false → (a && b) ≡ false
failed_after true b e = e
failed_after false b e = refl

all_rise : (p : Record) (rs : List Record)
    → ((k : ℕ) (d : Record) → suc k < length (p ∷ rs) → before (get_or (p ∷ rs) k d) (get_or (p ∷ rs) (suc k) d) ≡ true)
    → rising_from p rs ≡ true
all_rise p [] h = refl
all_rise p (r ∷ rs) h =
    and_of (before p r) (rising_from r rs) (h 0 p (omega arith)) (all_rise r rs (λ k d l. h (suc k) d (omega arith)))

one_falls : (p : Record) (rs more : List Record) (k : ℕ) → suc k < length (p ∷ rs)
    → ((d : Record) → before (get_or (p ∷ rs) k d) (get_or (p ∷ rs) (suc k) d) ≡ false)
    → rising_from p (rs ++ more) ≡ false
one_falls p [] more k l h = absurd (omega arith)
one_falls p (r ∷ rs) more zero l h = rw (h p)
one_falls p (r ∷ rs) more (suc k) l h =
    failed_after (before p r) (rising_from r (rs ++ more)) (one_falls r rs more k (omega arith) h)

rises_if : (rs more : List Record) (r : Bool) → (r ≡ true → more ≡ [])
    → IsAllAdjacentAnswer (λ p q b. before p q ≡ b) rs r
    → r ≡ rising (rs ++ more)
rises_if [] more true e h = rw (e refl)
rises_if [] more false e h = absurd (omega (arith, h.1))
rises_if (p ∷ rs) more true e h =
    rw (e refl, append-nil rs) (sym (all_rise p rs (λ k d l.
    subst (λ (j : ℕ). before (get_or (p ∷ rs) k d) (get_or (p ∷ rs) j d) ≡ true) (add-one k) (h k d (omega arith)))))
rises_if (p ∷ rs) more false e h =
    sym (one_falls p rs more h.0 (omega (arith, h.1)) (λ d.
    subst (λ (j : ℕ). before (get_or (p ∷ rs) h.0 d) (get_or (p ∷ rs) j d) ≡ false) (add-one h.0) (h.2 d)))

on_true : {P : Type 0} (r : Bool) → r ≡ true → OnTrue r P → P
on_true true e p = p
on_true false e p = absurd (false≢true e)

-- `is_sorted_by` of the records
pub sorted_is : {F : Type 0} {g : Mut F (Bor Record × (Bor Record × Unit {0})) Bool} {f : F} {s : RecordIter} {r : Bool}
    {map : List ℕ}
    → SomeRun (YieldsFirst (λ (t : RecordIter). records_of t.bytes.now)) s
    (λ p. OnTrue r (IsTrue p.whole)
    × ((h : Record → Record → Bool) → ActsAsAtTwo g f h → IsSortedAnswer h p.items r))
    → s.bytes.now ≡ map
    → ActsAsAtTwo g f before
    → r ≡ rising (records_of map)
sorted_is {s} {r} runs e k =
    let p = runs.0 in
    let rest : RecordIter → List Record = λ t. records_of t.bytes.now in
    let b = Iterated.gives_first rest p in
    rises_if p.items b.0 r (λ t. b.2 (on_true r t runs.2.0)) (runs.2.1 before k).0
    ∙ ap rising (sym b.1 ∙ ap rest runs.1 ∙ ap records_of e)
