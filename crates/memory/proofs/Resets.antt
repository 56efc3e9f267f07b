-- What RESET MEMORY BANK leaves of the store.
-- Assumes nothing.
use Prim.Native.Nat.{ℕ, ◌≤◌}
use mathlib.Core.Path.{◌≡◌, refl, sym, ◌∙◌}
use mathlib.Core.Logic.{◌⊎◌, inl, inr, ⊎_elim}
use mathlib.Core.Bool.{Bool, true, false}
use mathlib.Core.List.{List}
use native.Mathlib.Omega.{arith}
use borrow.Author.Tests.{eq-eqb, ne_eqb, eqb-true, eqb-false, leb-true, leb-false}
use lib.Dec.{eqb}
use lib.ListN.{length}
use Rattle.std.specs.Prelude.{Result, Ok, Err}
use Rattle.laws.proofs.Tests.{and_of}
use Rattle.laws.proofs.Sides.{either, or_left, or_right, and_left, and_right}
use Rattle.laws.proofs.Sides.{chosen as side}
use Rattle.records.specs.Map.{records_of, writable, mapped}
use Rattle.records.specs.Lookup.{holder}
use Rattle.records.specs.Facts.{Member}
use Rattle.records.specs.declared.record.Record.{Record}
use Rattle.records.specs.declared.holder.Why.{Why}
use Rattle.records.proofs.Locations.{mapped_member}
use Rattle.banks.specs.Values.{value_of, byte_at, lock_byte}
use Rattle.banks.specs.Facts.{Stands}
use Rattle.banks.proofs.Places.{holder_within}
use Rattle.memory.specs.Filled.{selects, chosen, filled_of}
use Rattle.memory.specs.Promises.{ChangesOnly, locks_bank}
use Rattle.memory.specs.Reset.{BankReset, StoreReset, FillResets}
use Rattle.memory.specs.declared.filled.Filling.TheVariants.{Reset}
use Rattle.memory.proofs.Fills.{other_fresh, fill_value, fill_changes_only}
use Rattle.memory.proofs.Locks.{fill_locks}

-- a bank that the test selects, and one that it does not
record Selected (dtr0 bank : ℕ) : Type 0 where
  some : 1 ≤ bank
  this : 1 ≤ dtr0 → bank ≡ dtr0

record NotSelected (dtr0 bank : ℕ) : Type 0 where
  none : dtr0 ≡ 0 → bank ≡ 0
  other : 1 ≤ dtr0 → bank ≡ dtr0 → ⊥

by_sides : {A B C : Type 0} → A ⊎ B → (A → C) → (B → C) → C
by_sides (inl a) f g = f a
by_sides (inr b) f g = g b

selected_is : (dtr0 bank : ℕ) → selects dtr0 bank ≡ true → Selected dtr0 bank
unfolding selects
selected_is dtr0 bank e =
    by_sides (side (eqb dtr0 0) e)
    (λ q.
    let z = eqb-true dtr0 0 q.0 in
    let h = leb-true _ bank q.1 in
    record { some = omega (arith, h); this = λ k. absurd (omega (arith, z)) })
    (λ q.
    let n = eqb-false dtr0 0 q.0 in
    let h = eqb-true bank _ q.1 in
    record { some = omega (arith, h, n); this = λ k. h })

not_selected_is : (dtr0 bank : ℕ) → selects dtr0 bank ≡ false → NotSelected dtr0 bank
unfolding selects
not_selected_is dtr0 bank e =
    by_sides (side (eqb dtr0 0) e)
    (λ q.
    let z = eqb-true dtr0 0 q.0 in
    let h = leb-false _ bank q.1 in
    record { none = λ k. omega (arith, h); other = λ k. absurd (omega (arith, z)) })
    (λ q. record { none = λ k. absurd (eqb-false dtr0 0 q.0 k); other = λ k. eqb-false bank _ q.1 })

-- a test that cannot have failed
passed : (b : Bool) → (b ≡ false → ⊥) → b ≡ true
passed true n = refl
passed false n = absurd (n refl)

module _ (map store image : List ℕ) (S : Stands map store (length image)) (dtr0 : ℕ) where
  abbrev rs : List Record
  rs = records_of map

  abbrev after : List ℕ
  after = filled_of rs store image (Reset dtr0)

  abbrev picks : Record → Bool
  picks r = chosen rs store (Reset dtr0) r

  -- what a value that is chosen meets
  record Picked (r : Record) : Type 0 where
    writes : writable r ≡ true
    selected : selects dtr0 r.bank ≡ true
    opens : lock_byte rs store r.bank ≡ 0x55

  picked_is : (r : Record) → picks r ≡ true → Picked r
  unfolding chosen
  picked_is r e =
      record {
        writes = search (and_left);
        selected = search (and_left, and_right);
        opens = search (and_left, and_right, eqb-true);
      }

  picked : (r : Record) → Picked r → picks r ≡ true
  unfolding chosen
  picked r p = and_of _ _ p.writes (and_of _ _ p.selected (eq-eqb _ _ p.opens))

  changes : ChangesOnly map store after (λ r. picks r ≡ true)
  changes = fill_changes_only map store image S.in_place S.as_long (Reset dtr0)

  -- a value that is chosen, and is no lock byte, takes the image
  takes : (r : Record) → Member r map → Picked r → (r.first ≡ 0x02 → ⊥) → value_of r after ≡ value_of r image
  takes r m p n =
      fill_value map store image S.in_place S.as_long (Reset dtr0) r m
      ∙ rw (picked r p) (other_fresh image r (rw (ne_eqb r.first 0x02 n)))

  -- a bank with a lock byte is mapped
  has_record : (bank : ℕ) → lock_byte rs store bank ≡ 0x55 → mapped rs bank ≡ true
  unfolding lock_byte byte_at
  has_record bank = go (holder rs bank 0x02) refl
    where
      go : (f : Result Record Why) → holder rs bank 0x02 ≡ f → byte_at store f ≡ 0x55 → mapped rs bank ≡ true
      go (Ok r) f l =
          let w = holder_within map (length store) bank 0x02 S.in_place r f in
          (mapped_member map bank).1 (r, w.member, w.holds.same_bank)
      go (Err w) f l = absurd (omega arith)

  resets : (bank : ℕ) → 1 ≤ bank → selects dtr0 bank ≡ true → lock_byte rs store bank ≡ 0x55
      → BankReset map image after bank
  unfolding locks_bank
  resets bank h e l =
      let met : (r : Record) → r.bank ≡ bank → writable r ≡ true → Picked r =
      λ r b w. record { writes = w; selected = rw b e; opens = rw b l } in
      record {
        ram = λ r m b n k. takes r m (met r b (or_left (eqb r.kind 2) (eqb r.kind 4) (eq-eqb r.kind 2 k))) n;
        nvm = λ r m b n k. takes r m (met r b (or_right (eqb r.kind 2) (eqb r.kind 4) (eq-eqb r.kind 4 k))) n;
        lock =
            fill_locks map store image S (Reset dtr0) bank h (has_record bank l)
            ∙ rw (and_of _ _ e (eq-eqb _ _ l));
      }

  -- a value that is not chosen, since its bank is not selected, stays
  stays : (r : Record) → Member r map → (Selected dtr0 r.bank → ⊥) → value_of r after ≡ value_of r store
  stays r m n = changes.others r m (λ t. n (selected_is dtr0 r.bank (picked_is r t).selected))

  reset : StoreReset map store image dtr0 after
  reset =
      record {
        each_bank = λ z bank h l.
            resets bank h (passed _ (λ e. let n = (not_selected_is dtr0 bank e).none z in omega arith)) l;
        one_bank = λ h l. resets dtr0 h (passed _ (λ e. (not_selected_is dtr0 dtr0 e).other h refl)) l;
        others_stay = λ h bank n r m b. stays r m (λ t. n (sym b ∙ t.this h));
        bank_0_stays = λ r m b. stays r m (λ t. let h = t.some in omega arith);
        locked_stays = λ bank n r m b. changes.others r m (λ t. n (rw (← b) (picked_is r t).opens));
        read_only = λ r m n k.
            changes.others r m
            (λ t.
            ⊎_elim (λ z. n (eqb-true r.kind 2 z)) (λ z. k (eqb-true r.kind 4 z))
            (either _ _ (picked_is r t).writes));
        unmapped = changes.unmapped;
        as_long = changes.as_long;
      }

pub fill_resets : FillResets
fill_resets map store image S dtr0 = reset map store image S dtr0
