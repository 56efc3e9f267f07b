-- What an executed write comes to: nothing is taken; or a byte is staged; or it is a last byte, and the whole value is
-- put.
-- Assumes nothing.
use Prim.Native.Nat.{ℕ, ◌+◌, ◌-◌, ◌≤◌}
use mathlib.Core.Path.{◌≡◌, refl}
use mathlib.Core.Logic.{◌⊎◌, inl, inr, ⊎_elim}
use mathlib.Core.Bool.{true, false}
use mathlib.Core.List.{List}
use native.Mathlib.Omega.{arith}
use borrow.Author.Tests.{eq-eqb, ne_eqb, eqb-true, leb-true}
use lib.Dec.{eqb}
use lib.ListN.{take}
use Rattle.std.specs.Prelude.{Result, Ok, Err}
use Rattle.laws.specs.Outcome.{Outcome, leaves}
use Rattle.laws.proofs.Tests.{if_by, if_eq}
use Rattle.laws.proofs.Sides.{either, and_left, and_right}
use Rattle.records.specs.Map.{writable}
use Rattle.records.specs.Lookup.{holder}
use Rattle.records.specs.Facts.{Holds}
use Rattle.records.proofs.Locations.{holds_is, holder_at}
use Rattle.records.specs.declared.record.Record.{Record}
use Rattle.records.specs.declared.holder.Why.{Why}
use Rattle.banks.specs.Values.{put_value}
use Rattle.memory.specs.Staged.{none_staged, is_next, unlocked, taken, bytes_with, staged_of, wrote, take_byte}
use Rattle.memory.specs.Staged.{dropped, write_found, write_at, write_byte}
use Rattle.memory.specs.Promises.{Takes, WriteDrops, WriteNotLast}
use Rattle.memory.specs.declared.staged.Staged.{Staged}
use Rattle.memory.specs.declared.staged.Wrote.{Wrote}

-- the location is that of the next byte of the value that is staged
pub record Next (g : Staged) (r : Record) (location : ℕ) : Type 0 where
  pub some : 1 ≤ g.count
  pub same_bank : g.bank ≡ r.bank
  pub same_first : g.first ≡ r.first
  pub place : location ≡ r.first + g.count

-- what a byte that is taken meets
pub record Taken (rs : List Record) (store : List ℕ) (g : Staged) (r : Record) (location : ℕ) : Type 0 where
  pub writes : writable r ≡ true
  pub opens : unlocked rs store r ≡ true
  pub first_or_next : (location ≡ r.first) ⊎ Next g r location

next_is : (g : Staged) (r : Record) (location : ℕ) → is_next g r location ≡ true → Next g r location
next_is g r location e =
    record {
      some = search (and_left, and_right, leb-true);
      same_bank = search (and_left, and_right, eqb-true);
      same_first = search (and_left, and_right, eqb-true);
      place = search (and_left, and_right, eqb-true);
    }

pub taken_is : (rs : List Record) (store : List ℕ) (g : Staged) (r : Record) (location : ℕ)
    → taken rs store g r location ≡ true → Taken rs store g r location
unfolding taken
taken_is rs store g r location e =
    record {
      writes = search (and_left, and_right);
      opens = search (and_left, and_right);
      first_or_next =
          ⊎_elim (λ t. inl (eqb-true location r.first t)) (λ t. inr (next_is g r location t))
          (either (eqb location r.first) (is_next g r location) (search (and_left, and_right)));
    }

module _ (rs : List Record) (store : List ℕ) (g : Staged) (bank location byte : ℕ) where
  abbrev number : Record → ℕ
  number r = location - r.first

  -- byte number k of the value is staged
  abbrev stages : Record → Outcome Wrote
  stages r = leaves (wrote true (staged_of r (number r + 1) (bytes_with g (number r) byte))) store

  -- the whole value is put
  abbrev puts : Record → Outcome Wrote
  puts r = leaves (wrote true none_staged) (put_value r (take r.width (bytes_with g (number r) byte)) store)

  abbrev TakesIt : Record → Type 0
  TakesIt r = Takes rs store g bank location r

  pub write_cases : (P : Outcome Wrote → Type 0) → P (dropped store)
      → ((r : Record) → TakesIt r → (number r + 1 ≡ r.width → ⊥) → P (stages r))
      → ((r : Record) → TakesIt r → number r + 1 ≡ r.width → P (puts r)) → P (write_byte rs store g bank location byte)
  unfolding write_byte write_at write_found take_byte
  write_cases P none more last = go (holder rs bank location) refl
    where
      go : (f : Result Record Why) → holder rs bank location ≡ f → P (write_at rs store g location byte f)
      go (Ok r) e =
          if_by P (taken rs store g r location)
          (λ t.
          if_eq P (number r + 1) r.width
          (λ w. last r (record { found = e; took = t }) w)
          (λ w. more r (record { found = e; took = t }) w))
          (λ t. none)
      go (Err w) e = none

  module _ (r : Record) (t : TakesIt r) where
    pub write_more : (number r + 1 ≡ r.width → ⊥) → write_byte rs store g bank location byte ≡ stages r
    unfolding write_byte write_at write_found take_byte
    write_more w = rw (t.found, t.took, ne_eqb (number r + 1) r.width w)

    pub write_last : number r + 1 ≡ r.width → write_byte rs store g bank location byte ≡ puts r
    unfolding write_byte write_at write_found take_byte
    write_last w = rw (t.found, t.took, eq-eqb (number r + 1) r.width w)

    -- the location lies in the value
    pub takes_in : Holds r bank location
    takes_in = holds_is r bank location (holder_at bank location rs r t.found).1

pub write_drops : WriteDrops
write_drops rs store g bank location byte none =
    write_cases rs store g bank location byte (λ (o : Outcome Wrote). o ≡ leaves (wrote false none_staged) store) refl
    (λ r t w. absurd (none r t)) (λ r t w. absurd (none r t))

pub write_not_last : WriteNotLast
write_not_last rs store g bank location byte none =
    write_cases rs store g bank location byte (λ (o : Outcome Wrote). o.store ≡ store) refl (λ r t w. refl)
    (λ r t w.
    let h = takes_in rs store g bank location byte r t in
    absurd (none r (record { takes = t; last = omega arith })))
