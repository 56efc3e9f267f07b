-- A fill, record by record, as its two loops meet it: first each record is decided, then from the last record down each
-- that was chosen takes its fresh bytes.
-- Assumes nothing.
use Prim.Native.Nat.{ℕ, ◌+◌, ◌-◌, ◌/◌, ◌≤◌, ◌<◌}
use mathlib.Core.Path.{◌≡◌, refl, ap, sym, ◌∙◌}
use mathlib.Core.Bool.{Bool, true, false}
use mathlib.Core.List.{List}
use native.Mathlib.Omega.{arith}
use native.Mathlib.Nat.{sub-zero}
use borrow.Author.Tests.{leb-true}
use lib.ListN.{length, get_or}
use Rattle.std.specs.Prelude.{if◌then◌else◌}
use Rattle.laws.proofs.Items.{items_cons}
use Rattle.laws.proofs.Sides.{and_left, and_right}
use Rattle.records.specs.Map.{record_at, records_of, places_end}
use Rattle.records.specs.Order.{size_holds, ordered}
use Rattle.records.specs.declared.record.Record.{Record}
use Rattle.records.proofs.Walk.{member}
use Rattle.records.proofs.Members.{member_fields}
use Rattle.banks.specs.Rules.{placed}
use Rattle.banks.specs.Values.{put_value}
use Rattle.banks.proofs.Places.{placed_ordered, member_inside}
use Rattle.memory.specs.Filled.{chosen, fresh, filled_by, filled_of, filled_from, Picked}
use Rattle.memory.specs.declared.filled.Filling.{Filling}

-- a map that is in order has at most 64 records
pub few : (map : List ℕ) (n : ℕ) → placed map n ≡ true → length map / 8 ≤ 64
unfolding ordered size_holds
few map n p =
    let o = placed_ordered map n p in
    let h : length map ≤ 512 = leb-true (length map) 512 (search (and_left, and_right)) in
    omega arith

module _ (map store image : List ℕ) (picks : List Bool) where
  -- the records from number i on are done
  abbrev pub Done : List ℕ → ℕ → Type 0
  Done s i = (filling : Filling) → Picked map store filling picks → s ≡ filled_from map store image filling i

  pub done_all : (i : ℕ) (s : List ℕ) → i ≡ 0 → Done s i → (filling : Filling) → Picked map store filling picks
      → s ≡ filled_of (records_of map) store image filling
  unfolding filled_of records_of
  done_all i s z d filling t = rw (z, sub-zero) at (d filling t)

  module _ (i : ℕ) (h : 0 < i) (l : i ≤ length map / 8) where
    -- the value of record number i - 1 can be put into a store as long as this one, from an image as long
    pub fits : placed map (length store) ≡ true → length image ≡ length store → (s : List ℕ) → length s ≡ length store
        → (r : Record) → r ≡ record_at map (i - 1)
        → (1 ≤ r.width) × (places_end r ≤ length s) × (places_end r ≤ length image)
    fits p k s q r e =
        let m = member map (length map / 8) (i - 1) refl (omega arith) r e in
        let f = member_fields map (placed_ordered map (length store) p) r m in
        let w = member_inside map (length store) p r m in
        (f.some_width, omega arith, omega arith)

    module _ (s : List ℕ) (d : Done s i) (b : Bool) (p : get_or picks (i - 1) false ≡ b) where
      turn : (r : Record) → r ≡ record_at map (i - 1) → (after : List ℕ)
          → after ≡ (if b then put_value r (fresh image r) s else s) → Done after (i - 1)
      turn r e after c filling t =
          let back : i - 1 + 1 ≡ i = omega arith in
          let such : b ≡ chosen (records_of map) store filling r =
          sym p ∙ t.1 (i - 1) (omega arith) ∙ ap (chosen (records_of map) store filling) (sym e) in
          let cons = rw back at (items_cons (record_at map) (i - 1) (length map / 8) (omega arith) r e) in
          c ∙ rw (such, d filling t) (sym (ap (filled_by (chosen (records_of map) store filling) image store) cons))

      pub done_put : b ≡ true → (r : Record) → r ≡ record_at map (i - 1) → (after : List ℕ)
          → after ≡ put_value r (fresh image r) s → Done after (i - 1)
      done_put t r e after c = turn r e after (rw t c)

      pub done_passed : b ≡ false → Done s (i - 1)
      done_passed t = turn (record_at map (i - 1)) refl s (rw t)
