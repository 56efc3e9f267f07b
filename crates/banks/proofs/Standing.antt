-- The number of map, store and image, and what stands where it is 0.
-- Assumes nothing.
use mathlib.Core.Path.{◌≡◌, refl, sym, ◌∙◌}
use mathlib.Core.Bool.{true, ◌&&◌}
use mathlib.Core.List.{List, ◌++◌}
use Prim.Native.Nat.{ℕ}
use native.Mathlib.Omega.{arith}
use borrow.Author.Tests.{eqb-true}
use lib.ListN.{length}
use Rattle.laws.specs.Lists.{every}
use Rattle.laws.specs.Numbers.{first_failing}
use Rattle.laws.proofs.Tests.{both}
use Rattle.laws.proofs.Sides.{and_left, and_right}
use Rattle.laws.proofs.Numbers.{exactly_if, none_exactly_if}
use Rattle.laws.proofs.Joined.{joined_none, joined_some}
use Rattle.laws.proofs.Settled.{settles}
use Rattle.records.specs.Map.{records_of}
use Rattle.records.specs.Order.{size_holds, fields_hold, rising, ordered, order_tests, order_number}
use Rattle.records.proofs.Ordered.{ordered_of, ordered_zero}
use Rattle.banks.specs.Rules.{lengths_hold, places_hold, banks_hold, head_bytes_hold, placed}
use Rattle.banks.specs.Rules.{place_tests, bank_tests, check_tests, check_number}
use Rattle.banks.specs.Facts.{Stands}
use Rattle.banks.specs.Promises.{CheckNumbers, CheckStands, CheckSettled}

-- the lengths are equal, so an image as long as the store may stand for the image
same_lengths : (map : List ℕ) (n size : ℕ) → places_hold (records_of map) n size ≡ true → n ≡ size
unfolding places_hold lengths_hold
same_lengths map n size e = eqb-true n size (search (and_left, and_right))

placed_of : (map : List ℕ) (n size : ℕ) → ordered map ≡ true → places_hold (records_of map) n size ≡ true
    → placed map n ≡ true
unfolding placed
placed_of map n size o e = rw (o, same_lengths map n size e) (rw (same_lengths map n size e) at e)

-- 7 to 10 hold: the number of 10 is 0 behind 7 to 9
pub zero_placed : (map : List ℕ) (n size : ℕ) → ordered map ≡ true → first_failing (place_tests map n size) ≡ 0
    → placed map n ≡ true
zero_placed map n size o e =
    placed_of map n size o (both (places_hold (records_of map) n size) true
    ((none_exactly_if (place_tests map n size) refl).0 e)).0

-- the number of all three: that of the first list of tests that gives one
module _ (map store : List ℕ) (size : ℕ) where
  pub order_first : (n : ℕ) → (n ≡ 0 → ⊥) → n ≡ order_number map → n ≡ check_number map store size
  unfolding check_number order_number
  order_first n h e =
      sym (joined_some (order_tests map) (place_tests map (length store) size ++ bank_tests map store) n (omega arith)
      (sym e))

  pub place_next : (n : ℕ) → order_number map ≡ 0 → (n ≡ 0 → ⊥) → n ≡ first_failing (place_tests map (length store) size)
      → n ≡ check_number map store size
  unfolding check_number order_number
  place_next n o h e =
      sym (joined_none (order_tests map) (place_tests map (length store) size ++ bank_tests map store) refl o
      ∙ joined_some (place_tests map (length store) size) (bank_tests map store) n (omega arith) (sym e))

  pub bank_last : order_number map ≡ 0 → first_failing (place_tests map (length store) size) ≡ 0
      → check_number map store size ≡ first_failing (bank_tests map store)
  unfolding check_number order_number
  bank_last o p =
      joined_none (order_tests map) (place_tests map (length store) size ++ bank_tests map store) refl o
      ∙ joined_none (place_tests map (length store) size) (bank_tests map store) refl p

pub stands : (map store : List ℕ) (size : ℕ) → check_number map store size ≡ 0 → Stands map store size
unfolding check_number
stands map store size e =
    let rs = records_of map in
    let all = (none_exactly_if (check_tests map store size) refl).0 e in
    let sized = both (size_holds (length map)) _ all in
    let fields = both (every fields_hold rs) _ sized.1 in
    let rise = both (rising rs) _ fields.1 in
    let places = both (places_hold rs (length store) size) _ rise.1 in
    let eleven = both (banks_hold rs && head_bytes_hold rs store) true places.1 in
    let banks = both (banks_hold rs) (head_bytes_hold rs store) eleven.0 in
    let o = ordered_of map sized.0 fields.0 rise.0 in
    record {
      in_order = o;
      in_place = placed_of map (length store) size o places.0;
      as_long = sym (same_lengths map (length store) size places.0);
      banks = banks.0;
      heads = banks.1;
    }

pub is_standing : (map store : List ℕ) (size : ℕ) → Stands map store size → check_number map store size ≡ 0
unfolding placed
is_standing map store size s =
    let places = both (ordered map) (places_hold (records_of map) (length store) (length store)) s.in_place in
    bank_last map store size (ordered_zero map s.in_order)
    ((none_exactly_if (place_tests map (length store) size) refl).1 (rw (s.as_long, places.1)))
    ∙ (none_exactly_if (bank_tests map store) refl).1 (rw (s.banks, s.heads))

pub check_stands : CheckStands
check_stands map store size = (stands map store size, is_standing map store size)

pub check_numbers : CheckNumbers
unfolding check_number
check_numbers map store size n h = exactly_if (check_tests map store size) n h

pub check_settled : CheckSettled
check_settled map store image = settles (check_number map store (length image))
