-- The number of a map by itself, and what holds where it is 0.
-- Assumes nothing.
use mathlib.Core.Path.{◌≡◌, refl}
use mathlib.Core.Bool.{true}
use mathlib.Core.List.{List}
use Prim.Native.Nat.{ℕ, ◌%◌, ◌≤◌}
use borrow.Author.Tests.{leb-true}
use lib.Dec.{leb, eqb}
use lib.ListN.{length}
use Rattle.laws.specs.Lists.{every}
use Rattle.laws.proofs.Tests.{both}
use Rattle.laws.proofs.Numbers.{exactly_if, none_exactly_if}
use Rattle.laws.proofs.Settled.{settles}
use Rattle.records.specs.Map.{records_of}
use Rattle.records.specs.Order.{size_holds, fields_hold, rising, ordered, order_tests, order_number}
use Rattle.records.specs.Promises.{OrderNumbers, OrderStands, OrderSettled}

pub ordered_of : (map : List ℕ)
    → size_holds (length map) ≡ true → every fields_hold (records_of map) ≡ true → rising (records_of map) ≡ true
    → ordered map ≡ true
unfolding ordered
ordered_of map a b c = rw (a, b, c)

pub zero_ordered : (map : List ℕ) → order_number map ≡ 0 → ordered map ≡ true
unfolding order_number
zero_ordered map e =
    let rs = records_of map in
    let size = both (size_holds (length map)) _ ((none_exactly_if (order_tests map) refl).0 e) in
    let fields = both (every fields_hold rs) _ size.1 in
    let rise = both (rising rs) true fields.1 in
    ordered_of map size.0 fields.0 rise.0

pub ordered_size : (map : List ℕ) → ordered map ≡ true → size_holds (length map) ≡ true
unfolding ordered
ordered_size map o = (both (size_holds (length map)) _ o).0

pub size_most : (n : ℕ) → size_holds n ≡ true → n ≤ 512
unfolding size_holds
size_most n h = leb-true n 512 (both (eqb (n % 8) 0) (leb n 512) h).1

pub ordered_zero : (map : List ℕ) → ordered map ≡ true → order_number map ≡ 0
unfolding order_number ordered
ordered_zero map o =
    let rs = records_of map in
    let size = both (size_holds (length map)) _ o in
    let fields = both (every fields_hold rs) (rising rs) size.1 in
    (none_exactly_if (order_tests map) refl).1 (rw (size.0, fields.0, fields.1))

pub order_stands : OrderStands
order_stands map = (zero_ordered map, ordered_zero map)

pub order_numbers : OrderNumbers
unfolding order_number
order_numbers map n h = exactly_if (order_tests map) n h

pub order_settled : OrderSettled
order_settled map = settles (order_number map)
