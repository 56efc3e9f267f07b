-- The find calls: their numbers, their answers, and these as one number.
-- Assumes nothing.
use mathlib.Core.Path.{◌≡◌, refl, ap, sym, ◌∙◌}
use mathlib.Core.Bool.{true, false, ◌&&◌}
use mathlib.Core.List.{List, [], ◌∷◌}
use Prim.Native.Nat.{ℕ, zero, suc, ◌+◌, ◌*◌, ◌^◌, ◌≤◌, ◌<◌}
use native.Mathlib.Omega.{arith}
use borrow.Author.Tests.{leb-true, le-leb, lt-leb, ne_eqb}
use lib.Dec.{leb}
use lib.ListN.{length}
use Rattle.std.specs.Prelude.{Result, Ok, Err, IfOk}
use Rattle.laws.specs.Numbers.{Test, test, first_failing}
use Rattle.laws.proofs.Bits.{bits_is}
use Rattle.laws.proofs.Tests.{if_eq, both}
use Rattle.laws.proofs.Numbers.{exactly_if, none_exactly_if}
use Rattle.laws.proofs.Settled.{settles}
use Rattle.laws.proofs.Joined.{joined_none, joined_some}
use Rattle.records.specs.Map.{records_of}
use Rattle.records.specs.Order.{ordered, order_tests, order_number}
use Rattle.records.specs.Lookup.{holder}
use Rattle.records.specs.Halving.{visited, sought}
use Rattle.records.specs.Facts.{Says}
use Rattle.records.specs.declared.record.Record.{Record}
use Rattle.records.specs.declared.holder.Why.{Why}
use Rattle.records.specs.declared.holder.Sought.{Sought}
use Rattle.records.specs.declared.holder.Why.TheVariants.{Absent, Hole, Past}
use Rattle.records.proofs.Members.{member_fields}
use Rattle.records.proofs.Ordered.{zero_ordered, ordered_zero, ordered_size, size_most}
use Rattle.records.proofs.Halving.{halving_finds}
use Rattle.records.proofs.Visits.{visited_most}
use Rattle.records.proofs.Missing.{found_exactly}
use Rattle.finds.specs.Find.{accepted_find, find_of, what, place, width, found_word, answer_word, find_tests, find_number, find_word}
use Rattle.refusals.specs.Numbers.{number_of, number_in}
use Rattle.refusals.specs.declared.refusal.Refusal.{Refusal}
use Rattle.refusals.proofs.Told.{refusal_is, not_none}
use Rattle.refusals.proofs.Among.{number_among}
use Rattle.finds.specs.Promises.{FindSays, FindRefuses, FindMost, FindNumbers, FindStands, FindBack, FindShows, FindAlone}
use Rattle.finds.specs.Promises.{FindSettled, FindWordSettled}
use Rattle.finds.specs.declared.found.Finding.{Finding}

-- 7 to 9 hold, or not
pub find_found : (map : List ℕ) (bank location : ℕ) → order_number map ≡ 0
    → find_of map bank location ≡ Ok (accepted_find map bank location)
unfolding find_of
find_found map bank location e = rw e

pub find_refused : (map : List ℕ) (bank location : ℕ) (e : Refusal) → number_of e ≡ order_number map
    → Err e ≡ find_of map bank location
unfolding find_of
find_refused map bank location e q = rw (ne_eqb (order_number map) 0 (not_none e _ q)) (ap Err (refusal_is e _ q))

-- what halving finds and counts is that answer
pub sought_is : (map : List ℕ) → ordered map ≡ true → (bank location : ℕ) (s : Sought) → s ≡ sought map bank location
    → record { found = s.found; count = s.count } ≡ accepted_find map bank location
unfolding sought
sought_is map o bank location s e = rw (e, halving_finds map o bank location)

-- and the count is a byte
pub sought_fits : (map : List ℕ) → ordered map ≡ true → (bank location : ℕ) (s : Sought) → s ≡ sought map bank location
    → s.count ≤ 255
unfolding sought
sought_fits map o bank location s e =
    let most = visited_most map (ordered_size map o) bank location in
    let count = ap (λ (x : Sought). x.count) e in
    omega arith

pub find_says : FindSays
find_says map o bank location f =
    let e = find_found map bank location (ordered_zero map o) in
    let exactly = found_exactly map o bank location f in (
      λ q.
          let same : accepted_find map bank location ≡ record { found = f; count = length (visited map bank location) } = cc in
          exactly.0 (ap (λ (x : Finding). x.found) same),
      λ s. e ∙ rw (exactly.1 s),
    )

pub find_most : FindMost
unfolding find_of
find_most map bank location =
    if_eq (λ (x : Result Finding Refusal). IfOk x (λ y. y.count ≤ 7)) (order_number map) 0
    (λ e. visited_most map (ordered_size map (zero_ordered map e)) bank location)
    (λ n. tt)

of_number : (map : List ℕ) (bank location : ℕ) → number_in (find_of map bank location) ≡ order_number map
unfolding find_of order_number
of_number map bank location =
    if_eq (λ (x : Result Finding Refusal). number_in x ≡ order_number map) (order_number map) 0
    (λ e. sym e)
    (λ n. number_among (order_tests map) refl (order_number map) refl n)

-- an accepted map has at most 64 records
pub found_size : (map : List ℕ) (bank location : ℕ) → number_in (find_of map bank location) ≡ 0 → length map ≤ 512
found_size map bank location e =
    size_most (length map) (ordered_size map (zero_ordered map (sym (of_number map bank location) ∙ e)))

pub find_refuses : FindRefuses
find_refuses map bank location n h =
    (λ q. sym (of_number map bank location) ∙ q, λ q. of_number map bank location ∙ q)

-- as one number
module _ (map : List ℕ) (bank location : ℕ) where
  abbrev last_test : List Test
  last_test = test 6 (leb bank 255 && leb location 255) ∷ []

  pub number_refused : (n : ℕ) → 0 < n → order_number map ≡ n → find_number map bank location ≡ n
  unfolding order_number find_number
  number_refused n h e = joined_some (order_tests map) last_test n h e

  number_sound : order_number map ≡ 0 → find_number map bank location ≡ first_failing last_test
  unfolding order_number find_number
  number_sound e = joined_none (order_tests map) last_test refl e

  -- 0: 7 to 9 hold, and both are bytes
  pub number_none : order_number map ≡ 0 → bank ≤ 255 → location ≤ 255 → find_number map bank location ≡ 0
  unfolding first_failing
  number_none e b l = number_sound e ∙ rw (le-leb bank 255 b, le-leb location 255 l)

  -- one of them is no byte
  pub number_6 : order_number map ≡ 0 → (leb bank 255 && leb location 255) ≡ false → find_number map bank location ≡ 6
  unfolding first_failing
  number_6 e f = number_sound e ∙ rw f

  pub bank_over : order_number map ≡ 0 → 255 < bank → find_number map bank location ≡ 6
  bank_over e h = number_6 e (rw (lt-leb bank 255 h))

  pub location_over : order_number map ≡ 0 → bank ≤ 255 → 255 < location → find_number map bank location ≡ 6
  location_over e b h = number_6 e (rw (le-leb bank 255 b, lt-leb location 255 h))

  pub word_refused : (n : ℕ) → 0 < n → find_number map bank location ≡ n → find_word map bank location ≡ n
  unfolding find_word
  word_refused n h e = rw (e, ne_eqb n 0 (λ z. absurd (omega arith)))

  pub word_found : find_number map bank location ≡ 0 → find_word map bank location ≡ answer_word (accepted_find map bank location)
  unfolding find_word
  word_found e = rw e

pub find_numbers : FindNumbers
unfolding find_number
find_numbers map bank location n h = exactly_if (find_tests map bank location) n h

pub find_stands : FindStands
find_stands map bank location =
    (λ e. passed (order_number map) refl e, λ x. number_none map bank location (ordered_zero map x.0) x.1 x.2)
  where
    last : first_failing (last_test map bank location) ≡ 0 → (bank ≤ 255) × (location ≤ 255)
    last e =
        let t = (none_exactly_if (last_test map bank location) refl).0 e in
        let b = both (leb bank 255) (leb location 255) (both _ true t).0 in
        (leb-true bank 255 b.0, leb-true location 255 b.1)

    passed : (n : ℕ) → order_number map ≡ n → find_number map bank location ≡ 0
        → (ordered map ≡ true) × (bank ≤ 255) × (location ≤ 255)
    passed zero q e =
        let bytes = last (sym (number_sound map bank location q) ∙ e) in
        (zero_ordered map q, bytes.0, bytes.1)
    passed (suc n) q e =
        let other = number_refused map bank location (suc n) (omega arith) q in
        absurd (omega arith)

pub find_alone : FindAlone
find_alone map bank location h = word_refused map bank location (find_number map bank location) h refl

-- what is found in an ordered map fits its bits
fits : (map : List ℕ) → ordered map ≡ true → (bank location : ℕ) (f : Result Record Why) → Says map bank location f
    → (what f < 2 ^ 8) × (place f < 2 ^ 8) × (width f < 2 ^ 8)
fits map o bank location (Ok r) s =
    let fields = member_fields map o r s.0 in
    (omega arith, omega arith, omega arith)
fits map o bank location (Err Absent) s = (omega arith, omega arith, omega arith)
fits map o bank location (Err (Hole n)) s =
    let x = s.mapped in
    let fields = member_fields map o x.0 x.1 in
    let held = x.2 in
    (omega arith, omega arith, omega arith)
fits map o bank location (Err Past) s = (omega arith, omega arith, omega arith)

parts : (w x y z n : ℕ) (f : Finding) → w ≡ x * 2 ^ 8 + y * 2 ^ 16 + z * 2 ^ 24 + n * 2 ^ 32
    → x ≡ what f.found → y ≡ place f.found → z ≡ width f.found → n ≡ f.count
    → x < 2 ^ 8 → y < 2 ^ 8 → z < 2 ^ 8 → n < 2 ^ 8
    → FindBack w f
parts w x y z n f e a b c g p q r s =
    record {
      number = bits_is w 7 0 (x + y * 2 ^ 8 + z * 2 ^ 16 + n * 2 ^ 24) 0 0 (omega arith) (omega arith) (omega arith);
      what = bits_is w 15 8 (y + z * 2 ^ 8 + n * 2 ^ 16) x 0 (omega arith) p (omega arith) ∙ a;
      place = bits_is w 23 16 (z + n * 2 ^ 8) y (x * 2 ^ 8) (omega arith) q (omega arith) ∙ b;
      width = bits_is w 31 24 n z (x * 2 ^ 8 + y * 2 ^ 16) (omega arith) r (omega arith) ∙ c;
      count = bits_is w 39 32 0 n (x * 2 ^ 8 + y * 2 ^ 16 + z * 2 ^ 24) (omega arith) s (omega arith) ∙ g;
      rest = bits_is w 63 40 0 0 w (omega arith) (omega arith) (omega arith);
    }

pub find_shows : FindShows
unfolding found_word
find_shows map bank location e =
    let o = ((find_stands map bank location).0 e).0 in
    let f = holder (records_of map) bank location in
    let n = length (visited map bank location) in
    let small = fits map o bank location f ((found_exactly map o bank location f).0 refl) in
    let most = visited_most map (ordered_size map o) bank location in
    parts (find_word map bank location) (what f) (place f) (width f) n (accepted_find map bank location)
    (word_found map bank location e) refl refl refl refl small.0 small.1 small.2 (omega arith)

pub find_settled : FindSettled
find_settled map bank location = settles (find_of map bank location)

pub find_word_settled : FindWordSettled
find_word_settled map bank location = settles (find_word map bank location)
