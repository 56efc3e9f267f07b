-- The number of a comparison: the first store's, the second's, then 15; and what each return of the code has to show.
-- Assumes nothing.
use Prim.Native.Nat.{ℕ, zero, suc, ◌*◌, ◌≤◌, ◌<◌}
use mathlib.Core.Path.{◌≡◌, refl, ap, sym, ◌∙◌}
use mathlib.Core.Logic.{⊎_elim}
use mathlib.Core.Bool.{true}
use mathlib.Core.List.{List}
use native.Mathlib.Omega.{arith}
use borrow.Author.Tests.{ne_eqb, leb-true, leb-false}
use lib.ListN.{length}
use Rattle.std.specs.Prelude.{if◌then◌else◌, Result, Ok, Err}
use Rattle.refusals.specs.Numbers.{number_of, refusal_of}
use Rattle.refusals.specs.declared.refusal.Refusal.{Refusal}
use Rattle.refusals.proofs.Among.{number_among}
use Rattle.refusals.proofs.Told.{refusal_is, not_none}
use Rattle.laws.specs.Numbers.{first_failing}
use Rattle.laws.proofs.Bits.{bits_is}
use Rattle.laws.proofs.Joined.{joined_none, joined_some}
use Rattle.laws.proofs.Numbers.{exactly_if, none_exactly_if}
use Rattle.laws.proofs.Sides.{chosen}
use Rattle.laws.proofs.Tests.{both, if_by, if_eq}
use Rattle.records.specs.Map.{records_of}
use Rattle.records.specs.Order.{ordered}
use Rattle.records.proofs.Ordered.{ordered_zero, ordered_size, size_most}
use Rattle.banks.specs.Rules.{places_hold, placed, head_bytes_hold, place_tests, check_tests, check_number}
use Rattle.banks.specs.Facts.{Stands}
use Rattle.banks.proofs.Places.{placed_ordered}
use Rattle.banks.proofs.Standing.{stands, is_standing, bank_last}
use Rattle.compare.specs.Compare.{differing, both_tests, has_room, room_tests, compare_tests, compare_number, compare_of, count_in}
use Rattle.compare.specs.Compare.{list_of, listed_over, output_of, compare_word, BothPlaced}
use Rattle.compare.specs.Promises.{CompareNumbers, CompareStands, SecondGives11, CompareRefuses, CompareMost}
use Rattle.compare.specs.Promises.{CompareShows, CompareAlone, ComparePromise}
use Rattle.compare.specs.Promises.{Compares, SettlesCompared, CompareSettled, CompareWordSettled}
use Rattle.compare.proofs.Listed.{length_differing}

module _ (map old new : List ℕ) where
  -- the first store's number, or the second's
  pub first_refuses : (n : ℕ) → (n ≡ 0 → ⊥) → n ≡ check_number map old (length new)
      → n ≡ first_failing (both_tests map old new)
  unfolding check_number
  first_refuses n h e = sym (joined_some (check_tests map old (length new)) _ n (omega arith) (sym e))

  pub second_says : check_number map old (length new) ≡ 0
      → check_number map new (length old) ≡ first_failing (both_tests map old new)
  unfolding check_number
  second_says e =
      let rest : first_failing (both_tests map old new) ≡ first_failing _ = joined_none (check_tests map old (length new)) _ refl e in
      search (sym rest)

  -- both pass
  first_zero : first_failing (both_tests map old new) ≡ 0 → check_number map old (length new) ≡ 0
  first_zero e = go (check_number map old (length new)) refl
    where
      go : (n : ℕ) → check_number map old (length new) ≡ n → n ≡ 0
      go zero q = refl
      go (suc n) q = first_refuses (suc n) (λ z. absurd (omega arith)) (sym q) ∙ e

  pub both_stand : first_failing (both_tests map old new) ≡ 0 → Stands map old (length new) × Stands map new (length old)
  both_stand e =
      (stands map old (length new) (first_zero e), stands map new (length old) (second_says (first_zero e) ∙ e))

  pub both_placed : Stands map old (length new) → BothPlaced map old new
  both_placed s = (s.in_place, s.as_long)

  pub zero_both_placed : first_failing (both_tests map old new) ≡ 0 → BothPlaced map old new
  zero_both_placed e = both_placed (both_stand e).0

  -- rule 7 allows at most 64 records
  pub at_most_64 : BothPlaced map old new → length (differing map old new) ≤ 64
  at_most_64 p =
      let size = size_most (length map) (ordered_size map (placed_ordered map (length old) p.0)) in
      let few = length_differing map old new in
      omega arith

  module _ (room : ℕ) where
    pub number_refused : (n : ℕ) → (n ≡ 0 → ⊥) → n ≡ first_failing (both_tests map old new)
        → compare_number map old new room ≡ n
    unfolding compare_number
    number_refused n h e = joined_some (both_tests map old new) (room_tests map old new room) n (omega arith) (sym e)

    number_last : first_failing (both_tests map old new) ≡ 0
        → compare_number map old new room ≡ first_failing (room_tests map old new room)
    unfolding compare_number
    number_last e = joined_none (both_tests map old new) (room_tests map old new room) refl e

    pub number_15 : first_failing (both_tests map old new) ≡ 0 → room < 24 * length (differing map old new)
        → compare_number map old new room ≡ 15
    unfolding first_failing
    number_15 e h =
        number_last e ∙ if_by (λ (n : ℕ). n ≡ 15) (has_room map old new room) (λ t. let enough = leb-true _ room t in absurd (omega arith)) (λ t. refl)

    -- 0: both pass, and there is room
    both_zero : compare_number map old new room ≡ 0 → first_failing (both_tests map old new) ≡ 0
    both_zero e = go (first_failing (both_tests map old new)) refl
      where
        go : (n : ℕ) → first_failing (both_tests map old new) ≡ n → n ≡ 0
        go zero q = refl
        go (suc n) q = sym (number_refused (suc n) (λ z. absurd (omega arith)) (sym q)) ∙ e

    room_enough : compare_number map old new room ≡ 0 → 24 * length (differing map old new) ≤ room
    room_enough e =
        let last = (none_exactly_if (room_tests map old new room) refl).0 (sym (number_last (both_zero e)) ∙ e) in
        let enough = leb-true _ room (both (has_room map old new room) true last).0 in
        omega arith

    pub accepted : compare_number map old new room ≡ 0
        → Stands map old (length new) × Stands map new (length old) × (24 * length (differing map old new) ≤ room)
    accepted e =
        let s = both_stand (both_zero e) in
        (s.0, s.1, room_enough e)

    pub number_0 : first_failing (both_tests map old new) ≡ 0 → 24 * length (differing map old new) ≤ room
        → compare_number map old new room ≡ 0
    unfolding first_failing
    number_0 e h =
        number_last e ∙ if_by (λ (n : ℕ). n ≡ 0) (has_room map old new room) (λ t. refl) (λ t. let less = leb-false _ room t in absurd (omega arith))

  both_none : Stands map old (length new) → Stands map new (length old) → first_failing (both_tests map old new) ≡ 0
  both_none s t =
      sym (second_says (is_standing map old (length new) s)) ∙ is_standing map new (length old) t

  -- the second store, after the first has passed
  second_is : Stands map old (length new)
      → check_number map new (length old) ≡ (if head_bytes_hold (records_of map) new then 0 else 11)
  unfolding placed first_failing
  second_is s =
      let places = both (ordered map) (places_hold (records_of map) (length old) (length old)) s.in_place in
      bank_last map new (length old) (ordered_zero map s.in_order)
      ((none_exactly_if (place_tests map (length new) (length old)) refl).1 (rw (s.as_long, places.1)))
      ∙ rw s.banks

  -- what a return has to show
  module _ (before : List ℕ) where
    pub refuses : (e : Refusal) → compare_number map old new (length before) ≡ number_of e
        → ComparePromise map old new before (Err e) before
    unfolding compare_of output_of
    refuses e q =
        let some = ne_eqb (compare_number map old new (length before)) 0 (not_none e _ (sym q)) in
        record { answers = rw some (ap Err (refusal_is e _ (sym q))); leaves = rw some }

    pub lists : compare_number map old new (length before) ≡ 0
        → (count : ℕ) → count ≡ length (differing map old new)
        → (output : List ℕ) → output ≡ listed_over (list_of map old new) before
        → ComparePromise map old new before (Ok count) output
    unfolding compare_of output_of
    lists e count q output w = record { answers = rw (e, q); leaves = rw e w }

pub compare_numbers : CompareNumbers
unfolding compare_number
compare_numbers map old new room n h = exactly_if (compare_tests map old new room) n h

pub compare_stands : CompareStands
compare_stands map old new room =
    (accepted map old new room, λ s. number_0 map old new room (both_none map old new s.0 s.1) s.2)

pub second_gives_11 : SecondGives11
second_gives_11 map old new e n h =
    let is = second_is map old new (stands map old (length new) e) in (
      λ q.
          ⊎_elim
          (λ x. absurd (omega (arith, x.1)))
          (λ x. (sym x.1, x.0))
          (chosen (head_bytes_hold (records_of map) new) (sym is ∙ q)),
      λ q. is ∙ rw q.1 (sym q.0),
    )

-- a number that is not 0 is the refusal's
told : (map old new : List ℕ) (room : ℕ) → (compare_number map old new room ≡ 0 → ⊥)
    → number_of (refusal_of (compare_number map old new room)) ≡ compare_number map old new room
unfolding compare_number
told map old new room h = number_among (compare_tests map old new room) refl _ refl h

pub compare_refuses : CompareRefuses
unfolding compare_of output_of
compare_refuses map old new before h =
    let k : compare_number map old new (length before) ≡ 0 → ⊥ = λ z. absurd (omega arith) in
    let some = ne_eqb (compare_number map old new (length before)) 0 k in
    (rw some (told map old new (length before) k), rw some, rw some)

pub compare_most : CompareMost
unfolding compare_of
compare_most map old new room =
    if_eq (λ (c : Result ℕ Refusal). count_in c ≤ 64) (compare_number map old new room) 0
    (λ e. at_most_64 map old new (both_placed map old new (accepted map old new room e).0))
    (λ n. omega arith)

-- as one number
pub compare_shows : CompareShows
unfolding compare_of compare_word
compare_shows map old new room e =
    let few = at_most_64 map old new (both_placed map old new (accepted map old new room e).0) in
    let n = length (differing map old new) in
    rw e (record {
      number = bits_is _ 7 0 n 0 0 (omega arith) (omega arith) (omega arith);
      count = bits_is _ 31 8 0 n 0 (omega arith) (omega arith) (omega arith);
    })

pub compare_alone : CompareAlone
unfolding compare_of compare_word
compare_alone map old new room h =
    let k : compare_number map old new room ≡ 0 → ⊥ = λ z. absurd (omega arith) in
    rw (ne_eqb (compare_number map old new room) 0 k, told map old new room k) (omega arith)

settles : {A : Type 0} (answer : A) (written : List ℕ)
    → SettlesCompared (λ (r : A) (output : List ℕ). Compares r output answer written)
settles answer written r s output other p q = (p.answers ∙ sym q.answers, p.leaves ∙ sym q.leaves)

pub compare_settled : CompareSettled
compare_settled map old new before = settles _ _

pub compare_word_settled : CompareWordSettled
compare_word_settled map old new before = settles _ _
