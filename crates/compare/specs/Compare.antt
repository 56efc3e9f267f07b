-- Compare two images: one map, two stores, and a list of the values that differ. Paper 02, Item 1; the numbers 7 to 11 are those of
-- paper 01.
-- Assumes nothing.
use Rattle.std.specs.Prelude.{ℕ, ◌+◌, ◌*◌, ◌^◌, ◌/◌, ◌≡◌, Bool, true, false, not, ◌&&◌, List, [], ◌∷◌, ◌++◌, leb, eqb, length, drop, if◌then◌else◌, Result, Ok, Err}
use Rattle.laws.specs.Counts.{below}
use Rattle.laws.specs.Numbers.{Test, test, first_failing}
use Rattle.records.specs.Map.{record_at}
use Rattle.records.specs.declared.record.Record.{Record}
use Rattle.banks.specs.Rules.{check_tests, placed}
use Rattle.banks.specs.Values.{value_of, padded}
use Rattle.refusals.specs.Numbers.{number_in, refusal_of}
use Rattle.refusals.specs.declared.refusal.Refusal.{Refusal}

-- the same bytes
abbrev pub same : List ℕ → List ℕ → Bool
same [] [] = true
same [] (y ∷ ys) = false
same (x ∷ xs) [] = false
same (x ∷ xs) (y ∷ ys) = eqb x y && same xs ys

-- a value differs: its bytes in the two stores are not the same
unfoldable pub differs : List ℕ → List ℕ → Record → Bool
differs old new r = not (same (value_of r old) (value_of r new))

-- of a list those that pass a test, in its order
abbrev pub those : (ℕ → Bool) → List ℕ → List ℕ
those f [] = []
those f (i ∷ l) = if f i then i ∷ those f l else those f l

-- each differing value once, in map order, no equal one: the positions of their records
unfoldable pub differing : List ℕ → List ℕ → List ℕ → List ℕ
differing map old new = those (λ i. differs old new (record_at map i)) (below (length map / 8))

-- one record of 24 bytes each: bank, first location, width, kind, four zeros, old bytes, new bytes (each 8, zero filled at the
-- end). A record of the list is called a difference here; old is the first store
unfoldable pub difference_of : List ℕ → List ℕ → Record → List ℕ
difference_of old new r =
    (r.bank ∷ r.first ∷ r.width ∷ r.kind ∷ 0 ∷ 0 ∷ 0 ∷ 0 ∷ []) ++ padded (value_of r old) ++ padded (value_of r new)

-- what each of a list gives, one behind the other
abbrev pub joined : (ℕ → List ℕ) → List ℕ → List ℕ
joined f [] = []
joined f (i ∷ l) = f i ++ joined f l

-- the list, no header
unfoldable pub list_of : List ℕ → List ℕ → List ℕ → List ℕ
list_of map old new = joined (λ i. difference_of old new (record_at map i)) (differing map old new)

-- both stores must pass numbers 7 to 11, the first store tested first, each with the other in the image's place
abbrev pub both_tests : List ℕ → List ℕ → List ℕ → List Test
both_tests map old new = check_tests map old (length new) ++ check_tests map new (length old)

-- 24 bytes for each differing value
abbrev pub has_room : List ℕ → List ℕ → List ℕ → ℕ → Bool
has_room map old new room = leb (24 * length (differing map old new)) room

-- output room too small for the whole list is number 15
abbrev pub room_tests : List ℕ → List ℕ → List ℕ → ℕ → List Test
room_tests map old new room = test 15 (has_room map old new room) ∷ []

abbrev pub compare_tests : List ℕ → List ℕ → List ℕ → ℕ → List Test
compare_tests map old new room = both_tests map old new ++ room_tests map old new room

unfoldable pub compare_number : List ℕ → List ℕ → List ℕ → ℕ → ℕ
compare_number map old new room = first_failing (compare_tests map old new room)

-- how many values differ, or the refusal
unfoldable pub compare_of : List ℕ → List ℕ → List ℕ → ℕ → Result ℕ Refusal
compare_of map old new room =
    if eqb (compare_number map old new room) 0 then Ok (length (differing map old new))
    else Err (refusal_of (compare_number map old new room))

-- the count; a refusal has none
abbrev pub count_in : Result ℕ Refusal → ℕ
count_in (Ok count) = count
count_in (Err refusal) = 0

-- the list, and bytes past the list stay
unfoldable pub listed_over : List ℕ → List ℕ → List ℕ
listed_over list before = list ++ drop (length list) before

-- what the output is, that was `before`: the list over it; a refusal leaves the output untouched
unfoldable pub output_of : List ℕ → List ℕ → List ℕ → List ℕ → List ℕ
output_of map old new before =
    if eqb (compare_number map old new (length before)) 0 then listed_over (list_of map old new) before else before

-- as one number: number | count << 8
unfoldable pub compare_word : Result ℕ Refusal → ℕ
compare_word c = number_in c + count_in c * 2 ^ 8

-- Inside the call: what 7 to 11 of the first store give, and what one turn over the map writes.

abbrev pub BothPlaced : List ℕ → List ℕ → List ℕ → Type 0
BothPlaced map old new = (placed map (length old) ≡ true) × (length new ≡ length old)

-- the difference of a value that differs; else nothing
unfoldable pub difference_if : List ℕ → List ℕ → Record → List ℕ
difference_if old new r = if differs old new r then difference_of old new r else []
