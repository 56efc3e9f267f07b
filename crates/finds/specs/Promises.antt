-- What is proved of the find calls. The proofs stand in proofs/Finds.antt.
-- Assumes nothing.
use Rattle.std.specs.Prelude.{◌≡◌, ◌↔◌, true, List, ℕ, ◌≤◌, ◌<◌, length, Result, Ok, IfOk}
use Rattle.laws.specs.Bits.{bits}
use Rattle.laws.specs.Numbers.{Given}
use Rattle.laws.specs.Settled.{Settles}
use Rattle.records.specs.Order.{ordered, order_number}
use Rattle.records.specs.Halving.{visited}
use Rattle.records.specs.Facts.{Says}
use Rattle.records.specs.declared.record.Record.{Record}
use Rattle.records.specs.declared.holder.Why.{Why}
use Rattle.refusals.specs.Numbers.{number_in}
use Rattle.refusals.specs.declared.refusal.Refusal.{Refusal}
use Rattle.finds.specs.Find.{accepted_find, find_of, what, place, width, find_tests, find_number, find_word}
use Rattle.finds.specs.declared.found.Finding.{Finding}

-- a map that passes 7, 8 and 9: no refusal, an answer exactly if what it says is so, and how many records are visited
abbrev pub FindSays : Type 0
FindSays =
    (map : List ℕ) → ordered map ≡ true → (bank location : ℕ) (f : Result Record Why)
    → (find_of map bank location ≡ Ok (record { found = f; count = length (visited map bank location) }))
    ↔ Says map bank location f

-- any other: its number, and no answer
abbrev pub FindRefuses : Type 0
FindRefuses =
    (map : List ℕ) (bank location n : ℕ) → 0 < n
    → (number_in (find_of map bank location) ≡ n) ↔ (order_number map ≡ n)

-- whatever is handed in, the count is at most 7; it is that of the look-up, and 7 to 9 go over all records before it
abbrev pub FindMost : Type 0
FindMost = (map : List ℕ) (bank location : ℕ) → IfOk (find_of map bank location) (λ x. x.count ≤ 7)

-- As one number.

-- 7 to 9 and 6 are given exactly if every test before passes and that one fails
abbrev pub FindNumbers : Type 0
FindNumbers =
    (map : List ℕ) (bank location n : ℕ) → 0 < n
    → (find_number map bank location ≡ n) ↔ Given (find_tests map bank location) n

-- 0 is given exactly if 7, 8 and 9 hold and bank and location are bytes
abbrev pub FindStands : Type 0
FindStands =
    (map : List ℕ) (bank location : ℕ)
    → (find_number map bank location ≡ 0) ↔ ((ordered map ≡ true) × (bank ≤ 255) × (location ≤ 255))

-- number | what << 8 | location << 16 | width << 24 | count << 32: each part stands in its bits, and nothing above them
pub record FindBack (w : ℕ) (x : Finding) : Type 0 where
  pub number : bits w 7 0 ≡ 0
  pub what : bits w 15 8 ≡ what x.found
  pub place : bits w 23 16 ≡ place x.found
  pub width : bits w 31 24 ≡ width x.found
  pub count : bits w 39 32 ≡ x.count
  pub rest : bits w 63 40 ≡ 0

abbrev pub FindShows : Type 0
FindShows =
    (map : List ℕ) (bank location : ℕ) → find_number map bank location ≡ 0
    → FindBack (find_word map bank location) (accepted_find map bank location)

-- a refusal is its number alone
abbrev pub FindAlone : Type 0
FindAlone =
    (map : List ℕ) (bank location : ℕ) → 0 < find_number map bank location
    → find_word map bank location ≡ find_number map bank location

-- What each public call promises of its result r; answers that meet the same promise are equal.

abbrev pub FindPromise : List ℕ → ℕ → ℕ → Result Finding Refusal → Type 0
FindPromise map bank location r = r ≡ find_of map bank location

abbrev pub FindWordPromise : List ℕ → ℕ → ℕ → ℕ → Type 0
FindWordPromise map bank location r = r ≡ find_word map bank location

abbrev pub FindSettled : Type 0
FindSettled = (map : List ℕ) (bank location : ℕ) → Settles (FindPromise map bank location)

abbrev pub FindWordSettled : Type 0
FindWordSettled = (map : List ℕ) (bank location : ℕ) → Settles (FindWordPromise map bank location)
