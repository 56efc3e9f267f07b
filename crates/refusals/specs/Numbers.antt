-- The number of each refusal. Paper 01, "Refusal numbers", and paper 02, Items 5 to 7. Proved in proofs/Told.antt.
-- Assumes nothing.
use Rattle.std.specs.Prelude.{◌≡◌, ◌⊎◌, ℕ, ◌<◌, ◌≤◌, eqb, if◌then◌else◌, Result, Ok, Err, MatchResult}
use Rattle.refusals.specs.declared.refusal.Refusal.{Refusal}
use Rattle.refusals.specs.declared.refusal.Refusal.TheVariants.{FrameTooLarge, ReservedAddress, ReservedInstance, ReservedEvent, BlankNotZero, OutOfRange, MapSize, RecordFields, RecordOrder, StorePlaces, BankRules, StateRules, BrokenRecord, NoValue, RoomTooSmall, NotWritable}
use Rattle.refusals.specs.declared.refusal.UnknownNumber.{UnknownNumber}

abbrev pub number_of : Refusal → ℕ
number_of FrameTooLarge = 1
number_of ReservedAddress = 2
number_of ReservedInstance = 3
number_of ReservedEvent = 4
number_of BlankNotZero = 5
number_of OutOfRange = 6
number_of MapSize = 7
number_of RecordFields = 8
number_of RecordOrder = 9
number_of StorePlaces = 10
number_of BankRules = 11
number_of StateRules = 12
number_of BrokenRecord = 13
number_of NoValue = 14
number_of RoomTooSmall = 15
number_of NotWritable = 16

-- "A refusal returns the number"; 0: nothing is refused
abbrev pub number_in : {T : Type 0} → Result T Refusal → ℕ
number_in (Ok _) = 0
number_in (Err refusal) = number_of refusal

-- the refusal with this number, or the number that none has
abbrev pub Numbered : ℕ → Result Refusal UnknownNumber → Type 0
Numbered n r = MatchResult r (λ refusal. number_of refusal ≡ n) (λ unknown. (unknown.0 ≡ n) × ((n ≡ 0) ⊎ (16 < n)))

-- and back: the refusal with this number, where it is 1 to 16
unfoldable pub refusal_of : ℕ → Refusal
refusal_of n =
    if eqb n 1 then FrameTooLarge
    else if eqb n 2 then ReservedAddress
    else if eqb n 3 then ReservedInstance
    else if eqb n 4 then ReservedEvent
    else if eqb n 5 then BlankNotZero
    else if eqb n 6 then OutOfRange
    else if eqb n 7 then MapSize
    else if eqb n 8 then RecordFields
    else if eqb n 9 then RecordOrder
    else if eqb n 10 then StorePlaces
    else if eqb n 11 then BankRules
    else if eqb n 12 then StateRules
    else if eqb n 13 then BrokenRecord
    else if eqb n 14 then NoValue
    else if eqb n 15 then RoomTooSmall
    else NotWritable

abbrev pub RefusalAgain : Type 0
RefusalAgain = (e : Refusal) → refusal_of (number_of e) ≡ e

abbrev pub NumberAgain : Type 0
NumberAgain = (n : ℕ) → 1 ≤ n → n ≤ 16 → number_of (refusal_of n) ≡ n

-- no two refusals have one number, and none has 0 or more than 16
abbrev pub NumbersTell : Type 0
NumbersTell = (e f : Refusal) → number_of e ≡ number_of f → e ≡ f

abbrev pub NumbersInRange : Type 0
NumbersInRange = (e : Refusal) → (1 ≤ number_of e) × (number_of e ≤ 16)

-- so the number alone says whether a call refuses, and why
abbrev pub NumberSettles : Type 0
NumberSettles = (r s : Result Unit Refusal) → number_in r ≡ number_in s → r ≡ s
