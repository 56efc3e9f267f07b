-- What the numbers tell: proofs of the statements of specs/Numbers.antt.
-- Assumes nothing.
use Rattle.std.proofs.Common.{arith, ◌≡◌, refl, ap, sym, ℕ, true, ◌||◌, Result, Ok, Err, eqb, eqb-true, ⊎_elim, ◌∙◌}
use Rattle.laws.proofs.Counts.{at_each}
use Rattle.laws.proofs.Sides.{either}
use Rattle.refusals.specs.Numbers.{number_of, number_in, refusal_of, RefusalAgain, NumberAgain}
use Rattle.refusals.specs.Numbers.{NumbersTell, NumbersInRange, NumberSettles}
use Rattle.refusals.specs.declared.refusal.Refusal.{Refusal}
use Rattle.refusals.specs.declared.refusal.Refusal.TheVariants.{FrameTooLarge, ReservedAddress, ReservedInstance, ReservedEvent, BlankNotZero, OutOfRange, MapSize, RecordFields, RecordOrder, StorePlaces, BankRules, StateRules, BrokenRecord, NoValue, RoomTooSmall, NotWritable}

pub refusal_again : RefusalAgain
unfolding refusal_of
refusal_again FrameTooLarge = refl
refusal_again ReservedAddress = refl
refusal_again ReservedInstance = refl
refusal_again ReservedEvent = refl
refusal_again BlankNotZero = refl
refusal_again OutOfRange = refl
refusal_again MapSize = refl
refusal_again RecordFields = refl
refusal_again RecordOrder = refl
refusal_again StorePlaces = refl
refusal_again BankRules = refl
refusal_again StateRules = refl
refusal_again BrokenRecord = refl
refusal_again NoValue = refl
refusal_again RoomTooSmall = refl
refusal_again NotWritable = refl

-- the whole table is computed
pub number_again : NumberAgain
unfolding refusal_of
number_again n h k = go (at_each (λ k. eqb k 0 || eqb (number_of (refusal_of k)) k) 17 refl n (omega arith))
  where
    go : (eqb n 0 || eqb (number_of (refusal_of n)) n) ≡ true → number_of (refusal_of n) ≡ n
    go e =
        ⊎_elim (λ z. absurd (omega (arith, eqb-true n 0 z))) (λ q. eqb-true _ n q)
        (either (eqb n 0) (eqb (number_of (refusal_of n)) n) e)

pub numbers_tell : NumbersTell
numbers_tell e f h = sym (refusal_again e) ∙ ap refusal_of h ∙ refusal_again f

pub numbers_in_range : NumbersInRange
numbers_in_range FrameTooLarge = (omega arith, omega arith)
numbers_in_range ReservedAddress = (omega arith, omega arith)
numbers_in_range ReservedInstance = (omega arith, omega arith)
numbers_in_range ReservedEvent = (omega arith, omega arith)
numbers_in_range BlankNotZero = (omega arith, omega arith)
numbers_in_range OutOfRange = (omega arith, omega arith)
numbers_in_range MapSize = (omega arith, omega arith)
numbers_in_range RecordFields = (omega arith, omega arith)
numbers_in_range RecordOrder = (omega arith, omega arith)
numbers_in_range StorePlaces = (omega arith, omega arith)
numbers_in_range BankRules = (omega arith, omega arith)
numbers_in_range StateRules = (omega arith, omega arith)
numbers_in_range BrokenRecord = (omega arith, omega arith)
numbers_in_range NoValue = (omega arith, omega arith)
numbers_in_range RoomTooSmall = (omega arith, omega arith)
numbers_in_range NotWritable = (omega arith, omega arith)

-- none has the number of what is accepted
one_up : (e : Refusal) → number_of e ≡ 0 → ⊥
one_up e h = omega (arith, h, (numbers_in_range e).0)

pub number_settles : NumberSettles
number_settles (Ok a) (Ok b) h = refl
number_settles (Ok a) (Err f) h = absurd (one_up f (sym h))
number_settles (Err e) (Ok b) h = absurd (one_up e h)
number_settles (Err e) (Err f) h = ap Err (numbers_tell e f h)

-- a call that gives a number that is not 0 refuses with its refusal; one that gives 0 accepts
pub refused_by : (r : Result Unit Refusal) (n : ℕ) → number_in r ≡ n → (n ≡ 0 → ⊥) → r ≡ Err (refusal_of n)
refused_by (Ok a) n h k = absurd (k (sym h))
refused_by (Err e) n h k = ap Err (sym (refusal_again e) ∙ ap refusal_of h)

-- the refusal of a call that gives a number
pub refusal_is : (e : Refusal) (n : ℕ) → number_of e ≡ n → e ≡ refusal_of n
refusal_is e n h = sym (refusal_again e) ∙ ap refusal_of h

pub not_none : (e : Refusal) (n : ℕ) → number_of e ≡ n → n ≡ 0 → ⊥
not_none e n h z = one_up e (h ∙ z)
