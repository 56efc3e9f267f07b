-- The numbers of a session, and what is handed back with each.
-- Assumes nothing.
use Prim.Native.Nat.{ℕ, zero, suc, ◌≤◌, ◌<◌}
use mathlib.Core.Path.{◌≡◌, refl, ap, sym, ◌∙◌}
use mathlib.Core.Logic.{◌⊎◌, ⊎_elim}
use mathlib.Core.Bool.{true, false}
use mathlib.Core.List.{List}
use native.Mathlib.Omega.{arith}
use borrow.Author.Tests.{eqb-true, eq-eqb, ne_eqb, leb-true, le-leb}
use lib.Dec.{eqb}
use lib.ListN.{length}
use Rattle.std.specs.Prelude.{Option, Some, None, Result, Ok, Err}
use Rattle.laws.specs.Numbers.{first_failing}
use Rattle.laws.proofs.Tests.{if_eq, both}
use Rattle.laws.proofs.Numbers.{exactly_if, none_exactly_if}
use Rattle.laws.proofs.Joined.{joined_none, joined_some}
use Rattle.laws.proofs.Settled.{settles}
use Rattle.refusals.specs.Numbers.{number_of, number_in, refusal_of}
use Rattle.refusals.specs.declared.refusal.Refusal.{Refusal}
use Rattle.refusals.specs.declared.refusal.Refusal.TheVariants.{OutOfRange, NoValue, NotWritable}
use Rattle.refusals.proofs.Told.{refusal_again, refusal_is, not_none}
use Rattle.refusals.proofs.Among.{number_among}
use Rattle.records.specs.Map.{records_of, writable}
use Rattle.records.specs.Order.{ordered, order_tests, order_number}
use Rattle.records.specs.Lookup.{beginner}
use Rattle.records.specs.Facts.{Member}
use Rattle.records.specs.declared.record.Record.{Record}
use Rattle.records.proofs.Members.{member_fields}
use Rattle.records.proofs.Locations.{holder_at, holds_is, beginner_at, first_found}
use Rattle.records.proofs.Ordered.{zero_ordered, ordered_zero}
use Rattle.session.specs.Session.{messages_of, session_with, fits, value_tests, session_tests, session_number, handed}
use Rattle.session.specs.Session.{session_at, session_of, value_number, value_session}
use Rattle.session.specs.Promises.{SessionNumbers, ValueThere, SessionStands, SessionNotCut, SessionRefuses, SessionSettled}
use Rattle.session.specs.declared.answer.Session.{Session}

-- ---- the value that begins at a bank and location

pub begins_in : (map : List ℕ) (bank location : ℕ) (r : Record) → beginner (records_of map) bank location ≡ Some r
    → Member r map × (r.bank ≡ bank) × (r.first ≡ location)
begins_in map bank location r e =
    let b = beginner_at (records_of map) bank location r e in
    let h = holder_at bank location (records_of map) r b.0 in
    (h.0, (holds_is r bank location h.1).same_bank, b.1)

-- one that is no byte has none
pub no_byte : (map : List ℕ) → ordered map ≡ true → (bank location : ℕ) → (255 < bank) ⊎ (255 < location)
    → beginner (records_of map) bank location ≡ None
no_byte map o bank location large = go (beginner (records_of map) bank location) refl
  where
    go : (v : Option Record) → beginner (records_of map) bank location ≡ v → v ≡ None
    go None e = refl
    go (Some r) e =
        let b = begins_in map bank location r e in
        let f = member_fields map o r b.0 in
        ⊎_elim (λ h. absurd (omega (arith, f.low_bank, b.1))) (λ h. absurd (omega (arith, f.last, b.2))) large

-- ---- the numbers

module _ (map : List ℕ) (address bank location count : ℕ) where
  pub number_refused : (n : ℕ) → 0 < n → order_number map ≡ n → session_number map address bank location count ≡ n
  unfolding order_number session_number
  number_refused n h e = joined_some (order_tests map) _ n h e

  pub number_behind : order_number map ≡ 0 → (v : Option Record) → beginner (records_of map) bank location ≡ v
      → session_number map address bank location count ≡ first_failing (value_tests v address count)
  unfolding order_number session_number
  number_behind e v b =
      joined_none (order_tests map) _ refl e ∙ ap (λ (x : Option Record). first_failing (value_tests x address count)) b

  -- 0: 7 to 9 hold
  zero_order : session_number map address bank location count ≡ 0 → order_number map ≡ 0
  zero_order e = go (order_number map) refl
    where
      go : (n : ℕ) → order_number map ≡ n → n ≡ 0
      go zero q = refl
      go (suc n) q = sym (number_refused (suc n) (omega arith) q) ∙ e

  -- and what is asked for is there
  pub record Stood : Type 0 where
    pub in_order : ordered map ≡ true
    pub r : Record
    pub begins : beginner (records_of map) bank location ≡ Some r
    pub may_write : writable r ≡ true
    pub fit : fits (Some r) address count ≡ true

  pub stands : session_number map address bank location count ≡ 0 → Stood
  unfolding first_failing
  stands e = go (beginner (records_of map) bank location) refl
    where
      none : (v : Option Record) → beginner (records_of map) bank location ≡ v → first_failing (value_tests v address count) ≡ 0
      none v b = sym (number_behind (zero_order e) v b) ∙ e

      go : (v : Option Record) → beginner (records_of map) bank location ≡ v → Stood
      go None b = let n = none None b in absurd (omega arith)
      go (Some r) b =
          let t = (none_exactly_if (value_tests (Some r) address count) refl).0 (none (Some r) b) in
          let behind = both (writable r) _ t in
          let fit = (both (fits (Some r) address count) true behind.1).0 in
          record {
            in_order = zero_ordered map (zero_order e);
            r = r;
            begins = b;
            may_write = behind.0;
            fit = fit;
          }

  pub none_begins : order_number map ≡ 0 → beginner (records_of map) bank location ≡ None
      → session_number map address bank location count ≡ 14
  unfolding first_failing
  none_begins e b = number_behind e None b

-- 16, 6, or none
module _ (address : ℕ) (r : Record) (count : ℕ) where
  pub not_writable : writable r ≡ false → value_number address r count ≡ 16
  unfolding value_number first_failing
  not_writable w = rw w

  pub not_fit : writable r ≡ true → fits (Some r) address count ≡ false → value_number address r count ≡ 6
  unfolding value_number first_failing
  not_fit w f = rw (w, f)

  pub value_none : writable r ≡ true → fits (Some r) address count ≡ true → value_number address r count ≡ 0
  unfolding value_number first_failing
  value_none w f = rw (w, f)

  pub is_fit : r.width ≡ count → address ≤ 63 → fits (Some r) address count ≡ true
  is_fit c a = rw (eq-eqb count r.width (sym c), le-leb address 63 a)

  pub fit_count : fits (Some r) address count ≡ true → (count ≡ r.width) × (address ≤ 63)
  fit_count f =
      let t = both (eqb count r.width) _ f in
      (eqb-true count r.width t.0, leb-true address _ t.1)

-- ---- what is handed back

module _ (map : List ℕ) (address bank location : ℕ) (bytes : List ℕ) where
  pub session_refused : (n : ℕ) → (n ≡ 0 → ⊥) → session_number map address bank location (length bytes) ≡ n
      → session_of map address bank location bytes ≡ Err (refusal_of n)
  unfolding session_of
  session_refused n h e = rw (e, ne_eqb n 0 h)

  -- 7, 8 or 9
  pub map_refused : (e : Refusal) → number_of e ≡ order_number map → Err e ≡ session_of map address bank location bytes
  map_refused e w =
      let some = not_none e (order_number map) w in
      ap Err (refusal_is e (order_number map) w)
      ∙ sym (session_refused (order_number map) some
      (number_refused map address bank location (length bytes) (order_number map) (omega arith) refl))

  -- 14
  pub none_refused : order_number map ≡ 0 → beginner (records_of map) bank location ≡ None
      → Err NoValue ≡ session_of map address bank location bytes
  none_refused e b =
      ap Err (sym (refusal_again NoValue))
      ∙ sym (session_refused 14 (λ z. absurd (omega arith)) (none_begins map address bank location (length bytes) e b))

  pub session_value : (r : Record) → order_number map ≡ 0 → beginner (records_of map) bank location ≡ Some r
      → session_of map address bank location bytes ≡ value_session address r bytes
  unfolding session_of value_session value_number session_at
  session_value r e b = rw (number_behind map address bank location (length bytes) e (Some r) b, b)

  pub number_is : number_in (session_of map address bank location bytes) ≡ session_number map address bank location (length bytes)
  unfolding session_of session_at session_number
  number_is =
      if_eq (λ (s : Result Session Refusal). number_in s ≡ session_number map address bank location (length bytes))
      (session_number map address bank location (length bytes)) 0
      (λ e. go (beginner (records_of map) bank location) refl e)
      (λ n. number_among (session_tests map address bank location (length bytes)) refl _ refl n)
    where
      go : (v : Option Record) → beginner (records_of map) bank location ≡ v
          → session_number map address bank location (length bytes) ≡ 0
          → number_in (session_at v address bytes) ≡ session_number map address bank location (length bytes)
      go (Some r) b e = sym e
      go None b e =
          let s = stands map address bank location (length bytes) e in
          let z : ◌≡◌ {A = ℕ} 0 1 = cc in
          absurd (omega arith)

module _ (address : ℕ) (r : Record) (bytes : List ℕ) where
  value_refused : (e : Refusal) → value_number address r (length bytes) ≡ number_of e
      → Err e ≡ value_session address r bytes
  unfolding value_session
  value_refused e n = rw (n, ne_eqb (number_of e) 0 (not_none e _ refl), refusal_again e) refl

  -- 16
  pub value_closed : writable r ≡ false → Err NotWritable ≡ value_session address r bytes
  value_closed w = value_refused NotWritable (not_writable address r (length bytes) w)

  -- 6
  pub value_unfit : writable r ≡ true → fits (Some r) address (length bytes) ≡ false → Err OutOfRange ≡ value_session address r bytes
  value_unfit w f = value_refused OutOfRange (not_fit address r (length bytes) w f)

  pub value_written : value_number address r (length bytes) ≡ 0
      → value_session address r bytes ≡ Ok (session_with (messages_of address r bytes))
  unfolding value_session
  value_written e = rw e

-- number 0: the session is that of the value's messages
pub session_is : (map : List ℕ) (address bank location : ℕ) (bytes : List ℕ) (k : Stood map address bank location (length bytes))
    → session_of map address bank location bytes ≡ Ok (session_with (messages_of address k.r bytes))
session_is map address bank location bytes k =
    session_value map address bank location bytes k.r (ordered_zero map k.in_order) k.begins
    ∙ value_written address k.r bytes (value_none address k.r (length bytes) k.may_write k.fit)

-- ---- the promises

pub session_numbers : SessionNumbers
unfolding session_number
session_numbers map address bank location count n h = exactly_if (session_tests map address bank location count) n h

pub session_stands : SessionStands
unfolding value_number
session_stands map address bank location count = (
  λ e.
      let s = stands map address bank location count e in
      let b = begins_in map bank location s.r s.begins in
      let w : ValueThere map bank location count s.r =
      record {
        member = b.0;
        its_bank = b.1;
        its_first = b.2;
        may_write = s.may_write;
        its_width = sym (fit_count address s.r count s.fit).0;
      } in
      (s.in_order, (s.r, w), (fit_count address s.r count s.fit).1),
  λ x.
      let r = x.1.0 in
      let w = x.1.1 in
      let found = (first_found map x.0 r w.member).1 in
      number_behind map address bank location count (ordered_zero map x.0) (Some r)
      (ap (λ (b : ℕ). beginner (records_of map) b location) (sym w.its_bank)
      ∙ ap (beginner (records_of map) r.bank) (sym w.its_first) ∙ found)
      ∙ value_none address r count w.may_write (is_fit address r count w.its_width x.2),
)

pub session_not_cut : SessionNotCut
session_not_cut map address bank location count large =
    if_eq (λ (n : ℕ). session_number map address bank location count ≡ n) (order_number map) 0
    (λ e. none_begins map address bank location count e (no_byte map (zero_ordered map e) bank location large))
    (λ n. number_refused map address bank location count (order_number map) (omega arith) refl)

pub session_refuses : SessionRefuses
session_refuses map address bank location bytes n h = (
  λ q. sym (number_is map address bank location bytes) ∙ q.0,
  λ e. (
    number_is map address bank location bytes ∙ e,
    ap handed (session_refused map address bank location bytes n (λ z. absurd (omega arith)) e),
  ),
)

pub session_settled : SessionSettled
session_settled map address bank location bytes = settles (session_of map address bank location bytes)
