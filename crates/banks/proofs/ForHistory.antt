-- What a history needs of banks beside the promises: the length of a value, and a bank's lock byte as a value.
-- Assumes nothing.
use mathlib.Core.Path.{◌≡◌, refl, ap, ◌∙◌}
use mathlib.Core.Bool.{true}
use mathlib.Core.List.{List, [], ◌∷◌}
use Prim.Native.Nat.{ℕ, ◌≤◌}
use native.Mathlib.Omega.{arith}
use lib.Dec.{eqb}
use lib.ListN.{length, get_or}
use borrow.Author.Tests.{eqb-true, eq-eqb}
use Rattle.laws.specs.Parts.{part}
use Rattle.laws.proofs.Members.{some_of}
use Rattle.laws.proofs.Parts.{length_part}
use Rattle.laws.proofs.PartBytes.{first_byte}
use Rattle.laws.proofs.Sides.{and_left, and_right}
use Rattle.records.specs.Map.{records_of, writable, places_end}
use Rattle.records.specs.Order.{ordered}
use Rattle.records.specs.Lookup.{holder}
use Rattle.records.specs.Facts.{Member, Holds}
use Rattle.records.specs.declared.record.Record.{Record}
use Rattle.std.specs.Prelude.{Ok}
use Rattle.records.proofs.Locations.{holder_hit}
use Rattle.banks.specs.Rules.{placed, is_lock, banks_hold}
use Rattle.banks.specs.Values.{value_of, byte_at, lock_byte}
use Rattle.banks.specs.Facts.{LockRecord}
use Rattle.banks.proofs.HeadsAndLocks.{has_lock, writable_bank}
use Rattle.banks.proofs.Places.{placed_ordered, member_inside}

pub length_value : (r : Record) (store : List ℕ) → places_end r ≤ length store → length (value_of r store) ≡ r.width
unfolding value_of
length_value r store h = length_part r.offset r.width store h

-- the bank of a writable value has a lock byte
pub lock_record : (map : List ℕ) → ordered map ≡ true → banks_hold (records_of map) ≡ true → (v : Record) → Member v map
    → writable v ≡ true → (r : Record) × LockRecord map v.bank r
lock_record map o b v m w =
    let is = some_of (λ r. eqb r.bank v.bank) (records_of map) v m (eq-eqb v.bank v.bank refl) in
    let l = has_lock map o b v.bank (writable_bank map b v m w) is in
    (l.0, l.1)

-- a record that passes the test of a lock byte is its bank's, and back
pub lock_of : (map : List ℕ) (v : Record) → Member v map → is_lock v ≡ true → LockRecord map v.bank v
lock_of map v m e =
    record {
      member = m;
      its_bank = refl;
      its_first = search (and_left, and_right, eqb-true);
      its_width = search (and_left, and_right, eqb-true);
      its_kind = search (and_left, and_right, eqb-true);
      no_lock = search (and_left, and_right, eqb-true);
    }

pub is_lock_lem : {map : List ℕ} {bank : ℕ} {r : Record} → LockRecord map bank r → is_lock r ≡ true
is_lock_lem L = rw (L.its_first, L.its_width, L.its_kind, L.no_lock)

single : (bs : List ℕ) → length bs ≡ 1 → bs ≡ get_or bs 0 0 ∷ []
single [] e = absurd (omega arith)
single (b ∷ []) e = refl
single (b ∷ c ∷ bs) e = absurd (omega arith)

-- the lock record's value is the lock byte
pub lock_value : (map store : List ℕ) → placed map (length store) ≡ true → (bank : ℕ) (r : Record)
    → LockRecord map bank r
    → value_of r store ≡ lock_byte (records_of map) store bank ∷ []
unfolding lock_byte byte_at value_of
lock_value map store p bank r L =
    let i = member_inside map (length store) p r L.member in
    let w : r.width ≡ 1 = L.its_width in
    let f : r.first ≡ 0x02 = L.its_first in
    let h : Holds r bank 0x02 = record { same_bank = L.its_bank; from = omega arith; to = omega arith } in
    let e : holder (records_of map) bank 0x02 ≡ Ok r =
    holder_hit map (placed_ordered map (length store) p) bank 0x02 r L.member h in
    single (part r.offset r.width store) (length_part r.offset r.width store i ∙ w)
    ∙ ap (λ (n : ℕ). n ∷ []) (first_byte r.offset r.width store (omega arith) ∙ rw e)
