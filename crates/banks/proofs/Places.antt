-- Rule 10: the places of the records, as a walk over the map meets them, and what they are to each other.
-- Assumes nothing.
use mathlib.Core.Path.{◌≡◌, sym, ◌∙◌, subst}
use mathlib.Core.Logic.{◌⊎◌, inl, inr, ⊎_elim}
use mathlib.Core.Bool.{true}
use mathlib.Core.List.{List, [], ◌∷◌, Memᴰ}
use Prim.Native.Nat.{ℕ}
use borrow.Author.Tests.{leb-true}
use lib.Dec.{leb}
use Rattle.laws.specs.Lists.{every}
use Rattle.laws.proofs.Tests.{both}
use Rattle.laws.proofs.Items.{every_at}
use Rattle.laws.proofs.Sides.{either, and_left, and_right}
use Rattle.records.specs.Map.{records_of, places_end}
use Rattle.records.specs.Order.{ordered}
use Rattle.records.specs.declared.record.Record.{Record}
use Rattle.records.proofs.Members.{member_fields}
use Rattle.records.proofs.Locations.{holds_is, holder_at}
use Rattle.banks.specs.Rules.{inside, clear, disjoint, places_hold, placed}
use Rattle.banks.specs.Facts.{Apart}
use Rattle.banks.specs.Promises.{MemberInside, MembersApart, HolderWithin}

-- two places
clear_apart : (p r : Record) → clear p r ≡ true → Apart p r
clear_apart p r e =
    ⊎_elim
    (λ t. inl (leb-true (places_end p) r.offset t))
    (λ t. inr (leb-true (places_end r) p.offset t))
    (either (leb (places_end p) r.offset) (leb (places_end r) p.offset) e)

other_way : (p r : Record) → Apart p r → Apart r p
other_way p r (inl h) = inr h
other_way p r (inr h) = inl h

rest_apart : (x : Record) (rs : List Record) → disjoint (x ∷ rs) ≡ true → (p r : Record) → p ≡ x → Memᴰ r rs
    → Apart p r
rest_apart x rs e p r a m =
    let c = clear_apart x r (every_at (clear x) rs (both (every (clear x) rs) (disjoint rs) e).0 r m) in
    subst (λ (y : Record). Apart y r) (sym a) c

disjoint_apart : (rs : List Record) → disjoint rs ≡ true → (p r : Record) → Memᴰ p rs → Memᴰ r rs
    → (p ≡ r) ⊎ Apart p r
disjoint_apart [] e p r x3 _ = elim x3 [ ]
disjoint_apart (x ∷ rs) e p r (Memᴰ.head a) (Memᴰ.head b) = inl (a ∙ sym b)
disjoint_apart (x ∷ rs) e p r (Memᴰ.head a) (Memᴰ.tail m) = inr (rest_apart x rs e p r a m)
disjoint_apart (x ∷ rs) e p r (Memᴰ.tail m) (Memᴰ.head b) = inr (other_way r p (rest_apart x rs e r p b m))
disjoint_apart (x ∷ rs) e p r (Memᴰ.tail m) (Memᴰ.tail k) =
    disjoint_apart rs (both (every (clear x) rs) (disjoint rs) e).1 p r m k

-- the records of a map whose places lie in a store of n bytes
pub placed_ordered : (map : List ℕ) (n : ℕ) → placed map n ≡ true → ordered map ≡ true
unfolding placed
placed_ordered map n p = (both (ordered map) (places_hold (records_of map) n n) p).0

pub member_inside : MemberInside
unfolding placed places_hold
member_inside map n p r m =
    leb-true (places_end r) n (every_at (inside n) (records_of map) (search (and_left, and_right)) r m)

pub members_apart : MembersApart
unfolding placed places_hold
members_apart map n p r s i j = disjoint_apart (records_of map) (search (and_left, and_right)) r s i j

pub holder_within : HolderWithin
holder_within map n bank location p r e =
    let k = holder_at bank location (records_of map) r e in
    record {
      member = k.0;
      holds = holds_is r bank location k.1;
      fields = member_fields map (placed_ordered map n p) r k.0;
      inside = member_inside map n p r k.0;
    }
