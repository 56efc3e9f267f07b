-- The loops over the records: how far they have come, and a turn.
-- Assumes nothing.
use Prim.Native.Nat.{ℕ, suc, ◌+◌, ◌*◌, ◌≤◌}
use mathlib.Core.Path.{◌≡◌, refl, ap, sym, ◌∙◌}
use mathlib.Core.Bool.{Bool}
use mathlib.Core.List.{List, [], ◌∷◌, Memᴰ}
use native.Mathlib.Omega.{arith}
use lib.ListN.{length}
use Rattle.std.specs.Prelude.{if◌then◌else◌}
use Rattle.laws.specs.Counts.{count}
use Rattle.laws.specs.Parts.{put}
use Rattle.records.specs.Map.{records_of}
use Rattle.records.specs.Facts.{Member}
use Rattle.records.specs.declared.record.Record.{Record}
use Rattle.compare.specs.Compare.{differs, differing, list_of, listed_over, difference_if, BothPlaced}
use Rattle.compare.proofs.Written.{Written, nothing_yet, all_written, fits, goes_on}
use Rattle.compare.proofs.Listed.{written, written_all, length_list}

-- the records to come are of the map
abbrev pub AreOf : List ℕ → List Record → Type 0
AreOf map rs = (r : Record) → Memᴰ r rs → Member r map

pub all_of : (map : List ℕ) (rs : List Record) → rs ≡ records_of map → AreOf map rs
all_of map rs e r m = rw e at m

module _ (map : List ℕ) {rs more : List Record} {r : Record} (e : rs ≡ r ∷ more) (h : AreOf map rs) where
  pub is_of : Member r map
  is_of = h r (rw e (Memᴰ.head refl))

  pub are_of : AreOf map more
  are_of s m = h s (rw e (Memᴰ.tail m))

-- a turn of the loop that counts
pub counted : (old new : List ℕ) {rs more : List Record} {r : Record} → rs ≡ r ∷ more → (b : Bool) → b ≡ differs old new r
    → count (differs old new) rs ≡ (if b then suc (count (differs old new) more) else count (differs old new) more)
counted old new e b t = rw (e, t)

module _ (map old new before : List ℕ) where
  -- up to a place, with some records to come
  abbrev pub Goes : List Record → ℕ → List ℕ → Type 0
  Goes rs at output = Written (list_of map old new) before (written old new rs) at output

  pub begins : (rs : List Record) → rs ≡ records_of map → BothPlaced map old new
      → 24 * length (differing map old new) ≤ length before → Goes rs 0 before
  begins rs e p h =
      let long = length_list map old new p in
      nothing_yet _ _ _ (written_all map old new ∙ ap (written old new) (sym e)) (omega arith)

  module _ {rs : List Record} {at : ℕ} {output : List ℕ} (g : Goes rs at output) where
    pub ends : rs ≡ [] → output ≡ listed_over (list_of map old new) before
    ends e = all_written _ _ _ _ _ g (ap (written old new) e)

    -- a turn
    module _ {r : Record} {more : List Record} (e : rs ≡ r ∷ more) where
      pub has_room : at + length (difference_if old new r) ≤ length output
      has_room = fits _ _ _ _ _ g (difference_if old new r) (written old new more) (ap (written old new) e)

      pub next : {end : ℕ} {left : List ℕ} → end ≡ at + length (difference_if old new r)
          → left ≡ put at (difference_if old new r) output → Goes more end left
      next p q =
          rw (p, q) (goes_on _ _ _ _ _ g (difference_if old new r) (written old new more) (ap (written old new) e))
