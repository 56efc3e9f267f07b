-- How far a count has come, at a place of the capture: where it starts, one turn more, and its end. For both counters.
-- Assumes nothing.
use Rattle.std.proofs.Common.{◌≡◌, ℕ, ◌-◌, ◌*◌, ◌^◌, ◌<◌, ◌≤◌, Bool, true, false, eqb, ltb, List, length, drop, sym, refl, ap, ◌∙◌, arith, length-set, ltb-true}
use Rattle.laws.proofs.Tests.{both}
use Rattle.entries.specs.declared.entry.Entry.{Entry}
use Rattle.census.specs.Class.{frame_class}
use Rattle.census.specs.Census.{nothing, total, HasRoom, counted, counted_all, entries_of, census_of, end_number}
use Rattle.census.specs.Reader.{rest_at, next_at, place_after, goes_on, counted_next}
use Rattle.census.specs.declared.counts.Census.{Census}
use Rattle.census.specs.declared.next.Next.{Next}
use Rattle.census.specs.declared.next.Next.TheVariants.{Whole, Unfinished, End}
use Rattle.census.proofs.Turns.{goes_more, goes_no_more, few_more, place_nearer}

-- what is counted in all is c and the records from the place on
pub record Going (all : Census) (capture : List ℕ) (c : Census) (at : ℕ) : Type 0 where
  pub fifteen : length c.counts ≡ 15
  pub few : 8 * total c ≤ at
  pub same : all ≡ counted_all c (entries_of (drop at capture))

pub going_start : (capture : List ℕ) (at : ℕ) → Going (census_of (drop at capture)) capture nothing at
unfolding census_of
going_start capture at = record { fifteen = refl; few = omega arith; same = refl }

-- one record more, and there are still 15 counts
entry_fifteen : (c : Census) (e : Entry) → length c.counts ≡ 15 → length (counted c e).counts ≡ 15
entry_fifteen c (Entry.Frame clock frame) h = length-set c.counts (frame_class frame) _ ∙ h
entry_fifteen c Entry.PowerOn h = h
entry_fifteen c Entry.Broken h = h

next_fifteen : (c : Census) (n : Next) → length c.counts ≡ 15 → length (counted_next c n).counts ≡ 15
next_fifteen c (Whole e) h = entry_fifteen c e h
next_fifteen c Unfinished h = h
next_fifteen c End h = h

module _ {all : Census} {capture : List ℕ} {c : Census} {at : ℕ} (g : Going all capture c at) where
  pub going_on : goes_on (end_number c) (rest_at (length capture) at) ≡ true
      → Going all capture (counted_next c (next_at capture at)) (place_after (length capture) at)
  going_on more =
      record {
        fifteen = next_fifteen c (next_at capture at) g.fifteen;
        few = few_more capture at c g.few more;
        same = g.same ∙ goes_more capture at c more;
      }

  pub going_ends : goes_on (end_number c) (rest_at (length capture) at) ≡ false → c ≡ all
  going_ends no_more = sym (g.same ∙ goes_no_more capture at c no_more)

  -- one turn of a loop, by what its calls answer
  module _ {rest : ℕ} {goes : Bool} (r : rest ≡ rest_at (length capture) at) (e : goes ≡ goes_on (end_number c) rest) where
    goes_is : goes ≡ goes_on (end_number c) (rest_at (length capture) at)
    goes_is = e ∙ ap (goes_on (end_number c)) r

    pub turned : goes ≡ true → {n : Next} → n ≡ next_at capture at → {d : Census} → d ≡ counted_next c n
        → {behind : ℕ} → behind ≡ place_after (length capture) at → Going all capture d behind
    turned more stands counts behind = rw (counts, stands, behind) (going_on (sym goes_is ∙ more))

    pub inside : goes ≡ true → at < length capture
    inside more =
        let test = (both (eqb (end_number c) 0) (ltb 0 (rest_at (length capture) at)) (sym goes_is ∙ more)).1 in
        omega (arith, ltb-true 0 (rest_at (length capture) at) test)

    pub nearer : goes ≡ true → {behind : ℕ} → behind ≡ place_after (length capture) at
        → length capture - behind < length capture - at
    nearer more behind =
        rw behind
        (place_nearer (length capture) at (omega (arith, inside more)))

    pub over : goes ≡ false → c ≡ all
    over no_more = going_ends (sym goes_is ∙ no_more)

  pub has_room : at < 2 ^ 64 → HasRoom c
  has_room fits = let few = g.few in (g.fifteen, omega arith)
