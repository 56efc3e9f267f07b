-- What a count of records adds to a census: to each class its frames before the end, the power-ons apart, and the number.
-- Assumes nothing.
use Rattle.std.proofs.Common.{◌≡◌, ℕ, suc, ◌+◌, ◌<◌, eqb, List, [], ◌∷◌, length, get_or, sym, refl, ◌∙◌, arith, length-set, get_or-set_other, get_or-set_same}
use lib.ListN.{get_or-replicate}
use Rattle.std.specs.Prelude.{if◌then◌else◌}
use Rattle.laws.specs.Counts.{count}
use Rattle.laws.specs.Lists.{some}
use Rattle.laws.proofs.Tests.{if_eq}
use Rattle.entries.specs.Entry.{is_broken}
use Rattle.entries.specs.declared.entry.Entry.{Entry}
use Rattle.census.specs.Class.{frame_class}
use Rattle.census.specs.Census.{nothing, one_more, ended, with_frame, with_power_on, counted_all, entries_of, census_of, end_number}
use Rattle.census.specs.Facts.{before_end, is_of_class, is_power_on, CountsAre}
use Rattle.census.specs.declared.counts.Census.{Census}
use Rattle.census.proofs.Counted.{counted_none, counted_more, counted_broken}

pub record Adds (c : Census) (es : List Entry) (r : Census) : Type 0 where
  pub long : length r.counts ≡ length c.counts
  pub each : (k : ℕ) → k < length c.counts
      → get_or r.counts k 0 ≡ get_or c.counts k 0 + count (is_of_class k) (before_end es)
  pub apart : r.power_ons ≡ c.power_ons + count is_power_on (before_end es)
  pub number : end_number r ≡ (if some is_broken es then 13 else 0)

-- one more of class j is seen at class j only
at_class : (j k n : ℕ) (counts : List ℕ) → k < length counts
    → get_or (one_more j counts) k 0 + n ≡ get_or counts k 0 + (if eqb j k then suc n else n)
at_class j k n counts h =
    if_eq (λ m. get_or (one_more j counts) k 0 + n ≡ get_or counts k 0 + m) j k
    (λ e. rw e (omega (arith, get_or-set_same counts k (get_or counts k 0 + 1) 0 h)))
    (λ d. omega (arith, get_or-set_other counts j k (get_or counts j 0 + 1) 0 (λ e. d (sym e))))

adds_none : (c : Census) → end_number c ≡ 0 → Adds c [] (counted_all c [])
adds_none c z =
    rw (counted_none c)
    (record { long = refl; each = λ k h. omega arith; apart = omega arith; number = z })

adds_frame : (c r : Census) (clock frame : ℕ) (es : List Entry)
    → Adds (with_frame c frame) es r → Adds c (Entry.Frame clock frame ∷ es) r
adds_frame c r clock frame es p =
    let long : length (with_frame c frame).counts ≡ length c.counts = length-set c.counts _ _ in
    record {
      long = p.long ∙ long;
      each = λ k h.
          let this = at_class (frame_class frame) k (count (is_of_class k) (before_end es)) c.counts h in
          omega (arith, p.each k (omega arith), this);
      apart = p.apart;
      number = p.number;
    }

adds_power_on : (c r : Census) (es : List Entry) → Adds (with_power_on c) es r → Adds c (Entry.PowerOn ∷ es) r
adds_power_on c r es p =
    record {
      long = p.long;
      each = p.each;
      apart = omega (arith, p.apart);
      number = p.number;
    }

adds_broken : (c : Census) (es : List Entry) → Adds c (Entry.Broken ∷ es) (ended c)
adds_broken c es = record { long = refl; each = λ k h. omega arith; apart = omega arith; number = refl }

pub adds : (c : Census) (es : List Entry) → end_number c ≡ 0 → Adds c es (counted_all c es)
adds c [] z = adds_none c z
adds c (Entry.Frame clock frame ∷ es) z =
    rw (counted_more c (Entry.Frame clock frame) es z)
    (adds_frame c _ clock frame es (adds (with_frame c frame) es z))
adds c (Entry.PowerOn ∷ es) z =
    rw (counted_more c Entry.PowerOn es z) (adds_power_on c _ es (adds (with_power_on c) es z))
adds c (Entry.Broken ∷ es) z = rw (counted_broken c es z) (adds_broken c es)

pub counts_are : CountsAre
unfolding census_of
counts_are capture =
    let p = adds nothing (entries_of capture) refl in
    record {
      fifteen = p.long;
      each = λ k h.
          p.each k h ∙ omega (arith, get_or-replicate {A = ℕ} 15 k 0 0 h);
      apart = omega (arith, p.apart);
    }
