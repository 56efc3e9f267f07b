-- A turn of the count: what stands at the place is counted, and the rest from the place behind it.
-- Assumes nothing.
use Rattle.std.proofs.Common.{◌≡◌, ℕ, zero, suc, ◌+◌, ◌*◌, ◌<◌, ◌≤◌, Bool, true, false, eqb, ltb, List, [], ◌∷◌, length, drop, sym, refl, ◌∙◌, arith, length-drop, drop_of_length-le, drop-drop, ltb-false, ltb-true, eqb-true}
use borrow.Author.Tests.{eqb-false}
use Rattle.laws.proofs.Tests.{both, if_lt}
use Rattle.entries.specs.Entry.{entry_at}
use Rattle.entries.specs.declared.entry.Entry.{Entry}
use Rattle.census.specs.Class.{frame_class}
use Rattle.census.specs.Census.{sum, total, one_more, counted, ended, counted_all, entries_of, end_number}
use Rattle.census.specs.Reader.{rest_at, next_at, place_after, goes_on, counted_next}
use Rattle.census.specs.declared.counts.Census.{Census}
use Rattle.census.proofs.Places.{next_whole, next_unfinished, after_whole, after_few}
use Rattle.census.proofs.Records.{first_then, few_are, none_are}
use Rattle.census.proofs.Counted.{counted_none, counted_more, counted_ended, counted_broken}

rest_long : (capture : List ℕ) (at : ℕ) → length (drop at capture) ≡ rest_at (length capture) at
rest_long capture at = length-drop at capture

-- by whether a whole record stands there
by_rest : {G : Type 0} (rest : ℕ) → (rest < 8 → G) → (8 ≤ rest → G) → G
by_rest {G} rest f g = if_lt {A = ℕ} (λ _. G) rest 8 {x = 0} {y = 0} f g

pub place_nearer : (long at : ℕ) → 0 < rest_at long at → rest_at long (place_after long at) < rest_at long at
place_nearer long at h =
    by_rest (rest_at long at)
    (λ k. omega (arith, after_few long at k))
    (λ k. omega (arith, after_whole long at k))

pub place_within : (long at : ℕ) → at < long → place_after long at ≤ long
place_within long at h =
    by_rest (rest_at long at)
    (λ k. omega (arith, after_few long at k))
    (λ k. omega (arith, after_whole long at k))

pub place_stays : (long at : ℕ) → long ≤ at → place_after long at ≡ at
place_stays long at h = omega (arith, after_few long at (omega arith))

-- ---- the count

both_hold : (number rest : ℕ) → goes_on number rest ≡ true → (number ≡ 0) × (0 < rest)
both_hold number rest e =
    let p = both (eqb number 0) (ltb 0 rest) e in
    (eqb-true number _ p.0, ltb-true _ rest p.1)

pub goes_more : (capture : List ℕ) (at : ℕ) (c : Census) → goes_on (end_number c) (rest_at (length capture) at) ≡ true
    → counted_all c (entries_of (drop at capture))
    ≡ counted_all (counted_next c (next_at capture at)) (entries_of (drop (place_after (length capture) at) capture))
goes_more capture at c e =
    let p = both_hold (end_number c) (rest_at (length capture) at) e in
    let long = rest_long capture at in
    by_rest (rest_at (length capture) at)
    (λ k.
    rw (next_unfinished capture at p.1 k, few_are (drop at capture) (omega arith) (omega arith))
    (counted_broken c [] p.0
    ∙ sym (counted_ended (ended c) (entries_of (drop (place_after (length capture) at) capture)) (λ z. omega arith))))
    (λ k.
    rw (
      next_whole capture at k,
      after_whole (length capture) at k,
      first_then (drop at capture) (omega arith),
      drop-drop 8 at capture,
    )
    (counted_more c (entry_at (drop at capture) 0) _ p.0))

pub goes_no_more : (capture : List ℕ) (at : ℕ) (c : Census) → goes_on (end_number c) (rest_at (length capture) at) ≡ false
    → counted_all c (entries_of (drop at capture)) ≡ c
goes_no_more capture at c e = go (eqb (end_number c) 0) refl e
  where
    go : (b : Bool) → eqb (end_number c) 0 ≡ b → goes_on (end_number c) (rest_at (length capture) at) ≡ false
        → counted_all c (entries_of (drop at capture)) ≡ c
    go false n f = counted_ended c _ (eqb-false (end_number c) 0 n)
    go true y f =
        let none : rest_at (length capture) at ≤ 0 = ltb-false 0 (rest_at (length capture) at) (rw y at f) in
        rw (none_are (drop at capture) (drop_of_length-le capture {i = at} (omega arith))) (counted_none c)

-- ---- how many are counted

-- one more of a class is at most one more in all
more_sum : (k : ℕ) (ns : List ℕ) → sum (one_more k ns) ≤ sum ns + 1
more_sum k [] = omega arith
more_sum zero (n ∷ ns) = omega arith
more_sum (suc k) (n ∷ ns) = let rest = more_sum k ns in omega arith

pub counted_few : (c : Census) (e : Entry) → total (counted c e) ≤ total c + 1
counted_few c (Entry.Frame clock frame) = let more = more_sum (frame_class frame) c.counts in omega arith
counted_few c Entry.PowerOn = omega arith
counted_few c Entry.Broken = omega arith

pub few_more : (capture : List ℕ) (at : ℕ) (c : Census) → 8 * total c ≤ at
    → goes_on (end_number c) (rest_at (length capture) at) ≡ true
    → 8 * total (counted_next c (next_at capture at)) ≤ place_after (length capture) at
few_more capture at c few e =
    let p = both_hold (end_number c) (rest_at (length capture) at) e in
    by_rest (rest_at (length capture) at)
    (λ k. rw (next_unfinished capture at p.1 k) (omega (arith, after_few (length capture) at k)))
    (λ k.
    rw (next_whole capture at k)
    (omega (arith, after_whole (length capture) at k, counted_few c (entry_at (drop at capture) 0))))
