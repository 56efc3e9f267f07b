-- The classes add up to the frame records: a frame of three bytes is counted in one of them.
-- Assumes nothing.
use Rattle.std.proofs.Common.{◌≡◌, ℕ, zero, suc, ◌+◌, ◌*◌, ◌/◌, ◌%◌, ◌<◌, List, [], ◌∷◌, ◌++◌, length, get_or, refl, ◌∙◌, le_of_suc-le-suc, not-suc-le-zero, arith, length-set}
use Rattle.laws.specs.Counts.{count}
use Rattle.laws.specs.Lists.{items}
use Rattle.laws.proofs.Tests.{if_eq}
use Rattle.entries.specs.Entry.{entry_of, entry_at, whole_entries}
use Rattle.entries.specs.declared.entry.Entry.{Entry}
use Rattle.census.specs.Class.{frame_class}
use Rattle.census.specs.Census.{nothing, sum, one_more, with_frame, with_power_on, counted_all, unfinished, end_number}
use Rattle.census.specs.Census.{entries_of, census_of}
use Rattle.census.specs.Facts.{before_end, is_frame, ClassesAddUp}
use Rattle.census.specs.declared.counts.Census.{Census}
use Rattle.census.proofs.Fifteen.{class_below}
use Rattle.census.proofs.Counted.{counted_none, counted_more, counted_broken}

sum_more : (k : ℕ) (ns : List ℕ) → k < length ns → sum (one_more k ns) ≡ sum ns + 1
sum_more k [] h = absurd (not-suc-le-zero h)
sum_more zero (n ∷ ns) h = omega arith
sum_more (suc k) (n ∷ ns) h = let rest = sum_more k ns (le_of_suc-le-suc h) in omega arith

-- ---- records whose frame is one

abbrev HasFrame : Entry → Type 0
HasFrame (Entry.Frame clock frame) = frame < 16777216
HasFrame Entry.PowerOn = Unit {0}
HasFrame Entry.Broken = Unit {0}

abbrev HaveFrames : List Entry → Type 0
HaveFrames [] = Unit {0}
HaveFrames (e ∷ es) = HasFrame e × HaveFrames es

joined_have : (a b : List Entry) → HaveFrames a → HaveFrames b → HaveFrames (a ++ b)
joined_have [] b p q = q
joined_have (e ∷ a) b p q = (p.0, joined_have a b p.1 q)

items_have : (item : ℕ → Entry) → ((i : ℕ) → HasFrame (item i)) → (i n : ℕ) → HaveFrames (items item i n)
items_have item h i zero = tt
items_have item h i (suc n) = (h i, items_have item h (suc i) n)

-- three bytes are a frame
entry_has : (bytes : List ℕ) → ((i : ℕ) → get_or bytes i 0 < 256) → (i : ℕ) → HasFrame (entry_at bytes i)
unfolding entry_at entry_of
entry_has bytes small i =
    if_eq HasFrame (get_or bytes (8 * i + 4) 0) _
    (λ e. omega (arith, small (8 * i + 5), small (8 * i + 6), small (8 * i + 7)))
    (λ n. if_eq HasFrame (get_or bytes (8 * i + 4) 0) _ (λ e. tt) (λ m. tt))

unfinished_has : (long : ℕ) → HaveFrames (unfinished long)
unfolding unfinished
unfinished_has long = if_eq HaveFrames (long % _) _ (λ e. tt) (λ n. (tt, tt))

-- ---- each is counted once

sum_is : (c : Census) (es : List Entry) → end_number c ≡ 0 → length c.counts ≡ 15 → HaveFrames es
    → sum (counted_all c es).counts ≡ sum c.counts + count is_frame (before_end es)
sum_is c [] z long h = rw (counted_none c) (omega arith)
sum_is c (Entry.Frame clock frame ∷ es) z long h =
    let class = class_below frame h.0 in
    let more = sum_more (frame_class frame) c.counts (omega arith) in
    let stays : length (with_frame c frame).counts ≡ length c.counts = length-set c.counts _ _ in
    let rest = sum_is (with_frame c frame) es z (stays ∙ long) h.1 in
    rw (counted_more c (Entry.Frame clock frame) es z) (omega arith)
sum_is c (Entry.PowerOn ∷ es) z long h =
    rw (counted_more c Entry.PowerOn es z) (sum_is (with_power_on c) es z long h.1)
sum_is c (Entry.Broken ∷ es) z long h = rw (counted_broken c es z) (omega arith)

pub classes_add_up : ClassesAddUp
unfolding census_of entries_of
classes_add_up capture small =
    sum_is nothing (entries_of capture) refl refl
    (joined_have (whole_entries capture) (unfinished (length capture))
    (items_have (entry_at capture) (entry_has capture small) 0 (length capture / 8)) (unfinished_has (length capture)))
    ∙ omega arith
