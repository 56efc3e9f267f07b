-- Where a count ends: a record of unknown kind, an unfinished one, and nothing behind them.
-- Assumes nothing.
use Rattle.std.proofs.Common.{◌≡◌, ℕ, ◌%◌, true, List, ◌++◌, length, get_or, drop, sym, refl, ap, ◌∙◌, append_assoc, arith, drop_of_length-le, lt-ltb}
use mathlib.Core.Bool.{false≢true}
use lib.ListN.{get_or-append}
use Rattle.entries.specs.Entry.{entry_at, whole_entries, is_broken}
use Rattle.entries.specs.declared.entry.Entry.{Entry}
use Rattle.census.specs.Census.{nothing, counted_all, entries_of, census_of}
use Rattle.census.specs.Facts.{kind_at, UnknownEnds, UnfinishedEnds, NothingAfter, NothingThere}
use Rattle.census.proofs.Records.{entries_joined, whole_are, one_then, few_are, none_are}
use Rattle.census.proofs.Counted.{counted_none, counted_ended, counted_broken, counted_joined}
use Rattle.census.proofs.Numbered.{broken_at}

-- the census of whole records, and then the records of what follows them
pub census_joined : (a b : List ℕ) → length a % 8 ≡ 0 → census_of (a ++ b) ≡ counted_all (census_of a) (entries_of b)
unfolding census_of
census_joined a b e =
    ap (counted_all nothing) (entries_joined a b e)
    ∙ counted_joined nothing (whole_entries a) (entries_of b)
    ∙ ap (λ (es : List Entry). counted_all (counted_all nothing es) (entries_of b)) (sym (whole_are a e))

is_broken_lem : (e : Entry) → is_broken e ≡ true → e ≡ Entry.Broken
is_broken_lem (Entry.Frame clock frame) t = absurd (false≢true t)
is_broken_lem Entry.PowerOn t = absurd (false≢true t)
is_broken_lem Entry.Broken t = refl

pub unknown_ends : UnknownEnds
unknown_ends before one after e z long kind =
    let same : get_or (one ++ after) 4 0 ≡ get_or one 4 0 = get_or-append one after 0 4 (omega arith) in
    let broken : entry_at (one ++ after) 0 ≡ Entry.Broken =
    is_broken_lem (entry_at (one ++ after) 0) (broken_at (one ++ after) 0 ∙ lt-ltb 1 (kind_at (one ++ after) 0) (omega arith)) in
    ap census_of (append_assoc before one after)
    ∙ census_joined before (one ++ after) e
    ∙ rw (one_then one after long, broken) (counted_broken (census_of before) (entries_of after) z)

pub unfinished_ends : UnfinishedEnds
unfinished_ends before tail e z some few =
    census_joined before tail e ∙ rw (few_are tail some few) (counted_broken (census_of before) _ z)

pub nothing_after : NothingAfter
nothing_after before after e z =
    census_joined before after e ∙ counted_ended (census_of before) (entries_of after) (λ n. omega arith)

pub nothing_there : NothingThere
unfolding census_of
nothing_there capture at h =
    rw (none_are (drop at capture) (drop_of_length-le capture {i = at} h)) (counted_none nothing)
