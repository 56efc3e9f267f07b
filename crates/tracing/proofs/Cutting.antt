-- The input in slices of whole records: the records of all are those of each, and the trace is the same.
-- Assumes nothing.
use Prim.Native.Nat.{ℕ, ◌/◌, ◌%◌}
use mathlib.Core.Path.{◌≡◌, refl, ap, sym, ◌∙◌}
use mathlib.Core.Bool.{true}
use mathlib.Core.List.{List, [], ◌∷◌, ◌++◌, append-nil}
use native.Mathlib.Omega.{arith}
use borrow.Author.Tests.{eq-eqb, eqb-true}
use lib.ListN.{length, length-append}
use Rattle.laws.specs.Lists.{every}
use Rattle.laws.proofs.Tests.{both}
use Rattle.rooms.specs.declared.state.State.{State}
use Rattle.unit.specs.Step.{start_of}
use Rattle.entries.specs.Entry.{whole_entries}
use Rattle.entries.specs.Promises.{is_whole}
use Rattle.entries.proofs.Joined.{whole_joined}
use Rattle.tracing.specs.Trace.{Traced, traced_of, who_of, file_number, trace_of}
use Rattle.tracing.specs.Run.{continued}
use Rattle.tracing.specs.Promises.{begun, in_slices, joined, CutAnywhere}
use Rattle.tracing.proofs.Continued.{continued_more, continued_none}

joined_whole : (slices : List (List ℕ)) → every is_whole slices ≡ true → length (joined slices) % 8 ≡ 0
joined_whole [] h = refl
joined_whole (slice ∷ slices) h =
    let p = both (is_whole slice) (every is_whole slices) h in
    let rest = joined_whole slices p.1 in
    let this = eqb-true (length slice % 8) 0 p.0 in
    omega (arith, length-append slice (joined slices))

in_slices_lem : (map image : List ℕ) (t : Traced) (slices : List (List ℕ)) → every is_whole slices ≡ true
    → in_slices map image t slices ≡ continued map image t (whole_entries (joined slices))
in_slices_lem map image t [] h = sym (continued_none map image t)
in_slices_lem map image t (slice ∷ slices) h =
    let p = both (is_whole slice) (every is_whole slices) h in
    in_slices_lem map image (continued map image t (whole_entries slice)) slices p.1
    ∙ sym (continued_more map image t (whole_entries slice) (whole_entries (joined slices)))
    ∙ ap (continued map image t) (sym (whole_joined slice (joined slices) (eqb-true (length slice % 8) 0 p.0)))

begun_continued : (map image store : List ℕ) (s : State) (es : List _)
    → continued map image (begun store s) es ≡ traced_of map image store s es
unfolding continued
begun_continued map image store s es = refl

pub cut_anywhere : CutAnywhere
unfolding trace_of
cut_anywhere map store image adr slices rest h short z =
    let o = start_of map store image (who_of adr) in
    let whole = joined_whole slices h in
    let left : length (joined slices ++ rest) % 8 ≡ length rest = omega (arith, length-append (joined slices) rest) in
    let none : length rest / 8 ≡ 0 = omega arith in
    let same : whole_entries (joined slices ++ rest) ≡ whole_entries (joined slices) =
    whole_joined (joined slices) rest whole ∙ rw (none, append-nil) in
    let all = in_slices_lem map image (begun o.store o.answer.state) slices h
    ∙ begun_continued map image o.store o.answer.state (whole_entries (joined slices)) in
    rw (eq-eqb (file_number map store (length image) adr) 0 z, left, same, all)
