-- However the input comes, read after read, what is written is its trace.
-- Assumes nothing.
use Prim.Native.Nat.{ℕ, zero, suc, ◌+◌, ◌-◌, ◌*◌, ◌/◌, ◌%◌, ◌<◌}
use mathlib.Core.Path.{◌≡◌, refl, ap, sym, ◌∙◌}
use mathlib.Core.Bool.{Bool, true, false}
use mathlib.Core.List.{List, [], ◌∷◌, ◌++◌, append-nil, append_assoc}
use native.Mathlib.Omega.{arith}
use borrow.Author.Tests.{eq-eqb, ne_eqb, lt-ltb}
use lib.Dec.{eqb}
use lib.ListN.{length, take, drop, length-append, length-drop, take-append-drop}
use lib.Seq.{drop_at, drop-drop, length-take-le}
use Rattle.std.specs.Prelude.{if◌then◌else◌}
use Rattle.rooms.specs.declared.state.State.{State}
use Rattle.unit.specs.Step.{start_of}
use Rattle.entries.specs.Entry.{whole_entries}
use Rattle.entries.specs.declared.entry.Entry.{Entry}
use Rattle.entries.proofs.Joined.{whole_joined}
use Rattle.entries.proofs.Moved.{rest_kept, rest_settled}
use Rattle.tracing.specs.Trace.{Traced, broken, traced_of, who_of, file_number, closed, trace_of}
use Rattle.tracing.specs.Run.{continued}
use Rattle.tracing.specs.Promises.{joined}
use Rattle.tracing.specs.Flow.{unfinished_of, standing}
use Rattle.tracing.specs.Reads.{Between, rest_of, read_more, in_reads, unread, ReadAnyhow, GoOnReads, ClosedByFlag}
use Rattle.tracing.specs.Reads.{GoOnSettled}
use Rattle.tracing.specs.declared.flows.Flow.{Flow}
use Rattle.tracing.proofs.Continued.{continued_more, continued_none, continued_ended, one_after_other}

-- ---- a slice and what follows it

module _ (slice more : List ℕ) where
  abbrev front : ℕ
  front = length slice - length slice % 8

  front_long : length (take front slice) ≡ front
  front_long = length-take-le front slice (omega arith)

  parts : take front slice ++ (rest_of slice ++ more) ≡ slice ++ more
  parts =
      sym (append_assoc (take front slice) (rest_of slice) more)
      ∙ ap (λ (l : List ℕ). l ++ more) (take-append-drop front slice)

  rest_short : length (rest_of slice) ≡ length slice % 8
  rest_short = omega (arith, length-drop front slice)

few_none : (l : List ℕ) → length l < 8 → whole_entries l ≡ []
few_none l h = let none : length l / 8 ≡ 0 = omega arith in rw none

module _ (slice more : List ℕ) where
  whole_front : whole_entries slice ≡ whole_entries (take (front slice []) slice)
  whole_front =
      let w = front_long slice [] in
      let s = rest_short slice [] in
      ap whole_entries (sym (take-append-drop (front slice []) slice))
      ∙ whole_joined (take (front slice []) slice) (rest_of slice) (omega arith)
      ∙ rw (few_none (rest_of slice) (omega arith), append-nil)

  -- the records of a slice, and then those of what waits and what follows
  whole_cut : whole_entries (slice ++ more) ≡ whole_entries slice ++ whole_entries (rest_of slice ++ more)
  whole_cut =
      let w = front_long slice [] in
      ap whole_entries (sym (parts slice more))
      ∙ whole_joined (take (front slice []) slice) (rest_of slice ++ more) (omega arith)
      ∙ ap (λ (es : List Entry). es ++ whole_entries (rest_of slice ++ more)) (sym whole_front)

  -- and what waits then
  rest_cut : rest_of (rest_of slice ++ more) ≡ rest_of (slice ++ more)
  rest_cut =
      let w = front_long slice [] in
      let k : ℕ = length (rest_of slice ++ more) - length (rest_of slice ++ more) % 8 in
      let n : front slice [] + k ≡ length (slice ++ more) - length (slice ++ more) % 8 =
      omega (arith, length-append (rest_of slice) more, length-append slice more, rest_short slice []) in
      sym
      (ap (λ (m : ℕ). drop m (slice ++ more)) (sym n)
      ∙ ap (drop (front slice [] + k)) (sym (parts slice more))
      ∙ sym (drop-drop k (front slice []) (take (front slice []) slice ++ (rest_of slice ++ more)))
      ∙ ap (drop k) (drop_at (take (front slice []) slice) (rest_of slice ++ more) (front slice []) w))

-- ---- read after read

module _ (map image : List ℕ) where
  -- as if all had come at once
  reads_are : (b : Between) (reads : List (List ℕ)) → length b.waits < 8
      → in_reads map image b reads ≡ read_more map image b (joined reads)
  reads_are b [] h =
      let k : length b.waits - length b.waits % 8 ≡ 0 = omega arith in
      rw (append-nil, k, few_none b.waits h, continued_none map image b.trace)
  reads_are b (read ∷ reads) h =
      let slice = b.waits ++ read in
      let all : slice ++ joined reads ≡ b.waits ++ (read ++ joined reads) =
      append_assoc b.waits read (joined reads) in
      reads_are (read_more map image b read) reads (omega (arith, rest_short slice []))
      ∙ rw (
        ← continued_more map image b.trace (whole_entries slice) (whole_entries (rest_of slice ++ joined reads)),
        ← whole_cut slice (joined reads),
        rest_cut slice (joined reads),
        all,
      )

  from_start : (store : List ℕ) (s : State) (reads : List (List ℕ))
      → in_reads map image (unread store s) reads
      ≡ record { trace = traced_of map image store s (whole_entries (joined reads)); waits = rest_of (joined reads) }
  unfolding continued
  from_start store s reads = reads_are (unread store s) reads (omega arith)

-- what is closed after 13 has no more to say
closed_ended : (t : Traced) (m n : ℕ) → t.ended ≡ true → closed m t ≡ closed n t
closed_ended t m n e = rw e

pub read_anyhow : ReadAnyhow
unfolding trace_of
read_anyhow map store image adr reads z =
    let o = start_of map store image (who_of adr) in
    let all = from_start map image o.store o.answer.state reads in
    let number = eq-eqb (file_number map store (length image) adr) 0 z in
    let rest = rest_short (joined reads) [] in
    let t = traced_of map image o.store o.answer.state (whole_entries (joined reads)) in
    record {
      all = rw (number, all, rest);
      ended = λ e more.
          let over : t.ended ≡ true = ap (λ (b : Between). b.trace.ended) (sym all) ∙ e in
          let stays : traced_of map image o.store o.answer.state (whole_entries (joined reads ++ more)) ≡ t =
          ap (traced_of map image o.store o.answer.state) (whole_cut (joined reads) more)
          ∙ one_after_other map image o.store o.answer.state (whole_entries (joined reads))
          (whole_entries (rest_of (joined reads) ++ more))
          ∙ continued_ended map image t (whole_entries (rest_of (joined reads) ++ more)) over in
          rw (number, all, stays)
          (closed_ended t (length (rest_of (joined reads))) (length (joined reads ++ more) % 8) over);
    }

-- ---- one slice more

pub go_on_reads : GoOnReads
go_on_reads map image flow next store after input left filled output answers g h b read s e =
    let cut : ℕ = filled - next.kept in
    let many = g.keeps_rest.many in
    let long : length (take filled input) ≡ filled = length-take-le filled input h in
    let same : cut ≡ length (take filled input) - length (take filled input) % 8 = omega arith in (
      g.traces b.trace.output ∙ rw (s, e),
      sym (drop_at (take cut input) (take next.kept left) cut (length-take-le cut input (omega arith)))
          ∙ ap (drop cut) (rest_kept next.kept input left filled h g.keeps_rest).all
          ∙ ap (λ (n : ℕ). drop n (take filled input)) same
          ∙ ap rest_of e,
    )

flag_closes : (kept : ℕ) (ended : Bool)
    → (if ended then [] else if eqb kept 0 then [] else broken) ≡ (if unfinished_of kept ended then broken else [])
flag_closes zero true = refl
flag_closes zero false = refl
flag_closes (suc kept) true = rw (lt-ltb 0 (suc kept) (omega arith))
flag_closes (suc kept) false = rw (ne_eqb (suc kept) 0 (λ e. omega arith), lt-ltb 0 (suc kept) (omega arith))

pub closed_by_flag : ClosedByFlag
closed_by_flag map image flow next store after input left filled output answers g written =
    rw g.unfinished
    (ap (λ (end : List ℕ). written ++ end ++ after) (flag_closes next.kept next.ended))

-- ---- results are equal

flow_is : (q r : Flow) → q.state ≡ r.state → q.kept ≡ r.kept → q.count ≡ r.count → q.ended ≡ r.ended
    → q.unfinished ≡ r.unfinished → q.more ≡ r.more → q ≡ r
flow_is q r a b c d e f = rw (a, b, c, d, e, f)

pub go_on_settled : GoOnSettled
go_on_settled map image flow q r store input filled output after stored left kept answers written p s =
    let t : standing q after (take (4 * q.count) answers) ≡ standing r stored (take (4 * r.count) written) =
    p.traces [] ∙ sym (s.traces []) in
    let front : take (4 * q.count) answers ≡ take (4 * r.count) written = ap (λ (x : Traced). x.output) t in
    let counts : q.count ≡ r.count =
    omega (
      arith,
      length-take-le (4 * q.count) answers p.within,
      ap length front,
      length-take-le (4 * r.count) written s.within,
    ) in
    let ends : q.ended ≡ r.ended = ap (λ (x : Traced). x.ended) t in
    let keeps_rest = rest_settled input filled q.kept r.kept left kept p.keeps_rest s.keeps_rest in (
      flow_is q r (ap (λ (x : Traced). x.state) t) keeps_rest.0 counts ends
          (p.unfinished ∙ rw (keeps_rest.0, ends, ← s.unfinished)) (p.more ∙ rw (ends, ← s.more)),
      ap (λ (x : Traced). x.store) t,
      keeps_rest.1,
      sym (take-append-drop (4 * q.count) answers)
          ∙ rw (front, p.rest_stays, counts, ← s.rest_stays) (take-append-drop (4 * r.count) written),
    )
