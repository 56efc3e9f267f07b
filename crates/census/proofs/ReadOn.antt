-- A reader that is moved on from the begin stands behind so many records, or at the end, and meets what stands there.
-- Assumes nothing.
use Rattle.std.proofs.Common.{◌≡◌, ℕ, zero, suc, ◌+◌, ◌*◌, ◌≤◌, List, length, get_or, drop, refl, ap, ◌∙◌, add-zero, arith, get_or-drop, Bor}
use Rattle.laws.proofs.Tests.{if_lt}
use Rattle.entries.specs.Entry.{entry_at}
use Rattle.census.specs.Reader.{rest_at, next_at, place_after, reader_of, moved_on, next_of, moves, ReaderReads}
use Rattle.census.specs.declared.next.Next.{Next}
use Rattle.census.proofs.Places.{after_few, after_whole, next_whole, next_unfinished, next_end}

-- i times the place behind, from the begin on
abbrev placed : ℕ → ℕ → ℕ
placed long zero = 0
placed long (suc i) = place_after long (placed long i)

moved_is : (capture : Bor (List ℕ)) (i : ℕ)
    → moves i (reader_of capture) ≡ record { capture = capture; at = placed (length capture.now) i }
moved_is capture zero = refl
moved_is capture (suc i) = ap moved_on (moved_is capture i)

-- behind i records, or at the end where there are not so many
record Placed (long i at : ℕ) : Type 0 where
  there : 8 * i ≤ long → at ≡ 8 * i
  ended : long ≤ 8 * i → at ≡ long

placed_more : (long i at : ℕ) → Placed long i at → Placed long (suc i) (place_after long at)
placed_more long i at p =
    record {
      there = λ h. let here = p.there (omega arith) in after_whole long at (omega arith) ∙ omega arith;
      ended = λ h.
          if_lt {A = ℕ} (λ _. place_after long at ≡ long) (rest_at long at) 8 {x = 0} {y = 0}
          (λ few. after_few long at few ∙ reached (few_or_none h))
          (λ many. after_whole long at many ∙ last h many);
    }
  where
    few_or_none : long ≤ 8 * suc i → at ≤ long
    few_or_none h =
        if_lt {A = ℕ} (λ _. at ≤ long) (8 * i) long {x = 0} {y = 0}
        (λ l. omega (arith, p.there (omega arith)))
        (λ l. omega (arith, p.ended l))

    reached : at ≤ long → at + rest_at long at ≡ long
    reached h = omega arith

    last : long ≤ 8 * suc i → 8 ≤ rest_at long at → at + 8 ≡ long
    last h many =
        if_lt {A = ℕ} (λ _. at + 8 ≡ long) (8 * i) long {x = 0} {y = 0}
        (λ l. omega (arith, p.there (omega arith)))
        (λ l. omega (arith, p.ended l))

placed_is : (long i : ℕ) → Placed long i (placed long i)
placed_is long zero = record { there = λ h. omega arith; ended = λ h. omega arith }
placed_is long (suc i) = placed_more long i (placed long i) (placed_is long i)

-- record i is the first one from its own place on
first_is : (capture : List ℕ) (i : ℕ) → entry_at (drop (8 * i) capture) 0 ≡ entry_at capture i
unfolding entry_at
first_is capture i =
    let byte : (c : ℕ) → get_or (drop (8 * i) capture) c 0 ≡ get_or capture (8 * i + c) 0 = λ c. get_or-drop (8 * i) capture c 0 in
    rw (byte 0, byte 1, byte 2, byte 3, byte 4, byte 5, byte 6, byte 7, add-zero (8 * i))

pub reader_reads : ReaderReads
reader_reads capture i =
    record {
      whole = λ h.
          let at = (placed_is long i).there (omega arith) in
          stands ∙ ap (next_at l) at ∙ next_whole l (8 * i) (omega arith) ∙ ap Next.Whole (first_is l i);
      unfinished = λ h k.
          let at = (placed_is long i).there (omega arith) in
          stands ∙ ap (next_at l) at ∙ next_unfinished l (8 * i) (omega arith) (omega arith);
      end = λ h. let at = (placed_is long i).ended h in stands ∙ ap (next_at l) at ∙ next_end l long (omega arith);
    }
  where
    l : List ℕ
    l = capture.now

    long : ℕ
    long = length capture.now

    stands : next_of (moves i (reader_of capture)) ≡ next_at capture.now (placed (length capture.now) i)
    stands = ap next_of (moved_is capture i)
