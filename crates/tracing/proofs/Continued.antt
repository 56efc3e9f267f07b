-- A run over two lists of records, one after the other, is the run over both; how much it writes; 13 and the tail.
-- Assumes nothing.
use Prim.Native.Nat.{ℕ, ◌<◌}
use mathlib.Core.Path.{◌≡◌, refl, ap, sym, ◌∙◌}
use mathlib.Core.Bool.{Bool, true, false}
use mathlib.Core.List.{List, [], ◌∷◌, ◌++◌, append-nil, append_assoc}
use native.Mathlib.Omega.{arith}
use borrow.Author.Tests.{ne_eqb}
use lib.Dec.{eqb}
use Rattle.std.specs.Prelude.{if◌then◌else◌}
use Rattle.hearing.specs.Pairs.{heard_at}
use Rattle.rooms.specs.declared.state.State.{State}
use Rattle.unit.specs.Run.{power_on, hears, input_of, output_of}
use Rattle.tracing.specs.Trace.{Traced, traced_of, broken, closed}
use Rattle.tracing.specs.Run.{behind, continued}
use Rattle.tracing.specs.Promises.{OneAfterOther, FourEach, ThirteenEnds}
use Rattle.entries.specs.declared.entry.Entry.{Entry}

module _ (map image : List ℕ) where
  -- the first record, and then the others
  turn_first : (store : List ℕ) (s : State) (e : Entry) (es : List Entry)
      → traced_of map image store s (e ∷ es) ≡ continued map image (traced_of map image store s (e ∷ [])) es
  unfolding traced_of continued output_of
  turn_first store s (Entry.Frame clock frame) es = refl
  turn_first store s Entry.PowerOn es = refl
  turn_first store s Entry.Broken es = refl

  -- what was written before stands before all
  behind_continued : (output : List ℕ) (t : Traced) (es : List Entry)
      → behind output (continued map image t es) ≡ continued map image (behind output t) es
  unfolding continued
  behind_continued output t es = go t.ended
    where
      u : Traced
      u = traced_of map image t.store t.state es

      go : (b : Bool)
          → behind output (if b then t else behind t.output u)
          ≡ (if b then behind output t else behind (output ++ t.output) u)
      go true = refl
      go false = ap (λ (out : List ℕ). record { output = out; ended = u.ended; state = u.state; store = u.store })
          (sym (append_assoc output t.output u.output))

  twice : (t : Traced) (es fs : List Entry)
      → traced_of map image t.store t.state (es ++ fs)
      ≡ continued map image (traced_of map image t.store t.state es) fs
      → continued map image t (es ++ fs) ≡ continued map image (continued map image t es) fs
  unfolding continued
  twice t es fs e = go t.ended refl
    where
      u : Traced
      u = traced_of map image t.store t.state es

      go : (b : Bool) → t.ended ≡ b
          → (if b then t else behind t.output (traced_of map image t.store t.state (es ++ fs)))
          ≡ continued map image (if b then t else behind t.output u) fs
      go true q = rw q
      go false q = ap (behind t.output) e ∙ behind_continued t.output u fs

  after_other : (store : List ℕ) (s : State) (es fs : List Entry)
      → traced_of map image store s (es ++ fs) ≡ continued map image (traced_of map image store s es) fs
  unfolding traced_of continued
  after_other store s [] fs = refl
  after_other store s (e ∷ es) fs =
      let t = traced_of map image store s (e ∷ []) in
      turn_first store s e (es ++ fs) ∙ twice t es fs (after_other t.store t.state es fs)
      ∙ ap (λ (u : Traced). continued map image u fs) (sym (turn_first store s e es))

  -- a run that goes on twice
  pub continued_more : (t : Traced) (es fs : List Entry)
      → continued map image t (es ++ fs) ≡ continued map image (continued map image t es) fs
  continued_more t es fs = twice t es fs (after_other t.store t.state es fs)

  -- no records more
  pub continued_none : (t : Traced) → continued map image t [] ≡ t
  unfolding traced_of continued
  continued_none t = go t.ended refl
    where
      go : (b : Bool) → t.ended ≡ b
          → (if b then t else record { output = t.output ++ []; ended = false; state = t.state; store = t.store })
          ≡ t
      go true q = refl
      go false q = rw (append-nil, ← q)

  -- a run that 13 ended
  pub continued_ended : (t : Traced) (es : List Entry) → t.ended ≡ true → continued map image t es ≡ t
  unfolding continued
  continued_ended t es e = rw e

pub one_after_other : OneAfterOther
one_after_other map image = after_other map image

pub four_each : FourEach
unfolding traced_of output_of
four_each map image store s [] = refl
four_each map image store s (Entry.Frame clock frame ∷ es) =
    let o = input_of map image store s (hears (heard_at clock frame)) in
    omega (arith, four_each map image o.store o.answer.state es)
four_each map image store s (Entry.PowerOn ∷ es) =
    let o = input_of map image store s power_on in
    omega (arith, four_each map image o.store o.answer.state es)
four_each map image store s (Entry.Broken ∷ es) = refl

-- an unfinished record behind a run
unfinished : (map image : List ℕ) (t : Traced) (rest : ℕ) → 0 < rest
    → closed rest t ≡ closed 0 (continued map image t (Entry.Broken ∷ []))
unfolding traced_of continued
unfinished map image t rest h = go t.ended refl
  where
    u : Traced
    u = record { output = t.output ++ broken; ended = true; state = t.state; store = t.store }

    go : (b : Bool) → t.ended ≡ b
        → t.output ++ (if b then [] else if eqb rest 0 then [] else broken) ++ t.store ≡ closed 0 (if b then t else u)
    go true q = rw q
    go false q = rw (ne_eqb rest 0 (λ z. omega arith), append-nil)

pub thirteen_ends : ThirteenEnds
unfolding traced_of continued
thirteen_ends map image store s es =
    record {
      writes = λ q. after_other map image store s es (Entry.Broken ∷ []) ∙ rw q;
      ends = λ fs.
          after_other map image store s es (Entry.Broken ∷ fs)
          ∙ sym (after_other map image store s es (Entry.Broken ∷ []));
      tail = λ rest h.
          unfinished map image (traced_of map image store s es) rest h
          ∙ ap (closed 0) (sym (after_other map image store s es (Entry.Broken ∷ [])));
    }
