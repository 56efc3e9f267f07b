-- Running frames, part by part, at any clocks: each step is accepted, and what is written, the state and the store afterwards.
-- Assumes nothing.
use Prim.Native.Nat.{ℕ, suc, ◌+◌, ◌-◌, ◌<◌}
use mathlib.Core.Path.{◌≡◌, refl, ap, sym, subst, ◌∙◌}
use mathlib.Core.List.{List, [], ◌∷◌, ◌++◌, append_assoc, map as each}
use native.Mathlib.Omega.{arith}
use native.Mathlib.Nat.{add-zero}
use lib.ListN.{length, get_or, replicate, length-map, get_or-append}
use Rattle.std.specs.Prelude.{Option, Ok}
use Rattle.laws.specs.Lists.{items}
use Rattle.laws.specs.Outcome.{Outcome, leaves}
use Rattle.frames.specs.declared.message.Message.{Message}
use Rattle.records.specs.Map.{records_of}
use Rattle.hearing.specs.Pairs.{heard_at}
use Rattle.hearing.specs.declared.heard.Heard.{Heard}
use Rattle.rooms.specs.Reply.{answering}
use Rattle.rooms.specs.declared.reply.Stepped.{Stepped}
use Rattle.rooms.specs.declared.state.State.{State}
use Rattle.numbers.specs.Numbers.{power_number}
use Rattle.unit.specs.Step.{frame_step, step_of}
use Rattle.unit.specs.Run.{Input, hears, input_of, output_of, Run, in_front, run_from}
use Rattle.unit.specs.Keeping.{AllAccepted}
use Rattle.unit.proofs.Numbers.{calls_accepted, calls_reply}
use Rattle.unit.proofs.Accepted.{accepted_again}
use Rattle.session.specs.Session.{framed, session_with}
use Rattle.session.specs.Running.{heard_of}

-- ---- what is heard

-- the clocks from number n on
abbrev pub later : (ℕ → ℕ) → ℕ → ℕ → ℕ
later clocks n i = clocks (n + i)

-- messages, each at its clock
abbrev pub heard_from : (ℕ → ℕ) → List Message → List Input
heard_from clocks [] = []
heard_from clocks (m ∷ ms) = hears (heard_at (clocks 0) (framed m)) ∷ heard_from (λ i. clocks (suc i)) ms

-- only the clocks themselves count
same_clocks : (ms : List Message) (c d : ℕ → ℕ) → ((i : ℕ) → c i ≡ d i) → heard_from c ms ≡ heard_from d ms
same_clocks [] c d e = refl
same_clocks (m ∷ ms) c d e =
    ap (λ (k : ℕ). hears (heard_at k (framed m)) ∷ heard_from (λ i. c (suc i)) ms) (e 0)
    ∙ ap (λ (xs : List Input). hears (heard_at (d 0) (framed m)) ∷ xs)
    (same_clocks ms (λ i. c (suc i)) (λ i. d (suc i)) (λ i. e (suc i)))

pub heard_append : (a b : List Message) (clocks : ℕ → ℕ)
    → heard_from clocks (a ++ b) ≡ heard_from clocks a ++ heard_from (later clocks (length a)) b
heard_append [] b clocks =
    same_clocks b clocks (later clocks 0) (λ i. ap clocks (let e : i ≡ 0 + i = omega arith in e))
heard_append (m ∷ a) b clocks =
    ap (λ (xs : List Input). hears (heard_at (clocks 0) (framed m)) ∷ xs)
    (heard_append a b (λ i. clocks (suc i))
    ∙ ap (λ (xs : List Input). heard_from (λ i. clocks (suc i)) a ++ xs)
    (same_clocks b _ (later clocks (suc (length a)))
    (λ i. ap clocks (let e : suc (length a + i) ≡ suc (length a) + i = omega arith in e))))

-- the places of an array from number i on
from_place : (clocks : ℕ → ℕ) (frames : List ℕ) (ms : List Message) (i : ℕ)
    → ((j : ℕ) → j < length ms → get_or frames (i + j) 0 ≡ get_or (each framed ms) j 0)
    → items (λ k. hears (heard_at (clocks k) (get_or frames k 0))) i (length ms) ≡ heard_from (later clocks i) ms
from_place clocks frames [] i e = refl
from_place clocks frames (m ∷ ms) i e =
    let here : get_or frames i 0 ≡ framed m = ap (λ (k : ℕ). get_or frames k 0) (sym (add-zero i)) ∙ e 0 (omega arith) in
    let rest = from_place clocks frames ms (suc i)
    (λ j h. ap (λ (k : ℕ). get_or frames k 0) (let k : suc i + j ≡ i + suc j = omega arith in k) ∙ e (suc j) (omega arith)) in
    ap
    (λ (f : ℕ). hears (heard_at (clocks i) f) ∷ items (λ k. hears (heard_at (clocks k) (get_or frames k 0))) (suc i) (length ms))
    here
    ∙ ap (λ (xs : List Input). hears (heard_at (clocks i) (framed m)) ∷ xs)
    (rest ∙ same_clocks ms (later clocks (suc i)) _ (λ k. ap clocks (let e : suc i + k ≡ i + suc k = omega arith in e)))
    ∙ ap (λ (k : ℕ). hears (heard_at (clocks k) (framed m)) ∷ heard_from (λ j. clocks (i + suc j)) ms) (sym (add-zero i))

pub heard_is : (clocks : ℕ → ℕ) (ms : List Message) → heard_of clocks (session_with ms) ≡ heard_from clocks ms
unfolding heard_of session_with
heard_is clocks ms =
    from_place clocks (session_with ms).frames ms 0
    (λ j h.
    ap (λ (k : ℕ). get_or (session_with ms).frames k 0) (let k : 0 + j ≡ j = omega arith in k)
    ∙ get_or-append (each framed ms) (replicate (13 - length ms) 0) 0 j (omega (arith, length-map ms framed)))
    ∙ same_clocks ms (later clocks 0) clocks (λ i. ap clocks (let e : 0 + i ≡ i = omega arith in e))

-- ---- what they lead to

module _ (map image : List ℕ) where
  pub record Leads (store : List ℕ) (s : State) (xs : List Input) (output : List ℕ) (after : State) (left : List ℕ)
      : Type 0 where
    pub accepted : AllAccepted map image store s xs
    pub runs : run_from map image store s xs ≡ record { output = output; state = after; store = left }
    -- and what is left passes 7 to 12 again
    pub again : power_number map left (length image) after ≡ 0

  pub none_leads : (store : List ℕ) (s : State) → power_number map store (length image) s ≡ 0 → Leads store s [] [] s store
  none_leads store s e = record { accepted = tt; runs = refl; again = e }

  -- one frame
  pub one_leads : (store : List ℕ) (s : State) (heard : Heard) (answer : Option ℕ) (after : State) (left : List ℕ)
      → power_number map store (length image) s ≡ 0 → heard.frame < 16777216
      → frame_step (records_of map) store image s heard ≡ leaves (answering after answer) left
      → Leads store s (hears heard ∷ []) (output_of (Ok answer)) after left
  unfolding input_of output_of answering
  one_leads store s heard answer after left e small f =
      let n = (accepted_again map store image).next s heard e small in
      let is : step_of map store image s heard ≡ leaves (answering after answer) left =
      (calls_accepted map store image).step s heard n ∙ f in
      record {
        accepted = ((calls_reply map store image).step s heard ∙ n, tt);
        runs = rw is;
        again =
            subst (λ (o : Outcome Stepped). power_number map o.store (length image) o.answer.state ≡ 0) is
            ((accepted_again map store image).step s heard n);
      }

  -- one part, then another
  run_append : (xs ys : List Input) (store : List ℕ) (s : State)
      → run_from map image store s (xs ++ ys)
      ≡ in_front (run_from map image store s xs).output
      (run_from map image (run_from map image store s xs).store (run_from map image store s xs).state ys)
  run_append [] ys store s = refl
  run_append (x ∷ xs) ys store s =
      let o = input_of map image store s x in
      let r = run_from map image o.store o.answer.state xs in
      ap (in_front (output_of o.answer.reply)) (run_append xs ys o.store o.answer.state)
      ∙ ap (λ (output : List ℕ). record {
        output = output;
        state = (run_from map image r.store r.state ys).state;
        store = (run_from map image r.store r.state ys).store;
      })
      (sym (append_assoc (output_of o.answer.reply) r.output (run_from map image r.store r.state ys).output))

  accepted_append : (xs ys : List Input) (store : List ℕ) (s : State) → AllAccepted map image store s xs
      → AllAccepted map image (run_from map image store s xs).store (run_from map image store s xs).state ys
      → AllAccepted map image store s (xs ++ ys)
  accepted_append [] ys store s a b = b
  accepted_append (x ∷ xs) ys store s a b =
      (a.0, accepted_append xs ys _ _ a.1 b)

  pub then_leads : {store : List ℕ} {s : State} {xs ys : List Input} {output more : List ℕ} {mid after : State}
      {between left : List ℕ}
      → Leads store s xs output mid between → Leads between mid ys more after left
      → Leads store s (xs ++ ys) (output ++ more) after left
  then_leads {store} {s} {xs} {ys} {output} {more} {mid} {after} {between} {left} a b =
      record {
        accepted =
            accepted_append xs ys store s a.accepted
            (subst (λ (r : Run). AllAccepted map image r.store r.state ys) (sym a.runs) b.accepted);
        runs =
            run_append xs ys store s
            ∙ ap (λ (r : Run). in_front r.output (run_from map image r.store r.state ys)) a.runs
            ∙ ap (in_front output) b.runs;
        again = b.again;
      }
