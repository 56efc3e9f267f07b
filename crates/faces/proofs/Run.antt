-- A run of records, faced. On a state that breaks a rule each record is refused, and state and store stay.
-- Assumes nothing.
use Prim.Native.Nat.{ℕ, ◌/◌, ◌<◌}
use mathlib.Core.Path.{◌≡◌, refl, sym, ap, ◌∙◌}
use mathlib.Core.Bool.{Bool, true, false, not}
use mathlib.Core.List.{List, [], ◌∷◌, ◌++◌}
use native.Mathlib.Omega.{arith}
use lib.Dec.{eqb}
use lib.ListN.{length, drop}
use borrow.Author.Tests.{ne_eqb, not-true, not-false}
use Rattle.std.specs.Prelude.{if◌then◌else◌}
use Rattle.laws.specs.Lists.{some}
use Rattle.laws.specs.Outcome.{leaves}
use Rattle.refusals.specs.Numbers.{refusal_of}
use Rattle.records.specs.Map.{records_of}
use Rattle.hearing.specs.declared.heard.Heard.{Heard}
use Rattle.rooms.specs.Rules.{address_holds, state_holds}
use Rattle.rooms.specs.Reply.{refusing}
use Rattle.rooms.specs.declared.state.State.{State}
use Rattle.numbers.specs.Numbers.{step_number, power_number}
use Rattle.numbers.proofs.Numbers.{tests_in_order}
use Rattle.unit.specs.Step.{step_of, power_on_of}
use Rattle.unit.specs.Run.{Input, power_on, hears, input_of, output_of, run_from}
use Rattle.entries.specs.Entry.{is_broken}
use Rattle.tracing.specs.Trace.{inputs_of, broken, traced_of}
use Rattle.tracing.specs.Run.{Runs}
use Rattle.entries.specs.declared.entry.Entry.{Entry}
use Rattle.tracing.specs.declared.runs.Ran.{Ran}
use Rattle.packing.specs.StateBytes.{state_bytes, state_of, shape_holds}
use Rattle.faces.specs.Face.{then_number, shape_number, refused_run, run_face, RunFaces}
use Rattle.faces.proofs.Faced.{then_some}
use Rattle.faces.proofs.Numbers.{shape_again}

module _ (map store image : List ℕ) (s : State) (unfit : state_holds (records_of map) store s ≡ false) where
  abbrev number : ℕ
  number = shape_number map store (length image)

  some_number : 0 < number
  some_number = then_some map store (length image) 12 (omega arith)

  is_number : eqb number 0 ≡ false
  is_number = ne_eqb number 0 (λ z. omega (arith, some_number))

  power_number_lem : power_number map store (length image) s ≡ number
  unfolding power_number then_number
  power_number_lem = rw unfit

  step_number_lem : (heard : Heard) → step_number map store (length image) s heard ≡ number
  step_number_lem heard =
      (tests_in_order map store (length image)).step_powered s heard
      (rw power_number_lem some_number)
      ∙ power_number_lem

  refused : (x : Input) → input_of map image store s x ≡ leaves (refusing s (refusal_of number)) store
  unfolding input_of step_of power_on_of
  refused power_on = rw (power_number_lem, is_number)
  refused (hears heard) = rw (step_number_lem heard, is_number)

  abbrev told : List Input → List ℕ
  told [] = []
  told (x ∷ xs) = number ∷ 0 ∷ 0 ∷ 0 ∷ told xs

  runs : (xs : List Input) → run_from map image store s xs ≡ record { output = told xs; state = s; store = store }
  unfolding refusing output_of
  runs [] = refl
  runs (x ∷ xs) = rw (refused x, runs xs, shape_again map store (length image))

  writes : (es : List Entry) → told (inputs_of es) ++ (if some is_broken es then broken else []) ≡ refused_run number es
  writes [] = refl
  writes (Entry.Frame clock frame ∷ es) = ap (λ (r : List ℕ). number ∷ 0 ∷ 0 ∷ 0 ∷ r) (writes es)
  writes (Entry.PowerOn ∷ es) = ap (λ (r : List ℕ). number ∷ 0 ∷ 0 ∷ 0 ∷ r) (writes es)
  writes (Entry.Broken ∷ es) = refl

  pub refused_run_lem : (es : List Entry) →
      ((traced_of map image store s es).output ≡ refused_run (shape_number map store (length image)) es)
      × ((traced_of map image store s es).store ≡ store)
  unfolding traced_of
  refused_run_lem es = (rw (runs (inputs_of es)) (writes es), rw (runs (inputs_of es)))

unfit_state : (map store : List ℕ) (s : State) → address_holds s.who.address ≡ false →
    state_holds (records_of map) store s ≡ false
unfolding state_holds
unfit_state map store s e = rw e

module _ (map before image bytes : List ℕ) (es : List Entry) (shaped : Bool) (e : shaped ≡ shape_holds bytes)
    (s : State) {r : Ran} {store output prior : List ℕ} (q : Runs r store output prior (traced_of map image before s es))
  where
    pub run_unshaped : not shaped ≡ true → address_holds s.who.address ≡ false →
        RunFaces r.count bytes store output prior (run_face map before image bytes es)
    unfolding run_face
    run_unshaped t f =
        let p = refused_run_lem map before image s (unfit_state map before s f) es in
        rw (sym e ∙ not-true shaped t)
        (record {
          counts = q.count ∙ ap (λ (o : List ℕ). length o / 4) p.0;
          state_is = refl;
          leaves = q.leaves ∙ p.1;
          writes = q.writes ∙ ap (λ (o : List ℕ). o ++ drop (length o) prior) p.0;
        })

    pub run_shaped : not shaped ≡ false → s ≡ state_of bytes → {state : List ℕ} → state ≡ state_bytes r.state →
        RunFaces r.count state store output prior (run_face map before image bytes es)
    unfolding run_face
    run_shaped t h k =
        rw (sym e ∙ not-false shaped t, ← h)
        (record { counts = q.count; state_is = k ∙ ap state_bytes q.state; leaves = q.leaves; writes = q.writes })
