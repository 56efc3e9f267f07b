-- A run is each record by its own call.
-- Assumes nothing.
use mathlib.Core.Path.{◌≡◌, refl, ap, ◌∙◌}
use mathlib.Core.Bool.{Bool, true, false, ◌&&◌}
use mathlib.Core.List.{List, [], ◌∷◌}
use Prim.Native.Nat.{ℕ, zero, suc, ◌+◌, ◌*◌, ◌^◌, ◌<◌}
use native.Mathlib.Omega.{arith}
use borrow.Author.Tests.{lt-ltb}
use lib.Dec.{eqb}
use lib.ListN.{length, get_or}
use Rattle.laws.specs.Lists.{items, every}
use Rattle.laws.proofs.Tests.{if_by, both, and_of}
use Rattle.laws.proofs.Parts.{length_part}
use Rattle.hearing.specs.Pairs.{heard_at}
use Rattle.hearing.specs.declared.heard.Heard.{Heard}
use Rattle.rooms.specs.State.{with_who, with_registers, with_waiting, with_door, with_latch}
use Rattle.rooms.specs.declared.state.State.{State}
use Rattle.unit.specs.Run.{input_of, output_of}
use Rattle.unit.specs.Step.{step_of, power_on_of}
use Rattle.entries.specs.Entry.{four_bytes, entry_of, entry_at}
use Rattle.entries.specs.declared.entry.Entry.{Entry}
use Rattle.tracing.specs.Trace.{traced_of}
use Rattle.packing.specs.StateBytes.{state_bytes, four_at, state_of, shape_holds}
use Rattle.packing.specs.Promises.{Bytes}
use Rattle.packing.proofs.Round.{bytes_back}
use Rattle.faces.specs.Face.{RunFaced, faced_by, shape_number, frame_face, power_on_face, refused_run, run_by, run_face}
use Rattle.faces.proofs.Numbers.{shape_again}
use Rattle.lifted.specs.Machine.{fits}
use Rattle.lifted.specs.Run.{ahead, each_of, entry_fits}
use Rattle.lifted.specs.Promises.{RunEach, RecordsFit}
use Rattle.lifted.proofs.Fitting.{Fits, step_fits, power_fits_lem}
use Rattle.lifted.proofs.Following.{frame_as, power_as, heard_32}

module _ (map image : List ℕ) where
  -- ---- bytes that are a state's

  of_state : (store : List ℕ) (s : State) (es : List Entry) → Fits s → every entry_fits es ≡ true
      → run_by (traced_of map image store s es) ≡ each_of map image store (state_bytes s) es
  unfolding traced_of input_of output_of
  of_state store s [] h t = refl
  of_state store s (Entry.Frame clock frame ∷ es) h t =
      let x : Heard = heard_at clock frame in
      let o = step_of map store image s x in
      let b = both (fits frame && fits clock) (every entry_fits es) t in
      rw (frame_as map store image s h x)
      (ap (ahead (faced_by o))
      (of_state o.store o.answer.state es (step_fits map store image x (heard_32 x b.0) s h) b.1))
  of_state store s (Entry.PowerOn ∷ es) h t =
      let o = power_on_of map store image s in
      rw (power_as map store image s h)
      (ap (ahead (faced_by o)) (of_state o.store o.answer.state es (power_fits_lem map store image s h) t))
  of_state store s (Entry.Broken ∷ es) h t = refl

  -- ---- bytes that are none

  of_none : (store bytes : List ℕ) (es : List Entry) → shape_holds bytes ≡ false
      → record { output = refused_run (shape_number map store (length image)) es; state = bytes; store = store }
      ≡ each_of map image store bytes es
  unfolding frame_face power_on_face output_of
  of_none store bytes [] e = refl
  of_none store bytes (Entry.Frame clock frame ∷ es) e =
      let n = shape_number map store (length image) in
      rw (e, shape_again map store (length image))
      (ap (λ (r : RunFaced). record { output = n ∷ 0 ∷ 0 ∷ 0 ∷ r.output; state = r.state; store = r.store })
      (of_none store bytes es e))
  of_none store bytes (Entry.PowerOn ∷ es) e =
      let n = shape_number map store (length image) in
      rw (e, shape_again map store (length image))
      (ap (λ (r : RunFaced). record { output = n ∷ 0 ∷ 0 ∷ 0 ∷ r.output; state = r.state; store = r.store })
      (of_none store bytes es e))
  of_none store bytes (Entry.Broken ∷ es) e = refl

-- ---- any 96 bytes

four_fits : (a b c d : ℕ) → a < 256 → b < 256 → c < 256 → d < 256 → four_bytes a b c d < 2 ^ 32
four_fits a b c d p q r s = omega arith

four_at_fits : (b : List ℕ) → Bytes b → (i : ℕ) → four_at b i < 2 ^ 32
unfolding four_at
four_at_fits b h i = four_fits _ _ _ _ (h.small i) (h.small (i + 1)) (h.small (i + 2)) (h.small (i + 3))

state_fits : (b : List ℕ) → Bytes b → Fits (state_of b)
unfolding state_of with_who with_registers with_waiting with_door with_latch
state_fits b h =
    let l = h.long in
    record {
      held = record {
        groups = four_at_fits b h 1;
        frame = four_at_fits b h 9;
        clock = four_at_fits b h 13;
        staged = length_part 21 8 b (omega arith);
        latched = length_part 32 8 b (omega arith);
      };
      low = record { one = h.small 6; two = h.small 7 };
    }

pub run_each : RunEach
unfolding run_face
run_each map store image bytes es h t = go (shape_holds bytes) refl
  where
    go : (shaped : Bool) → shape_holds bytes ≡ shaped
        → run_face map store image bytes es ≡ each_of map image store bytes es
    go true e =
        rw e
        (of_state map image store (state_of bytes) es (state_fits bytes h) t
        ∙ ap (λ (b : List ℕ). each_of map image store b es) (bytes_back bytes h e))
    go false e = rw e (of_none map image store bytes es e)

-- ---- the records of bytes

entry_fits_lem : (kind clock frame : ℕ) → clock < 2 ^ 32 → frame < 2 ^ 32 → entry_fits (entry_of kind clock frame) ≡ true
unfolding entry_of
entry_fits_lem kind clock frame c f =
    if_by (λ (e : Entry). entry_fits e ≡ true) (eqb kind 0)
    (λ e. and_of (fits frame) (fits clock) (lt-ltb frame _ f) (lt-ltb clock _ c))
    (λ e. if_by (λ (e : Entry). entry_fits e ≡ true) (eqb kind 1) (λ q. refl) (λ q. refl))

module _ (records : List ℕ) (h : (i : ℕ) → get_or records i 0 < 256) where
  record_fits : (i : ℕ) → entry_fits (entry_at records i) ≡ true
  unfolding entry_at
  record_fits i =
      entry_fits_lem _ _ _
      (four_fits _ _ _ _ (h (8 * i)) (h (8 * i + 1)) (h (8 * i + 2)) (h (8 * i + 3)))
      (four_fits 0 _ _ _ (omega arith) (h (8 * i + 5)) (h (8 * i + 6)) (h (8 * i + 7)))

  items_fit : (i n : ℕ) → every entry_fits (items (entry_at records) i n) ≡ true
  items_fit i zero = refl
  items_fit i (suc n) = and_of (entry_fits (entry_at records i)) _ (record_fits i) (items_fit (suc i) n)

pub records_fit : RecordsFit
records_fit records h n = items_fit records h 0 n
