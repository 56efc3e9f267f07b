-- Two results that meet a promise are equal; and what a run answers lies within the output.
-- Assumes nothing.
use Prim.Native.Nat.{ℕ, ◌*◌, ◌≤◌}
use mathlib.Core.Path.{◌≡◌, ap, sym, ◌∙◌}
use mathlib.Core.List.{List}
use native.Mathlib.Omega.{arith}
use lib.ListN.{length, length-append, length-drop}
use Rattle.laws.proofs.Settled.{settles}
use Rattle.tracing.specs.Trace.{Traced, who_of}
use Rattle.tracing.specs.Run.{Runs}
use Rattle.tracing.specs.Promises.{RunSettled, WhoSettled}
use Rattle.tracing.specs.declared.runs.Ran.{Ran}

pub run_settled : RunSettled
run_settled map store image state records before q r s t o p k l = (
  rw (k.state ∙ sym l.state, k.ended ∙ sym l.ended, k.count ∙ sym l.count),
  k.leaves ∙ sym l.leaves,
  k.writes ∙ sym l.writes,
)

pub who_settled : WhoSettled
who_settled adr = settles (who_of adr)

pub answers_within : (r : Ran) (store output before : List ℕ) (t : Traced) → Runs r store output before t
    → length output ≡ length before → 4 * r.count ≤ length output
answers_within r store output before t p e =
    omega (arith, p.count, simp (length-append, length-drop) at (ap length p.writes))
