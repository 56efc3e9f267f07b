-- `records::holder::halve_bank` meets its contract.
-- Assumes nothing.
use mathlib.Core.Path.{refl, ◌∙◌}
use borrow.Author.Tests.{lt-ltb, le-ltb, eq-eqb, ne_eqb}
use Rattle.records.specs.Halving.{in_bank}
use Rattle.records.proofs.Turns.{stops, goes_left, goes_right, mapped_in, mapped_skips, mapped_has}
use Rattle.records.proofs.holder.halve_bank.Goals as goal

pub returns-then-r-bank : goal.returns-then-r-bank
returns-then-r-bank c =
    let here = eq-eqb _ _ c.if-r-bank.true in
    let h = c.in-Some.ensures in
    mapped_has c.args.bank c.in-Some.r here
    ∙ stops _ (in_bank _) (mapped_in _) c.loop-left.invariant.1 h.0 refl (rw c.loop-left.invariant.0 at h.4) here

pub loop-left-preserved-then-bank-r : goal.loop-left-preserved-then-bank-r
loop-left-preserved-then-bank-r c =
    let h = c.in-Some.ensures in (
      h.1 ∙ c.loop-left.invariant.0,
      rw (h.2, h.3) (goes_left _ (in_bank _) (mapped_in _) (mapped_in _) (mapped_skips _ c.in-Some.r) c.loop-left.invariant.1
          h.0 refl (rw c.loop-left.invariant.0 at h.4) (ne_eqb _ _ c.if-r-bank.false) (lt-ltb _ _ c.if-bank-r.true)),
    )

pub loop-left-preserved : goal.loop-left-preserved
loop-left-preserved c =
    let h = c.in-Some.ensures in (
      h.5 ∙ c.loop-left.invariant.0,
      rw (h.6, h.7) (goes_right _ (in_bank _) (mapped_in _) (mapped_in _) (mapped_skips _ c.in-Some.r) c.loop-left.invariant.1
          h.0 refl (rw c.loop-left.invariant.0 at h.4) (ne_eqb _ _ c.if-r-bank.false) (le-ltb _ _ c.if-bank-r.false)),
    )
