-- `records::map::Map::halve` meets its contract.
-- Assumes nothing.
use mathlib.Core.Path.{refl, sym, ◌∙◌}
use native.Mathlib.Omega.{arith}
use borrow.Author.Rules.{rules}
use Rattle.records.specs.Halving.{at_location}
use Rattle.records.proofs.Neighbours.{below_turn, above_turn, below_of, above_of, told_left, told_right}
use Rattle.records.proofs.Turns.{stops, goes_left, goes_right, sought_in, sought_skips, sought_has, sought_ends}
use Rattle.records.proofs.map.Map.halve.Goals as goal

pub returns-then-holds_location : goal.returns-then-holds_location
returns-then-holds_location c =
    let inv = c.loop-left.invariant in
    let h = c.in-Some.ensures in
    let held = sym c.holds_location.ensures ∙ c.if-holds_location.true in
    sought_has _ _ _ _ _ held
    ∙ stops _ (at_location _ _) (sought_in _ _ _ _) inv.4 h.0 refl (rw inv.0 at h.4) held

pub loop-left-preserved-then-lies_left : goal.loop-left-preserved-then-lies_left
loop-left-preserved-then-lies_left c =
    let inv = c.loop-left.invariant in
    let h = c.in-Some.ensures in
    let r = rw inv.0 at h.4 in
    let within = rw inv.0 at c.loop-left.span.within in
    let left = sym c.lies_left.ensures ∙ c.if-lies_left.true in (
      h.1 ∙ inv.0,
      omega (arith, h.0, h.2, h.3, inv.1),
      rw h.2 inv.2,
      rw h.3 (above_turn _ c.args.self.in_order _ (omega (arith, h.0, within)) _ r),
      rw (h.2, h.3) (goes_left _ (at_location _ _) (sought_in _ _ _ _) (sought_in _ _ _ _)
          (sought_skips _ _ _ _ _ _ (sym (told_left c.args.bank _ (search rules) _ _ _ _ left
          (above_of _ inv.3 (omega (arith, h.0, within)) r))))
          inv.4 h.0 refl r (sym c.holds_location.ensures ∙ c.if-holds_location.false) left),
    )

pub loop-left-preserved : goal.loop-left-preserved
loop-left-preserved c =
    let inv = c.loop-left.invariant in
    let h = c.in-Some.ensures in
    let r = rw inv.0 at h.4 in
    let within = rw inv.0 at c.loop-left.span.within in
    let right = sym c.lies_left.ensures ∙ c.if-lies_left.false in (
      h.5 ∙ inv.0,
      omega (arith, h.0, h.6, h.7, inv.1),
      rw h.6 (below_turn _ c.args.self.in_order _ _ r),
      rw h.7 inv.3,
      rw (h.6, h.7) (goes_right _ (at_location _ _) (sought_in _ _ _ _) (sought_in _ _ _ _)
          (sought_skips _ _ _ _ _ _ (sym (told_right c.args.bank _ (search rules) _ _ _ _ right
          (below_of _ inv.2 (omega (arith, h.0, within)) (omega (arith, h.0, within)) r))))
          inv.4 h.0 refl r (sym c.holds_location.ensures ∙ c.if-holds_location.false) right),
    )

pub returns : goal.returns
returns c =
    sought_ends _ _ _ _ _ _ _ _ c.reason.ensures c.in_default.ensures
    ∙ sym c.loop-left.invariant.4
