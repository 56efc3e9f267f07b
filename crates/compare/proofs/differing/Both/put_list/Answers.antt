-- A turn writes what its record gives; at the end nothing is to come.
-- Assumes nothing.
use Rattle.std.proofs.Common.{ap, ◌∙◌}
use Rattle.records.specs.Map.{records_of}
use Rattle.compare.proofs.Turns.{all_of, is_of, are_of, begins, has_room, next, ends}
use Rattle.compare.proofs.differing.Both.put_list.Goals as goal

pub loop-r-init : goal.loop-r-init
loop-r-init c =
    let all = ap (λ it. records_of it.bytes.now) c.into_iter-r-iterator.ensures.into_iter_gives ∙ ap records_of c.records-r-items.ensures in
    record { of = all_of _ _ all; goes = begins _ _ _ _ _ all c.args.self.placed c.requires }

pub put_if-at-requires-clause-room : goal.put_if-at-requires-clause-room
put_if-at-requires-clause-room c = has_room _ _ _ _ c.loop-r.invariant.goes c.in-Some.ensures.steps

pub put_if-at-requires-clause-member : goal.put_if-at-requires-clause-member
put_if-at-requires-clause-member c = is_of _ c.in-Some.ensures.steps c.loop-r.invariant.of

pub loop-r-preserved : goal.loop-r-preserved
loop-r-preserved c =
    let turn = c.in-Some.ensures.steps in
    record {
      of = are_of _ turn c.loop-r.invariant.of;
      goes = next _ _ _ _ c.loop-r.invariant.goes turn c.put_if-at.ensures.end c.put_if-at.ensures.bytes;
    }

pub returns : goal.returns
returns c = ends _ _ _ _ c.loop-r.invariant.goes c.in-None.ensures.steps.0
