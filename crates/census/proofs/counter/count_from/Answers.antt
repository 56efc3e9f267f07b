-- A turn counts what stands at the place, and goes behind it; the loop ends where nothing more stands.
-- Assumes nothing.
use Rattle.census.proofs.Going.{turned, nearer, over}
use Rattle.census.proofs.counter.count_from.Goals as goal

pub loop-census-smaller : goal.loop-census-smaller
loop-census-smaller c =
    nearer c.loop-census.invariant c.rest_at.ensures c.goes_on.ensures c.loop-census-test.true c.place_after-place.ensures

pub loop-census-preserved : goal.loop-census-preserved
loop-census-preserved c =
    turned c.loop-census.invariant c.rest_at.ensures c.goes_on.ensures c.loop-census-test.true c.next_at.ensures
    c.count_next-census.ensures c.place_after-place.ensures

pub returns : goal.returns
returns c = over c.loop-census.invariant c.rest_at.ensures c.goes_on.ensures c.loop-census-test.false
