-- A turn counts what stands at the reader's place, and moves the reader on; the loop ends where nothing more stands.
-- Assumes nothing.
use Rattle.std.proofs.Common.{length, refl, ap, arith}
use Rattle.census.proofs.Going.{inside, turned, nearer, over, has_room}
use Rattle.census.proofs.captures.census.Goals as goal

pub count_next-census-requires : goal.count_next-census-requires
count_next-census-requires c =
    let inv = c.loop-reader.invariant in
    let there = inside inv.going c.rest.ensures c.goes_on.ensures c.loop-reader-test.true in
    has_room inv.going (omega (arith, ap length inv.same))

pub loop-reader-smaller : goal.loop-reader-smaller
loop-reader-smaller c =
    rw c.moved-reader.ensures
    (nearer c.loop-reader.invariant.going c.rest.ensures c.goes_on.ensures c.loop-reader-test.true refl)

pub loop-reader-preserved : goal.loop-reader-preserved
loop-reader-preserved c =
    let inv = c.loop-reader.invariant in
    rw c.moved-reader.ensures
    (record {
      same = inv.same;
      going =
          turned inv.going c.rest.ensures c.goes_on.ensures c.loop-reader-test.true c.entry.ensures
          c.count_next-census.ensures refl;
    })

pub returns : goal.returns
returns c = over c.loop-reader.invariant.going c.rest.ensures c.goes_on.ensures c.loop-reader-test.false
