-- `memory::filled::fill_store` meets its contract.
-- Assumes nothing.
use Prim.Native.Nat.{◌/◌, ◌≤◌}
use mathlib.Core.Path.{refl, ◌∙◌}
use lib.ListN.{length}
use native.Mathlib.Omega.{arith}
use Rattle.memory.proofs.Fillings.{done_all, fits, done_put, done_passed}
use Rattle.memory.proofs.filled.fill_store.Goals as goal

pub freshen-requires : goal.freshen-requires
freshen-requires c =
    let l = c.loop-i in
    let k : l.i ≤ length c.args.map.now / 8 = omega arith in
    fits c.args.map.now c.args.store.now c.args.image.now c.choices-picks.result
    l.i c.loop-i-test.true k c.requires.0 c.requires.1 l.store l.invariant.0 _ c.record_at.ensures

pub loop-i-preserved-then-picks-i : goal.loop-i-preserved-then-picks-i
loop-i-preserved-then-picks-i c =
    let l = c.loop-i in
    let k : l.i ≤ length c.args.map.now / 8 = omega arith in (
      c.freshen.auto.store ∙ l.invariant.0,
      done_put c.args.map.now c.args.store.now c.args.image.now c.choices-picks.result
          l.i c.loop-i-test.true k l.store l.invariant.1 _ refl c.if-picks-i.true
          _ c.record_at.ensures _ c.freshen.ensures,
    )

pub loop-i-preserved : goal.loop-i-preserved
loop-i-preserved c =
    let l = c.loop-i in
    let k : l.i ≤ length c.args.map.now / 8 = omega arith in (
      l.invariant.0,
      done_passed c.args.map.now c.args.store.now c.args.image.now c.choices-picks.result
          l.i c.loop-i-test.true k l.store l.invariant.1 _ refl c.if-picks-i.false,
    )

pub returns : goal.returns
returns c =
    let l = c.loop-i in
    let picked = c.choices-picks in
    done_all _ _ _ picked.result l.i l.store (omega arith) l.invariant.1 _ picked.ensures
