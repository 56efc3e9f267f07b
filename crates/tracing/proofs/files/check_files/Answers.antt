-- Behind the checks of map, store and image the address file decides.
-- Assumes nothing.
use Rattle.std.proofs.Common.{refl}
use Rattle.tracing.proofs.Starts.{adr_decides}
use Rattle.tracing.proofs.files.check_files.Goals as goal

pub returns-then-adr-holds : goal.returns-then-adr-holds
returns-then-adr-holds c =
    adr_decides _ _ _ _ _ c.in_ok-check.ensures refl
    _ c.who_of.ensures _ c.address_holds-holds.ensures _ c.if-adr-holds.true

pub returns-else-adr-holds : goal.returns-else-adr-holds
returns-else-adr-holds c =
    adr_decides _ _ _ _ _ c.in_ok-check.ensures refl
    _ c.who_of.ensures _ c.address_holds-holds.ensures _ c.if-adr-holds.false
