-- `tracing::runs::turn` meets its contract.
-- Assumes nothing.
use Rattle.tracing.proofs.Turning.{turns}
use Rattle.tracing.proofs.runs.turn.Goals as goal

pub returns : goal.returns
returns c =
    turns _ _ _ _ _ _ _ c.requires _ c.entry_at-entry.ensures
    _ _ c.step_entry-stepped.ensures _ c.write_reply.ensures _ c.is_broken.ensures
