-- There is room for the bytes, and behind them for the lock byte.
-- Assumes nothing.
use Rattle.session.proofs.Growing.{unlocked_count, whole_count, fits}
use Rattle.session.proofs.writer.written.Goals as goal

pub bytes_sent-whole-requires : goal.bytes_sent-whole-requires
bytes_sent-whole-requires c =
    let four = unlocked_count c.args.address c.args.r c.args.bytes.now c.requires.0 _ _ c.opened.ensures
    c.lock_sent-unlocked.ensures in
    (fits four c.requires.0, c.requires.1)

pub lock_sent-requires : goal.lock_sent-requires
lock_sent-requires c =
    whole_count c.args.address c.args.r c.args.bytes.now c.requires.0 _ _ _ c.opened.ensures
    c.lock_sent-unlocked.ensures c.bytes_sent-whole.ensures
