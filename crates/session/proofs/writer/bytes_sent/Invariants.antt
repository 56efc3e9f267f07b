-- The bytes from number `i` on are still to come.
-- Assumes nothing.
use Rattle.std.proofs.Common.{◌≡◌, ◌+◌, ◌≤◌, length, drop}
use Rattle.session.specs.Session.{byte_writes, sent_all}
use Rattle.session.proofs.writer.bytes_sent.Given as goal

abbrev pub invariant-loop-i : goal.invariant-loop-i
invariant-loop-i l =
    record {
      to_come : sent_all l.next (byte_writes (l.first + l.i) (drop l.i l.bytes)) ≡ sent_all l.fn.session (byte_writes l.first l.bytes);
      many : l.next.count ≡ l.fn.session.count + l.i;
      within : l.i ≤ length l.bytes;
    }
