-- The worked cases, computed.
-- Assumes nothing.
use mathlib.Core.Path.{refl}
use Rattle.frames.specs.Write.{bytes_frame, write_of}
use Rattle.refusals.specs.Numbers.{refusal_of}
use Rattle.records.specs.Order.{order_number}
use Rattle.records.specs.Lookup.{nearer, next, why}
use Rattle.numbers.proofs.Computing.{reading, checking, looking, meaning, storing, keeping, rooms}
use Rattle.unit.proofs.Bench.{filling, acting, calling}
use Rattle.session.specs.Session.{lock_writes, messages_of, framed, session_with, session_number, session_at, session_of}
use Rattle.session.specs.Session.{session_word}
use Rattle.session.specs.Running.{heard_of}
use Rattle.session.specs.Cases.{SessionCases}

-- what a session computes with
unfoldable pub sending : Unit {0}
unfolding bytes_frame write_of lock_writes messages_of framed session_with session_number session_at session_of session_word heard_of
sending = tt

pub session_cases : SessionCases
unfolding refusal_of reading checking looking meaning storing filling keeping rooms acting calling sending order_number why next nearer
session_cases =
    record {
      waiting = refl;
      stores = refl;
      outputs = refl;
      numbers = refl;
      refusals = refl;
      no_frames = refl;
      frames = refl;
      words = refl;
    }
