-- The worked cases, computed.
-- Assumes nothing.
use mathlib.Core.Path.{refl}
use lib.Count.{count_trailing_zeros}
use Rattle.refusals.specs.Numbers.{refusal_of}
use Rattle.frames.specs.Values.{scheme_at}
use Rattle.frames.specs.Write.{bytes_frame, event_fits, event_frame, power_frame, write_of}
use Rattle.words.specs.Values.{address_at, field_at}
use Rattle.words.specs.Word.{six_bytes, message_at, message_of}
use Rattle.composing.specs.Compose.{or_missing, source_fits, shipped_of, or_blank, lowest_group, event_by, compose_of}
use Rattle.composing.specs.Compose.{power_fits, compose_power_of}
use Rattle.banks.specs.Rules.{check_number}
use Rattle.looks.specs.Look.{look_number, look_of}
use Rattle.numbers.proofs.Computing.{reading, checking, looking, meaning, storing, keeping, rooms}
use Rattle.unit.proofs.Bench.{filling, acting, calling}
use Rattle.packing.specs.StateBytes.{four_of, state_bytes, four_at, state_of, shape_holds}
use Rattle.faces.specs.Answers.{reply_word, look_word}
use Rattle.faces.specs.Face.{then_number, start_face, frame_face, power_on_face, run_face}
use Rattle.faces.specs.Cases.{Cases}

unfoldable words : Unit {0}
unfolding look_number look_of count_trailing_zeros address_at scheme_at field_at bytes_frame event_fits event_frame power_frame write_of
    or_missing source_fits shipped_of or_blank lowest_group event_by compose_of power_fits compose_power_of
    six_bytes message_at message_of
words = tt

unfoldable faces : Unit {0}
unfolding refusal_of four_of state_bytes four_at state_of shape_holds reply_word look_word then_number start_face frame_face power_on_face
    run_face
faces = tt

pub cases : Cases
unfolding reading checking looking meaning storing filling keeping rooms acting calling words faces check_number
cases =
    record {
      check = (refl, refl);
      look = refl;
      look_none = refl;
      look_no_byte = (refl, refl);
      read = refl;
      read_refused = refl;
      write = refl;
      write_no_message = refl;
      write_out_of_range = refl;
      compose_events = (refl, refl, refl, refl, refl);
      compose_refused = refl;
      compose_power = (refl, refl);
      start = (refl, refl, refl);
      start_refused = (refl, refl);
      start_no_byte = (refl, refl, refl);
      half = refl;
      p11_answers = refl;
      p11_store = refl;
      staged = refl;
      flags = (refl, refl, refl);
      behind = (refl, refl);
      in_order = (refl, refl);
      run = refl;
      power_on = refl;
    }
