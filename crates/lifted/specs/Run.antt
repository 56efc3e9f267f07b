-- A run of records, each by its own call. include/mirtofalko.h, mf_run: "each as mf_frame or mf_power_on would do it".
-- Assumes nothing.
use Rattle.std.specs.Prelude.{Bool, true, ◌&&◌, List, [], ◌∷◌, ◌++◌, ℕ}
use Rattle.unit.specs.Run.{output_of}
use Rattle.entries.specs.declared.entry.Entry.{Entry}
use Rattle.tracing.specs.Trace.{broken}
use Rattle.faces.specs.Face.{Faced, RunFaced, frame_face, power_on_face}
use Rattle.lifted.specs.Machine.{fits}

-- a call's four bytes (number, answered, answer, zero), and behind them what the records after it write
abbrev pub ahead : Faced → RunFaced → RunFaced
ahead f r = record { output = output_of f.reply ++ r.output; state = r.state; store = r.store }

-- record after record: mf_frame or mf_power_on on the state's bytes and the store that the call before it left; one of
-- unknown kind gets 13, and ends the run
abbrev pub each_of : List ℕ → List ℕ → List ℕ → List ℕ → List Entry → RunFaced
each_of map image store bytes [] = record { output = []; state = bytes; store = store }
each_of map image store bytes (Entry.Frame clock frame ∷ es) =
    let f : Faced = frame_face map store image bytes frame clock in ahead f (each_of map image f.store f.state es)
each_of map image store bytes (Entry.PowerOn ∷ es) =
    let f : Faced = power_on_face map store image bytes in ahead f (each_of map image f.store f.state es)
each_of map image store bytes (Entry.Broken ∷ es) = record { output = broken; state = bytes; store = store }

-- clock and frame have 32 bits, as those of every record of bytes have
abbrev pub entry_fits : Entry → Bool
entry_fits (Entry.Frame clock frame) = fits frame && fits clock
entry_fits Entry.PowerOn = true
entry_fits Entry.Broken = true
