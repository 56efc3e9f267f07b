-- The unit as C sees it: its state is 96 bytes, and its calls are the definitions that mf_start, mf_frame and
-- mf_power_on promise. Paper 01, "How the promises are judged".
-- Assumes nothing.
use Rattle.std.specs.Prelude.{Bool, ◌&&◌, List, ℕ, ◌^◌, ltb, replicate, if◌then◌else◌}
use Rattle.refusals.specs.Numbers.{number_in}
use Rattle.history.specs.Machine.{Left, Machine}
use Rattle.faces.specs.Face.{Faced, start_face, frame_face, power_on_face}

-- C's numbers have 32 bits
abbrev pub fits : ℕ → Bool
fits n = ltb n (2 ^ 32)

-- what a call leaves: its number, the state's bytes, the store
abbrev pub faced_left : Faced → Left (List ℕ)
faced_left f = record { number = number_in f.reply; state = f.state; store = f.store }

-- a number that has more bits cannot be told to C: there is no such call, so it leaves all as it was, and counts as not
-- accepted (6: out of range)
abbrev pub call_left : Bool → List ℕ → List ℕ → Faced → Left (List ℕ)
call_left told bytes store f = if told then faced_left f else record { number = 6; state = bytes; store = store }

unfoldable pub c_machine : Machine (List ℕ)
c_machine = record {
  starts = λ start.
      call_left (fits start.who.address && fits start.who.groups) (replicate 96 0) start.store
      (start_face start.map start.store start.image start.who.address start.who.groups);
  steps = λ map store image bytes x.
      call_left (fits x.frame && fits x.clock) bytes store
      (frame_face map store image bytes x.frame x.clock);
  powers_on = λ map store image bytes. faced_left (power_on_face map store image bytes);
}
