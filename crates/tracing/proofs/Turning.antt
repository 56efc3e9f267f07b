-- A run, turn by turn: what is written so far and then the records that are left are the whole run.
-- Assumes nothing.
use Prim.Native.Nat.{ℕ, ◌+◌, ◌-◌, ◌*◌, ◌/◌, ◌≤◌, ◌<◌}
use mathlib.Core.Path.{◌≡◌, refl, ap, sym, ◌∙◌}
use mathlib.Core.Logic.{◌⊎◌, inl, inr}
use mathlib.Core.Bool.{Bool, true, false}
use mathlib.Core.List.{List, [], ◌∷◌, ◌++◌}
use native.Mathlib.Omega.{arith}
use lib.ListN.{length, take, drop, take-append-drop}
use lib.Seq.{length-take-le, drop-drop}
use Rattle.laws.specs.Lists.{items}
use Rattle.laws.specs.Outcome.{Gives}
use Rattle.laws.specs.Parts.{put}
use Rattle.laws.proofs.Items.{items_start, items_end, items_cons}
use Rattle.laws.proofs.Tests.{if_lt}
use Rattle.rooms.specs.Reply.{refusing}
use Rattle.rooms.specs.declared.state.State.{State}
use Rattle.rooms.specs.declared.reply.Stepped.{Stepped}
use Rattle.numbers.specs.Numbers.{power_number}
use Rattle.unit.specs.Run.{input_of, output_of}
use Rattle.entries.specs.Entry.{entry_at, entries, is_broken}
use Rattle.entries.specs.declared.entry.Entry.{Entry}
use Rattle.tracing.specs.Trace.{Traced, traced_of}
use Rattle.tracing.specs.Run.{turn_of, continued, so_far, Begins, Turns, room_for, Runs}
use Rattle.tracing.specs.declared.runs.Ran.{Ran}
use Rattle.tracing.proofs.Checks.{one_check}
use Rattle.tracing.proofs.Continued.{continued_more, continued_none, continued_ended}
use Rattle.tracing.proofs.Written.{front_put, back_put}

-- a run of one record
turn_traced : (map image store : List ℕ) (s : State) (e : Entry)
    → traced_of map image store s (e ∷ [])
    ≡ record {
      output = output_of (turn_of map image store s e).answer.reply;
      ended = is_broken e;
      state = (turn_of map image store s e).answer.state;
      store = (turn_of map image store s e).store;
    }
unfolding traced_of turn_of input_of output_of refusing
turn_traced map image store s (Entry.Frame clock frame) = refl
turn_traced map image store s Entry.PowerOn = refl
turn_traced map image store s Entry.Broken = refl

module _
    (r : Ran)
    (map store image records output : List ℕ)
    (number : ℕ)
    (begins : Begins r map store image records output number)
    (e : Entry)
    (reads : e ≡ entry_at records r.count)
    (d : Stepped)
    (after : List ℕ)
    (gives : Gives d after (turn_of map image store r.state e))
    (written : List ℕ)
    (puts : written ≡ put (4 * r.count) (output_of d.reply) output)
    (ended : Bool)
    (ends : ended ≡ is_broken e)
  where
    front : take (4 * (r.count + 1)) written ≡ take (4 * r.count) output ++ output_of d.reply
    unfolding output_of
    front =
        let room = begins.room_there in
        let four : 4 * (r.count + 1) ≡ 4 * r.count + 4 = omega arith in
        rw (puts, four) (front_put (4 * r.count) (output_of d.reply) output room)

    back : drop (4 * (r.count + 1)) written ≡ drop (4 * (r.count + 1)) output
    unfolding output_of
    back =
        let room = begins.room_there in
        let four : 4 * (r.count + 1) ≡ 4 * r.count + 4 = omega arith in
        rw (puts, four) (back_put (4 * r.count) (output_of d.reply) output room)

    does : so_far (record { state = d.state; count = r.count + 1; ended = ended }) after written
        ≡ continued map image (so_far r store output) (entry_at records r.count ∷ [])
    unfolding so_far continued
    does =
        rw (
          begins.goes_on,
          ← reads,
          turn_traced map image store r.state e,
          ← gives.answer,
          ← gives.store,
          front,
          ends,
        )

    pub turns : Turns r (record { state = d.state; count = r.count + 1; ended = ended }) map store after image
        records output written number
    turns =
        record {
          one_more = refl;
          does = does;
          rest_stays = back;
          still_checked =
              begins.checked ∙ sym (one_check map image store r.state e)
              ∙ rw (← gives.answer, ← gives.store);
        }

-- whole records that the output has room for are there, and so is the room
room_there : (records output n : ℕ) → n ≡ room_for records output → (8 * n ≤ records) × (4 * n ≤ output)
unfolding room_for
room_there records output n e =
    rw e
    (if_lt (λ m. (8 * m ≤ records) × (4 * m ≤ output)) (output / 4) (records / 8)
    (λ h. (omega arith, omega arith)) (λ h. (omega arith, omega arith)))

-- what holds from turn to turn
pub record Goes (map image records stored before store output : List ℕ) (s : State) (n number : ℕ) (r : Ran)
    : Type 0 where
  pub within : r.count ≤ n
  pub records_there : 8 * n ≤ length records
  pub room : 4 * n ≤ length before
  pub store_as_long : length store ≡ length stored
  pub output_as_long : length output ≡ length before
  pub checked : number ≡ power_number map store (length image) r.state
  pub rest : drop (4 * r.count) output ≡ drop (4 * r.count) before
  pub whole : traced_of map image stored s (entries records n)
      ≡ continued map image (so_far r store output) (items (entry_at records) r.count (n - r.count))

module _ (map image records stored before : List ℕ) (s : State) (n number : ℕ) where
  -- the records from number i on
  abbrev from : ℕ → List Entry
  from i = items (entry_at records) i (n - i)

  pub goes_first : n ≡ room_for (length records) (length before) → number ≡ power_number map stored (length image) s
      → Goes map image records stored before stored before s n number (record { state = s; count = 0; ended = false })
  unfolding so_far continued
  goes_first e k =
      let there = room_there (length records) (length before) n e in
      record {
        within = omega arith;
        records_there = there.0;
        room = there.1;
        store_as_long = refl;
        output_as_long = refl;
        checked = k;
        rest = refl;
        whole = ap (traced_of map image stored s) (items_start (entry_at records) n);
      }

  module _ (store output : List ℕ) (r : Ran)
      (goes : Goes map image records stored before store output s n number r) where
    -- a turn may begin
    pub begins : r.count < n → r.ended ≡ false → Begins r map store image records output number
    begins more on =
        record {
          record_there = omega (arith, goes.records_there);
          room_there = omega (arith, goes.room, goes.output_as_long);
          goes_on = on;
          checked = goes.checked;
        }

    -- and is one nearer to the end
    pub goes_again : r.count < n → (next : Ran) (after written : List ℕ)
        → Turns r next map store after image records output written number
        → length after ≡ length store → length written ≡ length output
        → Goes map image records stored before after written s n number next
    goes_again more next after written t a w =
        let one = t.one_more in
        let four : 4 * next.count ≡ 4 * r.count + 4 = omega arith in
        record {
          within = omega arith;
          records_there = goes.records_there;
          room = goes.room;
          store_as_long = a ∙ goes.store_as_long;
          output_as_long = w ∙ goes.output_as_long;
          checked = t.still_checked;
          rest =
              t.rest_stays
              ∙ rw (four, ← drop-drop 4 (4 * r.count) output, ← drop-drop 4 (4 * r.count) before, goes.rest);
          whole =
              goes.whole
              ∙ ap (continued map image (so_far r store output)) (items_cons (entry_at records) r.count n more _ refl)
              ∙ continued_more map image (so_far r store output) (entry_at records r.count ∷ []) (from (r.count + 1))
              ∙ ap (λ (u : Traced). continued map image u (from (r.count + 1))) (sym t.does)
              ∙ ap (λ (k : ℕ). continued map image (so_far next after written) (from k)) (sym one);
        }

    -- behind the last record, or where 13 has ended it, what is written so far is the whole run
    over : (n ≤ r.count) ⊎ (r.ended ≡ true) → traced_of map image stored s (entries records n) ≡ so_far r store output
    unfolding so_far
    over (inl all) =
        goes.whole
        ∙ ap (continued map image (so_far r store output)) (items_end (entry_at records) r.count n all)
        ∙ continued_none map image (so_far r store output)
    over (inr ended) = goes.whole ∙ continued_ended map image (so_far r store output) (from r.count) ended

    pub ran : (n ≤ r.count) ⊎ (r.ended ≡ true) → Runs r store output before (traced_of map image stored s (entries records n))
    unfolding so_far
    ran end =
        let there : 4 * r.count ≤ length output = omega (arith, goes.within, goes.room, goes.output_as_long) in
        let long = length-take-le (4 * r.count) output there in
        rw (over end)
        (record {
          state = refl;
          ended = refl;
          count = rw long (omega arith);
          leaves = refl;
          writes =
              rw long
              (sym (take-append-drop (4 * r.count) output)
              ∙ ap (λ (l : List ℕ). take (4 * r.count) output ++ l) goes.rest);
        })
