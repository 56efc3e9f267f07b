-- The bytes of a value, written one after the other: each is taken and answered by itself, and the last one puts them all.
-- Assumes nothing.
use Prim.Native.Nat.{ℕ, suc, ◌+◌, ◌-◌, ◌≤◌, ◌<◌}
use mathlib.Core.Path.{◌≡◌, refl, ap, subst, ◌∙◌}
use mathlib.Core.Bool.{true, or-true}
use mathlib.Core.List.{List, [], ◌∷◌, ◌++◌}
use native.Mathlib.Omega.{arith}
use native.Mathlib.Nat.{add-zero}
use borrow.Author.Tests.{eq-eqb, ne_eqb, le-leb}
use lib.Dec.{eqb}
use lib.ListN.{length, take, replicate, length-append}
use lib.Seq.{take_at, append_snoc}
use Rattle.std.specs.Prelude.{Some, Ok}
use Rattle.laws.specs.Outcome.{leaves}
use Rattle.records.specs.Map.{records_of, writable, mapped, locations_end}
use Rattle.records.specs.Lookup.{holder}
use Rattle.records.specs.Facts.{Member, FieldsHold}
use Rattle.records.specs.declared.record.Record.{Record}
use Rattle.records.proofs.Members.{member_fields}
use Rattle.records.proofs.Locations.{holder_hit, mapped_member}
use Rattle.banks.specs.Rules.{placed}
use Rattle.banks.specs.Values.{put_value, padded}
use Rattle.banks.proofs.Places.{placed_ordered}
use Rattle.memory.specs.Staged.{none_staged, unlocked, taken, staged_of, wrote, write_byte}
use Rattle.memory.specs.Rules.{staged_holds}
use Rattle.memory.specs.Promises.{Takes, bytes_to}
use Rattle.memory.specs.declared.staged.Staged.{Staged}
use Rattle.memory.proofs.StagedRoom.{write_takes}
use Rattle.hearing.specs.Pairs.{heard_at}
use Rattle.rooms.specs.declared.state.State.{State}
use Rattle.numbers.specs.Numbers.{power_number}
use Rattle.unit.proofs.Keeping.{door_staged}
use Rattle.unit.proofs.Sound.{power_sound}
use Rattle.unit.specs.Run.{output_of}
use Rattle.unit.specs.Bench.{answer}
use Rattle.session.specs.Session.{byte_writes, direct_write, framed}
use Rattle.session.specs.Running.{AreBytes, byte_answers}
use Rattle.session.proofs.Meant.{direct_framed, direct_means}
use Rattle.session.proofs.Leading.{heard_from, Leads, one_leads, then_leads}
use Rattle.session.proofs.Stepping.{open_at, write_step}

module _ (map store image : List ℕ) (s : State) (r : Record)
    (place : placed map (length store) ≡ true) (member : Member r map)
    (W : writable r ≡ true) (U : unlocked (records_of map) store r ≡ true) where
  fields : FieldsHold r
  fields = member_fields map (placed_ordered map (length store) place) r member

  bank_mapped : mapped (records_of map) r.bank ≡ true
  bank_mapped = (mapped_member map r.bank).1 (r, member, refl)

  at_number : (k : ℕ) → k < r.width → holder (records_of map) r.bank (r.first + k) ≡ Ok r
  at_number k h =
      holder_hit map (placed_ordered map (length store) place) r.bank (r.first + k) r member
      (record { same_bank = refl; from = omega arith; to = omega arith })

  -- these bytes are staged, or none are to be: the next one is taken, and stands behind them
  record Next (done : List ℕ) (g : Staged) : Type 0 where
    pub takes : taken (records_of map) store g r (r.first + length done) ≡ true
    pub behind : (b : ℕ) → bytes_to g r (r.first + length done) b ≡ done ++ b ∷ []

  none_next : (g : Staged) → Next [] g
  unfolding taken
  none_next g =
      record {
        takes = rw (W, U, eq-eqb (r.first + 0) r.first (add-zero r.first));
        behind = λ b. ap (λ (k : ℕ). take k g.bytes ++ b ∷ []) (let k : r.first + 0 - r.first ≡ 0 = omega arith in k);
      }

  some_next : (done : List ℕ) → 1 ≤ length done → Next done (staged_of r (length done) (padded done))
  unfolding taken
  some_next done h =
      record {
        takes =
            rw (
              W,
              U,
              le-leb 1 (length done) h,
              eq-eqb r.bank r.bank refl,
              eq-eqb r.first r.first refl,
              eq-eqb (r.first + length done) (r.first + length done) refl,
            )
            (or-true (eqb (r.first + length done) r.first));
        behind = λ b.
            ap (λ (k : ℕ). take k (padded done) ++ b ∷ [])
            (let k : r.first + length done - r.first ≡ length done = omega arith in k)
            ∙ ap (λ (l : List ℕ). l ++ b ∷ []) (take_at done (replicate (8 - length done) 0) (length done) refl);
      }

  -- what one write does
  module _ (done : List ℕ) (g : Staged) (next : Next done g) (holds : staged_holds (records_of map) store g ≡ true) (b : ℕ) where
    takes_it : length done < r.width → Takes (records_of map) store g r.bank (r.first + length done) r
    takes_it h = record { found = at_number (length done) h; took = next.takes }

    last_write : length done + 1 ≡ r.width
        → write_byte (records_of map) store g r.bank (r.first + length done) b
        ≡ leaves (wrote true none_staged) (put_value r (done ++ b ∷ []) store)
    last_write e =
        write_takes map store place g holds r.bank (r.first + length done) b r (takes_it (omega arith))
        ∙ rw (eq-eqb (r.first + length done + 1) (locations_end r) (omega arith), next.behind b)

    more_write : length done + 1 < r.width
        → write_byte (records_of map) store g r.bank (r.first + length done) b
        ≡ leaves (wrote true (staged_of r (length (done ++ b ∷ [])) (padded (done ++ b ∷ [])))) store
    more_write e =
        let k : r.first + length done - r.first + 1 ≡ length (done ++ b ∷ []) =
        omega (arith, length-append done (b ∷ [])) in
        write_takes map store place g holds r.bank (r.first + length done) b r (takes_it (omega arith))
        ∙ rw (ne_eqb (r.first + length done + 1) (locations_end r) (λ z. absurd (omega arith)), k, next.behind b)

  -- one write of a session, behind bytes that are staged or none
  module _ (done : List ℕ) (g : Staged) (at : ℕ) (clocks : ℕ → ℕ) (b : ℕ)
      (e : power_number map store (length image) (open_at s r.bank at g) ≡ 0) where
    staged : staged_holds (records_of map) store g ≡ true
    staged =
        door_staged (records_of map) store (open_at s r.bank at g) (power_sound map store (length image) _ e).rules.door

    one_write : length done < r.width → b < 256 → (after : Staged) (left : List ℕ)
        → write_byte (records_of map) store g r.bank (r.first + length done) b ≡ leaves (wrote true after) left
        → Leads map image store (open_at s r.bank at g) (heard_from clocks (direct_write (r.first + length done) b ∷ []))
        (answer b) (open_at s r.bank (r.first + length done + 1) after) left
    unfolding output_of
    one_write h k after left w =
        let last = fields.last in
        let location = r.first + length done in
        one_leads map image store (open_at s r.bank at g) (heard_at (clocks 0) (framed (direct_write location b))) (Some b)
        (open_at s r.bank (location + 1) after) left e (direct_framed location b (omega arith) k).small
        (write_step (records_of map) store image s r.bank _ at location b g bank_mapped (λ z. absurd (omega arith))
        (direct_means s.who location b (omega arith) k) after left w)

  -- the bytes that are left
  rest_leads : (bs : List ℕ) (b : ℕ) (done : List ℕ) (g : Staged) (at : ℕ) (clocks : ℕ → ℕ) → Next done g → AreBytes (b ∷ bs)
      → length done + suc (length bs) ≡ r.width
      → power_number map store (length image) (open_at s r.bank at g) ≡ 0
      → Leads map image store (open_at s r.bank at g) (heard_from clocks (byte_writes (r.first + length done) (b ∷ bs)))
      (byte_answers (b ∷ bs)) (open_at s r.bank (locations_end r) none_staged) (put_value r (done ++ b ∷ bs) store)
  rest_leads [] b done g at clocks next small w e =
      let end : r.first + length done + 1 ≡ locations_end r = omega arith in
      subst
      (λ (k : ℕ).
      Leads map image store (open_at s r.bank at g) (heard_from clocks (byte_writes (r.first + length done) (b ∷ [])))
      (byte_answers (b ∷ [])) (open_at s r.bank k none_staged) (put_value r (done ++ b ∷ []) store))
      end
      (one_write done g at clocks b e (omega arith) (small 0) none_staged _
      (last_write done g next (staged done g at clocks b e) b (omega arith)))
  rest_leads (c ∷ bs) b done g at clocks next small w e =
      let now = done ++ b ∷ [] in
      let long = length-append done (b ∷ []) in
      let place : r.first + length now ≡ r.first + length done + 1 = omega arith in
      let g' = staged_of r (length now) (padded now) in
      let first = one_write done g at clocks b e (omega arith) (small 0) g' store
      (more_write done g next (staged done g at clocks b e) b (omega arith)) in
      let others = rest_leads bs c now g' (r.first + length done + 1) (λ i. clocks (suc i)) (some_next now (omega arith))
      (λ i. small (suc i)) (omega arith) first.again in
      subst
      (λ (l : List ℕ).
      Leads map image store (open_at s r.bank at g) (heard_from clocks (byte_writes (r.first + length done) (b ∷ c ∷ bs)))
      (byte_answers (b ∷ c ∷ bs)) (open_at s r.bank (locations_end r) none_staged) (put_value r l store))
      (append_snoc done b (c ∷ bs))
      (then_leads map image first
      (subst
      (λ (k : ℕ).
      Leads map image store (open_at s r.bank (r.first + length done + 1) g')
      (heard_from (λ i. clocks (suc i)) (byte_writes k (c ∷ bs)))
      (byte_answers (c ∷ bs)) (open_at s r.bank (locations_end r) none_staged) (put_value r (now ++ c ∷ bs) store))
      place others))

  -- all of them, whatever was staged before
  pub value_leads : (bytes : List ℕ) (g : Staged) (at : ℕ) (clocks : ℕ → ℕ) → AreBytes bytes → length bytes ≡ r.width
      → power_number map store (length image) (open_at s r.bank at g) ≡ 0
      → Leads map image store (open_at s r.bank at g) (heard_from clocks (byte_writes r.first bytes))
      (byte_answers bytes) (open_at s r.bank (locations_end r) none_staged) (put_value r bytes store)
  value_leads [] g at clocks small w e = absurd (omega (arith, fields.some_width))
  value_leads (b ∷ bs) g at clocks small w e =
      subst
      (λ (k : ℕ).
      Leads map image store (open_at s r.bank at g) (heard_from clocks (byte_writes k (b ∷ bs)))
      (byte_answers (b ∷ bs)) (open_at s r.bank (locations_end r) none_staged) (put_value r (b ∷ bs) store))
      (add-zero r.first)
      (rest_leads bs b [] g at clocks (none_next g) small (omega arith) e)
