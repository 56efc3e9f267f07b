-- A session, run from any accepted state.
-- Assumes nothing.
use Prim.Native.Nat.{ℕ, zero, suc, ◌+◌, ◌%◌, ◌^◌, ◌≤◌, ◌<◌}
use mathlib.Core.Path.{◌≡◌, refl, ap, sym, subst, ◌∙◌}
use mathlib.Core.Logic.{⊎_elim}
use mathlib.Core.Bool.{true}
use mathlib.Core.List.{List, [], ◌∷◌, ◌++◌}
use native.Mathlib.Omega.{arith}
use borrow.Author.Tests.{eq-eqb, ne_eqb}
use lib.ListN.{length, get_or}
use Rattle.std.specs.Prelude.{None, Result, Ok}
use Rattle.refusals.specs.declared.refusal.Refusal.{Refusal}
use Rattle.records.specs.Map.{records_of, writable, locations_end}
use Rattle.records.specs.Lookup.{holder}
use Rattle.records.specs.Facts.{Member}
use Rattle.records.specs.declared.record.Record.{Record}
use Rattle.records.proofs.Members.{member_fields}
use Rattle.records.proofs.Locations.{mapped_member}
use Rattle.banks.specs.Rules.{placed}
use Rattle.banks.specs.Values.{put_value, lock_byte}
use Rattle.banks.specs.Facts.{Stands, LockRecord}
use Rattle.banks.proofs.HeadsAndLocks.{has_lock, writable_bank}
use Rattle.banks.proofs.Values.{value_put}
use Rattle.banks.proofs.ForHistory.{lock_value}
use Rattle.memory.specs.Staged.{none_staged, unlocked}
use Rattle.hearing.specs.Pairs.{heard_at, passed}
use Rattle.rooms.specs.State.{with_registers, with_waiting, with_door}
use Rattle.rooms.specs.declared.state.State.{State}
use Rattle.numbers.specs.Numbers.{power_number}
use Rattle.unit.specs.Run.{Input, output_of, Run}
use Rattle.unit.specs.Bench.{none, answer}
use Rattle.unit.proofs.Sound.{power_sound}
use Rattle.session.specs.Session.{set_bank, enable_write, opening, byte_writes, lock_writes, messages_of, framed}
use Rattle.session.specs.Session.{session_of, handed}
use Rattle.session.specs.Running.{heard_of, store_left, StoreLeft, state_left, byte_answers, lock_answers, answers_of}
use Rattle.session.specs.Running.{clock_at, Runs, AreBytes, SessionRuns, SessionRunsAtAnyPace}
use Rattle.session.specs.declared.answer.Session.{Session}
use Rattle.session.proofs.Numbered.{Stood, stands, begins_in, number_is, session_is, fit_count}
use Rattle.session.proofs.Meant.{set_bank_framed, enable_framed, set_bank_means, enable_means}
use Rattle.session.proofs.Leading.{later, heard_from, heard_append, heard_is, Leads, none_leads, one_leads, then_leads}
use Rattle.session.proofs.Whole.{value_leads}
use Rattle.session.proofs.Left.{plain_left, plain_bytes, wrapped_left, wrapped_bytes}
use Rattle.session.proofs.Stepping.{told, asked, open_at, dtr1_step, first_step, second_step, in_time_lem, one_later}

-- DTR1, then the ENABLE pair: whatever waited, and whatever the door was, it is open, and nothing is staged
module _ (map store image : List ℕ) (s : State) (address bank : ℕ) (clocks : ℕ → ℕ)
    (pair : passed (clocks 1) (clocks 2) ≤ 100) (e : power_number map store (length image) s ≡ 0)
    (mine : s.who.address ≡ address) (short : address ≤ 63) (low : bank < 256) where
  pub opening-leads :
      Leads map image store s (heard_from clocks (opening address bank)) (none ++ none ++ none)
      (open_at s bank s.registers.dtr0 none_staged) store
  unfolding output_of
  opening-leads =
      let rs = records_of map in
      let enable = framed (enable_write address) in
      let small = (enable_framed address short).small in
      let means = enable_means s.who address short mine in
      let heard = heard_at (clocks 1) enable in
      let bank_told = one_leads map image store s (heard_at (clocks 0) (framed (set_bank bank))) None (told s bank) store e
      (set_bank_framed bank low).small (dtr1_step rs store image s bank _ (set_bank_means s.who bank low)) in
      let first = one_leads map image store (told s bank) heard None (asked s bank heard) store bank_told.again small
      (first_step rs store image s bank heard means) in
      let second = one_leads map image store (asked s bank heard) (heard_at (clocks 2) enable) None
      (open_at s bank s.registers.dtr0 none_staged) store first.again small
      (second_step rs store image s bank _ heard means (in_time_lem (clocks 1) (clocks 2) enable pair)) in
      then_leads map image bank_told (then_leads map image first second)

-- a session in its four parts
module _ (map image : List ℕ) (address : ℕ) (r : Record) (bytes : List ℕ) (clocks : ℕ → ℕ) where
  pub parts_lead : {store unlocked written left : List ℕ} {s s₁ s₂ s₃ s₄ : State}
      → Leads map image store s (heard_from clocks (opening address r.bank)) (none ++ none ++ none) s₁ store
      → ((c : ℕ → ℕ) → Leads map image store s₁ (heard_from c (lock_writes r 0x55)) (lock_answers r 0x55) s₂ unlocked)
      → ((c : ℕ → ℕ) → Leads map image unlocked s₂ (heard_from c (byte_writes r.first bytes)) (byte_answers bytes) s₃ written)
      → ((c : ℕ → ℕ) → Leads map image written s₃ (heard_from c (lock_writes r 0xFF)) (lock_answers r 0xFF) s₄ left)
      → Leads map image store s (heard_from clocks (messages_of address r bytes)) (answers_of r bytes) s₄ left
  unfolding messages_of answers_of
  parts_lead {store} {unlocked} {written} {left} {s} {s₁} {s₂} {s₃} {s₄} o u w l =
      let a = opening address r.bank in
      let b = lock_writes r 0x55 in
      let c = byte_writes r.first bytes in
      let d = lock_writes r 0xFF in
      let all = then_leads map image
      (then_leads map image (then_leads map image o (u (later clocks (length a)))) (w (later clocks (length (a ++ b)))))
      (l (later clocks (length (a ++ b ++ c)))) in
      subst (λ (xs : List Input). Leads map image store s xs (answers_of r bytes) s₄ left)
      (sym (heard_append (a ++ b ++ c) d clocks
      ∙ ap (λ (xs : List Input). xs ++ heard_from (later clocks (length (a ++ b ++ c))) d)
      (heard_append (a ++ b) c clocks
      ∙ ap (λ (xs : List Input). xs ++ heard_from (later clocks (length (a ++ b))) c) (heard_append a b clocks))))
      all

-- ---- the two kinds of value

one_byte : (byte : ℕ) → byte < 256 → AreBytes (byte ∷ [])
one_byte byte h zero = h
one_byte byte h (suc i) = omega arith

module _ (map store image : List ℕ) (s : State) (address : ℕ) (clocks : ℕ → ℕ) (r : Record) (bytes : List ℕ)
    (pair : passed (clocks 1) (clocks 2) ≤ 100) (e : power_number map store (length image) s ≡ 0)
    (mine : s.who.address ≡ address) (short : address ≤ 63)
    (member : Member r map) (W : writable r ≡ true) (w : length bytes ≡ r.width) (small : AreBytes bytes) where
  standing : Stands map store (length image)
  standing = (power_sound map store (length image) s e).standing

  low : r.bank < 256
  low = let f = member_fields map standing.in_order r member in omega (arith, f.low_bank)

  opened :
      Leads map image store s (heard_from clocks (opening address r.bank)) (none ++ none ++ none)
      (open_at s r.bank s.registers.dtr0 none_staged) store
  opened = opening-leads map store image s address r.bank clocks pair e mine short low

  -- nothing round it
  no_lock : r.lockable ≡ 0 → (byte : ℕ) (c : ℕ → ℕ) (u : State) (t : List ℕ) → power_number map t (length image) u ≡ 0
      → Leads map image t u (heard_from c (lock_writes r byte)) (lock_answers r byte) u t
  unfolding lock_writes lock_answers
  no_lock z byte c u t a = rw (eq-eqb r.lockable 0 z) (none_leads map image t u a)

  -- the value, from any state of the unit with write-enable open
  written_leads : (t : List ℕ) (at : ℕ) (c : ℕ → ℕ) → placed map (length t) ≡ true → unlocked (records_of map) t r ≡ true
      → power_number map t (length image) (open_at s r.bank at none_staged) ≡ 0
      → Leads map image t (open_at s r.bank at none_staged) (heard_from c (byte_writes r.first bytes)) (byte_answers bytes)
      (open_at s r.bank (locations_end r) none_staged) (put_value r bytes t)
  written_leads t at c p free a = value_leads map t image s r p member W free bytes none_staged at c small w a

  plain_leads : r.lockable ≡ 0
      → Leads map image store s (heard_from clocks (messages_of address r bytes)) (answers_of r bytes)
      (open_at s r.bank (locations_end r) none_staged) (put_value r bytes store)
  unfolding unlocked
  plain_leads z =
      let free : unlocked (records_of map) store r ≡ true = rw (eq-eqb r.lockable 0 z) in
      let whole : (c : ℕ → ℕ) → _ = λ c. written_leads store s.registers.dtr0 c standing.in_place free opened.again in
      parts_lead map image address r bytes clocks opened
      (λ c. no_lock z 0x55 c _ store opened.again) whole (λ c. no_lock z 0xFF c _ (put_value r bytes store) (whole c).again)

  -- lock byte 0x55 before it and 0xFF after
  module _ (l : Record) (z : r.lockable ≡ 1) (L : LockRecord map r.bank l)
      (found : holder (records_of map) r.bank 0x02 ≡ Ok l) where
    lock_leads : (byte at : ℕ) (c : ℕ → ℕ) (t : List ℕ) → byte < 256 → placed map (length t) ≡ true
        → power_number map t (length image) (open_at s r.bank at none_staged) ≡ 0
        → Leads map image t (open_at s r.bank at none_staged) (heard_from c (lock_writes r byte)) (lock_answers r byte)
        (open_at s r.bank 0x03 none_staged) (put_value l (byte ∷ []) t)
    unfolding lock_writes lock_answers unlocked
    lock_leads byte at c t h p a =
        let end : locations_end l ≡ 0x03 = omega (arith, L.its_first, L.its_width) in
        let may : writable l ≡ true = rw L.its_kind in
        let free : unlocked (records_of map) t l ≡ true = rw (eq-eqb l.lockable 0 L.no_lock) in
        let bank : l.bank ≡ r.bank = L.its_bank in
        rw (ne_eqb r.lockable 0 (λ e. absurd (omega arith)))
        (subst
        (λ (k : ℕ).
        Leads map image t (open_at s r.bank at none_staged) (heard_from c (byte_writes 0x02 (byte ∷ []))) (answer byte)
        (open_at s r.bank k none_staged) (put_value l (byte ∷ []) t))
        end
        (subst
        (λ (k : ℕ).
        Leads map image t (open_at s r.bank at none_staged) (heard_from c (byte_writes k (byte ∷ []))) (answer byte)
        (open_at s r.bank (locations_end l) none_staged) (put_value l (byte ∷ []) t))
        L.its_first
        (subst
        (λ (k : ℕ).
        Leads map image t (open_at s k at none_staged) (heard_from c (byte_writes l.first (byte ∷ []))) (answer byte)
        (open_at s k (locations_end l) none_staged) (put_value l (byte ∷ []) t))
        bank
        (value_leads map t image s l p L.member may free (byte ∷ []) none_staged at c (one_byte byte h) (sym L.its_width)
        (subst (λ (k : ℕ). power_number map t (length image) (open_at s k at none_staged) ≡ 0) (sym bank) a)))))

    -- the lock byte is put, and all places are where they were
    still : (byte : ℕ) (t : List ℕ) → placed map (length t) ≡ true → placed map (length (put_value l (byte ∷ []) t)) ≡ true
    still byte t p = rw (value_put map t (byte ∷ []) l p L.member (sym L.its_width)).as_long p

    wrapped-leads :
        Leads map image store s (heard_from clocks (messages_of address r bytes)) (answers_of r bytes)
        (open_at s r.bank 0x03 none_staged)
        (put_value l (0xFF ∷ []) (put_value r bytes (put_value l (0x55 ∷ []) store)))
    unfolding unlocked
    wrapped-leads =
        let p = standing.in_place in
        let store₁ = put_value l (0x55 ∷ []) store in
        let p₁ = still 0x55 store p in
        let lock : lock_byte (records_of map) store₁ r.bank ≡ 0x55 =
        ap (λ (v : List ℕ). get_or v 0 0)
        (sym (lock_value map store₁ p₁ r.bank l L) ∙ (value_put map store (0x55 ∷ []) l p L.member (sym L.its_width)).there) in
        let free : unlocked (records_of map) store₁ r ≡ true =
        rw (ne_eqb r.lockable 0 (λ e. absurd (omega arith)), eq-eqb (lock_byte (records_of map) store₁ r.bank) 0x55 lock) in
        let p₂ : placed map (length (put_value r bytes store₁)) ≡ true =
        rw (value_put map store₁ bytes r p₁ member w).as_long p₁ in
        let unlocking : (c : ℕ → ℕ) → _ = λ c. lock_leads 0x55 s.registers.dtr0 c store (omega arith) p opened.again in
        let whole : (c : ℕ → ℕ) → _ = λ c. written_leads store₁ 0x03 c p₁ free (unlocking clocks).again in
        parts_lead map image address r bytes clocks opened unlocking whole
        (λ c. lock_leads 0xFF (locations_end r) c (put_value r bytes store₁) (omega arith) p₂ (whole clocks).again)

-- ---- what is stated

-- what the frames lead to, in the words of the statement
runs_of : (map store image : List ℕ) (s : State) (clocks : ℕ → ℕ) (session : Session) (r : Record) (bytes : List ℕ) (after : State)
    (left : List ℕ) (xs : List Input) → heard_of clocks session ≡ xs → Leads map image store s xs (answers_of r bytes) after left
    → left ≡ store_left (records_of map) r bytes store → after ≡ state_left r s
    → StoreLeft map store r bytes (store_left (records_of map) r bytes store)
    → Runs map store image s clocks session r bytes
runs_of map store image s clocks session r bytes after left xs heard ran l a b =
    let leads = subst (λ (x : List Input). Leads map image store s x (answers_of r bytes) after left) (sym heard) ran in
    let store_is = ap (λ (x : Run). x.store) leads.runs ∙ l in
    record {
      accepted = leads.accepted;
      store_is = store_is;
      store_left_lem = subst (StoreLeft map store r bytes) (sym store_is) b;
      state_is = ap (λ (x : Run). x.state) leads.runs ∙ a;
      answers = ap (λ (x : Run). x.output) leads.runs;
    }

-- the state, of either kind
plain_state : (r : Record) (s : State) → r.lockable ≡ 0 → open_at s r.bank (locations_end r) none_staged ≡ state_left r s
unfolding state_left with_door with_waiting with_registers
plain_state r s z = rw (eq-eqb r.lockable 0 z)

wrapped_state : (r : Record) (s : State) → r.lockable ≡ 1 → open_at s r.bank 0x03 none_staged ≡ state_left r s
unfolding state_left with_door with_waiting with_registers
wrapped_state r s z = rw (ne_eqb r.lockable 0 (λ e. absurd (omega arith)))

pub session_runs_at_any_pace : SessionRunsAtAnyPace
session_runs_at_any_pace map store image s address bank location bytes e mine small n clocks pair =
    let stood = stands map address bank location (length bytes) (sym (number_is map address bank location bytes) ∙ n) in
    let r = stood.r in
    let b = begins_in map bank location r stood.begins in
    record { r = r; begins = stood.begins; runs = go stood b }
  where
    go : (k : Stood map address bank location (length bytes)) → Member k.r map × (k.r.bank ≡ bank) × (k.r.first ≡ location)
        → Runs map store image s clocks (handed (session_of map address bank location bytes)) k.r bytes
    go k b =
        let r = k.r in
        let standing = (power_sound map store (length image) s e).standing in
        let is = session_is map address bank location bytes k in
        let heard = ap (λ (x : Result Session Refusal). heard_of clocks (handed x)) is ∙ heard_is clocks (messages_of address r bytes) in
        let fit = fit_count address r (length bytes) k.fit in
        let w = fit.0 in
        ⊎_elim
        (λ z.
        runs_of map store image s clocks _ r bytes _ _ _ heard
        (plain_leads map store image s address clocks r bytes pair e mine fit.1 b.0 k.may_write w small z)
        (sym (plain_left map store bytes r standing.in_place b.0 w z)) (plain_state r s z)
        (subst (StoreLeft map store r bytes) (sym (plain_left map store bytes r standing.in_place b.0 w z))
        (plain_bytes map store bytes r standing.in_place b.0 w z)))
        (λ z.
        let positive = writable_bank map standing.banks r b.0 k.may_write in
        let lock = has_lock map standing.in_order standing.banks r.bank positive
        ((mapped_member map r.bank).1 (r, b.0, refl)) in
        let l = lock.0 in
        runs_of map store image s clocks _ r bytes _ _ _ heard
        (wrapped-leads map store image s address clocks r bytes pair e mine fit.1 b.0 k.may_write w small l z.0 lock.1
        lock.2)
        (wrapped_left map store bytes r standing.in_place b.0 w l z.0 lock.1 lock.2 0x55) (wrapped_state r s z.0)
        (wrapped_bytes map store bytes r standing.in_place b.0 w l z.0 lock.1 lock.2))
        (member_fields map k.in_order r b.0).locks

pub session_runs : SessionRuns
session_runs map store image s address bank location bytes e mine small n clock =
    session_runs_at_any_pace map store image s address bank location bytes e mine small n (clock_at clock)
    (subst (λ (k : ℕ). passed ((clock + 1) % 2 ^ 32) (k % 2 ^ 32) ≤ 100)
    (let k : clock + 1 + 1 ≡ clock + 2 = omega arith in k)
    (one_later (clock + 1)))
