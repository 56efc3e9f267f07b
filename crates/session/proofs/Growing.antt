-- A session as it grows, frame by frame, and as it is in the end.
-- Assumes nothing.
use Prim.Native.Nat.{ℕ, suc, ◌+◌, ◌-◌, ◌≤◌, ◌<◌}
use mathlib.Core.Path.{◌≡◌, refl, ap, sym, ◌∙◌}
use mathlib.Core.List.{List, [], ◌∷◌, ◌++◌, append-nil, map as each, map-append}
use native.Mathlib.Omega.{arith}
use native.Mathlib.Numerals.{add-one}
use native.Mathlib.Nat.{add-zero, add_assoc}
use lib.Dec.{eqb}
use lib.ListN.{length, drop, get_or, set, replicate, length-append, length-map, drop_of_length-le}
use lib.Seq.{set_at, append_snoc, drop-cons}
use Rattle.laws.proofs.Tests.{if_by}
use Rattle.frames.specs.declared.message.Message.{Message}
use Rattle.records.specs.declared.record.Record.{Record}
use Rattle.session.specs.Session.{direct_write, byte_writes, lock_writes, opening, messages_of, framed, without_frames}
use Rattle.session.specs.Session.{session_with, sent, sent_all}
use Rattle.session.specs.declared.answer.Session.{Session}

-- what is sent behind one list of messages is sent behind both
pub sent_append : (s : Session) (a b : List Message) → sent_all s (a ++ b) ≡ sent_all (sent_all s a) b
sent_append s [] b = refl
sent_append s (m ∷ a) b = sent_append (sent s (framed m)) a b

pub sent_count : (ms : List Message) (s : Session) → (sent_all s ms).count ≡ s.count + length ms
unfolding sent
sent_count [] s = sym (add-zero s.count)
sent_count (m ∷ ms) s = sent_count ms (sent s (framed m)) ∙ omega arith

-- one message more
frames_more : (frames : List ℕ) (f n : ℕ) → length frames ≡ n → n < 13
    → set (frames ++ replicate (13 - n) 0) n f ≡ frames ++ (f ∷ []) ++ replicate (13 - (n + 1)) 0
frames_more frames f n e h =
    let one : 13 - n ≡ suc (13 - (n + 1)) = omega arith in
    ap (λ (k : ℕ). set (frames ++ replicate k 0) n f) one ∙ set_at frames 0 (replicate (13 - (n + 1)) 0) f n e
    ∙ sym (append_snoc frames f (replicate (13 - (n + 1)) 0))

one_more : (ms : List Message) (m : Message) → length ms < 13 → sent (session_with ms) (framed m) ≡ session_with (ms ++ m ∷ [])
unfolding sent session_with
one_more ms m h =
    rw (
      frames_more (each framed ms) (framed m) (length ms) (length-map ms framed) h,
      length-append ms (m ∷ []),
      map-append framed ms (m ∷ []),
    )

grown_from : (ms done : List Message) → length done + length ms ≤ 13 → sent_all (session_with done) ms ≡ session_with (done ++ ms)
grown_from [] done h = ap session_with (sym (append-nil done))
grown_from (m ∷ ms) done h =
    ap (λ (s : Session). sent_all s ms) (one_more done m (omega arith))
    ∙ grown_from ms (done ++ m ∷ []) (omega (arith, length-append done (m ∷ [])))
    ∙ ap session_with (append_snoc done m ms)

pub grown : (ms : List Message) → length ms ≤ 13 → sent_all without_frames ms ≡ session_with ms
unfolding session_with
grown ms h = grown_from ms [] (omega arith)

-- how many there are
pub length_bytes : (location : ℕ) (bytes : List ℕ) → length (byte_writes location bytes) ≡ length bytes
length_bytes location [] = refl
length_bytes location (b ∷ bs) = ap suc (length_bytes (location + 1) bs)

pub length_lock : (r : Record) (byte : ℕ) → length (lock_writes r byte) ≤ 1
unfolding lock_writes
length_lock r byte =
    if_by (λ (ms : List Message). length ms ≤ 1) (eqb r.lockable 0) (λ t. omega arith) (λ t. omega arith)

pub length_messages : (address : ℕ) (r : Record) (bytes : List ℕ)
    → length (messages_of address r bytes) ≡ 3 + length (lock_writes r 0x55) + length bytes + length (lock_writes r 0xFF)
unfolding messages_of
length_messages address r bytes =
    let a = opening address r.bank in
    let b = lock_writes r 0x55 in
    let c = byte_writes r.first bytes in
    omega (
      arith,
      length-append (a ++ b ++ c) (lock_writes r 0xFF),
      length-append (a ++ b) c,
      length-append a b,
      length_bytes r.first bytes,
    )

pub messages_most : (address : ℕ) (r : Record) (bytes : List ℕ) → length bytes ≤ 8 → length (messages_of address r bytes) ≤ 13
messages_most address r bytes h =
    omega (arith, length_messages address r bytes, length_lock r 0x55, length_lock r 0xFF)

-- the loop over the bytes: what is still to come
module _ (first : ℕ) (bytes : List ℕ) (all next : Session) (i : ℕ) where
  pub byte_sent : sent_all next (byte_writes (first + i) (drop i bytes)) ≡ all → i < length bytes
      → (frame : ℕ) → frame ≡ framed (direct_write (first + i) (get_or bytes i 0)) → (after : Session) → after ≡ sent next frame
      → sent_all after (byte_writes (first + (i + 1)) (drop (i + 1) bytes)) ≡ all
  byte_sent e h frame f after a =
      let one = sent next (framed (direct_write (first + i) (get_or bytes i 0))) in
      ap (λ (s : Session). sent_all s (byte_writes (first + (i + 1)) (drop (i + 1) bytes))) (a ∙ ap (sent next) f)
      ∙ ap (λ (k : ℕ). sent_all one (byte_writes k (drop (i + 1) bytes))) (sym (add_assoc first i 1))
      ∙ ap (λ (k : ℕ). sent_all one (byte_writes (first + i + 1) (drop k bytes))) (add-one i)
      ∙ ap (λ (l : List ℕ). sent_all next (byte_writes (first + i) l)) (sym (drop-cons bytes i 0 h)) ∙ e

  pub bytes_all : sent_all next (byte_writes (first + i) (drop i bytes)) ≡ all → length bytes ≤ i → next ≡ all
  bytes_all e h = ap (λ (l : List ℕ). sent_all next (byte_writes (first + i) l)) (sym (drop_of_length-le bytes {i = i} h)) ∙ e

-- a call that sends: how many frames there are then
pub more : (s : Session) (ms : List Message) (after : Session) → after ≡ sent_all s ms → after.count ≡ s.count + length ms
more s ms after e = ap (λ (x : Session). x.count) e ∙ sent_count ms s

pub fits : {k n : ℕ} → k ≤ 4 → n ≤ 8 → k + n ≤ 13
fits a b = omega arith

-- the four calls that make a session
module _ (address : ℕ) (r : Record) (bytes : List ℕ) (h : length bytes ≤ 8) where
  pub opened_count : (opened : Session) → opened ≡ sent_all without_frames (opening address r.bank) → opened.count ≡ 3
  opened_count opened o = more without_frames (opening address r.bank) opened o

  pub unlocked_count : (opened unlocked : Session) → opened ≡ sent_all without_frames (opening address r.bank)
      → unlocked ≡ sent_all opened (lock_writes r 0x55) → unlocked.count ≤ 4
  unlocked_count opened unlocked o u =
      omega (arith, opened_count opened o, more opened (lock_writes r 0x55) unlocked u, length_lock r 0x55)

  pub whole_count : (opened unlocked whole : Session) → opened ≡ sent_all without_frames (opening address r.bank)
      → unlocked ≡ sent_all opened (lock_writes r 0x55) → whole ≡ sent_all unlocked (byte_writes r.first bytes)
      → whole.count < 13
  whole_count opened unlocked whole o u w =
      omega (
        arith,
        unlocked_count opened unlocked o u,
        more unlocked (byte_writes r.first bytes) whole w,
        length_bytes r.first bytes,
      )

  pub all_sent : (opened unlocked whole locked : Session)
      → opened ≡ sent_all without_frames (opening address r.bank) → unlocked ≡ sent_all opened (lock_writes r 0x55)
      → whole ≡ sent_all unlocked (byte_writes r.first bytes) → locked ≡ sent_all whole (lock_writes r 0xFF)
      → locked ≡ session_with (messages_of address r bytes)
  unfolding messages_of
  all_sent opened unlocked whole locked o u w l =
      let a = opening address r.bank in
      let b = lock_writes r 0x55 in
      let c = byte_writes r.first bytes in
      let none = without_frames in
      l ∙ ap (λ (s : Session). sent_all s (lock_writes r 0xFF))
      (w ∙ ap (λ (s : Session). sent_all s c)
      (u ∙ ap (λ (s : Session). sent_all s b) o ∙ sym (sent_append none a b)) ∙ sym (sent_append none (a ++ b) c))
      ∙ sym (sent_append none (a ++ b ++ c) (lock_writes r 0xFF)) ∙ grown _ (messages_most address r bytes h)
