-- What a session hands back: its places, what its frames read as, and its word.
-- Assumes nothing.
use Prim.Native.Nat.{ℕ, suc, ◌+◌, ◌-◌, ◌≤◌, ◌<◌}
use mathlib.Core.Path.{◌≡◌, refl, ap, sym, subst, ◌∙◌}
use mathlib.Core.List.{List, [], ◌∷◌, ◌++◌, map as each}
use native.Mathlib.Omega.{arith}
use lib.Dec.{eqb}
use lib.ListN.{length, take, replicate, length-append, length-map, length-replicate}
use lib.Seq.{take_at, drop_at}
use Rattle.std.specs.Prelude.{Option, Some, Result, Ok}
use Rattle.laws.proofs.Bits.{bits_is}
use Rattle.laws.proofs.Tests.{if_by, if_eq}
use Rattle.refusals.specs.Numbers.{number_in}
use Rattle.refusals.specs.declared.refusal.Refusal.{Refusal}
use Rattle.frames.specs.Read.{read_of}
use Rattle.frames.specs.declared.message.Message.{Message}
use Rattle.records.specs.Facts.{FieldsHold}
use Rattle.records.specs.declared.record.Record.{Record}
use Rattle.records.proofs.Members.{member_fields}
use Rattle.session.specs.Session.{byte_writes, lock_writes, opening, messages_of, framed}
use Rattle.session.specs.Session.{without_frames, session_with, session_number, session_of, handed, session_word}
use Rattle.session.specs.Running.{AreBytes}
use Rattle.session.specs.Promises.{Places, SessionPlaces, SessionReads, SessionShows, SessionAlone}
use Rattle.session.specs.Promises.{SessionWordSettled}
use Rattle.session.specs.declared.answer.Session.{Session}
use Rattle.session.proofs.Growing.{messages_most}
use Rattle.session.proofs.Meant.{Framed, set_bank_framed, enable_framed, direct_framed}
use Rattle.session.proofs.Numbered.{Stood, stands, begins_in, number_is, session_refused, session_is, fit_count}

-- ---- the places

with_places : (ms : List Message) → length ms ≤ 13 → Places (session_with ms)
unfolding session_with
with_places ms h =
    let unused : List ℕ = replicate (13 - length ms) 0 in
    record {
      as_many =
          length-append (each framed ms) unused
          ∙ omega (arith, length-map ms framed, length-replicate {A = ℕ} (13 - length ms) 0);
      most = h;
      unused = drop_at (each framed ms) unused (length ms) (length-map ms framed);
    }

refused_places : Places without_frames
refused_places = record { as_many = refl; most = omega arith; unused = refl }

-- number 0: as many frames as the value has messages
module _ (map : List ℕ) (address bank location : ℕ) (bytes : List ℕ)
    (e : session_number map address bank location (length bytes) ≡ 0) where
  stood : Stood map address bank location (length bytes)
  stood = stands map address bank location (length bytes) e

  fields : FieldsHold stood.r
  fields =
      member_fields map stood.in_order stood.r (begins_in map bank location stood.r stood.begins).0

  few : length (messages_of address stood.r bytes) ≤ 13
  few =
      let fit = fit_count address stood.r (length bytes) stood.fit in
      messages_most address stood.r bytes (omega (arith, fields.most_width, fit.0))

  written_places : Places (handed (session_of map address bank location bytes))
  written_places =
      subst (λ (r : Result Session Refusal). Places (handed r)) (sym (session_is map address bank location bytes stood))
      (with_places _ few)

pub session_places : SessionPlaces
session_places map address bank location bytes =
    if_eq {A = ℕ} (λ _. Places (handed (session_of map address bank location bytes)))
    (session_number map address bank location (length bytes)) 0 {x = 0} {y = 0}
    (λ e. written_places map address bank location bytes e)
    (λ n.
    subst (λ (r : Result Session Refusal). Places (handed r)) (sym (session_refused map address bank location bytes _ n refl))
    refused_places)

-- ---- what the frames read as

-- each message is written, and its frame reads back the same
abbrev AllFramed : List Message → Type 0
AllFramed [] = Unit {0}
AllFramed (m ∷ ms) = Framed m × AllFramed ms

both_framed : (a b : List Message) → AllFramed a → AllFramed b → AllFramed (a ++ b)
both_framed [] b p q = q
both_framed (m ∷ a) b p q = (p.0, both_framed a b p.1 q)

read_back : (ms : List Message) → AllFramed ms → each read_of (each framed ms) ≡ each Ok ms
read_back [] f = refl
read_back (m ∷ ms) f =
    ap (λ (r : Result Message Refusal). r ∷ each read_of (each framed ms)) f.0.reads
    ∙ ap (λ (l : List (Result Message Refusal)). Ok m ∷ l) (read_back ms f.1)

lock_framed : (r : Record) (byte : ℕ) → byte < 256 → AllFramed (lock_writes r byte)
unfolding lock_writes
lock_framed r byte h =
    if_by AllFramed (eqb r.lockable 0) (λ t. tt) (λ t. (direct_framed 0x02 byte (omega arith) h, tt))

bytes_framed : (location : ℕ) (bytes : List ℕ) → AreBytes bytes → location + length bytes ≤ 256
    → AllFramed (byte_writes location bytes)
bytes_framed location [] small h = tt
bytes_framed location (b ∷ bs) small h = (
  direct_framed location b (omega arith) (small 0),
  bytes_framed (location + 1) bs (λ i. small (suc i)) (omega arith),
)

-- every message of a session is in range
messages_framed : (address : ℕ) (r : Record) (bytes : List ℕ) → address ≤ 63 → FieldsHold r → AreBytes bytes
    → r.width ≡ length bytes → AllFramed (messages_of address r bytes)
unfolding messages_of
messages_framed address r bytes short f small w =
    let a = opening address r.bank in
    let b = lock_writes r 0x55 in
    let c = byte_writes r.first bytes in
    let enable = enable_framed address short in
    let opened : AllFramed a = (set_bank_framed r.bank (omega (arith, f.low_bank)), (enable, (enable, tt))) in
    both_framed (a ++ b ++ c) (lock_writes r 0xFF)
    (both_framed (a ++ b) c (both_framed a b opened (lock_framed r 0x55 (omega arith)))
    (bytes_framed r.first bytes small (omega (arith, f.last))))
    (lock_framed r 0xFF (omega arith))

begins_one : {v : Option Record} {x y : Record} → v ≡ Some x → v ≡ Some y → x ≡ y
begins_one p q = cc

pub session_reads : SessionReads
unfolding session_with
session_reads map address bank location bytes r small e b =
    let k = stood map address bank location bytes e in
    let same : r ≡ k.r = begins_one b k.begins in
    let ms = messages_of address r bytes in
    let fit = fit_count address k.r (length bytes) k.fit in
    let f = member_fields map k.in_order r (begins_in map bank location r b).0 in
    let is : session_of map address bank location bytes ≡ Ok (session_with ms) =
    session_is map address bank location bytes k ∙ ap (λ (x : Record). Ok (session_with (messages_of address x bytes))) (sym same) in
    ap (λ (s : Result Session Refusal). each read_of (take (handed s).count (handed s).frames)) is
    ∙ ap (each read_of) (take_at (each framed ms) (replicate (13 - length ms) 0) (length ms) (length-map ms framed))
    ∙ read_back ms
    (messages_framed address r bytes fit.1 f small (ap (λ (x : Record). x.width) same ∙ sym fit.0))

-- ---- as one number

pub session_shows : SessionShows
unfolding session_word
session_shows map address bank location bytes e =
    let s = session_of map address bank location bytes in
    let most = (session_places map address bank location bytes).most in
    let none : number_in s ≡ 0 = number_is map address bank location bytes ∙ e in
    record {
      number = bits_is _ 7 0 (handed s).count (number_in s) 0 (omega arith) (omega arith) (omega arith);
      count = bits_is _ 31 8 0 (handed s).count (number_in s) (omega arith) (omega arith) (omega arith);
    }

pub session_alone : SessionAlone
unfolding session_word
session_alone map address bank location bytes h =
    let n = session_number map address bank location (length bytes) in
    let none = ap (λ (r : Result Session Refusal). (handed r).count)
    (session_refused map address bank location bytes n (λ z. absurd (omega arith)) refl) in
    omega (arith, none, number_is map address bank location bytes)

pub session_word_settled : SessionWordSettled
session_word_settled map address bank location bytes r s frames other p q =
    (p.answers ∙ sym q.answers, p.writes ∙ sym q.writes)
