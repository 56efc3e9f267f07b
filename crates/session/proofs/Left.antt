-- The store that a session leaves: a lock byte that is put over, and what is not touched.
-- Assumes nothing.
use Prim.Native.Nat.{ℕ, suc, ◌+◌, ◌≤◌, ◌<◌}
use mathlib.Core.Path.{◌≡◌, refl, ap, sym, subst, ◌∙◌}
use mathlib.Core.Logic.{◌⊎◌, inl, inr, ⊎_elim}
use mathlib.Core.Bool.{true}
use mathlib.Core.List.{List, [], ◌∷◌}
use native.Mathlib.Omega.{arith}
use borrow.Author.Tests.{eq-eqb, ne_eqb}
use lib.ListN.{length, get_or, set}
use lib.Seq.{sets, set-set, set_comm}
use Rattle.std.specs.Prelude.{Ok}
use Rattle.laws.specs.Parts.{put}
use Rattle.laws.proofs.PartBytes.{byte_stays}
use Rattle.laws.proofs.Tests.{if_lt, if_eq}
use Rattle.records.specs.Map.{records_of, places_end}
use Rattle.records.specs.Lookup.{holder}
use Rattle.records.specs.Facts.{Member}
use Rattle.records.specs.declared.record.Record.{Record}
use Rattle.banks.specs.Rules.{placed}
use Rattle.banks.specs.Values.{put_value}
use Rattle.banks.specs.Facts.{LockRecord}
use Rattle.banks.proofs.Places.{members_apart}
use Rattle.banks.proofs.Values.{value_put}
use Rattle.banks.proofs.ForHistory.{lock_value}
use Rattle.session.specs.Running.{put_lock, store_left, StoreLeft}

-- bytes and one byte apart from them, put in either order
put_apart : (bs s : List ℕ) (i j x : ℕ) → (j < i) ⊎ (i + length bs ≤ j) → put i bs (set s j x) ≡ set (put i bs s) j x
unfolding put
put_apart [] s i j x apart = refl
put_apart (b ∷ bs) s i j x apart =
    ap (λ (l : List ℕ). sets l (suc i) bs)
    (set_comm s j i x b (λ e. ⊎_elim (λ h. absurd (omega arith)) (λ h. absurd (omega arith)) apart))
    ∙ put_apart bs (set s i b) (suc i) j x (⊎_elim (λ h. inl (omega arith)) (λ h. inr (omega arith)) apart)

module _ (map store bytes : List ℕ) (r : Record) (place : placed map (length store) ≡ true) (member : Member r map)
    (w : length bytes ≡ r.width) where
  -- not lockable
  pub plain_left : r.lockable ≡ 0 → store_left (records_of map) r bytes store ≡ put_value r bytes store
  unfolding store_left
  plain_left z = rw (eq-eqb r.lockable 0 z)

  plain_others : (j : ℕ) → (j < r.offset) ⊎ (places_end r ≤ j) → get_or (put_value r bytes store) j 0 ≡ get_or store j 0
  unfolding put_value
  plain_others j h =
      byte_stays r.offset j bytes store (⊎_elim (λ k. inl k) (λ k. inr (omega arith)) h)

  pub plain_bytes : r.lockable ≡ 0 → StoreLeft map store r bytes (put_value r bytes store)
  plain_bytes z =
      let p = value_put map store bytes r place member w in
      record {
        value = p.there;
        lock = λ e. absurd (omega arith);
        others = λ j h k. plain_others j h;
        as_long = p.as_long;
      }

  -- lockable: its bank has a lock byte, which is another value
  module _ (l : Record) (z : r.lockable ≡ 1) (L : LockRecord map r.bank l)
      (at : holder (records_of map) r.bank 0x02 ≡ Ok l) where
    unlike : r ≡ l → ⊥
    unlike e = absurd (omega (arith, ap (λ (x : Record). x.lockable) e, L.no_lock))

    apart : (l.offset < r.offset) ⊎ (places_end r ≤ l.offset)
    apart =
        let one = L.its_width in
        ⊎_elim
        (λ e. absurd (unlike e))
        (λ h. ⊎_elim (λ k. inr k) (λ k. inl (omega arith)) h)
        (members_apart map (length store) place r l member L.member)

    -- what stood in the lock byte meanwhile does not show
    pub wrapped_left : (meanwhile : ℕ)
        → put_value l (0xFF ∷ []) (put_value r bytes (put_value l (meanwhile ∷ []) store)) ≡ store_left (records_of map) r bytes store
    unfolding store_left put_lock put_value put
    wrapped_left meanwhile =
        ap (λ (s : List ℕ). set s l.offset 0xFF)
        (put_apart bytes store r.offset l.offset meanwhile (⊎_elim (λ h. inl h) (λ h. inr (omega arith)) apart))
        ∙ set-set (put r.offset bytes store) l.offset meanwhile 0xFF
        ∙ rw (ne_eqb r.lockable 0 (λ e. absurd (omega arith)), at)

    locked_left : put_value l (0xFF ∷ []) (put_value r bytes store) ≡ store_left (records_of map) r bytes store
    unfolding store_left put_lock
    locked_left = rw (ne_eqb r.lockable 0 (λ e. absurd (omega arith)), at)

    -- every byte that is not the lock byte stays when that is put
    lock_others : (s : List ℕ) (j : ℕ) → (j ≡ l.offset → ⊥) → get_or (put_value l (0xFF ∷ []) s) j 0 ≡ get_or s j 0
    unfolding put_value
    lock_others s j n =
        byte_stays l.offset j (0xFF ∷ []) s
        (if_lt {A = ℕ} (λ _. (j < l.offset) ⊎ (l.offset + 1 ≤ j)) j l.offset {x = 0} {y = 0}
        (λ h. inl h)
        (λ h. inr (above h n)))
      where
        above : l.offset ≤ j → (j ≡ l.offset → ⊥) → l.offset + 1 ≤ j
        above h n =
            if_eq {A = ℕ} (λ _. l.offset + 1 ≤ j) j l.offset {x = 0} {y = 0} (λ e. absurd (n e)) (λ m. omega arith)

    pub wrapped_bytes : StoreLeft map store r bytes (store_left (records_of map) r bytes store)
    wrapped_bytes =
        let p = value_put map store bytes r place member w in
        let placed-still : placed map (length (put_value r bytes store)) ≡ true = rw p.as_long place in
        let q = value_put map (put_value r bytes store) (0xFF ∷ []) l placed-still L.member (sym L.its_width) in
        let placed-again : placed map (length (put_value l (0xFF ∷ []) (put_value r bytes store))) ≡ true =
        rw q.as_long placed-still in
        let after = put_value l (0xFF ∷ []) (put_value r bytes store) in
        subst (StoreLeft map store r bytes) locked_left
        (record {
          value = q.others r member unlike ∙ p.there;
          lock = λ e.
              ap (λ (v : List ℕ). get_or v 0 0) (sym (lock_value map after placed-again r.bank l L) ∙ q.there);
          others = λ j h k. lock_others (put_value r bytes store) j (k z l at) ∙ plain_others j h;
          as_long = q.as_long ∙ p.as_long;
        })
