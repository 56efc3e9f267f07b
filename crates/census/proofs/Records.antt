-- The records of a capture: behind whole records, behind one record, of fewer than 8 bytes, of none.
-- Assumes nothing.
use Rattle.std.proofs.Common.{◌≡◌, ℕ, ◌+◌, ◌/◌, ◌%◌, ◌<◌, ◌≤◌, List, [], ◌∷◌, ◌++◌, length, take, drop, sym, refl, ap, ◌∙◌, append_assoc, append-nil, arith, length-append, take-append-drop, length-take-le}
use mathlib.Core.List.{head-eq_of_cons-eq}
use Rattle.laws.proofs.Tests.{if_lt, if_eq}
use Rattle.entries.specs.Entry.{entry_at, entries, whole_entries}
use Rattle.entries.specs.declared.entry.Entry.{Entry}
use Rattle.entries.proofs.Joined.{records_joined, whole_joined}
use Rattle.census.specs.Census.{unfinished, entries_of}

-- behind whole records nothing, and else an unfinished one
rest_none : (long : ℕ) → long % 8 ≡ 0 → unfinished long ≡ []
unfolding unfinished
rest_none long e = if_eq (λ es. es ≡ []) (long % _) _ (λ z. refl) (λ n. absurd (n (omega arith)))

rest_some : (long : ℕ) → 0 < long % 8 → unfinished long ≡ Entry.Broken ∷ []
unfolding unfinished
rest_some long h = if_eq (λ es. es ≡ Entry.Broken ∷ []) (long % _) _ (λ z. absurd (omega arith)) (λ n. refl)

rest_same : (m n : ℕ) → m % 8 ≡ 0 → unfinished (m + n) ≡ unfinished n
rest_same m n e =
    if_lt {A = ℕ} (λ _. unfinished (m + n) ≡ unfinished n) 0 (n % 8) {x = 0} {y = 0}
    (λ h. rest_some (m + n) (omega arith) ∙ sym (rest_some n h))
    (λ h. rest_none (m + n) (omega arith) ∙ sym (rest_none n (omega arith)))

-- the whole records of a slice, and then the records of what follows it
pub entries_joined : (a b : List ℕ) → length a % 8 ≡ 0 → entries_of (a ++ b) ≡ whole_entries a ++ entries_of b
unfolding entries_of
entries_joined a b e =
    ap (λ (es : List Entry). es ++ unfinished (length (a ++ b))) (whole_joined a b e)
    ∙ ap (λ (es : List Entry). (whole_entries a ++ whole_entries b) ++ es)
    (ap unfinished (length-append a b) ∙ rest_same (length a) (length b) e)
    ∙ append_assoc (whole_entries a) (whole_entries b) (unfinished (length b))

-- of whole records only
pub whole_are : (a : List ℕ) → length a % 8 ≡ 0 → entries_of a ≡ whole_entries a
unfolding entries_of
whole_are a e =
    ap (λ (es : List Entry). whole_entries a ++ es) (rest_none (length a) e) ∙ append-nil (whole_entries a)

-- one record, and then the records of what follows it
pub one_then : (a b : List ℕ) → length a ≡ 8 → entries_of (a ++ b) ≡ entry_at (a ++ b) 0 ∷ entries_of b
one_then a b long =
    let first : entry_at (a ++ b) 0 ≡ entry_at a 0 = head-eq_of_cons-eq (records_joined a b 1 0 (omega arith)) in
    let one : length a / 8 ≡ 1 = omega arith in
    entries_joined a b (omega arith) ∙ rw (one, first)

pub first_then : (bytes : List ℕ) → 8 ≤ length bytes → entries_of bytes ≡ entry_at bytes 0 ∷ entries_of (drop 8 bytes)
first_then bytes h =
    let all = take-append-drop 8 bytes in
    rw all at (one_then (take 8 bytes) (drop 8 bytes) (length-take-le 8 bytes h))

-- fewer than 8 bytes are one record, which is unfinished
pub few_are : (bytes : List ℕ) → 0 < length bytes → length bytes < 8 → entries_of bytes ≡ Entry.Broken ∷ []
unfolding entries_of
few_are bytes h k =
    let none : length bytes / 8 ≡ 0 = omega arith in
    ap (λ (n : ℕ). entries bytes n ++ unfinished (length bytes)) none ∙ rest_some (length bytes) (omega arith)

pub none_are : (bytes : List ℕ) → bytes ≡ [] → entries_of bytes ≡ []
unfolding entries_of unfinished
none_are bytes e = rw e
