-- The numbers of the files: exactly if, in their order; one byte more than a limit is enough to see a longer file.
-- Assumes nothing.
use Prim.Native.Nat.{ℕ, suc, ◌%◌, ◌<◌}
use mathlib.Core.Path.{◌≡◌, refl, ap, sym, ◌∙◌}
use mathlib.Core.Logic.{◌⊎◌, inl, inr, ⊎_elim}
use mathlib.Core.Bool.{Bool, true, false, ◌&&◌}
use mathlib.Core.List.{List, [], ◌∷◌, ◌++◌}
use native.Mathlib.Nat.{eq-zero-or-pos}
use native.Mathlib.Omega.{arith}
use borrow.Author.Tests.{eq-eqb, ne_eqb, lt-leb, ltb-true, ltb-false, eqb-true}
use lib.Dec.{leb, ltb, eqb}
use lib.ListN.{length, take}
use lib.Seq.{take_all, length-take-le}
use Rattle.std.specs.Prelude.{if◌then◌else◌}
use Rattle.laws.specs.Lists.{every}
use Rattle.laws.specs.Numbers.{test, first_failing}
use Rattle.laws.proofs.Joined.{joined_none, joined_some}
use Rattle.laws.proofs.Numbers.{exactly_if, none_exactly_if}
use Rattle.laws.proofs.Settled.{settles}
use Rattle.records.specs.Map.{records_of}
use Rattle.records.specs.Order.{size_holds, fields_hold, rising}
use Rattle.banks.specs.Rules.{lengths_hold, places_hold, check_tests, check_number}
use Rattle.hearing.specs.declared.heard.Who.{Who}
use Rattle.rooms.specs.Rules.{address_holds}
use Rattle.numbers.specs.Numbers.{start_number}
use Rattle.tracing.specs.Trace.{who_of, adr_tests, file_tests, file_number, trace_of}
use Rattle.tracing.specs.Promises.{FilesNumbered, FilesSettled, OneByteMore}

pub files_settled : FilesSettled
files_settled map store image adr = settles (file_number map store (length image) adr)

pub files_numbered : FilesNumbered
unfolding file_number check_number start_number first_failing
files_numbered map store size adr =
    record {
      exactly =
          record {
            exactly_if = exactly_if (file_tests map store size adr);
            none_exactly_if = none_exactly_if (file_tests map store size adr) refl;
          };
      first = λ h. joined_some (check_tests map store size) (adr_tests adr) (check_number map store size) h refl;
      last = λ z. joined_none (check_tests map store size) (adr_tests adr) refl z;
      start = λ e.
          ap
          (λ (b : Bool).
          first_failing (check_tests map store size ++ test 6 (b && address_holds (who_of adr).address) ∷ []))
          (eq-eqb (length adr) 5 e);
    }

-- the code's checks, one after the other
module _ (map store : List ℕ) (size : ℕ) (adr : List ℕ) (n : ℕ) (e : n ≡ check_number map store size) where
  pub checks_refuse : (n ≡ 0 → ⊥) → n ≡ file_number map store size adr
  checks_refuse h = e ∙ sym ((files_numbered map store size adr).first (omega arith))

  pub adr_decides : n ≡ 0 → (who : Who) → who ≡ who_of adr → (holds : Bool) → holds ≡ address_holds who.address
      → (passes : Bool) → (eqb (length adr) 5 && holds) ≡ passes
      → (if passes then 0 else 6) ≡ file_number map store size adr
  adr_decides z who w holds h passes p =
      let same : passes ≡ (eqb (length adr) 5 && address_holds (who_of adr).address) = sym p ∙ rw (h, w) in
      rw same (sym ((files_numbered map store size adr).last (sym e ∙ z)))

-- a refused start writes its 4 bytes only
trace_refused : (map store image adr input : List ℕ) (n : ℕ) → 0 < n → file_number map store (length image) adr ≡ n
    → trace_of map store image adr input ≡ n ∷ 0 ∷ 0 ∷ 0 ∷ []
unfolding trace_of
trace_refused map store image adr input n h e = rw (e, ne_eqb n 0 (λ z. omega arith))

-- a file is whole in a buffer of one byte more than its limit, or seen to be longer
whole_or_longer : (limit : ℕ) (file : List ℕ)
    → (take (suc limit) file ≡ file) ⊎ ((limit < length file) × (length (take (suc limit) file) ≡ suc limit))
whole_or_longer limit file = go (ltb limit (length file)) refl
  where
    go : (b : Bool) → ltb limit (length file) ≡ b
        → (take (suc limit) file ≡ file) ⊎ ((limit < length file) × (length (take (suc limit) file) ≡ suc limit))
    go true e = inr (ltb-true limit (length file) e, length-take-le (suc limit) file (ltb-true limit (length file) e))
    go false e = inl (take_all (suc limit) file (omega (arith, ltb-false limit (length file) e)))

and_no : (a b : Bool) → b ≡ false → (a && b) ≡ false
and_no true b e = e
and_no false b e = refl

-- 7
long_map : (map store : List ℕ) (size : ℕ) (adr : List ℕ) → 512 < length map → file_number map store size adr ≡ 7
unfolding file_number first_failing size_holds
long_map map store size adr h = rw (and_no (eqb (length map % 8) 0) _ (lt-leb (length map) 512 h))

-- 10, unless 7, 8 or 9 comes first
abbrev tenth : Bool → Bool → Bool → ℕ
tenth sized fields rise = if sized then (if fields then (if rise then 10 else 9) else 8) else 7

tenth_some : (sized fields rise : Bool) → 0 < tenth sized fields rise
tenth_some true true true = omega arith
tenth_some true true false = omega arith
tenth_some true false rise = omega arith
tenth_some false fields rise = omega arith

abbrev map_tenth : List ℕ → ℕ
map_tenth map = tenth (size_holds (length map)) (every fields_hold (records_of map)) (rising (records_of map))

lengths_no : (stored size : ℕ) → (4096 < stored) ⊎ (4096 < size) → lengths_hold stored size ≡ false
unfolding lengths_hold
lengths_no stored size h = go (eqb stored size) refl h
  where
    go : (b : Bool) → eqb stored size ≡ b → (4096 < stored) ⊎ (4096 < size) → (b && leb stored 4096) ≡ false
    go false e k = refl
    go true e (inl k) = lt-leb stored 4096 k
    go true e (inr k) = lt-leb stored 4096 (omega (arith, eqb-true stored size e))

long_store : (map store : List ℕ) (size : ℕ) (adr : List ℕ) → (4096 < length store) ⊎ (4096 < size)
    → file_number map store size adr ≡ map_tenth map
unfolding file_number first_failing places_hold
long_store map store size adr h = rw (lengths_no (length store) size h)

-- 6, unless 7 to 11 come first
abbrev sixth : ℕ → ℕ
sixth n = if eqb n 0 then 6 else n

long_adr : (map store image adr input : List ℕ) → 5 < length adr
    → trace_of map store image adr input ≡ sixth (check_number map store (length image)) ∷ 0 ∷ 0 ∷ 0 ∷ []
long_adr map store image adr input h =
    let files = files_numbered map store (length image) adr in
    let n = check_number map store (length image) in
    let no = ne_eqb (length adr) 5 (λ z. omega arith) in
    ⊎_elim
    (λ z. trace_refused map store image adr input 6 (omega arith) (files.last z ∙ rw no) ∙ rw z)
    (λ k. trace_refused map store image adr input n k (files.first k) ∙ rw (ne_eqb n 0 (λ z. omega arith)))
    (eq-zero-or-pos n)

-- both traces end in the same refusal
both_refused : (map store image adr : List ℕ) (map' store' image' adr' input : List ℕ) (n : ℕ) → 0 < n
    → file_number map' store' (length image') adr' ≡ n → file_number map store (length image) adr ≡ n
    → trace_of map' store' image' adr' input ≡ trace_of map store image adr input
both_refused map store image adr map' store' image' adr' input n h p q =
    trace_refused map' store' image' adr' input n h p ∙ sym (trace_refused map store image adr input n h q)

module _ (map store image adr input : List ℕ) where
  cut_adr : trace_of map store image (take 6 adr) input ≡ trace_of map store image adr input
  cut_adr =
      ⊎_elim
      (λ e. rw e)
      (λ k. long_adr map store image (take 6 adr) input (omega arith) ∙ sym (long_adr map store image adr input k.0))
      (whole_or_longer 5 adr)

  both_long : (4096 < length (take 4097 store)) ⊎ (4096 < length (take 4097 image))
      → (4096 < length store) ⊎ (4096 < length image)
      → trace_of map (take 4097 store) (take 4097 image) (take 6 adr) input ≡ trace_of map store image adr input
  both_long h k =
      both_refused map store image adr map (take 4097 store) (take 4097 image) (take 6 adr) input (map_tenth map)
      (tenth_some (size_holds (length map)) (every fields_hold (records_of map)) (rising (records_of map)))
      (long_store map _ _ _ h) (long_store map _ _ _ k)

  cut_stored : trace_of map (take 4097 store) (take 4097 image) (take 6 adr) input ≡ trace_of map store image adr input
  cut_stored =
      ⊎_elim
      (λ e.
      ⊎_elim (λ f. rw e (rw f cut_adr)) (λ k. both_long (inr (omega arith)) (inr k.0)) (whole_or_longer 4096 image))
      (λ k. both_long (inl (omega arith)) (inl k.0))
      (whole_or_longer 4096 store)

pub one_byte_more : OneByteMore
one_byte_more map store image adr input =
    ⊎_elim
    (λ e. rw e (cut_stored map store image adr input))
    (λ k.
    both_refused map store image adr (take 513 map) (take 4097 store) (take 4097 image) (take 6 adr) input 7
    (omega arith)
    (long_map (take 513 map) _ _ _ (omega arith)) (long_map map _ _ _ k.0))
    (whole_or_longer 512 map)
