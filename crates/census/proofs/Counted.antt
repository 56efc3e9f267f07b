-- A count of records: one record more, no further one, one list behind another.
-- Assumes nothing.
use Rattle.std.proofs.Common.{◌≡◌, ℕ, List, [], ◌∷◌, ◌++◌, sym, refl, ap, ◌∙◌, arith, eq-eqb, ne_eqb}
use Rattle.laws.proofs.Tests.{if_eq}
use Rattle.entries.specs.declared.entry.Entry.{Entry}
use Rattle.census.specs.Census.{counted, ended, counted_all, end_number}
use Rattle.census.specs.declared.counts.Census.{Census}

pub counted_none : (c : Census) → counted_all c [] ≡ c
unfolding counted_all
counted_none c = refl

pub counted_more : (c : Census) (e : Entry) (es : List Entry) → end_number c ≡ 0
    → counted_all c (e ∷ es) ≡ counted_all (counted c e) es
unfolding counted_all
counted_more c e es z = search (eq-eqb (end_number c) 0 z)

-- where a number has ended the count, nothing more is counted
pub counted_ended : (c : Census) (es : List Entry) → (end_number c ≡ 0 → ⊥) → counted_all c es ≡ c
unfolding counted_all
counted_ended c [] n = refl
counted_ended c (e ∷ es) n = search (ne_eqb (end_number c) 0 n)

-- a record of unknown kind, or an unfinished one, ends it
pub counted_broken : (c : Census) (es : List Entry) → end_number c ≡ 0 → counted_all c (Entry.Broken ∷ es) ≡ ended c
counted_broken c es z =
    let ends : counted c Entry.Broken ≡ ended c = refl in
    counted_more c Entry.Broken es z ∙ ap (λ (d : Census). counted_all d es) ends
    ∙ counted_ended (ended c) es (λ e. omega arith)

-- by whether a number has ended the count
pub by_number : {G : Type 0} (c : Census) → (end_number c ≡ 0 → G) → ((end_number c ≡ 0 → ⊥) → G) → G
by_number {G} c f g = if_eq {A = ℕ} (λ _. G) (end_number c) 0 {x = 0} {y = 0} f g

pub counted_joined : (c : Census) (a b : List Entry) → counted_all c (a ++ b) ≡ counted_all (counted_all c a) b
counted_joined c [] b = ap (λ (d : Census). counted_all d b) (sym (counted_none c))
counted_joined c (e ∷ a) b =
    let rest = counted_joined (counted c e) a b in
    by_number c (λ z. rw (counted_more c e (a ++ b) z, counted_more c e a z) rest)
    (λ n. rw (counted_ended c (e ∷ (a ++ b)) n, counted_ended c (e ∷ a) n) (sym (counted_ended c b n)))
