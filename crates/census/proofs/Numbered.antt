-- The number of a census: 13 exactly if a record is unfinished or of unknown kind.
-- Assumes nothing.
use Rattle.std.proofs.Common.{◌≡◌, ℕ, ◌+◌, ◌/◌, ◌%◌, ◌<◌, ◌≤◌, Bool, true, ◌||◌, ltb, ◌⊎◌, List, length, sym, refl, ap, ◌∙◌, inl, inr, ⊎_elim, zero-add, arith, ltb-true, le-ltb, lt-ltb}
use Rattle.std.specs.Prelude.{if◌then◌else◌}
use Rattle.std.proofs.lemmas.List.Folds.{list_any-append}
use Rattle.laws.specs.Lists.{some}
use Rattle.laws.proofs.Members.{some_of, items_member}
use Rattle.laws.proofs.Sides.{either, or_left, or_right, chosen}
use Rattle.laws.proofs.Tests.{if_lt, if_eq}
use Rattle.entries.specs.Entry.{entry_of, entry_at, whole_entries, is_broken}
use Rattle.entries.specs.declared.entry.Entry.{Entry}
use Rattle.census.specs.Census.{nothing, unfinished, entries_of, census_of, end_number}
use Rattle.census.specs.Facts.{kind_at, Unknown, NumberIs}
use Rattle.census.proofs.Listed.{some_numbered}
use Rattle.census.proofs.Adds.{adds}

-- a record of unknown kind is one whose kind is over 1
broken_kind : (kind clock frame : ℕ) → is_broken (entry_of kind clock frame) ≡ ltb 1 kind
unfolding entry_of
broken_kind kind clock frame =
    if_eq P kind _ (λ e. sym (le-ltb 1 kind (omega arith)))
    (λ m. if_eq P kind _ (λ e. sym (le-ltb 1 kind (omega arith))) (λ n. sym (lt-ltb 1 kind (omega arith))))
  where
    P : Entry → Type 0
    P e = is_broken e ≡ ltb 1 kind

pub broken_at : (bytes : List ℕ) (i : ℕ) → is_broken (entry_at bytes i) ≡ ltb 1 (kind_at bytes i)
unfolding entry_at
broken_at bytes i = broken_kind (kind_at bytes i) _ _

unfinished_broken : (long : ℕ) → some is_broken (unfinished long) ≡ ltb 0 (long % 8)
unfolding unfinished
unfinished_broken long =
    if_eq (λ es. some is_broken es ≡ ltb 0 (long % 8)) (long % _) _ (λ e. sym (le-ltb 0 (long % 8) (omega arith)))
    (λ n. sym (lt-ltb 0 (long % 8) (omega arith)))

module _ (capture : List ℕ) where
  pub some_broken : some is_broken (entries_of capture)
      ≡ (some is_broken (whole_entries capture) || ltb 0 (length capture % 8))
  unfolding entries_of
  some_broken =
      list_any-append is_broken (whole_entries capture) (unfinished (length capture))
      ∙ ap (λ (t : Bool). some is_broken (whole_entries capture) || t) (unfinished_broken (length capture))

  number_by : end_number (census_of capture) ≡ (if some is_broken (entries_of capture) then 13 else 0)
  unfolding census_of
  number_by = (adds nothing (entries_of capture) refl).number

  pub number_either : (end_number (census_of capture) ≡ 0) ⊎ (end_number (census_of capture) ≡ 13)
  number_either =
      ⊎_elim (λ p. inr (sym p.1)) (λ p. inl (sym p.1))
      (chosen (some is_broken (entries_of capture)) (sym number_by))

  unknown : some is_broken (whole_entries capture) ≡ true → Unknown capture
  unknown t =
      let x = some_numbered is_broken (entry_at capture) 0 (length capture / 8) t in
      record {
        place = 0 + x.0;
        there = omega (arith, x.1);
        kind = ltb-true 1 _ (sym (broken_at capture (0 + x.0)) ∙ x.2);
      }

  some_unknown : Unknown capture → some is_broken (whole_entries capture) ≡ true
  some_unknown u =
      some_of is_broken (whole_entries capture) (entry_at capture (0 + u.place))
      (items_member (entry_at capture) 0 (length capture / 8) u.place u.there)
      (ap (λ (i : ℕ). is_broken (entry_at capture i)) (zero-add u.place)
      ∙ broken_at capture u.place ∙ lt-ltb 1 (kind_at capture u.place) u.kind)

  thirteen_from : end_number (census_of capture) ≡ 13 → (0 < length capture % 8) ⊎ Unknown capture
  thirteen_from e =
      ⊎_elim
      (λ p.
      ⊎_elim (λ t. inr (unknown t)) (λ t. inl (ltb-true 0 (length capture % 8) t))
      (either (some is_broken (whole_entries capture)) (ltb 0 (length capture % 8)) (sym some_broken ∙ p.0)))
      (λ p. absurd (omega (arith, p.1)))
      (chosen (some is_broken (entries_of capture)) (sym number_by ∙ e))

  thirteen_of : (0 < length capture % 8) ⊎ Unknown capture → end_number (census_of capture) ≡ 13
  thirteen_of u = number_by ∙ rw (some_broken ∙ ⊎_elim
      (λ h. or_right (some is_broken (whole_entries capture)) _ (lt-ltb 0 (length capture % 8) h))
      (λ k. or_left _ (ltb 0 (length capture % 8)) (some_unknown k)) u)

  none_from : end_number (census_of capture) ≡ 0
      → (length capture % 8 ≡ 0) × ((i : ℕ) → i < length capture / 8 → kind_at capture i ≤ 1)
  none_from z = (
    if_lt {A = ℕ} (λ _. length capture % 8 ≡ 0) 0 (length capture % 8) {x = 0} {y = 0}
        (λ h. absurd (omega (arith, thirteen_of (inl h)))) (λ h. omega arith),
    λ i h.
        if_lt {A = ℕ} (λ _. kind_at capture i ≤ 1) 1 (kind_at capture i) {x = 0} {y = 0}
        (λ k. absurd (omega (arith, thirteen_of (inr (record { place = i; there = h; kind = k })))))
        (λ k. k),
  )

  none_of : (length capture % 8 ≡ 0) × ((i : ℕ) → i < length capture / 8 → kind_at capture i ≤ 1)
      → end_number (census_of capture) ≡ 0
  none_of p =
      ⊎_elim (λ z. z)
      (λ e.
      ⊎_elim (λ h. absurd (omega (arith, p.0))) (λ u. absurd (omega (arith, p.1 u.place u.there, u.kind)))
      (thirteen_from e))
      number_either

pub number_is : NumberIs
number_is capture =
    record {
      thirteen = (thirteen_from capture, thirteen_of capture);
      none = (none_from capture, none_of capture);
    }
