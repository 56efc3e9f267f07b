-- Each answer of a look-up is given exactly if what it says is so.
-- Assumes nothing.
use Prim.Native.Nat.{ℕ, ◌≤◌, ◌<◌}
use mathlib.Core.Path.{◌≡◌, refl, ap, sym, subst, ◌∙◌}
use mathlib.Core.Bool.{true, false, false≢true}
use mathlib.Core.List.{List}
use native.Mathlib.Omega.{arith}
use Rattle.laws.proofs.Tests.{clash}
use Rattle.laws.proofs.Sides.{same_test}
use Rattle.records.specs.Map.{records_of}
use Rattle.records.specs.Order.{ordered}
use Rattle.records.specs.Lookup.{holds, why, holder}
use Rattle.records.specs.Facts.{Member, Holds, MappedAt, Says}
use Rattle.records.specs.Promises.{FoundExactly, OneAnswer}
use Rattle.records.specs.declared.record.Record.{Record}
use Rattle.std.specs.Prelude.{Result, Ok, Err}
use Rattle.records.specs.declared.holder.Why.{Why}
use Rattle.records.specs.declared.holder.Why.TheVariants.{Absent, Hole, Past}
use Rattle.records.proofs.Members.{member_fields}
use Rattle.records.proofs.Locations.{holds_is, is_holding, holder_at, holder_none, none_holder, holder_hit}
use Rattle.records.proofs.Reasons.{Tells, tells_one, why_tells}

module _ (map : List ℕ) (o : ordered map ≡ true) (bank location : ℕ) where
  abbrev Unmapped : Type 0
  Unmapped = MappedAt map bank location → ⊥

  abbrev In : Record → Type 0
  In r = Member r map

  -- a record holds its first location
  first_mapped : (r : Record) → Member r map → r.bank ≡ bank → MappedAt map bank r.first
  first_mapped r m b =
      let f = member_fields map o r m in
      (r, m, record { same_bank = b; from = omega arith; to = omega arith })

  -- a record of the bank that begins no higher ends below, where the location is unmapped
  ends_below : Unmapped → (r : Record) → Member r map → (k : ℕ) → Holds r bank k → r.first ≤ location → k < location
  ends_below u r m k h l =
      let no : location ≤ k → ⊥ = λ g.
      u (r, m, record { same_bank = h.same_bank; from = l; to = omega arith }) in
      omega arith

  tells_says : (w : Why) → Unmapped → Tells bank location In w → Says map bank location (Err w)
  tells_says Absent u t = t
  tells_says (Hole n) u t =
      let y = t.0 in
      record {
        unmapped = u;
        mapped = subst (MappedAt map bank) y.4 (first_mapped y.0 y.1 y.2);
        above = omega arith;
        nearest = λ k g l x.
            let no : location < x.0.first → ⊥ = λ h. let far = t.1 x.0 x.1 x.2.same_bank h in absurd (omega arith) in
            let low = ends_below u x.0 x.1 k x.2 (omega arith) in
            absurd (omega arith);
      }
  tells_says Past u t =
      record { present = t.0; below = λ k x. ends_below u x.0 x.1 k x.2 (t.1 x.0 x.1 x.2.same_bank) }

  says_unmapped : (w : Why) → Says map bank location (Err w) → Unmapped
  says_unmapped Absent s x = s x.0 x.1 x.2.same_bank
  says_unmapped (Hole n) s x = s.unmapped x
  says_unmapped Past s x = let low = s.below location x in absurd (omega arith)

  says_tells : (w : Why) → Says map bank location (Err w) → Tells bank location In w
  says_tells Absent s = s
  says_tells (Hole n) s =
      let x = s.mapped in
      let b = x.2.same_bank in
      let not-below : x.0.first ≤ location → ⊥ = λ l.
      s.unmapped (x.0, x.1, record { same_bank = b; from = l; to = omega arith }) in
      let above : location < x.0.first = omega arith in
      let not_lower : x.0.first < n → ⊥ = λ l. s.nearest x.0.first above l (first_mapped x.0 x.1 b) in (
        (x.0, x.1, b, above, omega arith),
        λ r m c h.
            let no : r.first < n → ⊥ = λ l. s.nearest r.first h l (first_mapped r m c) in
            omega arith,
      )
  says_tells Past s =
      (s.present, λ r m b. let low = s.below r.first (first_mapped r m b) in omega arith)

  none_holds : Unmapped → (r : Record) → Member r map → holds r bank location ≡ false
  none_holds u r m =
      same_test (holds r bank location) false
      (λ t. absurd (u (r, m, holds_is r bank location t)))
      (λ t. absurd (false≢true t))

  unmapped_of : (w : Why) → holder (records_of map) bank location ≡ Err w → Unmapped
  unmapped_of w e x =
      clash (holds x.0 bank location) (is_holding x.0 bank location x.2)
      (holder_none bank location (records_of map) w e x.0 x.1)

  says : (f : Result Record Why) → holder (records_of map) bank location ≡ f → Says map bank location f
  says (Ok r) e =
      let x = holder_at bank location (records_of map) r e in
      (x.0, holds_is r bank location x.1)
  says (Err w) e =
      let u = unmapped_of w e in
      let same : why (records_of map) bank location ≡ w = cc (none_holder bank location (records_of map) (none_holds u)) in
      tells_says w u (subst (Tells bank location In) same (why_tells bank location (records_of map)))

  said : (f : Result Record Why) → Says map bank location f → holder (records_of map) bank location ≡ f
  said (Ok r) s = holder_hit map o bank location r s.0 s.1
  said (Err w) s =
      none_holder bank location (records_of map) (none_holds (says_unmapped w s))
      ∙ ap Err (tells_one bank location In _ _ (why_tells bank location (records_of map)) (says_tells w s))

pub found_exactly : FoundExactly
found_exactly map o bank location f = (says map o bank location f, said map o bank location f)

pub one_answer : OneAnswer
one_answer map o bank location =
    let f = holder (records_of map) bank location in
    (f, says map o bank location f refl, λ g s. sym (said map o bank location g s))
