-- What stays of a slice, and that the promise settles it.
-- Assumes nothing.
use Prim.Native.Nat.{ℕ, ◌+◌, ◌-◌, ◌%◌}
use mathlib.Core.Path.{◌≡◌, ap, sym, ◌∙◌}
use native.Mathlib.Omega.{arith}
use borrow.Author.Tests.{eq-eqb}
use lib.ListN.{length, take, take-append-drop}
use lib.Seq.{take-add, length-take-le}
use Rattle.laws.specs.Parts.{part}
use Rattle.entries.specs.Promises.{RestKept, RestSettled}

pub rest_kept : RestKept
unfolding part
rest_kept kept before after filled h k =
    let many = k.many in
    let cut = filled - kept in
    let long : length (take cut before) ≡ cut = length-take-le cut before (omega arith) in
    let all : cut + kept ≡ filled = omega arith in
    record {
      whole = rw long (eq-eqb (cut % 8) 0 (omega arith));
      all = rw k.moved (sym (take-add cut kept before) ∙ ap (λ (n : ℕ). take n before) all);
    }

pub rest_settled : RestSettled
rest_settled before filled q r after left k l =
    let same = k.many ∙ sym l.many in (
      same,
      sym (take-append-drop q after)
          ∙ rw (k.moved, k.rest_stays, same, ← l.moved, ← l.rest_stays) (take-append-drop r left),
    )
