-- Three parts of eight bytes, one behind the other.
-- Assumes nothing.
use Rattle.std.proofs.Common.{◌≡◌, length, refl, rules}
use Rattle.compare.specs.Compare.{difference_of}
use Rattle.compare.proofs.Written.{put_three}
use Rattle.compare.proofs.differing.Both.put_difference.Goals as goal

pub returns : goal.returns
unfolding difference_of
returns c =
    let old_long : length c.value_bytes.result ≡ 8 = search rules in
    let new_long : length c.value_bytes-2.result ≡ 8 = search rules in
    rw (← c.value_bytes.ensures, ← c.value_bytes-2.ensures)
    (put_three _ _ _ _ _ refl old_long new_long c.requires.room c.copy_from_slice.ensures.after
    c.copy_from_slice-2.ensures.after c.copy_from_slice-3.ensures.after)
