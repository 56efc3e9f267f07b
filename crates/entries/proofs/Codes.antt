-- A record is told by its number and values: it is read back from them.
-- Assumes nothing.
use mathlib.Core.Path.{◌≡◌, refl, sym, ap, ◌∙◌}
use lib.Dec.{eqb}
use lib.ListN.{get_or}
use Rattle.std.specs.Prelude.{if◌then◌else◌}
use Rattle.entries.specs.Codes.{EntryCode, entry_code, OneEntry, BrokenIs13}
use Rattle.entries.specs.declared.entry.Entry.{Entry}

back : EntryCode → Entry
back c =
    if eqb c.number 0 then Entry.Frame (get_or c.values 0 0) (get_or c.values 1 0)
    else if eqb c.number 1 then Entry.PowerOn
    else Entry.Broken

back_is : (entry : Entry) → back (entry_code entry) ≡ entry
unfolding back
back_is (Entry.Frame clock frame) = refl
back_is Entry.PowerOn = refl
back_is Entry.Broken = refl

pub one_entry : OneEntry
one_entry entry other e = sym (back_is entry) ∙ ap back e ∙ back_is other

pub broken_is_13 : BrokenIs13
broken_is_13 (Entry.Frame clock frame) = refl
broken_is_13 Entry.PowerOn = refl
broken_is_13 Entry.Broken = refl
