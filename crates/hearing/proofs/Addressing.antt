-- A command is for the unit exactly if its address is, and a special one is for every unit.
-- Assumes nothing.
use Rattle.std.proofs.Common.{◌/◌, ◌%◌, ◌^◌, sym, refl, ap, ◌∙◌, eq-eqb, eqb-true}
use Rattle.hearing.specs.Meaning.{reading_meaning, meaning_of}
use Rattle.hearing.specs.Promises.{ForTheUnit, SpecialForAll}
use Rattle.hearing.specs.declared.heard.Who.{Who}

pub for_the_unit : (who : Who) → ForTheUnit who
for_the_unit who =
    record {
      short = λ a. (eqb-true who.address a, eq-eqb who.address a);
      group = λ g. (eqb-true (who.groups / 2 ^ g % 2) 1, eq-eqb (who.groups / 2 ^ g % 2) 1);
      unaddressed = (eqb-true who.address 255, eq-eqb who.address 255);
      broadcast = refl;
    }

pub special_for_all : SpecialForAll
unfolding meaning_of
special_for_all who other f number first second e = ap (reading_meaning who) e ∙ sym (ap (reading_meaning other) e)
