-- Composing an event, and a power event: paper 01, "Frames", and refusal 6.
-- Assumes nothing.
use Rattle.std.specs.Prelude.{ℕ, ◌^◌, Bool, ◌&&◌, ◌||◌, ltb, eqb, if◌then◌else◌, Option, Some, None, Result, Err}
use Rattle.std.specs.Int.Count.{count_trailing_zeros}
use Rattle.refusals.specs.declared.refusal.Refusal.{Refusal}
use Rattle.refusals.specs.declared.refusal.Refusal.TheVariants.{OutOfRange}
use Rattle.frames.specs.Values.{scheme_at}
use Rattle.frames.specs.Write.{write_of}
use Rattle.frames.specs.declared.message.Message.{Message}
use Rattle.frames.specs.declared.message.Scheme.{Scheme}
use Rattle.composing.specs.declared.source.Source.{Source}

-- below the limit, or 255
unfoldable pub or_missing : ℕ → ℕ → Bool
or_missing x limit = ltb x limit || eqb x 255

-- type, number 0..31, primary group 0..31 or 255, short address 0..63 or 255, 32 group bits,
-- information 0..1023, scheme 0..4, or 255
unfoldable pub source_fits : Source → Bool
source_fits e =
    ltb e.sort 32
    && (ltb e.number 32
    && (or_missing e.primary 32
    && (or_missing e.short 64
    && (ltb e.groups (2 ^ 32)
    && (ltb e.information 1024 && or_missing e.scheme 5)))))

-- 255 for "as shipped": "255 becomes 2" (paper 02, Item 8)
unfoldable pub shipped_of : ℕ → ℕ
shipped_of scheme = if eqb scheme 255 then 2 else scheme

-- 255: the field is missing
unfoldable pub or_blank : ℕ → Option ℕ
or_blank x = if eqb x 255 then None else Some x

-- the lowest of the 32 group bits that is set; no group: the field is missing
unfoldable pub lowest_group : ℕ → Option ℕ
lowest_group groups = if eqb groups 0 then None else Some (count_trailing_zeros 32 groups)

-- scheme 0 type and number; 1 short address and type; 2 short address and number;
-- 3 lowest device group and type; 4 primary group and type
abbrev pub first_carried : Scheme → Source → Option ℕ
first_carried Scheme.TypeNumber e = Some e.sort
first_carried Scheme.ShortType e = or_blank e.short
first_carried Scheme.ShortNumber e = or_blank e.short
first_carried Scheme.GroupType e = lowest_group e.groups
first_carried Scheme.PrimaryType e = or_blank e.primary

abbrev pub second_carried : Scheme → Source → ℕ
second_carried Scheme.TypeNumber e = e.number
second_carried Scheme.ShortType e = e.sort
second_carried Scheme.ShortNumber e = e.number
second_carried Scheme.GroupType e = e.sort
second_carried Scheme.PrimaryType e = e.sort

-- a scheme whose field is missing falls back to 0
abbrev pub event_with : Option ℕ → Scheme → Source → Message
event_with None s e = Message.Event Scheme.TypeNumber e.sort e.number e.information
event_with (Some v) s e = Message.Event s v (second_carried s e) e.information

abbrev pub event_as : Scheme → Source → Message
event_as s e = event_with (first_carried s e) s e

unfoldable pub event_by : Source → Message
event_by e = event_as (scheme_at (shipped_of e.scheme)) e

-- 6: a field out of range
unfoldable pub compose_of : Source → Result ℕ Refusal
compose_of e = if source_fits e then write_of (event_by e) else Err OutOfRange

-- a power event is composed from a short address and 32 group bits
unfoldable pub power_fits : ℕ → ℕ → Bool
power_fits short groups = ltb groups (2 ^ 32) && or_missing short 64

abbrev pub power_by : ℕ → ℕ → Message
power_by short groups = Message.Power (lowest_group groups) (or_blank short)

unfoldable pub compose_power_of : ℕ → ℕ → Result ℕ Refusal
compose_power_of short groups = if power_fits short groups then write_of (power_by short groups) else Err OutOfRange
