-- The number and the value of a target, a scheme and a field, and the case of a number and a value; and a writing as
-- one number.
-- Assumes nothing.
use Rattle.std.specs.Prelude.{ℕ, ◌*◌, ◌^◌, ◌<◌, eqb, if◌then◌else◌, Option, Some, None, Result, Ok, Err}
use Rattle.refusals.specs.Numbers.{number_of}
use Rattle.refusals.specs.declared.refusal.Refusal.{Refusal}
use Rattle.frames.specs.declared.message.Scheme.{Scheme}
use Rattle.frames.specs.declared.message.Target.{Target}

abbrev pub target_number : Target → ℕ
target_number (Target.InstanceNumber n) = n
target_number (Target.InstanceGroup n) = n
target_number (Target.InstanceType n) = n
target_number (Target.FeatureAtNumber n) = n
target_number (Target.FeatureAtGroup n) = n
target_number (Target.FeatureAtType n) = n
target_number Target.FeatureBroadcast = 0
target_number Target.DeviceFeature = 0
target_number Target.FeatureAtInstanceBroadcast = 0
target_number Target.Device = 0
target_number Target.InstanceBroadcast = 0

unfoldable pub target_at : ℕ → ℕ → Option Target
target_at kind n =
    if eqb kind 1 then Some (Target.InstanceNumber n)
    else if eqb kind 2 then Some (Target.InstanceGroup n)
    else if eqb kind 3 then Some (Target.InstanceType n)
    else if eqb kind 4 then Some (Target.FeatureAtNumber n)
    else if eqb kind 5 then Some (Target.FeatureAtGroup n)
    else if eqb kind 6 then Some (Target.FeatureAtType n)
    else if eqb kind 7 then Some Target.FeatureBroadcast
    else if eqb kind 8 then Some Target.DeviceFeature
    else if eqb kind 9 then Some Target.FeatureAtInstanceBroadcast
    else if eqb kind 10 then Some Target.Device
    else if eqb kind 11 then Some Target.InstanceBroadcast
    else None

unfoldable pub scheme_at : ℕ → Scheme
scheme_at n =
    if eqb n 0 then Scheme.TypeNumber
    else if eqb n 1 then Scheme.ShortType
    else if eqb n 2 then Scheme.ShortNumber
    else if eqb n 3 then Scheme.GroupType
    else Scheme.PrimaryType

abbrev pub field_present : Option ℕ → ℕ
field_present None = 0
field_present (Some v) = 1

abbrev pub field_value : Option ℕ → ℕ
field_value None = 0
field_value (Some v) = v

-- a writing as one number, number | frame << 8: the low byte is the number, 0 with a frame
abbrev pub writing_word : Result ℕ Refusal → ℕ
writing_word (Ok f) = f * 2 ^ 8
writing_word (Err e) = number_of e

-- a frame has 24 bits, a number eight
abbrev pub WritingFits : Result ℕ Refusal → Type 0
WritingFits (Ok f) = f < 2 ^ 24
WritingFits (Err e) = number_of e < 2 ^ 8
