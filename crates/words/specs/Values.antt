-- The number and the values that paper 01 gives to each case of the enums, and the case of a number and a value; those
-- that reading and writing need too stand in frames.
-- Assumes nothing.
use Rattle.std.specs.Prelude.{ℕ, eqb, if◌then◌else◌, Option, Some, None}
use Rattle.frames.specs.declared.message.Address.{Address}
use Rattle.frames.specs.declared.message.Scheme.{Scheme}
use Rattle.frames.specs.declared.message.Target.{Target}

-- Kinds are numbered in the order of the cases. What has no number has 0.
-- Back from a number: one that no case has falls to the last case, and `matched` of Word.antt refuses it.

abbrev pub address_kind : Address → ℕ
address_kind (Address.Short n) = 0
address_kind (Address.Group n) = 1
address_kind Address.Unaddressed = 2
address_kind Address.Broadcast = 3

abbrev pub address_number : Address → ℕ
address_number (Address.Short n) = n
address_number (Address.Group n) = n
address_number Address.Unaddressed = 0
address_number Address.Broadcast = 0

unfoldable pub address_at : ℕ → ℕ → Address
address_at kind n =
    if eqb kind 0 then Address.Short n
    else if eqb kind 1 then Address.Group n
    else if eqb kind 2 then Address.Unaddressed
    else Address.Broadcast

-- a target's kind is its number in the table of kinds
abbrev pub target_kind : Target → ℕ
target_kind (Target.InstanceNumber n) = 1
target_kind (Target.InstanceGroup n) = 2
target_kind (Target.InstanceType n) = 3
target_kind (Target.FeatureAtNumber n) = 4
target_kind (Target.FeatureAtGroup n) = 5
target_kind (Target.FeatureAtType n) = 6
target_kind Target.FeatureBroadcast = 7
target_kind Target.DeviceFeature = 8
target_kind Target.FeatureAtInstanceBroadcast = 9
target_kind Target.Device = 10
target_kind Target.InstanceBroadcast = 11

abbrev pub scheme_number : Scheme → ℕ
scheme_number Scheme.TypeNumber = 0
scheme_number Scheme.ShortType = 1
scheme_number Scheme.ShortNumber = 2
scheme_number Scheme.GroupType = 3
scheme_number Scheme.PrimaryType = 4

unfoldable pub field_at : ℕ → ℕ → Option ℕ
field_at present v = if eqb present 0 then None else Some v
