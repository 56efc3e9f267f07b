-- The class of a frame is one of the 15.
-- Assumes nothing.
use Rattle.std.proofs.Common.{ℕ, ◌<◌, arith}
use Rattle.std.specs.Prelude.{Option, Some, None, Result, Ok}
use Rattle.refusals.specs.declared.refusal.Refusal.{Refusal}
use Rattle.laws.specs.Bits.{bits, bit}
use Rattle.laws.proofs.Tests.{if_lt, if_eq}
use Rattle.frames.specs.Read.{address_of, target_of, aimed, addressed, command_of, field_of, powered, power_of, other_of}
use Rattle.frames.specs.Read.{scheme_of, schemed, event_of, read_of}
use Rattle.frames.specs.declared.message.Address.{Address}
use Rattle.frames.specs.declared.message.Addressed.{Addressed}
use Rattle.frames.specs.declared.message.Message.{Message}
use Rattle.frames.specs.declared.message.Scheme.{Scheme}
use Rattle.frames.specs.declared.message.Target.{Target}
use Rattle.census.specs.Class.{address_class, event_class, refused_class, frame_class}
use Rattle.census.proofs.Samples.{class_read, field_cases, address_cases}

abbrev HasClass : Result Message Refusal → Type 0
HasClass r = class_read r < 15

address_class_lem : (a : Address) → address_class a < 15
address_class_lem (Address.Short n) = omega arith
address_class_lem (Address.Group n) = omega arith
address_class_lem Address.Unaddressed = omega arith
address_class_lem Address.Broadcast = omega arith

event_class_lem : (s : Scheme) → event_class s < 15
event_class_lem Scheme.TypeNumber = omega arith
event_class_lem Scheme.ShortType = omega arith
event_class_lem Scheme.ShortNumber = omega arith
event_class_lem Scheme.GroupType = omega arith
event_class_lem Scheme.PrimaryType = omega arith

command_has : (b i o : ℕ) → HasClass (addressed (address_of b) i o)
unfolding refused_class
command_has b i o = address_cases (λ x. HasClass (addressed x i o)) b has (omega arith)
  where
    aimed_has : (a : Address) (t : Option Target) → HasClass (aimed a t o)
    aimed_has a (Some t) = address_class_lem a
    aimed_has a None = omega arith

    has : (x : Addressed) → HasClass (addressed (Ok x) i o)
    has (Addressed.To a) = aimed_has a (target_of i)
    has (Addressed.Special s) = omega arith

power_has : (a v b w : ℕ) → HasClass (powered (field_of a v) (field_of b w))
unfolding refused_class
power_has a v b w =
    field_cases (λ x. HasClass (powered x (field_of b w))) a v
    (λ g. field_cases (λ y. HasClass (powered (Ok g) y)) b w (λ s. omega arith) (omega arith))
    (omega arith)

other_has : (f : ℕ) → HasClass (other_of f)
unfolding other_of power_of refused_class
other_has f =
    if_eq HasClass (bits f 23 17) _
    (λ e. if_eq HasClass (bits f 15 13) _
    (λ d. power_has (bit f 12) (bits f 11 7) (bit f 6) (bits f 5 0))
    (λ d. omega arith))
    (λ e. omega arith)

event_has : (x : Option Scheme) (f : ℕ) → HasClass (schemed x f)
event_has (Some s) f = event_class_lem s
event_has None f = other_has f

pub class_below : (f : ℕ) → f < 16777216 → frame_class f < 15
unfolding frame_class read_of command_of event_of
class_below f h =
    if_lt HasClass f _
    (λ k. if_eq HasClass (bit f 16) _
    (λ e. command_has (bits f 23 16) (bits f 15 8) (bits f 7 0))
    (λ e. event_has (scheme_of (bit f 23) (bit f 22) (bit f 15)) f))
    (λ k. absurd (omega arith))
