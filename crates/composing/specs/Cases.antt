-- Worked cases: the boundaries of each field that an event and a power event are composed from, and what each scheme
-- carries. One table for each call, and one statement.
-- Assumes nothing.
use Rattle.std.specs.Prelude.{◌≡◌, List, [], ◌∷◌, map, ℕ, ◌-◌, ◌^◌, Result, Ok, Err}
use Rattle.refusals.specs.declared.refusal.Refusal.{Refusal}
use Rattle.refusals.specs.declared.refusal.Refusal.TheVariants.{OutOfRange}
use Rattle.composing.specs.Compose.{compose_of, compose_power_of}
use Rattle.composing.specs.Bench.{from}
use Rattle.composing.specs.declared.source.Source.{Source}

pub record ComposeCase : Type 0 where
  pub source : Source
  pub answer : Result ℕ Refusal

abbrev gives : Source → ℕ → ComposeCase
gives source frame = record { source = source; answer = Ok frame }

-- 6: field out of range
abbrev refused : Source → ComposeCase
refused source = record { source = source; answer = Err OutOfRange }

-- scheme, type, number, primary group, short address, group bits, information
abbrev pub compose_cases : List ComposeCase
compose_cases =
    -- scheme 0 type and number; 1 short address and type; 2 short address and number; 3 lowest device group and type;
    -- 4 primary group and type
    gives (from 0 1 2 3 4 (2 ^ 5) 6) 0x828806
    ∷ gives (from 1 1 2 3 4 (2 ^ 5) 6) 0x080406
    ∷ gives (from 2 1 2 3 4 (2 ^ 5) 6) 0x088806
    ∷ gives (from 3 1 2 3 4 (2 ^ 5) 6) 0x8A0406
    ∷ gives (from 4 1 2 3 4 (2 ^ 5) 6) 0xC60406
    -- scheme 0..4, or 255 for "as shipped", which is 2; without a short address it falls back to 0
    ∷ refused (from 5 1 2 3 4 (2 ^ 5) 6)
    ∷ refused (from 254 1 2 3 4 (2 ^ 5) 6)
    ∷ gives (from 255 1 2 3 4 (2 ^ 5) 6) 0x088806
    ∷ gives (from 255 1 2 3 63 (2 ^ 5) 6) 0x7E8806
    ∷ refused (from 255 1 2 3 64 (2 ^ 5) 6)
    ∷ gives (from 255 1 2 3 255 (2 ^ 5) 6) 0x828806
    -- type, number 0..31
    ∷ gives (from 0 31 2 3 4 (2 ^ 5) 6) 0xBE8806
    ∷ refused (from 0 32 2 3 4 (2 ^ 5) 6)
    ∷ gives (from 0 1 31 3 4 (2 ^ 5) 6) 0x82FC06
    ∷ refused (from 0 1 32 3 4 (2 ^ 5) 6)
    -- primary group 0..31 or 255; missing, it falls back to 0
    ∷ gives (from 4 1 2 31 4 (2 ^ 5) 6) 0xFE0406
    ∷ refused (from 4 1 2 32 4 (2 ^ 5) 6)
    ∷ refused (from 0 1 2 32 4 (2 ^ 5) 6)
    ∷ refused (from 4 1 2 254 4 (2 ^ 5) 6)
    ∷ gives (from 4 1 2 255 4 (2 ^ 5) 6) 0x828806
    -- short address 0..63 or 255
    ∷ gives (from 1 1 2 3 63 (2 ^ 5) 6) 0x7E0406
    ∷ refused (from 1 1 2 3 64 (2 ^ 5) 6)
    ∷ refused (from 0 1 2 3 64 (2 ^ 5) 6)
    ∷ refused (from 1 1 2 3 254 (2 ^ 5) 6)
    ∷ gives (from 1 1 2 3 255 (2 ^ 5) 6) 0x828806
    ∷ gives (from 2 1 2 3 255 (2 ^ 5) 6) 0x828806
    -- the lowest of 32 group bits, or no group
    ∷ gives (from 3 1 2 3 4 1 6) 0x800406
    ∷ gives (from 3 1 2 3 4 (2 ^ 31) 6) 0xBE0406
    ∷ gives (from 3 1 2 3 4 (2 ^ 32 - 1) 6) 0x800406
    ∷ gives (from 3 1 2 3 4 0 6) 0x828806
    -- information 0..1023
    ∷ gives (from 0 1 2 3 4 (2 ^ 5) 1023) 0x828BFF
    ∷ refused (from 0 1 2 3 4 (2 ^ 5) 1024)
    ∷ []

-- a power event: short address and group bits
pub record PowerCase : Type 0 where
  pub short : ℕ
  pub groups : ℕ
  pub answer : Result ℕ Refusal

abbrev power : ℕ → ℕ → Result ℕ Refusal → PowerCase
power short groups answer = record { short = short; groups = groups; answer = answer }

abbrev pub power_cases : List PowerCase
power_cases =
    power 0 0 (Ok 0xFEE040)
    ∷ power 63 (2 ^ 5) (Ok 0xFEF2FF)
    ∷ power 64 (2 ^ 5) (Err OutOfRange)
    ∷ power 254 (2 ^ 5) (Err OutOfRange)
    ∷ power 255 (2 ^ 5) (Ok 0xFEF280)
    ∷ power 255 1 (Ok 0xFEF000)
    ∷ power 255 (2 ^ 31) (Ok 0xFEFF80)
    ∷ power 255 (2 ^ 32 - 1) (Ok 0xFEF000)
    ∷ []

-- each case gets its frame, or 6
pub record ComposeCases : Type 0 where
  pub events : map (λ c. compose_of c.source) compose_cases ≡ map (λ c. c.answer) compose_cases
  pub power_events : map (λ c. compose_power_of c.short c.groups) power_cases ≡ map (λ c. c.answer) power_cases
