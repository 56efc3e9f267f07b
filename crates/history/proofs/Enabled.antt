-- Write-enable of the context is an ENABLE pair and only keeping frames since; and only a frame in that context is an
-- executed write.
-- Assumes nothing.
use mathlib.Core.Path.{◌≡◌, refl, ◌∙◌}
use mathlib.Core.Logic.{◌⊎◌, inl, inr}
use mathlib.Core.Bool.{Bool, true, false, ◌&&◌}
use mathlib.Core.List.{List, [], ◌∷◌}
use Prim.Native.Nat.{ℕ, ◌<◌}
use native.Mathlib.Omega.{arith}
use lib.ListN.{length}
use Rattle.laws.proofs.Tests.{both, clash, if_by}
use Rattle.records.specs.Map.{mapped}
use Rattle.records.specs.declared.record.Record.{Record}
use Rattle.hearing.specs.Meaning.{closes}
use Rattle.hearing.specs.declared.heard.Who.{Who}
use Rattle.hearing.specs.declared.heard.Heard.{Heard}
use Rattle.hearing.specs.declared.meaning.Once.{Once}
use Rattle.hearing.specs.declared.meaning.Once.TheVariants.{QueryMissingShortAddress, QueryContentDtr, SetDtr, SetDtrs}
use Rattle.hearing.specs.declared.meaning.Once.TheVariants.{QueryDeviceGroups}
use Rattle.hearing.specs.declared.meaning.Once.TheVariants.{ReadMemoryLocation, WriteMemoryLocation, DirectWriteMemory}
use Rattle.hearing.specs.declared.meaning.Twice.{Twice}
use Rattle.hearing.specs.declared.meaning.Twice.TheVariants.{ResetMemoryBank, SetShortAddress, EnableWriteMemory}
use Rattle.hearing.specs.declared.meaning.Twice.TheVariants.{AddToDeviceGroups, RemoveFromDeviceGroups}
use Rattle.hearing.specs.declared.meaning.Meaning.{Meaning}
use Rattle.hearing.specs.declared.meaning.Meaning.TheVariants.{Foreign, NotObeyed, AtOnce, NeedsPair}
use Rattle.unit.specs.Run.{Input, power_on, hears}
use Rattle.history.specs.Pairs.{ends_pair}
use Rattle.history.specs.Deeds.{Context, Deed, opens, resets, puts, spares, breaks, powers, executes, write_deed}
use Rattle.history.specs.Deeds.{once_deed, pair_deed, deed_by, deed_of, keeping, enabled_by}
use Rattle.history.specs.Context.{meant, deed_in, heard_in, powered_in, started_in, context, deed_after}
use Rattle.history.specs.Writing.{deed_at}
use Rattle.history.proofs.Past.{at_old, at_new, last_or}

-- what a frame's deed tells of its context: an executed write was enabled, and no frame is a power-on
abbrev Told : Context → Deed → Type 0
Told k opens = Unit {0}
Told k (resets dtr0) = Unit {0}
Told k (puts bank location byte) = k.enabled ≡ true
Told k spares = Unit {0}
Told k breaks = Unit {0}
Told k powers = ⊥

module _ (rs : List Record) (k : Context) (p : Bool) where
  write_told : (location byte : ℕ) (other : Deed) → Told k other → Told k (write_deed rs k location byte other)
  unfolding write_deed executes
  write_told location byte other t =
      if_by (Told k) (k.enabled && mapped rs k.registers.dtr1) (λ e. (both k.enabled _ e).0) (λ e. t)

  once_told : (other : Deed) → Told k other → (c : Once) → Told k (once_deed rs k other c)
  unfolding once_deed
  once_told other t QueryMissingShortAddress = t
  once_told other t (QueryContentDtr n) = t
  once_told other t ReadMemoryLocation = t
  once_told other t (QueryDeviceGroups n) = t
  once_told other t (WriteMemoryLocation byte replies) = write_told k.registers.dtr0 byte other t
  once_told other t (DirectWriteMemory offset byte) = write_told offset byte other t
  once_told other t (SetDtr n byte) = t
  once_told other t (SetDtrs n high low) = t

  pair_told : (other : Deed) → Told k other → (c : Twice) → Told k (pair_deed k other c)
  unfolding pair_deed
  pair_told other t ResetMemoryBank = tt
  pair_told other t SetShortAddress = t
  pair_told other t EnableWriteMemory = tt
  pair_told other t (AddToDeviceGroups half) = t
  pair_told other t (RemoveFromDeviceGroups half) = t

  told_by : (other : Deed) → Told k other → (m : Meaning) → Told k (deed_by rs k p other m)
  unfolding deed_by
  told_by other t Foreign = t
  told_by other t NotObeyed = t
  told_by other t (AtOnce c) = once_told other t c
  told_by other t (NeedsPair c) = if_by (Told k) p (λ e. pair_told other t c) (λ e. t)

  told : (m : Meaning) → Told k (deed_of rs k p m)
  unfolding deed_of
  told m = told_by _ (if_by (Told k) (closes m) (λ e. tt) (λ e. tt)) m

module _ (rs : List Record) (who : Who) where
  told_at : (x : Heard) (h : List Input) → Told (context rs who h) (deed_after rs who h (hears x))
  unfolding deed_after deed_in
  told_at x h = told rs (context rs who h) (ends_pair h x) (meant (context rs who h) x)

  pub frame_no_power : (x : Heard) (h : List Input) → deed_after rs who h (hears x) ≡ powers → ⊥
  frame_no_power x h e = rw e at (told_at x h)

  puts_enabled : (x : Input) (h : List Input) (bank location byte : ℕ) → deed_after rs who h x ≡ puts bank location byte
      → (context rs who h).enabled ≡ true
  unfolding deed_after
  puts_enabled power_on h bank location byte e = let z : ◌≡◌ {A = ℕ} 0 1 = cc in absurd (omega arith)
  puts_enabled (hears x) h bank location byte e = rw e at (told_at x h)

  -- an ENABLE pair, and only keeping frames since
  pub record Since (h : List Input) : Type 0 where
    pub pair_end : ℕ
    pub inside : pair_end < length h
    pub pair : deed_at rs who h pair_end ≡ opens
    pub only : (i : ℕ) → pair_end < i → i < length h → keeping (deed_at rs who h i) ≡ true

  -- one more keeping input
  unfoldable pub more : (x : Input) (h : List Input) → Since h → keeping (deed_after rs who h x) ≡ true → Since (x ∷ h)
  more x h S k = record {
    pair_end = S.pair_end;
    inside = omega (arith, S.inside);
    pair = at_old rs who x h S.pair_end S.inside ∙ S.pair;
    only = λ i l r. go i l (last_or i (length h) r);
  }
    where
      go : (i : ℕ) → S.pair_end < i → (i ≡ length h) ⊎ (i < length h) → keeping (deed_at rs who (x ∷ h) i) ≡ true
      go i l (inl e) = rw (e, at_new rs who x h) k
      go i l (inr e) = rw (at_old rs who x h i e) (S.only i l e)

  -- the newest input is the pair
  now : (x : Input) (h : List Input) → deed_after rs who h x ≡ opens → Since (x ∷ h)
  now x h e = record {
    pair_end = length h;
    inside = omega arith;
    pair = at_new rs who x h ∙ e;
    only = λ i l r. absurd (omega arith);
  }

  since_by : (x : Input) (h : List Input) → ((context rs who h).enabled ≡ true → Since h) → (d : Deed)
      → deed_after rs who h x ≡ d
      → enabled_by (context rs who h).enabled d ≡ true → Since (x ∷ h)
  unfolding enabled_by keeping
  since_by x h ih opens q e = now x h q
  since_by x h ih (resets dtr0) q e = clash false e refl
  since_by x h ih (puts bank location byte) q e = more x h (ih e) (rw q)
  since_by x h ih spares q e = more x h (ih e) (rw q)
  since_by x h ih breaks q e = clash false e refl
  since_by x h ih powers q e = clash false e refl

  since : (h : List Input) → (context rs who h).enabled ≡ true → Since h
  unfolding context powered_in started_in heard_in deed_after
  since [] e = clash false e refl
  since (power_on ∷ h) e = clash false e refl
  since (hears x ∷ h) e = since_by (hears x) h (since h) (deed_after rs who h (hears x)) refl e

  -- so is every executed write enabled
  pub puts_since : (x : Input) (h : List Input) (bank location byte : ℕ)
      → deed_after rs who h x ≡ puts bank location byte → Since h
  puts_since x h bank location byte e = since h (puts_enabled x h bank location byte e)
