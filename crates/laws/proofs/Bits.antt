-- The algebra of bit fields: outside this file a field is an unknown with a bound, and sums of fields are linear.
-- Assumes nothing.
use mathlib.Core.Path.{◌≡◌, ◌∙◌, sym, ap}
use Prim.Native.Nat.{ℕ, ◌+◌, ◌-◌, ◌*◌, ◌^◌, ◌/◌, ◌%◌, ◌<◌, ◌≤◌}
use native.Mathlib.Nat.{mod-lt, mod-add-div, div-div-eq-div-mul, div-eq_of_lt, div-one, add-sub_of_le}
use lib.Arith.{digits_div, digits_mod}
use lib.Pow.{pow_pos, pow-add}
use Rattle.laws.specs.Bits.{bits}

-- bits k and up, as a number
pub above : ℕ → ℕ → ℕ
above f k = f / 2 ^ k

pub above_all : (f : ℕ) → above f 0 ≡ f
unfolding above
above_all f = div-one f

pub above_none : (f k : ℕ) → f < 2 ^ k → above f k ≡ 0
unfolding above
above_none f k h = div-eq_of_lt h

-- bits lo and up are bits hi..lo and then bits hi + 1 and up
pub cut : (f hi lo : ℕ) → lo ≤ hi + 1 → above f lo ≡ bits f hi lo + 2 ^ (hi + 1 - lo) * above f (hi + 1)
unfolding above bits
cut f hi lo h =
    sym (mod-add-div (f / 2 ^ lo) (2 ^ (hi + 1 - lo)))
    ∙ ap (λ (q : ℕ). f / 2 ^ lo % 2 ^ (hi + 1 - lo) + 2 ^ (hi + 1 - lo) * q)
    (div-div-eq-div-mul f (2 ^ lo) (2 ^ (hi + 1 - lo))
    ∙ ap (λ (p : ℕ). f / p) (sym (pow-add 2 lo (hi + 1 - lo)) ∙ ap (λ (k : ℕ). 2 ^ k) (add-sub_of_le h)))

-- a field is below the power of its width
pub small : (f hi lo : ℕ) → bits f hi lo < 2 ^ (hi + 1 - lo)
unfolding bits
small f hi lo = mod-lt (f / 2 ^ lo) (pow_pos (hi + 1 - lo))

-- the field of a sum: what stands above it, the field, and what stands below it
pub bits_is : (f hi lo rest d low : ℕ) → f ≡ (rest * 2 ^ (hi + 1 - lo) + d) * 2 ^ lo + low → d < 2 ^ (hi + 1 - lo)
    → low < 2 ^ lo → bits f hi lo ≡ d
unfolding bits
bits_is f hi lo rest d low e p q =
    ap (λ (n : ℕ). n / 2 ^ lo % 2 ^ (hi + 1 - lo)) e
    ∙ ap (λ (n : ℕ). n % 2 ^ (hi + 1 - lo)) (digits_div (rest * 2 ^ (hi + 1 - lo) + d) q) ∙ digits_mod rest p
