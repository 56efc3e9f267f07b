-- What stands at a place of a capture, and the place behind it, by how many bytes are left.
-- Assumes nothing.
use Rattle.std.proofs.Common.{◌≡◌, ℕ, ◌+◌, ◌<◌, ◌≤◌, List, length, drop, refl, arith}
use Rattle.laws.proofs.Tests.{if_lt, if_eq}
use Rattle.entries.specs.Entry.{entry_at}
use Rattle.census.specs.Reader.{rest_at, next_at, place_after}
use Rattle.census.specs.declared.next.Next.TheVariants.{Whole, Unfinished, End}

-- ---- what stands at a place

module _ (capture : List ℕ) (at : ℕ) where
  pub next_whole : 8 ≤ rest_at (length capture) at → next_at capture at ≡ Whole (entry_at (drop at capture) 0)
  unfolding next_at
  next_whole h =
      if_eq (λ n. n ≡ Whole (entry_at (drop at capture) 0)) (rest_at (length capture) at) _ (λ e. absurd (omega arith))
      (λ n. if_lt (λ m. m ≡ Whole (entry_at (drop at capture) 0)) (rest_at (length capture) at) _
      (λ l. absurd (omega arith)) (λ l. refl))

  pub next_unfinished : 0 < rest_at (length capture) at → rest_at (length capture) at < 8 → next_at capture at ≡ Unfinished
  unfolding next_at
  next_unfinished h k =
      if_eq (λ n. n ≡ Unfinished) (rest_at (length capture) at) _ (λ e. absurd (omega arith))
      (λ n. if_lt (λ m. m ≡ Unfinished) (rest_at (length capture) at) _ (λ l. refl) (λ l. absurd (omega arith)))

  pub next_end : rest_at (length capture) at ≤ 0 → next_at capture at ≡ End
  unfolding next_at
  next_end h = if_eq (λ n. n ≡ End) (rest_at (length capture) at) _ (λ e. refl) (λ n. absurd (n (omega arith)))

-- ---- the place behind it

pub after_whole : (long at : ℕ) → 8 ≤ rest_at long at → place_after long at ≡ at + 8
unfolding place_after
after_whole long at h =
    if_lt (λ place. place ≡ at + 8) (rest_at long at) _ (λ l. absurd (omega arith)) (λ l. omega arith)

pub after_few : (long at : ℕ) → rest_at long at < 8 → place_after long at ≡ at + rest_at long at
unfolding place_after
after_few long at h =
    if_lt (λ place. place ≡ at + rest_at long at) (rest_at long at) _ (λ l. omega arith) (λ l. absurd (omega arith))
