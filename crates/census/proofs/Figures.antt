-- How many of all frames there are of each class, and so in a capture that has each frame once.
-- Assumes nothing.
use Rattle.std.proofs.Common.{◌≡◌, ℕ, ◌+◌, ◌-◌, ◌*◌, ◌/◌, ◌<◌, Bool, true, false, eqb, ltb, List, [], ◌∷◌, length, get_or, replicate, sym, refl, ap, ◌∙◌, arith, ext_get_or}
use lib.ListN.{get_or-replicate}
use Rattle.std.specs.Prelude.{if◌then◌else◌}
use Rattle.laws.specs.Bits.{bits}
use Rattle.laws.specs.Lists.{every}
use Rattle.laws.specs.Counts.{count}
use Rattle.laws.proofs.Counts.{at_each}
use Rattle.frames.specs.Kind.{kind_of}
use Rattle.frames.specs.Values.{target_at}
use Rattle.frames.specs.Read.{address_of, target_of, command_of, scheme_of, field_of, power_of, other_of, event_of, read_of}
use Rattle.census.specs.Class.{refused_class, frame_class}
use Rattle.census.specs.Census.{entries_of, census_of}
use Rattle.census.specs.Facts.{is_of_class}
use Rattle.census.specs.Figures.{figures, FiguresHold, FiguresAddUp, CaptureFigures}
use Rattle.census.proofs.Tallies.{sum_below, one, tally, sum_same, sum_parts, sum_blocks, sum_by_block}
use Rattle.census.proofs.Tallies.{by_one, by_two}
use Rattle.census.proofs.Weights.{weighed, weighed_same, filed, length_filed, filed_at}
use Rattle.census.proofs.Samples.{of_class, many, class_at, low_alike, is_reserved, commands_alike}
use Rattle.census.proofs.Samples.{is_got, power_like, powers_alike}
use Rattle.census.proofs.Adds.{counts_are}
use Rattle.census.proofs.Once.{no_end, once}

pub figures_add_up : FiguresAddUp
figures_add_up = record { addressed = refl; all = refl }

-- ---- computed

-- how many instance bytes are reserved, and two of the one kind and the other
reserved_bytes : tally (λ b. is_reserved (target_of b)) 256 ≡ 59
unfolding sum_below target_of target_at kind_of
reserved_bytes = refl

sample_bytes : (is_reserved (target_of 64) ≡ true) × (is_reserved (target_of 0) ≡ false)
unfolding target_of target_at kind_of
sample_bytes = (refl, refl)

-- how many power events are got
power_cycles : tally (λ v. is_got (power_of v)) 8192 ≡ 2145
unfolding sum_below power_of field_of bits
power_cycles = refl

-- frames of a block, each with how many it stands for: events with bit 15 clear, events before the power events, power events
-- that are got and that are refused, commands with a reserved instance byte, and the other commands
abbrev samples : List (ℕ × ℕ)
samples =
    (0, 32768) ∷ (32768, 24576) ∷ (57344, 2145) ∷ (57345, 8192 - 2145)
    ∷ (81920, 256 * 59) ∷ (65536, 65536 - 256 * 59) ∷ []

-- blocks, each with how many it stands for
abbrev blocks : List (ℕ × ℕ)
blocks = (0, 64) ∷ (64, 32) ∷ (96, 16) ∷ (112, 14) ∷ (126, 1) ∷ (127, 1) ∷ []

-- all of them, filed by class
abbrev in_all : List (ℕ × ℕ) → List ℕ
in_all [] = replicate 15 0
in_all (b ∷ bs) = filed (in_all bs) (class_at b.0) b.1 samples

computed : in_all blocks ≡ figures
unfolding frame_class refused_class read_of command_of address_of target_of target_at kind_of event_of scheme_of other_of power_of
    field_of bits
computed = refl

-- the block that stands for a block: its samples are of the same classes
abbrev stands_for : ℕ → ℕ
stands_for i = if ltb i 64 then 0 else if ltb i 96 then 64 else if ltb i 112 then 96 else if ltb i 126 then 112 else i

abbrev is_alike : ℕ → Bool
is_alike i = every (λ r. eqb (class_at i r.0) (class_at (stands_for i) r.0)) samples

block_alike : (i : ℕ) → i < 128 → is_alike i ≡ true
unfolding frame_class refused_class read_of command_of address_of target_of target_at kind_of event_of scheme_of other_of power_of
    field_of bits
block_alike = at_each is_alike 128 refl

-- as many of the 128 as the table says
by_blocks : (g : ℕ → ℕ) → sum_below (λ i. g (stands_for i)) 128 ≡ weighed g blocks
unfolding sum_below
by_blocks g = omega arith

-- ---- block by block

-- 1 for a frame of block i that is of class k
abbrev sample : ℕ → ℕ → ℕ → ℕ
sample k i j = one (eqb (class_at i j) k)

module _ (k i : ℕ) (block : i < 128) where
  same : {c d : ℕ} → c ≡ d → one (eqb c k) ≡ one (eqb d k)
  same e = ap (λ (c : ℕ). one (eqb c k)) e

  low : sum_below (sample k i) 57344 ≡ 32768 * sample k i 0 + 24576 * sample k i 32768
  low =
      omega (
        arith,
        sum_parts (sample k i) 32768 24576,
        by_one (sample k i) 32768 0 (λ j h. same (low_alike i block j 0 (omega arith) (omega arith) (omega arith))),
        by_one (λ j. sample k i (32768 + j)) 24576 0
            (λ j h. same (low_alike i block (32768 + j) 32768 (omega arith) (omega arith) (omega arith))),
      )

  powers : sum_below (λ v. sample k i (57344 + v)) 8192 ≡ 2145 * sample k i 57344 + (8192 - 2145) * sample k i 57345
  powers =
      by_two (λ v. sample k i (57344 + v)) (λ v. is_got (power_of v)) 8192 0 1 2145 power_cycles
      (λ v h e. same (powers_alike i block v 0 h (omega arith) (power_like v _ e)))
      (λ v h e. same (powers_alike i block v 1 h (omega arith) (power_like v _ e)))

  commands : sum_below (λ j. sample k i (65536 + j)) 65536
      ≡ 256 * 59 * sample k i 81920 + (65536 - 256 * 59) * sample k i 65536
  commands =
      by_two (λ j. sample k i (65536 + j)) (λ j. is_reserved (target_of (j / 256))) 65536 16384 0 (256 * 59)
      (sum_by_block (λ b. one (is_reserved (target_of b))) 256 256 ∙ ap (λ (m : ℕ). 256 * m) reserved_bytes)
      (λ j h e. same (commands_alike i block j 16384 h (omega arith) (e ∙ sym sample_bytes.0)))
      (λ j h e. same (commands_alike i block j 0 h (omega arith) (e ∙ sym sample_bytes.1)))

  in_block_lem : sum_below (sample k i) 131072 ≡ weighed (sample k (stands_for i)) samples
  in_block_lem =
      omega (arith, sum_parts (sample k i) 65536 65536, sum_parts (sample k i) 57344 8192, low, powers, commands)
      ∙ weighed_same (class_at i) (class_at (stands_for i)) (λ c. one (eqb c k)) samples (block_alike i block)

-- ---- all blocks

-- how many frames of block i are of class k
abbrev in_block : ℕ → ℕ → ℕ
in_block k i = weighed (sample k i) samples

length_all : (bs : List (ℕ × ℕ)) → length (in_all bs) ≡ 15
length_all [] = refl
length_all (b ∷ bs) = length_filed (in_all bs) (class_at b.0) b.1 samples ∙ length_all bs

all_at : (bs : List (ℕ × ℕ)) (k : ℕ) → k < 15 → get_or (in_all bs) k 0 ≡ weighed (in_block k) bs
all_at [] k h = get_or-replicate 15 k 0 0 h
all_at (b ∷ bs) k h =
    filed_at (in_all bs) (class_at b.0) b.1 samples k (omega (arith, length_all bs))
    ∙ omega (arith, all_at bs k h)

pub figures_hold : FiguresHold
figures_hold k h =
    many k 16777216 ∙ sum_blocks (of_class k) 128 131072
    ∙ sum_same (λ i. sum_below (sample k i) 131072) (λ i. in_block k (stands_for i)) 128 (in_block_lem k)
    ∙ by_blocks (in_block k) ∙ sym (all_at blocks k h) ∙ ap (λ (l : List ℕ). get_or l k 0) computed

pub capture_figures : CaptureFigures
capture_figures capture none each =
    let counts = counts_are capture in
    ext_get_or 0 (census_of capture).counts figures counts.fifteen
    (λ k h.
    let l : k < 15 = omega (arith, counts.fifteen) in
    counts.each k l ∙ ap (count (is_of_class k)) (no_end capture none)
    ∙ once (entries_of capture) each k l ∙ figures_hold k l)
