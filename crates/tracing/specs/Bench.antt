-- The bench sheet's P11 and P12 as whole traces: the files' bytes and the records' bytes in, the printed bytes out.
-- And a worked case of unit.adr. Paper 01, "Bench sheet", "The trace program". Proved in proofs/: Bench.
-- Assumes nothing.
use Rattle.std.specs.Prelude.{ℕ, ◌≡◌, List, [], ◌∷◌, ◌++◌}
use Rattle.unit.specs.Bench.{bench_map, bench_store, bench_image}
use Rattle.tracing.specs.Trace.{who_of, trace_of}

-- address 5, no groups
abbrev pub bench_adr : List ℕ
bench_adr = 0x05 ∷ 0x00 ∷ 0x00 ∷ 0x00 ∷ 0x00 ∷ []

-- 0BFE15 at 0 and at 100, C13102, C13002, C12055, C12000, C12000, C12001; the sheet prints no clocks for the last six
abbrev pub p12_records : List ℕ
p12_records =
    0x00 ∷ 0x00 ∷ 0x00 ∷ 0x00 ∷ 0x00 ∷ 0x0B ∷ 0xFE ∷ 0x15
    ∷ 0x00 ∷ 0x00 ∷ 0x00 ∷ 0x64 ∷ 0x00 ∷ 0x0B ∷ 0xFE ∷ 0x15
    ∷ 0x00 ∷ 0x00 ∷ 0x00 ∷ 0xC8 ∷ 0x00 ∷ 0xC1 ∷ 0x31 ∷ 0x02
    ∷ 0x00 ∷ 0x00 ∷ 0x01 ∷ 0x2C ∷ 0x00 ∷ 0xC1 ∷ 0x30 ∷ 0x02
    ∷ 0x00 ∷ 0x00 ∷ 0x01 ∷ 0x90 ∷ 0x00 ∷ 0xC1 ∷ 0x20 ∷ 0x55
    ∷ 0x00 ∷ 0x00 ∷ 0x01 ∷ 0xF4 ∷ 0x00 ∷ 0xC1 ∷ 0x20 ∷ 0x00
    ∷ 0x00 ∷ 0x00 ∷ 0x02 ∷ 0x58 ∷ 0x00 ∷ 0xC1 ∷ 0x20 ∷ 0x00
    ∷ 0x00 ∷ 0x00 ∷ 0x02 ∷ 0xBC ∷ 0x00 ∷ 0xC1 ∷ 0x20 ∷ 0x01 ∷ []

-- and C1202C
abbrev pub p11_records : List ℕ
p11_records = p12_records ++ 0x00 ∷ 0x00 ∷ 0x03 ∷ 0x20 ∷ 0x00 ∷ 0xC1 ∷ 0x20 ∷ 0x2C ∷ []

abbrev pub p12_output : List ℕ
p12_output =
    0x00 ∷ 0x00 ∷ 0x00 ∷ 0x00 ∷ 0x00 ∷ 0x00 ∷ 0x00 ∷ 0x00 ∷ 0x00 ∷ 0x00 ∷ 0x00 ∷ 0x00 ∷ 0x00 ∷ 0x00 ∷ 0x00 ∷ 0x00
    ∷ 0x00 ∷ 0x01 ∷ 0x55 ∷ 0x00 ∷ 0x00 ∷ 0x01 ∷ 0x00 ∷ 0x00 ∷ 0x00 ∷ 0x01 ∷ 0x00 ∷ 0x00 ∷ 0x00 ∷ 0x01 ∷ 0x01 ∷ 0x00 ∷ []

abbrev pub bench_trace : List ℕ → List ℕ → List ℕ
bench_trace adr records = trace_of bench_map bench_store bench_image adr records

pub record BenchTraces : Type 0 where
  -- 00000000 four times, 00015500, 00010000, 00010000, 00010100, 00012C00, then 06 55 00 00 01 2C
  pub p11 : bench_trace bench_adr p11_records
      ≡ p12_output ++ 0x00 ∷ 0x01 ∷ 0x2C ∷ 0x00 ∷ 0x06 ∷ 0x55 ∷ 0x00 ∷ 0x00 ∷ 0x01 ∷ 0x2C ∷ []
  -- the last frame missing: store 06 55 00 00 00 64
  pub p12 : bench_trace bench_adr p12_records ≡ p12_output ++ 0x06 ∷ 0x55 ∷ 0x00 ∷ 0x00 ∷ 0x00 ∷ 0x64 ∷ []
  -- P12 and a byte more, an unfinished record: 13, and the store still follows
  pub unfinished : bench_trace bench_adr (p12_records ++ 0x00 ∷ [])
      ≡ p12_output ++ 13 ∷ 0 ∷ 0 ∷ 0 ∷ 0x06 ∷ 0x55 ∷ 0x00 ∷ 0x00 ∷ 0x00 ∷ 0x64 ∷ []
  -- P12, a record of kind 2 and P11's last: 13 ends the input
  pub unknown :
      bench_trace bench_adr
      (p12_records ++ 0 ∷ 0 ∷ 0 ∷ 0 ∷ 2 ∷ 0 ∷ 0 ∷ 0 ∷ 0 ∷ 0 ∷ 3 ∷ 0x20 ∷ 0 ∷ 0xC1 ∷ 0x20 ∷ 0x2C ∷ [])
      ≡ p12_output ++ 13 ∷ 0 ∷ 0 ∷ 0 ∷ 0x06 ∷ 0x55 ∷ 0x00 ∷ 0x00 ∷ 0x00 ∷ 0x64 ∷ []
  -- a wrong length of unit.adr is 6, and its 4 bytes are all that is written
  pub short_adr : bench_trace (0x05 ∷ 0x00 ∷ 0x00 ∷ 0x00 ∷ []) p11_records ≡ 6 ∷ 0 ∷ 0 ∷ 0 ∷ []
  pub long_adr : bench_trace (0x05 ∷ 0x00 ∷ 0x00 ∷ 0x00 ∷ 0x00 ∷ 0x00 ∷ []) p11_records ≡ 6 ∷ 0 ∷ 0 ∷ 0 ∷ []
  -- so is an address that is none
  pub bad_address : bench_trace (0x40 ∷ 0x00 ∷ 0x00 ∷ 0x00 ∷ 0x00 ∷ []) p11_records ≡ 6 ∷ 0 ∷ 0 ∷ 0 ∷ []

pub record BenchFiles : Type 0 where
  -- address, then 32 group bits, high byte first
  pub who : who_of (0x05 ∷ 0x01 ∷ 0x02 ∷ 0x03 ∷ 0x04 ∷ []) ≡ record { address = 0x05; groups = 0x01020304 }
