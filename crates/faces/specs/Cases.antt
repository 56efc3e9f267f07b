-- Worked cases as C sees them: the answers, the 96 bytes and the store. Most are the bench sheet's.
-- Assumes nothing.
use Rattle.std.specs.Prelude.{ℕ, ◌+◌, ◌^◌, ◌≡◌, List, [], ◌∷◌, ◌++◌, set, replicate}
use Rattle.hearing.specs.Pairs.{heard_at as at}
use Rattle.hearing.specs.declared.heard.Heard.{Heard}
use Rattle.records.specs.Bench.{bench_map, bench_store, bench_image}
use Rattle.unit.specs.Bench.{bench_heard, last_heard}
use Rattle.entries.specs.declared.entry.Entry.{Entry}
use Rattle.faces.specs.Answers.{reply_word}
use Rattle.faces.specs.Answers.{check_answer, look_answer, read_answer, write_answer, event_answer, power_answer}
use Rattle.faces.specs.Face.{Faced, start_face, frame_face, power_on_face, run_face}

-- address 5, no groups
abbrev pub started : Faced
started = start_face bench_map bench_store bench_image 5 0

pub record Told : Type 0 where
  pub answers : List ℕ
  pub state : List ℕ
  pub store : List ℕ

abbrev before : ℕ → Told → Told
before answer t = record { answers = answer ∷ t.answers; state = t.state; store = t.store }

-- frame after frame, the state handed on as bytes
abbrev pub tells : List ℕ → List ℕ → List Heard → Told
tells bytes store [] = record { answers = []; state = bytes; store = store }
tells bytes store (h ∷ hs) =
    let f : Faced = frame_face bench_map store bench_image bytes h.frame h.clock in
    before (reply_word f.reply) (tells f.state f.store hs)

-- the sheet's frames
abbrev pub p11 : List Heard
p11 = bench_heard 0 100 ++ last_heard ∷ []

-- address 5, groups, DTRs, waiting and its frame and clock, write-enable, staged, latched; then zeros
abbrev half_bytes : List ℕ
half_bytes =
    0x05 ∷ 0x00 ∷ 0x00 ∷ 0x00 ∷ 0x00 ∷ 0x00 ∷ 0x00 ∷ 0x00
    ∷ 0x01 ∷ 0x00 ∷ 0x0B ∷ 0xFE ∷ 0x15 ∷ 0x01 ∷ 0x02 ∷ 0x03 ∷ 0x04 ∷ replicate 79 0

-- two bytes of the value at 0x03 are staged
abbrev staged_bytes : List ℕ
staged_bytes =
    0x05 ∷ 0x00 ∷ 0x00 ∷ 0x00 ∷ 0x00 ∷ 0x05 ∷ 0x02 ∷ 0x00 ∷ replicate 9 0
    ++ 0x01 ∷ 0x02 ∷ 0x02 ∷ 0x03 ∷ 0xAA ∷ 0xBB ∷ replicate 73 0

-- a start's bytes with another byte at one place
abbrev started_with : ℕ → ℕ → List ℕ
started_with place byte = set (0x05 ∷ replicate 95 0) place byte

abbrev frame_with : ℕ → ℕ → ℕ
frame_with place byte = reply_word (frame_face bench_map bench_store bench_image (started_with place byte) 0x0BFE15 0).reply

abbrev power_on_with : ℕ → ℕ → ℕ
power_on_with place byte = reply_word (power_on_face bench_map bench_store bench_image (started_with place byte)).reply

pub record Cases : Type 0 where
  -- 10: an image that is not as long as the store
  pub check : (check_answer bench_map bench_store bench_image ≡ 0) × (check_answer bench_map bench_store [] ≡ 10)
  -- the value at bank 2, location 0x03 has 4 bytes, from store offset 2 on; 14: none begins at 0x04, and none where a
  -- number that is no byte would be cut to those
  pub look : look_answer bench_map bench_store 2 0x03 ≡ 0x020400
  pub look_none : look_answer bench_map bench_store 2 0x04 ≡ 14
  pub look_no_byte : (look_answer bench_map bench_store 0x102 0x03 ≡ 14)
      × (look_answer bench_map bench_store 2 0x103 ≡ 14)
  -- P1: command, short address 5, device, 0x15; and P10: refusal 5
  pub read : read_answer 0x0BFE15 ≡ 0x050A001500
  pub read_refused : read_answer 0xFEE001 ≡ 5
  pub write : write_answer 0x050A001500 ≡ 0x0BFE1500
  -- 6: no message has the word; and one whose short address is 64
  pub write_no_message : write_answer 0 ≡ 6
  pub write_out_of_range : write_answer 0x400A001500 ≡ 6
  -- P3 to P7: type, number, primary group, short address, groups, information, scheme; and a type out of range
  pub compose_events : (event_answer 1 2 255 255 0 5 0 ≡ 0x82880500)
      × (event_answer 3 0 255 5 0 0x155 1 ≡ 0x0A0D5500)
      × (event_answer 0 31 255 63 0 1023 2 ≡ 0x7EFFFF00)
      × (event_answer 4 0 255 255 (2 ^ 7 + 2 ^ 9) 0 3 ≡ 0x8E100000)
      × (event_answer 0 0 31 255 0 1 4 ≡ 0xFE000100)
  pub compose_refused : event_answer 256 0 255 5 0 0x155 1 ≡ 6
  -- P8, and P9
  pub compose_power : (power_answer 5 (2 ^ 3) ≡ 0xFEF1C500) × (power_answer 255 0 ≡ 0xFEE00000)
  -- a start, and one that is refused: 6, all zeros
  pub start : (reply_word started.reply ≡ 0)
      × (started.state ≡ 0x05 ∷ replicate 95 0) × (started.store ≡ bench_store)
  pub start_refused : (reply_word (start_face bench_map bench_store bench_image 64 0).reply ≡ 6)
      × ((start_face bench_map bench_store bench_image 64 0).state ≡ replicate 96 0)
  -- 6 too, where an address that is no byte would be cut to 5; 7 comes first
  pub start_no_byte : (reply_word (start_face bench_map bench_store bench_image 0x105 0).reply ≡ 6)
      × ((start_face bench_map bench_store bench_image 0x105 0).state ≡ replicate 96 0)
      × (reply_word (start_face (0 ∷ []) bench_store bench_image 0x105 0).reply ≡ 7)
  -- the first half of a pair waits, with its clock
  pub half : tells started.state bench_store (at 0x01020304 0x0BFE15 ∷ [])
      ≡ record { answers = 0 ∷ []; state = half_bytes; store = bench_store }
  -- P11
  pub p11_answers : (tells started.state bench_store p11).answers
      ≡ 0 ∷ 0 ∷ 0 ∷ 0 ∷ 0x550100 ∷ 0x000100 ∷ 0x000100 ∷ 0x010100 ∷ 0x2C0100 ∷ []
  pub p11_store : (tells started.state bench_store p11).store ≡ 0x06 ∷ 0x55 ∷ 0x00 ∷ 0x00 ∷ 0x01 ∷ 0x2C ∷ []
  -- staged bytes, a third and a fourth
  pub staged : (tells staged_bytes (0x06 ∷ 0x55 ∷ 0 ∷ 0 ∷ 0 ∷ 0 ∷ []) (at 0 0xC120CC ∷ at 0 0xC120DD ∷ [])).store
      ≡ 0x06 ∷ 0x55 ∷ 0xAA ∷ 0xBB ∷ 0xCC ∷ 0xDD ∷ []
  -- a flag over 1, or a byte from 40 on that is not zero: 12
  pub flags : (frame_with 8 2 ≡ 12) × (power_on_with 17 2 ≡ 12) × (power_on_with 29 2 ≡ 12)
  pub behind : (frame_with 40 1 ≡ 12) × (power_on_with 95 1 ≡ 12)
  -- 12 in its place: 7 before it, 1 behind it
  pub in_order : (reply_word (frame_face (0 ∷ []) bench_store bench_image (started_with 17 2) 0x1000000 0).reply ≡ 7)
      × (reply_word (frame_face bench_map bench_store bench_image (started_with 17 2) 0x1000000 0).reply ≡ 12)
  -- a run from there: 12, and 13 for a record of unknown kind
  pub run : (run_face bench_map bench_store bench_image (started_with 17 2) (Entry.PowerOn ∷ Entry.Broken ∷ [])).output
      ≡ 12 ∷ 0 ∷ 0 ∷ 0 ∷ 13 ∷ 0 ∷ 0 ∷ 0 ∷ []
  -- a power-on shuts write-enable and drops staging; its lock byte becomes 0xFF
  pub power_on :
      (power_on_face bench_map (0x06 ∷ 0x55 ∷ 0 ∷ 0 ∷ 0 ∷ 0 ∷ []) bench_image staged_bytes).state ≡ 0x05 ∷ replicate 95 0
