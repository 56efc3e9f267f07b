-- Each claim by its theorem, in the order of the page. A theorem that is gone, or no longer public, is refused here,
-- and so is a field that is left out.
-- Assumes nothing.
use Rattle.laws.proofs.Numbers.{exactly_if}
use Rattle.frames.proofs.Round.{writes_back, reads_back, one_message, writings_fit, low_byte as frames-low-byte}
use Rattle.frames.proofs.Refusals.{reserved_14, reserved_59, reader_numbers, writer_numbers}
use Rattle.frames.proofs.Exactly.{exactly as frames-exactly}
use Rattle.frames.proofs.Settled.{settled as frames-settled}
use Rattle.words.proofs.Worded.{word_gives, gives_word, word_refused, low_byte as words-low-byte}
use Rattle.words.proofs.Settled.{settled as words_settled}
use Rattle.composing.proofs.Composed.{composes, as_shipped, carries, falls_back, composes_power, lowest}
use Rattle.composing.proofs.Composed.{composer_numbers, power_numbers}
use Rattle.composing.proofs.Exactly.{exactly as composing-exactly}
use Rattle.composing.proofs.Bench.{sheet_holds as composing-sheet-holds}
use Rattle.composing.proofs.Settled.{settled as composing-settled}
use Rattle.composing.proofs.Cases.{compose_cases}
use Rattle.records.proofs.Ordered.{order_stands, order_numbers, order_settled}
use Rattle.records.proofs.Missing.{one_answer}
use Rattle.records.proofs.Visits.{visited_bound, visited_exactly, visited_most, visited_none, visited_below}
use Rattle.records.proofs.Visits.{visited_distinct, visited_tells, answer_tells}
use Rattle.records.proofs.Cases.{order_cases}
use Rattle.records.proofs.HalvingCases.{count_cases}
use Rattle.banks.proofs.Standing.{check_stands, check_numbers, check_settled}
use Rattle.banks.proofs.Cases.{check_cases}
use Rattle.looks.proofs.Looks.{look_shows, look_stands, look_empty, look_numbers, look_at_settled}
use Rattle.looks.proofs.Looks.{look_number_settled, look_settled}
use Rattle.looks.proofs.Cases.{look_cases}
use Rattle.finds.proofs.Finds.{find_says, find_refuses, find_numbers, find_stands, find_shows, find_alone, find_settled}
use Rattle.finds.proofs.Finds.{find_most, find_word_settled}
use Rattle.finds.proofs.Cases.{find_cases}
use Rattle.compare.proofs.Numbered.{compare_numbers, compare_stands, second_gives_11, compare_refuses, compare_most}
use Rattle.compare.proofs.Numbered.{compare_shows, compare_alone, compare_settled, compare_word_settled}
use Rattle.compare.proofs.Shown.{differing_exactly, values_listed, list_rises, output_shows, past_stays}
use Rattle.compare.proofs.Brought.{new_from_old, old_from_new}
use Rattle.compare.proofs.Cases.{compare_cases}
use Rattle.session.proofs.Numbered.{session_numbers, session_stands, session_not_cut, session_refuses, session_settled}
use Rattle.session.proofs.Shown.{session_places, session_reads, session_shows, session_alone, session_word_settled}
use Rattle.session.proofs.Ran.{session_runs, session_runs_at_any_pace}
use Rattle.session.proofs.Cases.{session_cases}
use Rattle.entries.proofs.Cases.{cases as entries-cases}
use Rattle.entries.proofs.Moved.{rest_kept, rest_settled}
use Rattle.entries.proofs.Codes.{one_entry, broken_is_13}
use Rattle.entries.proofs.Settled.{entry_settled, four_bytes_settled}
use Rattle.census.proofs.Adds.{counts_are}
use Rattle.census.proofs.Summed.{classes_add_up}
use Rattle.census.proofs.Numbered.{number_is}
use Rattle.census.proofs.Ends.{unknown_ends, unfinished_ends, nothing_after, nothing_there}
use Rattle.census.proofs.Sliced.{slices_add_up, slices_add_to}
use Rattle.census.proofs.Clocks.{clocks_ignored}
use Rattle.census.proofs.ReadOn.{reader_reads}
use Rattle.census.proofs.Figures.{figures_hold, figures_add_up, capture_figures}
use Rattle.census.proofs.AllFrames.{all_frames}
use Rattle.census.proofs.Cases.{census_cases}
use Rattle.census.proofs.Settled.{census_settled, add_settled}
use Rattle.memory.proofs.StagedRoom.{write_value}
use Rattle.memory.proofs.LatchRoom.{read_latched, read_first, read_other, read_none}
use Rattle.memory.proofs.Fills.{fill_value}
use Rattle.memory.proofs.Locks.{fill_locks}
use Rattle.memory.proofs.Writes.{write_not_last}
use Rattle.memory.proofs.Run.{whole_value}
use Rattle.memory.proofs.Cases.{read_cases, reset_cases}
use Rattle.memory.proofs.Resets.{fill_resets}
use Rattle.memory.proofs.ResetSettled.{reset_settled}
use Rattle.hearing.proofs.PairRule.{pair_clocks, no_pair}
use Rattle.hearing.proofs.Addressing.{for_the_unit, special_for_all}
use Rattle.hearing.proofs.Codes.{code_stands}
use Rattle.hearing.proofs.Foreign.{event_foreign, reserved_foreign}
use Rattle.hearing.proofs.Closing.{eleven_keep, closes_exactly}
use Rattle.hearing.proofs.Exactly.{listed_exactly}
use Rattle.rooms.proofs.Promises.{short_takes_address}
use Rattle.rooms.proofs.Codes.{one_due}
use Rattle.numbers.proofs.Cases.{state_cases, start_cases}
use Rattle.numbers.proofs.Numbers.{calls_numbered, tests_in_order, numbers_settled}
use Rattle.unit.proofs.Accepted.{calls_power_on, store_kept, accepted_again, run_accepted, one_value_changes}
use Rattle.unit.proofs.Foreign.{foreign_passes_by, event_breaks_pair}
use Rattle.unit.proofs.Leaving.{frames_leave}
use Rattle.unit.proofs.Worked.{worked_hold, two_banks_hold}
use Rattle.unit.proofs.Closing.{every_command_closes, closing_holds}
use Rattle.unit.proofs.Numbers.{calls_reply, calls_refused, calls_accepted, calls_settled}
use Rattle.unit.proofs.Bench.{sheet_holds as unit-sheet-holds}
use Rattle.unit.proofs.Resets.{reset_due, step_resets}
use Rattle.history.proofs.Demand.{unit_demand, unit_read_only, lock_by_grammar, in_order}
use Rattle.history.proofs.Bench.{p11_writing, p12_no_writing}
use Rattle.history.proofs.Wrong.{wrong_ones_fail}
use Rattle.history.proofs.Follow.{others_follow}
use Rattle.history.proofs.Through.{lets_through_exactly}
use Rattle.history.proofs.Use.{always_whole, refused_exactly, refused_change_nothing}
use Rattle.tracing.proofs.Bench.{bench_files, bench_traces}
use Rattle.tracing.proofs.Starts.{files_numbered, one_byte_more, files_settled}
use Rattle.tracing.proofs.Continued.{four_each, thirteen_ends, one_after_other}
use Rattle.tracing.proofs.Checks.{one_check}
use Rattle.tracing.proofs.Cutting.{cut_anywhere}
use Rattle.tracing.proofs.Settled.{run_settled, who_settled}
use Rattle.tracing.proofs.InReads.{read_anyhow, go_on_reads, closed_by_flag, go_on_settled}
use Rattle.packing.proofs.Round.{state_back, bytes_back}
use Rattle.packing.proofs.Cases.{cases as packing-cases}
use Rattle.packing.proofs.Settled.{settled}
use Rattle.faces.proofs.Settled.{settled as faces_settled}
use Rattle.faces.proofs.Words.{replies_back, looks_back, writings_back, three_parts_back, two_parts_back}
use Rattle.faces.proofs.LowByte.{low_byte as faces-low-byte}
use Rattle.faces.proofs.Numbers.{faces_numbered, faces_refused}
use Rattle.faces.proofs.NoByte.{faces_not_cut}
use Rattle.faces.proofs.Cases.{cases as faces-cases}
use Rattle.lifted.proofs.Demand.{demand_in_c, read_only_stay_in_c, accepts_as_unit}
use Rattle.lifted.proofs.Following.{follows_unit}
use Rattle.lifted.proofs.Each.{run_each, records_fit}
use Rattle.claims.specs.Claims.{Frames, MapStoreImage, WhyMissing, Examined, TwoImages, StateClock, CommandsObeyed}
use Rattle.claims.specs.Claims.{CompleteWriting, SessionWriter, RefusalNumbers, TraceProgram, WireCensus, BenchSheet, ErrorsSeen, PlaceForms}
use Rattle.claims.specs.Claims.{Judging, CLibrary, Claims}

frames : Frames
frames = record {
  what_reads_writes_back = writes_back;
  what_is_written_reads_back = reads_back;
  one_message = one_message;
  written_frames_fit = writings_fit;
  fourteen_reserved = reserved_14;
  fifty_nine_reserved = reserved_59;
  events_are_composed = composes;
  as_shipped = as_shipped;
  schemes_carry = carries;
  missing_field_falls_back = falls_back;
  power_events_are_composed = composes_power;
  lowest_group = lowest;
  composing_boundaries = compose_cases;
}

map_store_image : MapStoreImage
map_store_image = record {
  map_stands = order_stands;
  map_boundaries = order_cases;
  store_stands = check_stands;
  store_boundaries = check_cases;
  look_shows_the_value = look_shows;
  look_finds_what_begins_there = look_stands;
  refused_look_is_empty = look_empty;
  look_boundaries = look_cases;
}

why_missing : WhyMissing
why_missing = record {
  find_says_which = find_says;
  one_answer = one_answer;
  find_refuses = find_refuses;
  find_boundaries = find_cases;
  find_numbers = find_numbers;
  find_stands = find_stands;
  finds_come_back = find_shows;
  refused_find_is_its_number = find_alone;
}

examined : Examined
examined = record {
  find_counts_at_most_7 = find_most;
  at_most_7 = visited_most;
  none_of_none = visited_none;
  at_most_k = visited_bound;
  no_smaller = visited_exactly;
  positions_of_records = visited_below;
  none_twice = visited_distinct;
  list_by_these_alone = visited_tells;
  answer_by_these_alone = answer_tells;
  count_boundaries = count_cases;
}

two_images : TwoImages
two_images = record {
  compare_numbers = compare_numbers;
  compare_stands = compare_stands;
  second_gives_11 = second_gives_11;
  values_listed = values_listed;
  positions_listed = differing_exactly;
  in_map_order = list_rises;
  records_show = output_shows;
  past_stays = past_stays;
  refusal_leaves_the_output = compare_refuses;
  at_most_64 = compare_most;
  new_from_old = new_from_old;
  old_from_new = old_from_new;
  comparisons_come_back = compare_shows;
  refused_comparison_is_its_number = compare_alone;
  compare_boundaries = compare_cases;
}

state_clock : StateClock
state_clock = record {
  start_and_power_on = calls_power_on;
  store_is_kept = store_kept;
  state_boundaries = state_cases;
  address_boundaries = start_cases;
  accepted_stays_accepted = accepted_again;
  run_is_accepted = run_accepted;
  pair_clocks = pair_clocks;
  no_pair = no_pair;
}

commands_obeyed : CommandsObeyed
commands_obeyed = record {
  for_the_unit = for_the_unit;
  special_for_all = special_for_all;
  listed_bytes = code_stands;
  listed_exactly = listed_exactly;
  event_is_foreign = event_foreign;
  reserved_is_foreign = reserved_foreign;
  short_takes_address = short_takes_address;
  foreign_passes_by = foreign_passes_by;
  eleven_keep = eleven_keep;
  closes_exactly = closes_exactly;
  every_command_closes = every_command_closes;
  frames_leave = frames_leave;
  one_value_changes = one_value_changes;
  last_byte_puts_the_value = write_value;
  first_byte_ends_the_latch = read_first;
  later_bytes_from_the_latch = read_latched;
  other_bytes_from_the_store = read_other;
  unmapped_has_no_answer = read_none;
  read_boundaries = read_cases;
  reset_of_the_store = fill_resets;
  reset_is_settled = reset_settled;
  reset_boundaries = reset_cases;
  reset_needs_its_pair = reset_due;
  reset_step = step_resets;
  reset_fills_values = fill_value;
  reset_locks = fill_locks;
  worked_runs = worked_hold;
  two_bank_runs = two_banks_hold;
  closing_runs = closing_holds;
}

complete_writing : CompleteWriting
complete_writing = record {
  unit_demand = unit_demand;
  rest_follows_from_two = others_follow;
  always_whole = always_whole;
  refused_exactly = refused_exactly;
  refused_inputs_change_nothing = refused_change_nothing;
  unit_read_only = unit_read_only;
  lets_through_exactly = lets_through_exactly;
  lock_by_grammar = lock_by_grammar;
  history_in_order = in_order;
  p11_has_a_writing = p11_writing;
  p12_has_none = p12_no_writing;
  wrong_ones_fail = wrong_ones_fail;
}

session_writer : SessionWriter
session_writer = record {
  session_numbers = session_numbers;
  session_stands = session_stands;
  session_not_cut = session_not_cut;
  refused_session_has_no_frame = session_refuses;
  places_of_the_frames = session_places;
  frames_read_so = session_reads;
  session_runs = session_runs;
  session_runs_at_any_pace = session_runs_at_any_pace;
  sessions_come_back = session_shows;
  refused_session_is_its_number = session_alone;
  session_boundaries = session_cases;
}

refusal_numbers : RefusalNumbers
refusal_numbers = record {
  exactly_if = exactly_if;
  reader_numbers = reader_numbers;
  writer_numbers = writer_numbers;
  reader_and_writer_exactly_if = frames-exactly;
  event_numbers = composer_numbers;
  power_event_numbers = power_numbers;
  composers_exactly_if = composing-exactly;
  map_numbers = order_numbers;
  check_numbers = check_numbers;
  look_numbers = look_numbers;
  calls_numbered = calls_numbered;
  tests_in_order = tests_in_order;
  calls_return_the_number = calls_reply;
  refusals_change_nothing = calls_refused;
  accepted_calls_act = calls_accepted;
}

trace_program : TraceProgram
trace_program = record {
  unit_adr = bench_files;
  files_numbered = files_numbered;
  one_byte_more = one_byte_more;
  record_bytes = entries-cases;
  four_bytes_each = four_each;
  thirteen_ends = thirteen_ends;
  one_check = one_check;
  one_after_other = one_after_other;
  cut_anywhere = cut_anywhere;
  read_anyhow = read_anyhow;
  one_read_more = go_on_reads;
  closed_by_flag = closed_by_flag;
  rest_is_kept = rest_kept;
}

wire_census : WireCensus
wire_census = record {
  counts_are = counts_are;
  classes_add_up = classes_add_up;
  census_number = number_is;
  unknown_ends = unknown_ends;
  unfinished_ends = unfinished_ends;
  nothing_after = nothing_after;
  nothing_there = nothing_there;
  slices_add_up = slices_add_up;
  slices_add_to = slices_add_to;
  clocks_ignored = clocks_ignored;
  reader_reads = reader_reads;
  figures_hold = figures_hold;
  figures_add_up = figures_add_up;
  capture_figures = capture_figures;
  all_frames = all_frames;
  census_boundaries = census_cases;
}

bench_sheet : BenchSheet
bench_sheet = record {
  sheet = unit-sheet-holds;
  frames_of_the_sheet = composing-sheet-holds;
  traces_of_the_sheet = bench_traces;
}

errors_seen : ErrorsSeen
errors_seen = record {
  only_a_last_byte_stores = write_not_last;
  event_breaks_pair = event_breaks_pair;
}

place_forms : PlaceForms
place_forms = record {
  word_gives_message = word_gives;
  message_has_the_word = gives_word;
  word_of_no_message = word_refused;
  reading_low_byte = words-low-byte;
  writing_low_byte = frames-low-byte;
  one_due = one_due;
  one_entry = one_entry;
  broken_is_13 = broken_is_13;
}

judging : Judging
judging = record {
  reader_and_writer_settled = frames-settled;
  words_settled = words_settled;
  composers_settled = composing-settled;
  map_settled = order_settled;
  check_settled = check_settled;
  look_at_settled = look_at_settled;
  look_number_settled = look_number_settled;
  look_settled = look_settled;
  find_settled = find_settled;
  find_word_settled = find_word_settled;
  compare_settled = compare_settled;
  compare_word_settled = compare_word_settled;
  session_settled = session_settled;
  session_word_settled = session_word_settled;
  census_settled = census_settled;
  add_settled = add_settled;
  numbers_settled = numbers_settled;
  calls_settled = calls_settled;
  entry_settled = entry_settled;
  four_bytes_settled = four_bytes_settled;
  rest_settled = rest_settled;
  run_settled = run_settled;
  go_on_settled = go_on_settled;
  who_settled = who_settled;
  files_settled = files_settled;
  packing_settled = settled;
  faces_settled = faces_settled;
  whole_value = whole_value;
}

c_library : CLibrary
c_library = record {
  state_comes_back = state_back;
  bytes_come_back = bytes_back;
  places_of_the_bytes = packing-cases;
  replies_come_back = replies_back;
  looks_come_back = looks_back;
  writings_come_back = writings_back;
  three_parts_come_back = three_parts_back;
  two_parts_come_back = two_parts_back;
  answers_low_byte = faces-low-byte;
  faces_numbered = faces_numbered;
  faces_not_cut = faces_not_cut;
  faces_refused = faces_refused;
  sheet_in_c = faces-cases;
  demand_in_c = demand_in_c;
  read_only_stay_in_c = read_only_stay_in_c;
  c_follows_the_unit = follows_unit;
  c_accepts_as_the_unit = accepts_as_unit;
  run_is_each_record = run_each;
  records_fit = records_fit;
}

pub claims : Claims
claims = record {
  frames = frames;
  map_store_image = map_store_image;
  why_missing = why_missing;
  examined = examined;
  two_images = two_images;
  state_clock = state_clock;
  commands_obeyed = commands_obeyed;
  complete_writing = complete_writing;
  session_writer = session_writer;
  refusal_numbers = refusal_numbers;
  trace_program = trace_program;
  wire_census = wire_census;
  bench_sheet = bench_sheet;
  errors_seen = errors_seen;
  place_forms = place_forms;
  judging = judging;
  c_library = c_library;
}
