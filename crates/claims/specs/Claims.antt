-- What the project stands for, on one page: one field for each statement, under the headings of paper 01 and in its
-- order, the paper's words above the field. Proved in proofs/Claims.antt, which names the theorem of each field.
-- A new statement: a line here under its heading, and a line there in the same place. tests/25-promises says which
-- statement of the project has no field, and is not listed in docs/PROMISES.md as a law for the floor above.
-- Assumes nothing.
use Rattle.std.specs.Prelude.{ℕ, List}
use Rattle.laws.specs.Numbers.{Test, ExactlyIf}
use Rattle.frames.specs.Promises.{WritesBack, ReadsBack, OneMessage, WritingsFit, LowByte as FramesLowByte}
use Rattle.frames.specs.Promises.{Settled as FramesSettled}
use Rattle.frames.specs.Refusals.{Reserved14, Reserved59, ReaderNumbers, WriterNumbers, Exactly as FramesExactly}
use Rattle.words.specs.Promises.{WordGives, GivesWord, WordRefused, LowByte as WordsLowByte, Settled as WordsSettled}
use Rattle.composing.specs.Promises.{Composes, AsShipped, Carries, FallsBack, ComposesPower, Lowest}
use Rattle.composing.specs.Promises.{Settled as ComposingSettled}
use Rattle.composing.specs.Refusals.{ComposerNumbers, PowerNumbers, Exactly as ComposingExactly}
use Rattle.composing.specs.Bench.{SheetHolds as ComposingSheetHolds}
use Rattle.composing.specs.Cases.{ComposeCases}
use Rattle.records.specs.Promises.{OrderStands, OrderNumbers, OrderSettled, OneAnswer}
use Rattle.records.specs.Promises.{VisitedBound, VisitedExactly, VisitedMost, VisitedNone, VisitedBelow}
use Rattle.records.specs.Promises.{VisitedDistinct, VisitedTells, AnswerTells}
use Rattle.records.specs.Cases.{OrderCases}
use Rattle.records.specs.HalvingCases.{CountCases}
use Rattle.banks.specs.Promises.{CheckStands, CheckNumbers, CheckSettled}
use Rattle.banks.specs.Cases.{CheckCases}
use Rattle.looks.specs.Promises.{LookShows, LookStands, LookEmpty, LookNumbers, LookAtSettled, LookNumberSettled}
use Rattle.looks.specs.Promises.{LookSettled}
use Rattle.looks.specs.Cases.{LookCases}
use Rattle.finds.specs.Promises.{FindSays, FindRefuses, FindNumbers, FindStands, FindShows, FindAlone, FindSettled}
use Rattle.finds.specs.Promises.{FindMost, FindWordSettled}
use Rattle.finds.specs.Cases.{FindCases}
use Rattle.compare.specs.Promises.{CompareNumbers, CompareStands, SecondGives11, DifferingExactly, ValuesListed}
use Rattle.compare.specs.Promises.{ListRises, OutputShows, PastStays, CompareRefuses, CompareMost, NewFromOld, OldFromNew}
use Rattle.compare.specs.Promises.{CompareShows, CompareAlone, CompareSettled, CompareWordSettled}
use Rattle.compare.specs.Cases.{CompareCases}
use Rattle.session.specs.Promises.{SessionNumbers, SessionStands, SessionNotCut, SessionPlaces, SessionReads, SessionRefuses}
use Rattle.session.specs.Promises.{SessionShows, SessionAlone, SessionSettled, SessionWordSettled}
use Rattle.session.specs.Running.{SessionRuns, SessionRunsAtAnyPace}
use Rattle.session.specs.Cases.{SessionCases}
use Rattle.entries.specs.Cases.{Cases as EntriesCases}
use Rattle.entries.specs.Promises.{RestKept, EntrySettled, RestSettled, FourBytesSettled}
use Rattle.entries.specs.Codes.{OneEntry, BrokenIs13}
use Rattle.census.specs.Facts.{CountsAre, ClassesAddUp, NumberIs, UnknownEnds, UnfinishedEnds, NothingAfter, NothingThere}
use Rattle.census.specs.Facts.{SlicesAddUp, SlicesAddTo, ClocksIgnored}
use Rattle.census.specs.Figures.{FiguresHold, FiguresAddUp, CaptureFigures, AllFrames}
use Rattle.census.specs.Reader.{ReaderReads}
use Rattle.census.specs.Cases.{CensusCases}
use Rattle.census.specs.Promises.{CensusSettled, AddSettled}
use Rattle.memory.specs.Promises.{WriteValue, ReadLatched, FillValue, FillLocks, WriteNotLast, WholeValue, ReadFirst}
use Rattle.memory.specs.Promises.{ReadOther, ReadNone}
use Rattle.memory.specs.Cases.{ReadCases, ResetCases}
use Rattle.memory.specs.Reset.{FillResets, ResetSettled}
use Rattle.hearing.specs.declared.heard.Who.{Who}
use Rattle.hearing.specs.declared.heard.Heard.{Heard}
use Rattle.hearing.specs.Promises.{PairClocks, NoPair, ForTheUnit, SpecialForAll, CodeStands, EventForeign}
use Rattle.hearing.specs.Promises.{ReservedForeign, ElevenKeep, ClosesExactly, ListedExactly}
use Rattle.rooms.specs.Promises.{ShortTakesAddress}
use Rattle.rooms.specs.Codes.{OneDue}
use Rattle.numbers.specs.Cases.{StateCases, StartCases}
use Rattle.numbers.specs.Promises.{CallsNumbered, TestsInOrder, NumbersSettled}
use Rattle.unit.specs.Keeping.{CallsPowerOn, CallsKeepStore, CallsAcceptedAgain, RunAccepted, OneValueChanges, ResetDue}
use Rattle.unit.specs.Keeping.{StepResets}
use Rattle.unit.specs.Leaving.{ForeignPassesBy, FramesLeave, EventBreaksPair}
use Rattle.unit.specs.Worked.{WorkedHold, TwoBanksHold}
use Rattle.unit.specs.Closing.{EveryCommandCloses, ClosingHolds}
use Rattle.unit.specs.Promises.{CallsReply, CallsRefused, CallsAccepted, CallsSettled}
use Rattle.unit.specs.Bench.{SheetHolds as UnitSheetHolds}
use Rattle.history.specs.Machine.{Machine, unit_machine}
use Rattle.history.specs.Demand.{Demand, ReadOnlyStay, LockByGrammar, InOrder, OthersFollow}
use Rattle.history.specs.Bench.{P11Writing, P12NoWriting}
use Rattle.history.specs.Wrong.{WrongOnesFail}
use Rattle.history.specs.Through.{LetsThroughExactly}
use Rattle.history.specs.Use.{AlwaysWhole, RefusedExactly, RefusedChangeNothing}
use Rattle.tracing.specs.Bench.{BenchFiles, BenchTraces}
use Rattle.tracing.specs.Promises.{FilesNumbered, OneByteMore, FourEach, ThirteenEnds, OneCheck, OneAfterOther}
use Rattle.tracing.specs.Promises.{CutAnywhere, RunSettled, WhoSettled, FilesSettled}
use Rattle.tracing.specs.Reads.{ReadAnyhow, GoOnReads, ClosedByFlag, GoOnSettled}
use Rattle.packing.specs.Promises.{StateBack, BytesBack, Settled}
use Rattle.packing.specs.Cases.{Cases as PackingCases}
use Rattle.faces.specs.Promises.{Settled as FacesSettled, RepliesBack, LooksBack, WritingsBack, ThreePartsBack, TwoPartsBack}
use Rattle.faces.specs.Promises.{LowByte as FacesLowByte, FacesNumbered, FacesNotCut, FacesRefused}
use Rattle.faces.specs.Cases.{Cases as FacesCases}
use Rattle.lifted.specs.Promises.{DemandInC, ReadOnlyStayInC, FollowsUnit, AcceptsAsUnit, RunEach, RecordsFit}

-- ---- Frames

pub record Frames : Type 0 where
  -- "every frame that reads writes back to itself" (the mission)
  pub what_reads_writes_back : WritesBack
  -- "what is written reads back the same" (the mission)
  pub what_is_written_reads_back : ReadsBack
  -- so no two messages have one frame, and no refusal is one
  pub one_message : OneMessage
  -- "A frame is a number below 16,777,216": what is written is one
  pub written_frames_fit : WritingsFit
  -- "The other 14 odd bytes are reserved"
  pub fourteen_reserved : Reserved14
  -- "the other 59 are reserved"
  pub fifty_nine_reserved : Reserved59
  -- "Composing an event": what is in range is a frame, and reads back as the event of its scheme
  pub events_are_composed : Composes
  -- "255 for "as shipped"", which is 2 by paper 02, Item 8: "255 becomes 2. Without a short address it falls back to 0
  -- as before"
  pub as_shipped : AsShipped
  -- "Scheme 0 type and number; 1 short address and type; 2 short address and number; 3 lowest device group and type; 4
  -- primary group and type"
  pub schemes_carry : Carries
  -- "A scheme whose field is missing (255, or no group) falls back to 0"
  pub missing_field_falls_back : FallsBack
  -- "A power event is composed from a short address and 32 group bits"
  pub power_events_are_composed : ComposesPower
  -- "Lowest member group by trailing zeros of the 32 group bits, for scheme 3 and the power event"
  pub lowest_group : Lowest
  -- each boundary of what is composed, in one table
  pub composing_boundaries : ComposeCases

-- ---- Map, store, reset image

pub record MapStoreImage : Type 0 where
  -- "The map is records of 8 bytes", to "Records rise strictly by (bank, first) and don't overlap": 7 to 9 pass
  -- exactly what keeps this
  pub map_stands : OrderStands
  -- each boundary of it, in one table
  pub map_boundaries : OrderCases
  -- "Store and reset image are equally long", to "Bank 0 has only kinds 0, 1, 3": and so do 10 and 11
  pub store_stands : CheckStands
  -- each boundary of it, in one table
  pub store_boundaries : CheckCases
  -- "The look call hands the caller the stored bytes themselves"
  pub look_shows_the_value : LookShows
  -- "for a value that begins at a given bank and location"
  pub look_finds_what_begins_there : LookStands
  -- "On refusal it gives the empty part; a companion call gives the number"
  pub refused_look_is_empty : LookEmpty
  -- each boundary of a look, in one table
  pub look_boundaries : LookCases

-- ---- Why a location is missing (paper 02, Item 4)

pub record WhyMissing : Type 0 where
  -- "The lookup should say which: bank absent, hole with the next mapped location in that bank, or past the bank's last
  -- one": each, and a value that holds it, exactly if; and with it the count of Item 5
  pub find_says_which : FindSays
  -- of these four one is always so, and no two are
  pub one_answer : OneAnswer
  -- a map that breaks 7, 8 or 9 gets that number, and no answer
  pub find_refuses : FindRefuses
  -- each boundary of a find, in one table
  pub find_boundaries : FindCases
  -- as one number: 7, 8, 9, then 6 for a bank or location that is no byte, exactly if
  pub find_numbers : FindNumbers
  -- and 0 exactly if none of them
  pub find_stands : FindStands
  -- each part of the answer stands in its bits
  pub finds_come_back : FindShows
  -- and a refusal is its number alone
  pub refused_find_is_its_number : FindAlone

-- ---- How many records one lookup examines (paper 02, Item 5)

pub record Examined : Type 0 where
  -- "Report the count": a find does, `find_says_which`; of its look-up, at most 7 whatever is handed in
  pub find_counts_at_most_7 : FindMost
  -- "the length of the list of record positions that the halving rule in your definition visits, at most 7 with 64 records"
  pub at_most_7 : VisitedMost
  -- "and 0 with none"
  pub none_of_none : VisitedNone
  -- of fewer than 2 ^ k records at most k
  pub at_most_k : VisitedBound
  -- and no smaller number would do for a map
  pub no_smaller : VisitedExactly
  -- each position is that of a record
  pub positions_of_records : VisitedBelow
  -- and none is visited twice
  pub none_twice : VisitedDistinct
  -- what other records hold changes nothing: where two maps agree at these positions, the list is the same
  pub list_by_these_alone : VisitedTells
  -- and so is the answer, with its reason
  pub answer_by_these_alone : AnswerTells
  -- of 64 records 7, and other counts, in one table
  pub count_boundaries : CountCases

-- ---- Compare two images (paper 02, Item 1)

pub record TwoImages : Type 0 where
  -- "Both stores must pass numbers 7 to 11, the first store tested first, each with the other in the image's place. Output room
  -- too small for the whole list is number 15": exactly if
  pub compare_numbers : CompareNumbers
  -- and 0 exactly if none of them: room of exactly the list is enough
  pub compare_stands : CompareStands
  -- after the first store has passed, the second can only give 11
  pub second_gives_11 : SecondGives11
  -- "a list of the values that differ": a value is listed exactly if it is in the map and its bytes differ
  pub values_listed : ValuesListed
  -- and so of the positions in the map
  pub positions_listed : DifferingExactly
  -- "Each differing value once, in map order": they rise strictly
  pub in_map_order : ListRises
  -- "One record of 24 bytes each, no header: bank, first location, width, kind, four zeros, old bytes, new bytes (each 8, zero
  -- filled at the end)"
  pub records_show : OutputShows
  -- "Bytes past the list stay"
  pub past_stays : PastStays
  -- a refusal "leaves the output untouched", 15 too, and has no count
  pub refusal_leaves_the_output : CompareRefuses
  -- whatever is handed in, the count is at most 64
  pub at_most_64 : CompareMost
  -- what the list is for: its new bytes, put onto the old store, give every value of the new one
  pub new_from_old : NewFromOld
  -- and its old bytes, put onto the new store, every value of the old one
  pub old_from_new : OldFromNew
  -- as one number: each part stands in its bits
  pub comparisons_come_back : CompareShows
  -- and a refusal is its number alone
  pub refused_comparison_is_its_number : CompareAlone
  -- each boundary of a comparison, in one table
  pub compare_boundaries : CompareCases

-- ---- State and clock

pub record StateClock : Type 0 where
  -- "Start takes address and groups and acts as a power-on: DTRs 0 (house); nothing waiting, enabled, staged or
  -- latched; lock bytes 0xFF; other RAM-RW values from the reset image. A later power-on does the same and keeps
  -- address and groups"
  pub start_and_power_on : CallsPowerOn
  -- start and power-on change no other value, and a frame only writable ones
  pub store_is_kept : CallsKeepStore
  -- "Rules of a state": each boundary, in one table
  pub state_boundaries : StateCases
  -- "the address is 0..63 or 255": each boundary at a start, in one table
  pub address_boundaries : StartCases
  -- what an accepted call leaves keeps every rule
  pub accepted_stays_accepted : CallsAcceptedAgain
  -- so after an accepted start no power-on and no frame is refused
  pub run_is_accepted : RunAccepted
  -- "The clock counts milliseconds in 32 bits and runs over", "at most 100 (house)"
  pub pair_clocks : (frame : ℕ) → PairClocks frame
  -- "Two frames are a pair if equal, accepted in direct succession": else there is none
  pub no_pair : (heard : Heard) → NoPair heard

-- ---- Commands obeyed

pub record CommandsObeyed : Type 0 where
  -- "A command is for the unit if its short address or group matches, if broadcast, if broadcast unaddressed while its
  -- address is 255"
  pub for_the_unit : (who : Who) → ForTheUnit who
  -- "or if special"
  pub special_for_all : SpecialForAll
  -- "With instance byte 0xFE: ..", "Special: ..": the bytes of each listed command, and no other is obeyed
  pub listed_bytes : CodeStands
  -- both ways: a frame for the unit with these bytes, and no other, has that meaning
  pub listed_exactly : ListedExactly
  -- an event is for no unit
  pub event_is_foreign : EventForeign
  -- nor is a reserved frame: "such a frame only clears the waiting one"
  pub reserved_is_foreign : ReservedForeign
  -- "SET SHORT ADDRESS takes DTR0 if below 0x40 or 255, else does nothing"
  pub short_takes_address : ShortTakesAddress
  -- "Otherwise any frame clears the waiting one": what is for no unit does no more
  pub foreign_passes_by : ForeignPassesBy
  -- "Write-enable keeps through the three writes, the five DTR commands and QUERY CONTENT DTR0..2"
  pub eleven_keep : ElevenKeep
  -- "From now on every command for the unit closes it, except the eleven that keep it: any device, instance or feature
  -- command, and any special one. Reserved bytes still don't" (paper 02, Item 6)
  pub closes_exactly : (who : Who) (f : ℕ) → ClosesExactly who f
  -- and of the unit's step: the door behind any frame
  pub every_command_closes : EveryCommandCloses
  -- what each command leaves alone; "Writes and resets don't touch it" (the latch)
  pub frames_leave : FramesLeave
  -- in a frame step that is no reset at most one value changes
  pub one_value_changes : OneValueChanges
  -- "A last byte puts the whole value in the store"
  pub last_byte_puts_the_value : WriteValue
  -- "Reading a first or single byte ends any latch; a first byte of width 2 or more latches that value's bytes"
  pub first_byte_ends_the_latch : ReadFirst
  -- "its later bytes are answered from the latch"
  pub later_bytes_from_the_latch : ReadLatched
  -- a later byte of any other value, of another bank too, is answered from the store
  pub other_bytes_from_the_store : ReadOther
  -- "or none if the location is unmapped"
  pub unmapped_has_no_answer : ReadNone
  -- reads with and without a latch, in one table
  pub read_boundaries : ReadCases
  -- "RESET MEMORY BANK: DTR0=0 means each mapped bank 1..199, else bank DTR0; only a bank whose lock byte is 0x55. Its
  -- other writable values take the reset image, its lock byte 0xFF"
  pub reset_of_the_store : FillResets
  -- and this tells the whole store
  pub reset_is_settled : ResetSettled
  -- resets of banks 1 and 2, in one table
  pub reset_boundaries : ResetCases
  -- such a pair for the unit, and no other frame, makes a reset due
  pub reset_needs_its_pair : ResetDue
  -- and, accepted, it leaves the store so
  pub reset_step : StepResets
  -- "Its other writable values take the reset image"
  pub reset_fills_values : FillValue
  -- "its lock byte 0xFF"
  pub reset_locks : FillLocks
  -- runs of the commands on the bench map, in one table
  pub worked_runs : WorkedHold
  -- runs on a map with banks 1 and 2, in one table
  pub two_bank_runs : TwoBanksHold
  -- runs with one to three frames more while write-enable is open, in one table
  pub closing_runs : ClosingHolds

-- ---- Grammar of a complete writing: demand 3

pub record CompleteWriting : Type 1 where
  -- whatever is sent, in whatever order, and wherever it is cut off: each writable value is whole at every point
  pub unit_demand : Demand unit_machine
  -- of any machine: its first two lines, at every accepted point, give the others
  pub rest_follows_from_two : {S : Type 0} (machine : Machine S) → OthersFollow machine
  -- joined to use: after an accepted start every list of power-ons and frames is accepted, and whole at every point
  pub always_whole : AlwaysWhole unit_machine
  -- with refused frames among them too: which number the next input has
  pub refused_exactly : RefusedExactly unit_machine
  -- and such a list comes to the same as the list without them
  pub refused_inputs_change_nothing : RefusedChangeNothing unit_machine
  -- beside it: a value that is not writable is what it was before the start
  pub unit_read_only : ReadOnlyStay unit_machine
  -- "The grammar of demand 3 lets through, besides those eleven, only events, reserved frames and commands not for this
  -- unit" (paper 02, Item 6)
  pub lets_through_exactly : LetsThroughExactly
  -- "the lock byte by this same grammar"
  pub lock_by_grammar : LockByGrammar
  -- "worked out from start, map and list": a history is the list of a run, the newest first
  pub history_in_order : InOrder
  -- the grammar is not empty: P11 has a complete writing
  pub p11_has_a_writing : P11Writing
  -- and P12 has none
  pub p12_has_none : P12NoWriting
  -- "The unit that stores only the first value, then just answers, falls to demand 3", and so do two others
  pub wrong_ones_fail : WrongOnesFail

-- ---- A session writer (paper 02, Item 2)

pub record SessionWriter : Type 0 where
  -- "Tested in order: 7, 8, 9, then 14 where no value begins, 16 if it isn't writable, 6 for a wrong byte count or an address
  -- over 63": exactly if
  pub session_numbers : SessionNumbers
  -- and 0 exactly if none of them
  pub session_stands : SessionStands
  -- a bank or location that does not fit a byte is not cut: 14
  pub session_not_cut : SessionNotCut
  -- a refusal has its number, and no frame
  pub refused_session_has_no_frame : SessionRefuses
  -- at most 13 frames, and unused places are 0, whatever is handed in
  pub places_of_the_frames : SessionPlaces
  -- "DTR1 first, which clears any waiting frame; the ENABLE pair; the bytes in order; and for a lockable value lock byte 0x55
  -- before them and 0xFF after": so the frames read
  pub frames_read_so : SessionReads
  -- "With frames 1 ms apart, no others on the wire and a unit holding that address, running them from any accepted state leaves
  -- the value as given, the lock byte of a lockable value 0xFF, and every other store byte as it was"
  pub session_runs : SessionRuns
  -- and so at any other pace, if the second ENABLE comes at most 100 ms behind the first
  pub session_runs_at_any_pace : SessionRunsAtAnyPace
  -- as one number: each part stands in its bits
  pub sessions_come_back : SessionShows
  -- and a refusal is its number alone
  pub refused_session_is_its_number : SessionAlone
  -- the bench unit's nine frames, run from states that it has reached, and each boundary, in one table
  pub session_boundaries : SessionCases

-- ---- Refusal numbers

pub record RefusalNumbers : Type 0 where
  -- "Given exactly if": the first test of a list that fails
  pub exactly_if : (tests : List Test) → ExactlyIf tests
  -- "The reader tests 1, 2, 3, 4, 5"
  pub reader_numbers : ReaderNumbers
  -- "field out of range: writer"
  pub writer_numbers : WriterNumbers
  -- each exactly if
  pub reader_and_writer_exactly_if : FramesExactly
  -- "field out of range: .. composer": of an event
  pub event_numbers : ComposerNumbers
  -- and of a power event
  pub power_event_numbers : PowerNumbers
  -- each exactly if
  pub composers_exactly_if : ComposingExactly
  -- 7 to 9, of a map by itself, exactly if
  pub map_numbers : OrderNumbers
  -- 7 to 11, exactly if
  pub check_numbers : CheckNumbers
  -- "The look calls test 7 to 11, then 14", exactly if
  pub look_numbers : LookNumbers
  -- "A frame step or a later power-on tests 7 to 12, each over everything, a frame then 1", "Start tests 7 to 11,
  -- then 6": exactly if
  pub calls_numbered : CallsNumbered
  -- in that order
  pub tests_in_order : TestsInOrder
  -- "A refusal returns the number"
  pub calls_return_the_number : CallsReply
  -- "state and store stay. A refused start's state is all zeros"
  pub refusals_change_nothing : CallsRefused
  -- and with number 0 a call does what its definition says
  pub accepted_calls_act : CallsAccepted

-- ---- The trace program

pub record TraceProgram : Type 0 where
  -- "address, then 32 group bits, high byte first"
  pub unit_adr : BenchFiles
  -- "a wrong length of unit.adr is 6": the number of the files, exactly if
  pub files_numbered : FilesNumbered
  -- a file longer than its limit is seen to be longer
  pub one_byte_more : OneByteMore
  -- "records of 8 bytes: clock (4, high first), kind 0 frame or 1 power-on, frame (3)"
  pub record_bytes : EntriesCases
  -- "Per record it writes 4 bytes"
  pub four_bytes_each : FourEach
  -- "Refusal 13, its 4 bytes written, ends the input; the store still follows"
  pub thirteen_ends : ThirteenEnds
  -- map, store, image and state are tested once for a whole run
  pub one_check : OneCheck
  -- a run behind a run is one run
  pub one_after_other : OneAfterOther
  -- however the input is cut, the trace is the same
  pub cut_anywhere : CutAnywhere
  -- and however many bytes each read gives
  pub read_anyhow : ReadAnyhow
  -- what the program does with a read is one read more
  pub one_read_more : GoOnReads
  -- "the store still follows": behind 13's four bytes if an unfinished record is left
  pub closed_by_flag : ClosedByFlag
  -- what is read of an unfinished record waits for its other bytes
  pub rest_is_kept : RestKept

-- ---- Count what the wire carried (paper 02, Item 7)

pub record WireCensus : Type 0 where
  -- "how many commands by address kind, events by scheme, power cycles, reserved and malformed frames": each count is how many
  -- frame records before the end are of its class. "Power-on records are counted apart"
  pub counts_are : CountsAre
  -- "The classes add up to the frame records read"
  pub classes_add_up : ClassesAddUp
  -- "Number 13": exactly if a record is unfinished or of unknown kind; and 0 exactly if none is
  pub census_number : NumberIs
  -- it "ends the count and is counted nowhere; the counts so far stand": a record of unknown kind, with anything behind it
  pub unknown_ends : UnknownEnds
  -- and an unfinished one
  pub unfinished_ends : UnfinishedEnds
  -- nothing behind it is read
  pub nothing_after : NothingAfter
  -- an empty capture is 0, and so is a place at the end or past it
  pub nothing_there : NothingThere
  -- a capture cut into slices of whole records adds up to the same
  pub slices_add_up : SlicesAddUp
  -- and so do the counts of a call that adds to them, modulo 2^64
  pub slices_add_to : SlicesAddTo
  -- clocks do not matter
  pub clocks_ignored : ClocksIgnored
  -- "The reader keeps the capture and its place together": moved on, it meets each record in turn, and then the end
  pub reader_reads : ReaderReads
  -- "Over all 16,777,216 frames once each": how many there are of each class
  pub figures_hold : FiguresHold
  -- "commands addressed and well formed 4,942,336", the four address kinds together; and the classes are all frames
  pub figures_add_up : FiguresAddUp
  -- and so in any capture that has each frame once, in any order
  pub capture_figures : CaptureFigures
  -- of which the one that has them in their order is one
  pub all_frames : AllFrames
  -- a frame of each class, captures by their bytes, and a reader's places, in one table
  pub census_boundaries : CensusCases

-- ---- Bench sheet

pub record BenchSheet : Type 0 where
  -- P1 to P12 and the two lines after them: "a single table and statement"
  pub sheet : UnitSheetHolds
  -- its frames by themselves, P1 to P10
  pub frames_of_the_sheet : ComposingSheetHolds
  -- P11 and P12 as the trace program reads and writes them
  pub traces_of_the_sheet : BenchTraces

-- ---- Errors fitters have seen

pub record ErrorsSeen : Type 0 where
  -- "Storing each byte as it comes": unless it is a last byte that is taken, the store stays
  pub only_a_last_byte_stores : WriteNotLast
  -- "Letting an event between two halves pass as a pair"; the third error, a late lock, is one of `worked_runs`
  pub event_breaks_pair : EventBreaksPair

-- ---- What each place should look like

pub record PlaceForms : Type 0 where
  -- "Where an answer is an enum, a definition states this paper's number and values for each of its cases": a reading's
  -- word gives the reading
  pub word_gives_message : WordGives
  -- a word that gives a message is that message's
  pub message_has_the_word : GivesWord
  -- and 6 is given exactly if no message has the word
  pub word_of_no_message : WordRefused
  -- the low byte of a reading's word is its number
  pub reading_low_byte : WordsLowByte
  -- and that of a writing's
  pub writing_low_byte : FramesLowByte
  -- number and values tell apart what is due
  pub one_due : OneDue
  -- and the records of a trace
  pub one_entry : OneEntry
  -- where a broken one's number is 13
  pub broken_is_13 : BrokenIs13

-- ---- How the promises are judged: "results meeting the same promise are equal"

pub record Judging : Type 0 where
  -- of the reader and the writer
  pub reader_and_writer_settled : FramesSettled
  -- of a reading's word
  pub words_settled : WordsSettled
  -- of the composers
  pub composers_settled : ComposingSettled
  -- of the tests of a map by itself
  pub map_settled : OrderSettled
  -- of the tests of map, store and image
  pub check_settled : CheckSettled
  -- of a look's place
  pub look_at_settled : LookAtSettled
  -- of its number
  pub look_number_settled : LookNumberSettled
  -- of its part: the bytes ("or list the exception")
  pub look_settled : LookSettled
  -- of a find
  pub find_settled : FindSettled
  -- of its one number
  pub find_word_settled : FindWordSettled
  -- of a comparison: number, count and output
  pub compare_settled : CompareSettled
  -- of its one number, and the output
  pub compare_word_settled : CompareWordSettled
  -- of a session
  pub session_settled : SessionSettled
  -- of its one number, and the frames in the lent array
  pub session_word_settled : SessionWordSettled
  -- of a class, a census, and a reader's place
  pub census_settled : CensusSettled
  -- of a census that is added: number and counts
  pub add_settled : AddSettled
  -- of the numbers of start, power-on and frame step
  pub numbers_settled : NumbersSettled
  -- of start, power-on and frame step: answer, state and store
  pub calls_settled : CallsSettled
  -- of a trace record
  pub entry_settled : EntrySettled
  -- of four bytes, high byte first
  pub four_bytes_settled : FourBytesSettled
  -- of what stays of a slice
  pub rest_settled : RestSettled
  -- of a run: count, state, store and output
  pub run_settled : RunSettled
  -- of a read of the trace program
  pub go_on_settled : GoOnSettled
  -- of unit.adr
  pub who_settled : WhoSettled
  -- of the number of the files
  pub files_settled : FilesSettled
  -- of a state as 96 bytes
  pub packing_settled : Settled
  -- of the thirteen calls of the C library
  pub faces_settled : FacesSettled
  -- "Facts over widths 1 to 8 are shown once, over the width": n writes leave the whole value
  pub whole_value : WholeValue

-- ---- The C library (docs/UNIT.md; not in paper 01)

pub record CLibrary : Type 0 where
  -- a state comes back from its 96 bytes
  pub state_comes_back : StateBack
  -- and 96 bytes from their state
  pub bytes_come_back : BytesBack
  -- their places, in one table
  pub places_of_the_bytes : PackingCases
  -- each part of a reply stands in its bits
  pub replies_come_back : RepliesBack
  -- and of a look's answer
  pub looks_come_back : LooksBack
  -- and of a written frame's
  pub writings_come_back : WritingsBack
  -- and of any three bare numbers put in one so, whether an answer holds them or not
  pub three_parts_come_back : ThreePartsBack
  -- and of any two
  pub two_parts_come_back : TwoPartsBack
  -- the low byte of every answer but a run's is the number
  pub answers_low_byte : FacesLowByte
  -- numbers exactly if
  pub faces_numbered : FacesNumbered
  -- a number that does not fit a byte is refused and not cut
  pub faces_not_cut : FacesNotCut
  -- a refusal changes nothing
  pub faces_refused : FacesRefused
  -- the bench sheet as C sees it, in one table
  pub sheet_in_c : FacesCases
  -- demand 3 of the unit as C sees it: 96 bytes, mf_start, mf_frame, mf_power_on
  pub demand_in_c : DemandInC
  -- and a value that is not writable is what it was before the start
  pub read_only_stay_in_c : ReadOnlyStayInC
  -- after every history that C can be told, its unit is ours
  pub c_follows_the_unit : FollowsUnit
  -- and accepts exactly what ours accepts of it
  pub c_accepts_as_the_unit : AcceptsAsUnit
  -- mf_run: each record as mf_frame or mf_power_on would do it
  pub run_is_each_record : RunEach
  -- which holds of any records of bytes
  pub records_fit : RecordsFit

-- ---- The page

pub record Claims : Type 1 where
  pub frames : Frames
  pub map_store_image : MapStoreImage
  pub why_missing : WhyMissing
  pub examined : Examined
  pub two_images : TwoImages
  pub state_clock : StateClock
  pub commands_obeyed : CommandsObeyed
  pub complete_writing : CompleteWriting
  pub session_writer : SessionWriter
  pub refusal_numbers : RefusalNumbers
  pub trace_program : TraceProgram
  pub wire_census : WireCensus
  pub bench_sheet : BenchSheet
  pub errors_seen : ErrorsSeen
  pub place_forms : PlaceForms
  pub judging : Judging
  pub c_library : CLibrary
