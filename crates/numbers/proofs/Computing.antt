-- What each floor computes with: to unfold one of these is to unfold all on its line.
-- Assumes nothing.
use Rattle.laws.specs.Bits.{bits}
use Rattle.laws.specs.Numbers.{first_failing}
use Rattle.laws.specs.Parts.{part, put}
use Rattle.frames.specs.Kind.{kind_of}
use Rattle.frames.specs.Values.{target_at}
use Rattle.frames.specs.Read.{read_of, command_of, address_of, target_of, event_of, scheme_of, other_of, field_of}
use Rattle.frames.specs.Read.{power_of as powerEventOf}
use Rattle.records.specs.Map.{record_at, records_of}
use Rattle.records.specs.Order.{size_holds}
use Rattle.records.specs.Lookup.{holder, if_first, beginner}
use Rattle.banks.specs.Rules.{lengths_hold, places_hold, bank_holds, banks_hold, head_byte_holds, head_holds, head_bytes_hold}
use Rattle.banks.specs.Values.{value_of, put_value, byte_at, lock_byte}
use Rattle.memory.specs.Staged.{unlocked, taken, bytes_with, take_byte, write_found, write_at, write_byte}
use Rattle.memory.specs.Latched.{latch_from, show_byte, read_at, read_byte as shownOf}
use Rattle.memory.specs.Rules.{staged_in, staged_holds, latched_in, latch_holds, zero_from}
use Rattle.hearing.specs.Meaning.{device_command, first_special, special_command, meaning_of}
use Rattle.hearing.specs.Pairs.{passed, in_time, completes}
use Rattle.rooms.specs.State.{with_who, with_registers, with_waiting, with_door, with_latch, powered_on, zero_state}
use Rattle.rooms.specs.Rules.{waiting_holds, door_holds, state_holds}
use Rattle.rooms.specs.Due.{dtr_of, with_dtr, group_byte, group_word}

unfoldable pub reading : Unit {0}
unfolding bits kind_of target_at read_of command_of address_of target_of event_of scheme_of other_of field_of powerEventOf
reading = tt

unfoldable pub checking : Unit {0}
unfolding size_holds lengths_hold places_hold bank_holds banks_hold head_byte_holds head_holds head_bytes_hold
checking = tt

unfoldable pub looking : Unit {0}
unfolding first_failing part put record_at records_of holder if_first beginner value_of put_value byte_at lock_byte
looking = tt

unfoldable pub meaning : Unit {0}
unfolding device_command first_special special_command meaning_of passed in_time completes
meaning = tt

unfoldable pub storing : Unit {0}
unfolding unlocked taken bytes_with take_byte write_found write_at write_byte latch_from show_byte read_at shownOf
storing = tt

unfoldable pub keeping : Unit {0}
unfolding staged_in staged_holds latched_in latch_holds zero_from waiting_holds door_holds state_holds
keeping = tt

unfoldable pub rooms : Unit {0}
unfolding with_who with_registers with_waiting with_door with_latch powered_on zero_state dtr_of with_dtr group_byte group_word
rooms = tt
