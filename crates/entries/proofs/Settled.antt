-- Two records that meet a promise are equal.
-- Assumes nothing.
use Rattle.laws.proofs.Settled.{settles}
use Rattle.entries.specs.Entry.{four_bytes, entry_at}
use Rattle.entries.specs.Promises.{EntrySettled, FourBytesSettled}

pub entry_settled : EntrySettled
entry_settled bytes i = settles (entry_at bytes i)

pub four_bytes_settled : FourBytesSettled
four_bytes_settled a b c d = settles (four_bytes a b c d)
