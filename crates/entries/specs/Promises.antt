-- What is proved of records and slices: slices one after the other, and what stays of one.
-- Paper 01, "The trace program". Proved in proofs/: Joined, Moved and Settled.
-- Assumes nothing.
use Rattle.std.specs.Prelude.{ℕ, ◌+◌, ◌-◌, ◌*◌, ◌≤◌, ◌%◌, ◌≡◌, Bool, true, List, ◌++◌, eqb, length, take}
use Rattle.laws.specs.Settled.{Settles}
use Rattle.entries.specs.Entry.{four_bytes, entry_at, entries}
use Rattle.entries.specs.Slices.{KeepsRest}
use Rattle.entries.specs.declared.entry.Entry.{Entry}

-- the records of two slices, one after the other, the first of k whole records, are the records of both
abbrev pub EntriesJoined : Type 0
EntriesJoined = (a b : List ℕ) (k n : ℕ) → length a ≡ 8 * k → entries (a ++ b) (k + n) ≡ entries a k ++ entries b n

abbrev pub is_whole : List ℕ → Bool
is_whole slice = eqb (length slice % 8) 0

-- before what stays of a slice are whole records, and these with what stays are all that was read
pub record Rest (kept : ℕ) (before after : List ℕ) (filled : ℕ) : Type 0 where
  pub whole : is_whole (take (filled - kept) before) ≡ true
  pub all : take (filled - kept) before ++ take kept after ≡ take filled before

abbrev pub RestKept : Type 0
RestKept = (kept : ℕ) (before after : List ℕ) (filled : ℕ)
    → filled ≤ length before → KeepsRest kept before after filled → Rest kept before after filled

-- ---- what each call promises of its result r, and of the bytes it leaves

abbrev pub FourBytesPromise : ℕ → ℕ → ℕ → ℕ → ℕ → Type 0
FourBytesPromise a b c d r = r ≡ four_bytes a b c d

abbrev pub EntryAtPromise : List ℕ → ℕ → Entry → Type 0
EntryAtPromise bytes i r = r ≡ entry_at bytes i

abbrev pub KeepRestPromise : List ℕ → ℕ → ℕ → List ℕ → Type 0
KeepRestPromise before filled r left = KeepsRest r before left filled

-- ---- results meeting the same promise are equal

-- two results that meet one promise are equal, and so are the bytes that are left
abbrev pub SettlesRest : (ℕ → List ℕ → Type 0) → Type 0
SettlesRest promise = (q r : ℕ) (s t : List ℕ) → promise q s → promise r t → (q ≡ r) × (s ≡ t)

abbrev pub RestSettled : Type 0
RestSettled = (before : List ℕ) (filled : ℕ) → SettlesRest (KeepRestPromise before filled)

abbrev pub EntrySettled : Type 0
EntrySettled = (bytes : List ℕ) (i : ℕ) → Settles (EntryAtPromise bytes i)

abbrev pub FourBytesSettled : Type 0
FourBytesSettled = (a b c d : ℕ) → Settles (FourBytesPromise a b c d)
