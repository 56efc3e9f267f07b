-- What each call promises of its result r, and that two results meeting it are equal. Proved in proofs/: Settled.
-- Assumes nothing.
use Rattle.std.specs.Prelude.{◌≡◌, ℕ, ◌<◌, List, drop, Result}
use Rattle.std.specs.Borrow.{Bor}
use Rattle.laws.specs.Settled.{Settles}
use Rattle.frames.specs.declared.message.Message.{Message}
use Rattle.census.specs.Class.{class_of}
use Rattle.census.specs.Census.{census_of, added_to, end_number}
use Rattle.census.specs.Reader.{reader_of, next_of, moved_on, rest_of}
use Rattle.census.specs.declared.counts.Census.{Census}
use Rattle.census.specs.declared.next.Next.{Next}
use Rattle.census.specs.declared.reader.Reader.{Reader}

-- the class; 15 at most, which no frame has
abbrev pub ClassOfPromise : Result Message ℕ → ℕ → Type 0
ClassOfPromise reading r = (r ≡ class_of reading) × (r < 16)

-- the records from a place on; at the end, or past it, there are none
abbrev pub CountFromPromise : List ℕ → ℕ → Census → Type 0
CountFromPromise capture at r = r ≡ census_of (drop at capture)

abbrev pub CensusPromise : List ℕ → Census → Type 0
CensusPromise capture r = r ≡ census_of capture

-- the number, and each count added to what stands there
pub record AddCensusPromise (capture before : List ℕ) (r : ℕ) (after : List ℕ) : Type 0 where
  pub number : r ≡ end_number (census_of capture)
  pub counts : after ≡ added_to before (census_of capture)

abbrev pub NewPromise : Bor (List ℕ) → Reader → Type 0
NewPromise capture r = r ≡ reader_of capture

abbrev pub EntryPromise : Reader → Next → Type 0
EntryPromise reader r = r ≡ next_of reader

abbrev pub MovedPromise : Reader → Reader → Type 0
MovedPromise reader r = r ≡ moved_on reader

abbrev pub RestPromise : Reader → ℕ → Type 0
RestPromise reader r = r ≡ rest_of reader

-- ---- results that meet the same promise are equal

abbrev pub SettlesAdded : (ℕ → List ℕ → Type 0) → Type 0
SettlesAdded promise = (r s : ℕ) (after other : List ℕ) → promise r after → promise s other → (r ≡ s) × (after ≡ other)

abbrev pub AddSettled : Type 0
AddSettled = (capture before : List ℕ) → SettlesAdded (AddCensusPromise capture before)

pub record CensusSettled : Type 0 where
  pub class : (reading : Result Message ℕ) → Settles (ClassOfPromise reading)
  pub count_from : (capture : List ℕ) (at : ℕ) → Settles (CountFromPromise capture at)
  pub census : (capture : List ℕ) → Settles (CensusPromise capture)
  pub new : (capture : Bor (List ℕ)) → Settles (NewPromise capture)
  pub entry : (reader : Reader) → Settles (EntryPromise reader)
  pub moved : (reader : Reader) → Settles (MovedPromise reader)
  pub rest : (reader : Reader) → Settles (RestPromise reader)
