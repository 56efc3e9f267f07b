-- What was seen of a store.
-- Assumes nothing.
use Rattle.std.specs.Prelude.{ℕ, ◌≤◌, ◌≡◌, List, length, take}

-- the store stands in front, where there is room for it
abbrev pub Seen : List ℕ → List ℕ → Type 0
Seen seen store = length store ≤ length seen → take (length store) seen ≡ store
