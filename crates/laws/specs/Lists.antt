-- Lists: made of numbered items, and tested item by item.
-- Assumes nothing.
use Rattle.std.specs.Prelude.{ℕ, zero, suc, List, [], ◌∷◌}
-- each item passes the test; some item does
pub use Rattle.std.specs.List.{list_all as every, list_any as some}

-- n items from number i on
abbrev pub items : {A : Type 0} → (ℕ → A) → ℕ → ℕ → List A
items item i zero = []
items item i (suc n) = item i ∷ items item (suc i) n
