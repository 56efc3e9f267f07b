-- Results that meet the same promise are equal, for each call.
-- Assumes nothing.
use mathlib.Core.Path.{sym, ◌∙◌}
use mathlib.Core.List.{List}
use Prim.Native.Nat.{ℕ}
use Rattle.laws.proofs.Settled.{settles}
use Rattle.compare.proofs.Numbered.{compare_word_settled}
use Rattle.session.proofs.Shown.{session_word_settled}
use Rattle.census.proofs.Settled.{add_settled}
use Rattle.faces.specs.Face.{Faced, Faces, RunFaced, RunFaces}
use Rattle.faces.specs.Promises.{SettlesFaced, SettlesRun, Settled}

faced : (f : Faced) → SettlesFaced (λ (a : ℕ) (s u : List ℕ). Faces a s u f)
faced f a b s t u v p q =
    (p.answers ∙ sym q.answers, p.state_is ∙ sym q.state_is, p.leaves ∙ sym q.leaves)

ran : (before : List ℕ) (f : RunFaced) → SettlesRun (λ (m : ℕ) (s u o : List ℕ). RunFaces m s u o before f)
ran before f m n s t u v o p q r = (
  q.counts ∙ sym r.counts,
  q.state_is ∙ sym r.state_is,
  q.leaves ∙ sym r.leaves,
  q.writes ∙ sym r.writes,
)

pub settled : Settled
settled =
    record {
      check = λ map store image. settles _;
      start = λ map store image address groups. faced _;
      frame = λ map store image bytes frame clock. faced _;
      power_on = λ map store image bytes. faced _;
      run = λ map store image bytes records before. ran before _;
      look = λ map store bank location. settles _;
      find = λ map bank location. settles _;
      compare = compare_word_settled;
      session = session_word_settled;
      census = add_settled;
      read = λ frame. settles _;
      write = λ word. settles _;
      compose_event = λ sort number primary short groups information scheme. settles _;
      compose_power = λ short groups. settles _;
    }
