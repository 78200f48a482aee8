-- Marks of nodes: of each node the round in which it was marked last, 0 where it never was. What was marked in the round
-- of now is marked, so all marks go where the next round begins.
use Rattle.std.specs.Prelude.{ℕ, ◌+◌, ◌<◌, ◌≤◌, ◌==◌, All, Bool, true, false, List, [], ◌∷◌, map, refl}
use Rattle.std.specs.Coded.{Coded, code_by, coded×, coded_ℕ}
use Rattle.std.specs.FinSet as set
use Rattle.wasi_host.specs.Tree.{Nodes}
use Rattle.wasi_host.specs.TreeCode.{nodes_code}

abbrev pub marked_from : ℕ → List Bool → Nodes
marked_from k [] = set.empty
marked_from k (false ∷ marks) = marked_from (k + 1) marks
marked_from k (true ∷ marks) = set.insert (marked_from (k + 1) marks) k

-- the numbers whose mark is true
unfoldable pub marked : List Bool → Nodes
marked marks = marked_from 0 marks

-- of each node, whether it was marked last in this round
abbrev pub marks_in : ℕ → List ℕ → List Bool
marks_in round rounds = map (λ last. last == round) rounds

-- no round is 0, and nothing was marked in a round to come
pub record AreRounds (round : ℕ) (rounds : List ℕ) : Type 0 where
  pub begun : 0 < round
  pub past : All (λ last. last ≤ round) rounds

-- how many nodes there are, those that are marked, and how many more can come before memory is taken
pub record Marked : Type 0 where
  pub count : ℕ
  pub nodes : Nodes
  pub room : ℕ

abbrev pub marked_code : Coded Marked
marked_code =
    code_by (ℕ × (Nodes × ℕ)) (coded× coded_ℕ (coded× nodes_code coded_ℕ))
    (λ m. (m.count, (m.nodes, m.room))) (λ p. record { count = p.0; nodes = p.1.0; room = p.1.1 }) (λ _. refl)
