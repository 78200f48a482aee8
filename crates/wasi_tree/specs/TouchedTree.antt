-- A tree with its touched nodes, and what a call does to it. Nothing fails here but for out of memory.
use Rattle.std.specs.Prelude.{◌≡◌, ◌⊎◌, ℕ, ◌++◌, List, Option, Result, Ok, Err, refl}
use Rattle.std.specs.FinSet.{insert}
use Rattle.std.specs.Coded.{Coded, code_by, coded×, coded_ℕ, coded_list, coded_option}
use Rattle.wasi_host.specs.Tree.{Tree, Nodes}
use Rattle.wasi_host.specs.TreeCode.{tree_code, nodes_code}
use Rattle.wasi_host.specs.HostCall.{HostCall}
use Rattle.wasi_host.specs.Answer.{HostAnswer, host_answer}
use Rattle.wasi_host.specs.Step.{step, found_by, made_by, with_nodes}
use Rattle.wasi_host.specs.declared.errors.ErrorCode.{ErrorCode}
use Rattle.wasi_host.specs.declared.errors.HostError.{HostError}
use Rattle.wasi_host.specs.declared.errors.HostError.TheVariants.{Code, Memory}

pub record Touched : Type 0 where
  pub tree : Tree
  pub touched : Nodes

abbrev pub touched_code : Coded Touched
touched_code =
    code_by (Tree × Nodes) (coded× tree_code nodes_code)
    (λ s. (s.tree, s.touched)) (λ p. record { tree = p.0; touched = p.1 }) (λ _. refl)

-- the same with the directory in which each directory stands
pub record Parented : Type 0 where
  pub tree : Tree
  pub touched : Nodes
  pub parents : List (Option ℕ)

abbrev pub parented_code : Coded Parented
parented_code =
    code_by (Tree × (Nodes × List (Option ℕ))) (coded× tree_code (coded× nodes_code (coded_list (coded_option coded_ℕ))))
    (λ s. (s.tree, (s.touched, s.parents)))
    (λ p. record { tree = p.0; touched = p.1.0; parents = p.1.1 })
    (λ _. refl)

abbrev pub with_tree : Touched → Tree → Touched
with_tree s tree = record s { tree = tree }

abbrev pub with_touched : Touched → ℕ → Touched
with_touched s n = record s { touched = insert s.touched n }

-- what held of a number holds of it still
abbrev pub Grows : (ℕ → Type 0) → (ℕ → Type 0) → Type 0
Grows P Q = (n : ℕ) → P n → Q n

-- The answer is the table's, the step was made, and the nodes that the call comes to or made are touched.
pub record AnsweredByRules (s u : Touched) (call : HostCall) (answer : HostAnswer call) : Type 0 where
  pub meant : host_answer s.tree call ≡ Ok answer
  pub tree : u.tree ≡ step s.tree call
  pub touched : u.touched ≡ with_nodes s.touched (found_by s.tree call ++ made_by s.tree call)

-- a code is the table's refusal
abbrev pub MeansCode : {B : Type 0} → Result B ErrorCode → HostError → Type 0
MeansCode meant Memory = Unit {0}
MeansCode meant (Code code) = meant ≡ Err code

-- the nodes that a call comes to are touched, or where memory ran out maybe none
abbrev pub TouchedErr : Nodes → Nodes → List ℕ → HostError → Type 0
TouchedErr old new found Memory = (new ≡ old) ⊎ (new ≡ with_nodes old found)
TouchedErr old new found (Code code) = new ≡ with_nodes old found

-- The tree stays, and the nodes that the call comes to are touched.
pub record RefusedByRules (s u : Touched) (call : HostCall) (error : HostError) : Type 0 where
  pub meant : MeansCode (host_answer s.tree call) error
  pub tree : u.tree ≡ s.tree
  pub touched : TouchedErr s.touched u.touched (found_by s.tree call) error

abbrev pub FollowsRules : {A : Type 0} → Touched → Touched → (call : HostCall) → (A → HostAnswer call) → Result A HostError
    → Type 0
FollowsRules s u call shown (Ok a) = AnsweredByRules s u call (shown a)
FollowsRules s u call shown (Err error) = RefusedByRules s u call error
