-- Laws of walks and of what paths mean.
use Rattle.std.specs.Prelude.{ℕ, ◌≡◌, ◌≤◌, false, List, [], ◌∷◌, Bool, Result, Ok, Err}
use Rattle.wasi_host.specs.Options.{Options, creates}
use Rattle.wasi_host.specs.Tree.{Tree}
use Rattle.wasi_host.specs.ValidTree.{Reached}
use Rattle.wasi_host.specs.declared.open_handle.OpenHandle.{OpenHandle}
use Rattle.wasi_host.specs.declared.errors.ErrorCode.{ErrorCode}
use Rattle.wasi_resolve.specs.Walk.{Aim, Outcome, Stop, Name, Dot, Walk, walk}
use Rattle.wasi_resolve.specs.Paths.{Opening, opening, opened, looked, Place, place, timed}
use Rattle.wasi_host.specs.Agree.{AgreeOn}

-- the node of an outcome is of the set
abbrev pub EndsIn : (ℕ → Type 0) → Outcome → Type 0
EndsIn Seen (Stop code) = Unit {0}
EndsIn Seen (Name d name slash) = Seen d
EndsIn Seen (Dot d) = Seen d

-- what an answer holds is of the set
abbrev pub GivesIn : {A : Type 0} → (ℕ → Type 0) → (A → ℕ) → Result A ErrorCode → Type 0
GivesIn Seen node (Ok value) = Seen (node value)
GivesIn Seen node (Err code) = Unit {0}

-- at most 40 links are read, and a part is taken for each
pub record ReadsFewLinks (w : Walk) : Type 0 where
  pub most : w.links ≤ 40
  pub parts : w.links ≤ w.parts

abbrev pub WalksReadFewLinks : Type 0
WalksReadFewLinks =
    (t : Tree) (s : ℕ) (text : List ℕ) (aim : Aim) (follow : Bool) → ReadsFewLinks (walk t s text aim follow)

-- what is reached from a node, itself included
abbrev pub From : Tree → ℕ → ℕ → Type 0
From t s n = Reached t (s ∷ []) n

-- what a path means lies in what is reached from its start
pub record StaysInReach (t : Tree) (s : ℕ) (text : List ℕ) : Type 0 where
  pub walks : (aim : Aim) (follow : Bool) → EndsIn (From t s) (walk t s text aim follow).outcome
  pub opens : (o : Options) (follow : Bool)
      → GivesIn (From t s) (λ (e : Opening). e.directory) (opening t s text o follow)
  pub finds : (o : Options) (follow : Bool) → creates o ≡ false
      → GivesIn (From t s) (λ (held : OpenHandle). held.node) (opened t s text o follow)
  pub looks : (follow : Bool) → GivesIn (From t s) (λ n. n) (looked t s text follow)
  pub places : GivesIn (From t s) (λ (p : Place). p.directory) (place t s text)
  pub times : GivesIn (From t s) (λ (held : OpenHandle). held.node) (timed t s text)

abbrev pub PathsStayInReach : Type 0
PathsStayInReach = (t : Tree) (s : ℕ) (text : List ℕ) → StaysInReach t s text

-- a path means the same in both trees
pub record MeansAlike (t u : Tree) (s : ℕ) (text : List ℕ) : Type 0 where
  pub walks : (aim : Aim) (follow : Bool) → walk t s text aim follow ≡ walk u s text aim follow
  pub opens : (o : Options) (follow : Bool) → opening t s text o follow ≡ opening u s text o follow
  pub opened_alike : (o : Options) (follow : Bool) → opened t s text o follow ≡ opened u s text o follow
  pub looks : (follow : Bool) → looked t s text follow ≡ looked u s text follow
  pub places : place t s text ≡ place u s text
  pub times : timed t s text ≡ timed u s text

-- what a path means rests on what is reached from its start, and on the tree's next number and limits
abbrev pub PathsAgree : Type 0
PathsAgree = (t u : Tree) (s : ℕ) (text : List ℕ) → AgreeOn (From t s) t u → MeansAlike t u s text
