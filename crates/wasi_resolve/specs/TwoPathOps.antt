-- What is done at two places: the old one, where a node is found, and the new one, where it gets a name.
use Rattle.std.specs.Prelude.{ℕ, Bool, ◌||◌, List, [], ◌++◌, Result, Ok, Err}
use Rattle.wasi_paths.specs.Parts.{strip_dir_suffix, trailing_slash}
use Rattle.wasi_host.specs.Tree.{Tree}
use Rattle.wasi_host.specs.HostCall.{HostCall, LinkAt, RenameAt}
use Rattle.wasi_host.specs.Refusal.{refusal}
use Rattle.wasi_host.specs.Step.{step}
use Rattle.wasi_host.specs.Answer.{unless}
use Rattle.wasi_host.specs.Steps.{◌>>=◌}
use Rattle.wasi_host.specs.declared.errors.ErrorCode.{ErrorCode}
use Rattle.wasi_resolve.specs.EntryOps.{ends_in}
use Rattle.wasi_resolve.specs.Paths.{Place, place}

-- the calls of the resolver that end at two places
pub data TwoPathOp : Type 0 where
  HardLink : TwoPathOp
  Rename : TwoPathOp

pub record Places : Type 0 where
  pub old : Place
  pub new : Place

-- the texts by which the places are found: a rename lets slashes after its names go
abbrev pub text_for : TwoPathOp → List ℕ → List ℕ
text_for HardLink text = text
text_for Rename text = strip_dir_suffix text

-- a slash after either name asks for a directory
abbrev pub asks_directory : List ℕ → List ℕ → Bool
asks_directory old_text new_text = trailing_slash old_text || trailing_slash new_text

-- both places: the old one, its split included, comes before the new one
abbrev pub places_in : Tree → ℕ → List ℕ → ℕ → List ℕ → Result Places ErrorCode
places_in t old old_text new new_text =
    place t old old_text >>= (λ p. place t new new_text >>= (λ q. Ok (record { old = p; new = q })))

abbrev pub places_for : Tree → ℕ → List ℕ → ℕ → List ℕ → TwoPathOp → Result Places ErrorCode
places_for t old old_text new new_text what = places_in t old (text_for what old_text) new (text_for what new_text)

-- the call of the host at the places
abbrev pub call_at_two : TwoPathOp → Bool → Places → HostCall
call_at_two HardLink requires_dir p = LinkAt p.old.directory p.old.name p.new.directory p.new.name
call_at_two Rename requires_dir p = RenameAt p.old.directory p.old.name p.new.directory p.new.name requires_dir

-- the answer at the places: nothing but that it was done
abbrev pub answer_at_two : Tree → TwoPathOp → Bool → Places → Result (Unit {0}) ErrorCode
answer_at_two t what requires_dir p = unless (refusal t (call_at_two what requires_dir p)) tt

-- the tree after it
abbrev pub step_at_two : Tree → TwoPathOp → Bool → Result Places ErrorCode → Tree
step_at_two t what requires_dir (Ok p) = step t (call_at_two what requires_dir p)
step_at_two t what requires_dir (Err code) = t

-- where the paths end: each at its place
abbrev pub ends_at_two : Tree → Tree → Result Places ErrorCode → List ℕ
ends_at_two t t' (Ok p) = ends_in t t' (Ok p.old) ++ ends_in t t' (Ok p.new)
ends_at_two t t' (Err code) = []
