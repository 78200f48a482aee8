-- What the calls of the resolver mean: the answer, the tree after it, and the nodes at which the path ends.
use Rattle.std.specs.Prelude.{ℕ, Bool, true, false, List, [], ◌∷◌, codes, Result, Ok, Err}
use Rattle.wasi_host.specs.Options.{Options, no_options}
use Rattle.wasi_host.specs.Tree.{Tree}
use Rattle.wasi_host.specs.Answer.{Listed, open_answer, list_answer, reached, metadata_of}
use Rattle.wasi_host.specs.Steps.{◌>>=◌}
use Rattle.wasi_host.specs.declared.errors.ErrorCode.{ErrorCode}
use Rattle.wasi_host.specs.declared.open_handle.OpenHandle.{OpenHandle}
use Rattle.wasi_host.specs.declared.metadata.Metadata.{Metadata}
use Rattle.wasi_host.specs.declared.open_options.FollowSymlinks.{FollowSymlinks}
use Rattle.wasi_host.specs.declared.open_options.FollowSymlinks.TheVariants.{Yes, No}
use Rattle.wasi_resolve.specs.Paths.{Opening, opening, opened, after_open, looked}
use Rattle.wasi_resolve.specs.Resolved.{Meant}

abbrev pub follows : FollowSymlinks → Bool
follows Yes = true
follows No = false

-- a path that isn't refused ends at one node
abbrev pub ends_by : {A : Type 0} → (A → ℕ) → Result A ErrorCode → List ℕ
ends_by node (Ok a) = node a ∷ []
ends_by node (Err code) = []

-- the node that an open comes to
abbrev pub opened_node : Tree → Opening → ℕ
opened_node t e = reached t e.directory e.name

-- open: what the new handle stands for
abbrev pub opens_at : Tree → ℕ → List ℕ → Options → Meant OpenHandle
opens_at t s text o = record {
  starts = s ∷ [];
  answer = opened t s text o (follows o.follow);
  stepped = after_open t s text o (follows o.follow);
  ends = ends_by (opened_node t) (opening t s text o (follows o.follow));
}

-- look: the metadata of the node that is looked at
abbrev pub looks_at : Tree → ℕ → List ℕ → FollowSymlinks → Meant Metadata
looks_at t s text follow = record {
  starts = s ∷ [];
  answer = looked t s text (follows follow) >>= (λ n. Ok (metadata_of t n));
  stepped = t;
  ends = ends_by (λ n. n) (looked t s text (follows follow));
}

-- a directory, to be listed
abbrev pub listing_options : Options
listing_options = record no_options { read = true; dir_required = true; readdir_required = true; follow = No }

-- list: the names of a directory, which is opened anew
abbrev pub lists_at : Tree → ℕ → Meant (List Listed)
lists_at t d = record {
  starts = d ∷ [];
  answer = open_answer t d (codes ".") listing_options >>= list_answer t;
  stepped = t;
  ends = d ∷ [];
}
