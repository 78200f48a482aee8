-- What is told of a directory: its entries, each with the node that its name holds.
use Rattle.std.specs.Prelude.{ℕ, false, ◌≤◌, List, [], ◌∷◌, ◌++◌, length, All, codes, Result, Ok}
use Rattle.wasi_host.specs.Tree.{Tree}
use Rattle.wasi_host.specs.Answer.{Listed, stat_answer}
use Rattle.wasi_host.specs.Steps.{◌>>=◌}
use Rattle.wasi_host.specs.declared.errors.ErrorCode.{ErrorCode}
use Rattle.wasi_host.specs.declared.file_type.FileType.{FileType}
use Rattle.wasi_host.specs.declared.file_type.FileType.TheVariants.{Directory}
use Rattle.wasi_resolve.specs.Meanings.{lists_at}
use Rattle.wasi_resolve.specs.PathRequest.{LookPath, path_reply}

-- a name in a directory, and the number and the kind of the node that it holds, a link's own
pub record Entry : Type 0 where
  pub name : List ℕ
  pub node : ℕ
  pub kind : FileType

-- the directory itself, and the one above, in whose place it stands too: a guest is shown none above
abbrev pub dots : ℕ → List Entry
dots d =
    record { name = codes "."; node = d; kind = Directory }
    ∷ record { name = codes ".."; node = d; kind = Directory } ∷ []

-- an entry as the directory lists it, with the number that a look at its name gives
abbrev pub numbered_at : Tree → ℕ → Listed → Result Entry ErrorCode
numbered_at t d e =
    path_reply t (LookPath d e.0 false) >>= (λ metadata. Ok (record { name = e.0; node = metadata.node; kind = e.1 }))

-- each of some entries; the first look that is refused refuses them
abbrev pub all_numbered_at : Tree → ℕ → List Listed → Result (List Entry) ErrorCode
all_numbered_at t d [] = Ok []
all_numbered_at t d (e ∷ es) =
    numbered_at t d e >>= (λ first. all_numbered_at t d es >>= (λ others. Ok (first ∷ others)))

-- the directory is listed, then looked at itself, and then a look is had at each name
unfoldable pub listing_at : Tree → ℕ → Result (List Entry) ErrorCode
listing_at t d = do
  names ← (lists_at t d).answer
  own ← stat_answer t d
  entries ← all_numbered_at t d names
  Ok (dots own.node ++ entries)

-- no name of a listing has more than 255 bytes
abbrev pub HasShortNames : List Entry → Type 0
HasShortNames listing = All (λ (e : Entry). length e.name ≤ 255) listing
