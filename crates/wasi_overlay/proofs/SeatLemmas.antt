-- What an overlay keeps makes of a node below, and bytes of a size.
use Rattle.std.proofs.Common.{◌≡◌, ◌-◌, ℕ, zero, suc, true, Some, None, List, [], ◌∷◌, ◌++◌, length, take, refl, sym, ap, ◌∙◌, arith}
use Rattle.std.specs.Prelude.{Option, is_none, replicate, unwrap_or}
use Rattle.wasi_host.specs.Answer.{kind_of, size_of, metadata_from}
use Rattle.wasi_host.specs.Step.{with_size}
use Rattle.wasi_host.specs.Tree.{Node, Content, File, Directory, Link, links_of}
use Rattle.wasi_host.specs.declared.metadata.Metadata.{Metadata}
use Rattle.wasi_overlay.specs.OverSeats.{content_over, node_over, kept_of, worked_on}
use Rattle.wasi_overlay.specs.declared.kept.Kept.{Kept}
use Rattle.wasi_overlay.specs.declared.seat.Seat.{Seat}

take_front : (n : ℕ) (xs : List ℕ) → take n (take n xs) ≡ take n xs
take_front zero xs = refl
take_front (suc n) [] = refl
take_front (suc n) (x ∷ xs) = ap (λ rest. x ∷ rest) (take_front n xs)

gap_front : (n : ℕ) (xs : List ℕ) → n - length (take n xs) ≡ n - length xs
gap_front zero xs = omega arith
gap_front (suc n) [] = refl
gap_front (suc n) (x ∷ xs) = omega (arith, gap_front n xs)

-- bytes of a size need no more than that many of what was there
pub with_size_front : (size : ℕ) (bytes : List ℕ) → with_size size (take size bytes) ≡ with_size size bytes
unfolding with_size
with_size_front size bytes =
    ap (λ front. front ++ replicate (size - length (take size bytes)) 0) (take_front size bytes)
    ∙ ap (λ gap. take size bytes ++ replicate gap 0) (gap_front size bytes)

-- what is kept leaves the kind of a node
pub kind-over : (kept : Kept) (c : Content) → kind_of (content_over kept c) ≡ kind_of c
kind-over kept (File bytes links) = refl
kind-over kept (Directory names gone) = refl
kind-over kept (Link text links) = refl

-- the metadata of a node, from that of the node below, its size and its count of names
pub metadata-over : (kept : Kept) (n : ℕ) (node : Node) (below : Metadata) (size links : ℕ) → below ≡ metadata_from n node
    → size ≡ size_of (content_over kept node.content) → links ≡ links_of (content_over kept node.content)
    → (let m : Metadata = record { kind = below.kind; size = size; atime = kept.atime; mtime = kept.mtime; btime = below.btime; node = below.node; links = links } in m)
    ≡ metadata_from n (node_over kept node)
metadata-over kept n node below size links is sized counted = λ i.
    let m : Metadata = record {
      kind = (ap (λ (b : Metadata). b.kind) is ∙ sym (kind-over kept node.content)) i;
      size = sized i;
      atime = kept.atime;
      mtime = kept.mtime;
      btime = (is i).btime;
      node = (is i).node;
      links = counted i;
    } in m

-- what is kept of a node begins with what the node is
pub over-kept_of : (node : Node) → node_over (kept_of node) node ≡ node
over-kept_of node =
    ap (λ (c : Content). let k : Node = record node { content = c } in k) (by node.content)
  where
    by : (c : Content) → content_over (kept_of (record node { content = c })) c ≡ c
    by (File bytes links) = refl
    by (Directory names gone) = refl
    by (Link text links) = refl

-- a seat that kept nothing keeps what the node is, once it is worked on
pub worked_new : (node : Node) (seat : Seat) (kept : Kept) → is_none seat.kept ≡ true → kept ≡ kept_of node
    → (let s : Seat = record { round = seat.round; kept = Some kept } in s) ≡ worked_on node seat
worked_new node seat kept none is = λ i.
    let s : Seat = record { round = seat.round; kept = Some ((is ∙ by seat.kept none) i) } in s
  where
    by : (there : Option Kept) → is_none there ≡ true → kept_of node ≡ unwrap_or there (kept_of node)
    by None none = refl
    by (Some old) none = absurd (cc)
