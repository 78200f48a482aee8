-- What is read of the nodes of an overlay.
use Rattle.std.proofs.Common.{◌≡◌, ◌<◌, ◌≤◌, ℕ, zero, suc, true, false, ◌&&◌, List, [], ◌∷◌, length, Some, None, is_some, inl, inr, refl, sym, ap, ◌∙◌, subst, arith, slice_index_or}
use Rattle.std.proofs.lemmas.Bool.{cases_lt}
use Rattle.std.specs.FinMap as maps
use Rattle.std.specs.Global.{Vec}
use Rattle.std.specs.Prelude.{Option}
use Rattle.wasi_host.specs.Tree.{Node, Content, File, Directory, Link, stray, is_directory, is_file, is_link, is_gone, text_of, bytes_of}
use Rattle.std.specs.Ordering.{nat_cmp}
use Rattle.wasi_overlay.specs.Grown.{GrownNodes}
use Rattle.wasi_overlay.specs.OverNodes.{OverState, over_state, AreRounds}
use Rattle.wasi_overlay.specs.OverSeats.{SeatMap, kept_at, with_kept, over_from, content_over, node_over, bytes_over}
use Rattle.wasi_overlay.specs.declared.kept.Kept.{Kept}
use Rattle.wasi_overlay.specs.declared.seat.Seat.{Seat}
use Rattle.wasi_overlay.proofs.OverLemmas.{over_at, length-over}

none_there : (nodes : List Node) (n : ℕ) → length nodes ≤ n → slice_index_or nodes n stray ≡ stray
none_there [] n past = refl
none_there (node ∷ nodes) zero past = absurd (omega arith)
none_there (node ∷ nodes) (suc n) past = none_there nodes n (omega arith)

-- all nodes past the last one are alike
over_past : (seats : SeatMap) (nodes : List Node) (n : ℕ) → length nodes ≤ n
    → slice_index_or (over_from seats 0 nodes) n stray ≡ slice_index_or nodes n stray
over_past seats nodes n past =
    none_there (over_from seats 0 nodes) n (omega (arith, past, length-over seats 0 nodes)) ∙ sym (none_there nodes n past)

module _ {B : Type 0} (f : Node → B) (same : (kept : Kept) (node : Node) → f (node_over kept node) ≡ f node) where
  of_kept : (kept : Option Kept) (node : Node) → f (with_kept kept node) ≡ f node
  of_kept None node = refl
  of_kept (Some kept) node = same kept node

  -- what seats leave of nodes
  pub left_at : (seats : SeatMap) (nodes : List Node) (n : ℕ)
      → f (slice_index_or nodes n stray) ≡ f (slice_index_or (over_from seats 0 nodes) n stray)
  left_at seats nodes n = elim (cases_lt n (length nodes)) [
    | inl within ↦ sym (ap f (over_at seats nodes n within) ∙ of_kept (kept_at seats n) (slice_index_or nodes n stray))
    | inr past ↦ ap f (sym (over_past seats nodes n past))
  ]

pub is_directory-over : (kept : Kept) (node : Node) → is_directory (node_over kept node).content ≡ is_directory node.content
is_directory-over kept node = by node.content
  where
    by : (c : Content) → is_directory (content_over kept c) ≡ is_directory c
    by (File bytes links) = refl
    by (Directory names gone) = refl
    by (Link text links) = refl

pub is_file-over : (kept : Kept) (node : Node) → is_file (node_over kept node).content ≡ is_file node.content
is_file-over kept node = by node.content
  where
    by : (c : Content) → is_file (content_over kept c) ≡ is_file c
    by (File bytes links) = refl
    by (Directory names gone) = refl
    by (Link text links) = refl

pub is_link-over : (kept : Kept) (node : Node) → is_link (node_over kept node).content ≡ is_link node.content
is_link-over kept node = by node.content
  where
    by : (c : Content) → is_link (content_over kept c) ≡ is_link c
    by (File bytes links) = refl
    by (Directory names gone) = refl
    by (Link text links) = refl

pub text_of-over : (kept : Kept) (node : Node) → text_of (node_over kept node).content ≡ text_of node.content
text_of-over kept node = by node.content
  where
    by : (c : Content) → text_of (content_over kept c) ≡ text_of c
    by (File bytes links) = refl
    by (Directory names gone) = refl
    by (Link text links) = refl

-- a node of which nothing is kept is the one below
pub unkept_at : (seats : SeatMap) (nodes : List Node) (n : ℕ) → n < length nodes → kept_at seats n ≡ None
    → slice_index_or nodes n stray ≡ slice_index_or (over_from seats 0 nodes) n stray
unkept_at seats nodes n within none =
    sym (over_at seats nodes n within ∙ ap (λ kept. with_kept kept (slice_index_or nodes n stray)) none)

-- and one of which something is kept is that over it
pub over_kept_at : (seats : SeatMap) (nodes : List Node) (n : ℕ) (kept : Kept) → n < length nodes → kept_at seats n ≡ Some kept
    → node_over kept (slice_index_or nodes n stray) ≡ slice_index_or (over_from seats 0 nodes) n stray
over_kept_at seats nodes n kept within there =
    sym (over_at seats nodes n within ∙ ap (λ kept. with_kept kept (slice_index_or nodes n stray)) there)

-- a directory that is gone, of a node of which something is kept
pub gone-over : (kept : Kept) (node : Node) → (is_directory node.content && kept.gone) ≡ is_gone (node_over kept node).content
gone-over kept node = by node.content
  where
    by : (c : Content) → (is_directory c && kept.gone) ≡ is_gone (content_over kept c)
    by (File bytes links) = refl
    by (Directory names gone) = refl
    by (Link text links) = refl

-- the bytes of a file of which something is kept
pub file_bytes-over : (kept : Kept) (node : Node) → is_file node.content ≡ true
    → bytes_over kept.bytes (bytes_of node.content) ≡ bytes_of (node_over kept node).content
file_bytes-over kept node = by node.content
  where
    by : (c : Content) → is_file c ≡ true → bytes_over kept.bytes (bytes_of c) ≡ bytes_of (content_over kept c)
    by (File bytes links) is = refl
    by (Directory names gone) is = absurd (cc)
    by (Link text links) is = absurd (cc)

-- what is no file has no bytes
pub other_bytes-over : (kept : Kept) (node : Node) → is_file node.content ≡ false
    → bytes_of node.content ≡ bytes_of (node_over kept node).content
other_bytes-over kept node = by node.content
  where
    by : (c : Content) → is_file c ≡ false → bytes_of c ≡ bytes_of (content_over kept c)
    by (File bytes links) is = absurd (cc)
    by (Directory names gone) is = refl
    by (Link text links) is = refl

-- where no bytes of its own are kept, a file has those below
pub no_bytes-over : (kept : Kept) (node : Node) → is_some kept.bytes ≡ false
    → bytes_of node.content ≡ bytes_of (node_over kept node).content
no_bytes-over kept node none = by node.content
  where
    own : (bytes : Option (Vec ℕ)) (below : List ℕ) → is_some bytes ≡ false → below ≡ bytes_over bytes below
    own None below none = refl
    own (Some bytes) below none = absurd (cc)

    by : (c : Content) → bytes_of c ≡ bytes_of (content_over kept c)
    by (File bytes links) = own kept.bytes bytes none
    by (Directory names gone) = refl
    by (Link text links) = refl

-- a number of a node is one below
pub within_below : (below : GrownNodes) (seats : SeatMap) (round : ℕ) {t : OverState} {n : ℕ}
    → over_state below seats round ≡ t → n < length t.nodes → n < length below.nodes
within_below below seats round {t} {n} is within =
    let all : length (over_state below seats round).nodes ≡ length t.nodes = ap (λ (u : OverState). length u.nodes) is in
    omega (arith, within, all, length-over seats 0 below.nodes)

-- no rounds are those of no seats
pub rounds_none : (seats : SeatMap) → seats ≡ maps.empty → AreRounds 1 seats
rounds_none seats none = subst (AreRounds 1) (sym none) (record {
  begun = omega arith;
  past = λ n seat there.
      let apart : ◌≡◌ {A = Option Seat} None (Some seat) = sym (maps.get-empty nat_cmp n) ∙ there in absurd (cc);
})

pub ruleset read_rules = (length-over)
