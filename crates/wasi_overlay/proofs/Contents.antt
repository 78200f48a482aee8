-- What a content is as a list gives it, by its kind.
use Rattle.std.proofs.Common.{◌≡◌, ◌∙◌, ◌<◌, ◌+◌, ◌++◌, ◌∷◌, [], ℕ, true, false, List, map, take, slice_index_or, refl, sym, ap}
use Rattle.std.proofs.lemmas.List.{map_push, take_more}
use Rattle.std.specs.FinMap as maps
use Rattle.wasi_host.specs.Answer.{metadata_of}
use Rattle.wasi_host.specs.Tree.{Tree, Node, node_at, next_of, stray, Content, File, Directory, Link, bytes_of, text_of, is_directory, is_file, links_of, names_of}
use Rattle.wasi_tree.specs.NodeData.{file, directory, link, data_of_content}

pub data_of_directory : (c : Content) (entries : List (List ℕ × ℕ)) → is_directory c ≡ true
    → entries ≡ maps.entries (names_of c) → directory entries ≡ data_of_content c
data_of_directory (File bytes links) entries is same = absurd (cc)
data_of_directory (Directory names gone) entries is same = ap directory same
data_of_directory (Link text links) entries is same = absurd (cc)

pub data_of_file : (c : Content) (bytes : List ℕ) → is_file c ≡ true → bytes ≡ bytes_of c → file bytes ≡ data_of_content c
data_of_file (File old links) bytes is same = ap file same
data_of_file (Directory names gone) bytes is same = absurd (cc)
data_of_file (Link text links) bytes is same = absurd (cc)

pub data_of_link : (c : Content) (text : List ℕ) → is_directory c ≡ false → is_file c ≡ false → text ≡ text_of c
    → link text ≡ data_of_content c
data_of_link (File bytes links) text no_directory no_file same = absurd (cc)
data_of_link (Directory names gone) text no_directory no_file same = absurd (cc)
data_of_link (Link old links) text no_directory no_file same = ap link same

-- metadata tell how many names a node has
pub links_at : (t : Tree) (n : ℕ) → (metadata_of t n).links ≡ links_of (node_at t n).content
unfolding metadata_of
links_at t n = refl

-- metadata tell a node's times
pub times_of : (t : Tree) (n : ℕ) → ((metadata_of t n).atime ≡ (node_at t n).atime)
    × ((metadata_of t n).mtime ≡ (node_at t n).mtime) × ((metadata_of t n).btime ≡ (node_at t n).btime)
unfolding metadata_of
times_of t n = (refl, refl, refl)

-- ---- all nodes, one after another

-- one more is told, where f says what is told and g what is to tell
pub one_told : {A B : Type 0} (f : A → B) (g : Node → B) (t : Tree) (n : ℕ) (before : List A) (node : A) {now : List A}
    → n < next_of t → map f before ≡ map g (take n t.nodes) → f node ≡ g (node_at t n) → now ≡ before ++ node ∷ []
    → map f now ≡ map g (take (n + 1) t.nodes)
unfolding node_at
one_told f g t n before node within so told pushed =
    ap (map f) pushed ∙ map_push f before node ∙ (λ i. so i ++ told i ∷ [])
    ∙ sym (ap (map g) (take_more t.nodes n stray within) ∙ map_push g (take n t.nodes) (slice_index_or t.nodes n stray))
