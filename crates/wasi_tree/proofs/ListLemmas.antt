-- What is listed of a directory.
use Rattle.std.proofs.Common.{◌≡◌, ℕ, true, map, get_or, None, Ok, ap, ◌∙◌, arith}
use Rattle.std.specs.List.{All}
use Rattle.std.specs.FinMap as maps
use Rattle.std.proofs.lemmas.List.Elements.{All-map}
use Rattle.wasi_paths.specs.Text.{is_entry_name}
use Rattle.wasi_host.specs.Tree.{Tree, Node, Names, node_at, names_of, is_directory}
use Rattle.wasi_host.specs.HostCall.{ListDir}
use Rattle.wasi_host.specs.Refusal.{refusal, can_read}
use Rattle.wasi_host.specs.Answer.{Listed, listed, listing, list_answer, unless}
use Rattle.wasi_host.specs.declared.open_handle.OpenHandle.{OpenHandle}
use Rattle.wasi_host.proofs.EntryLemmas.{get_entry}
use Rattle.wasi_tree.specs.Sound.{IsSoundNode}

list_free : (t : Tree) (held : OpenHandle) → is_directory (node_at t held.node).content ≡ true → can_read held.mode ≡ true
    → refusal t (ListDir held) ≡ None
unfolding refusal
list_free t held directory reads = grind (arith)

pub lists : (t : Tree) (held : OpenHandle) (names : Names) → is_directory (node_at t held.node).content ≡ true
    → can_read held.mode ≡ true → names_of (node_at t held.node).content ≡ names
    → list_answer t held ≡ Ok (map (listed t) (maps.entries names))
unfolding listing
lists t held names directory reads is =
    ap (λ r. unless r (map (listed t) (maps.entries (names_of (node_at t held.node).content))))
    (list_free t held directory reads)
    ∙ ap (λ (m : Names). Ok (map (listed t) (maps.entries m))) is

-- they are names that a directory may hold
pub listed_good : (t : Tree) (count : ℕ) (node : Node) → IsSoundNode count node
    → All (λ entry. is_entry_name entry.0 ≡ true) (map (listed t) (maps.entries (names_of node.content)))
listed_good t count node sound =
    let names : Names = names_of node.content in
    All-map (λ (entry : Listed). is_entry_name entry.0 ≡ true) (listed t) (maps.entries names) (λ i d within.
    sound.named (get_or (maps.entries names) i d).0 (get_or (maps.entries names) i d).1 (get_entry names i d within))
