-- What the types of a list of nodes give of its texts and bytes.
use Rattle.std.proofs.Common.{◌≡◌, ℕ, suc, ◌<◌, true, not, ◌&&◌, List, [], ◌∷◌, map, length, nat_lt, nat_le, slice_index_or, refl, ap, ◌∙◌}
use Rattle.std.specs.List.{list_all}
use Rattle.std.specs.Str.{IsUtf8, is_utf8}
use Rattle.std.proofs.lemmas.Str.{is_utf8-from_IsUtf8}
use Rattle.std.proofs.Math.Bool.{and-true}
use Rattle.std.proofs.lemmas.Bool.{lt-ltb}
use Rattle.std.proofs.lemmas.List.Folds.{list_all-map}
use Rattle.wasi_paths.specs.Text.{has_nul, is_entry_name}
use Rattle.wasi_host.specs.ValidTree.{are_bytes}
use Rattle.wasi_host.specs.Numbers.{longest_link}
use Rattle.wasi_tree.specs.declared.node.NewEntry.{NewEntry}
use Rattle.wasi_tree.specs.NodeData.{pair_of}
use Rattle.wasi_tree.specs.WellFormed.{is_fit_text, is_fit_entry}

-- what the types give: a text is UTF-8, and a byte is below 256
pub is_fit_name-text : (name : List ℕ) → IsUtf8 name → (is_entry_name name && is_utf8 name) ≡ is_entry_name name
is_fit_name-text name utf8 = ap (λ b. is_entry_name name && b) (is_utf8-from_IsUtf8 name utf8) ∙ and-true (is_entry_name name)

pub is_fit_text-text : (text : List ℕ) → IsUtf8 text
    → is_fit_text text ≡ (nat_lt 0 (length text) && nat_le (length text) longest_link && not (has_nul text))
is_fit_text-text text utf8 =
    ap (λ b. b && not (has_nul text)) (ap (λ b. nat_lt 0 (length text) && nat_le (length text) longest_link && b) (is_utf8-from_IsUtf8 text utf8)
    ∙ and-true (nat_lt 0 (length text) && nat_le (length text) longest_link))

pub are_bytes-fit : (bytes : List ℕ) → ((i : ℕ) → slice_index_or bytes i 0 < 256) → are_bytes bytes ≡ true
are_bytes-fit [] fit = refl
are_bytes-fit (b ∷ bytes) fit = let first = fit 0 in rw (lt-ltb b 256 first, are_bytes-fit bytes (λ i. fit (suc i))) refl

pub ruleset type_rules = (is_fit_name-text, is_fit_text-text, are_bytes-fit)

pub fit_entries-map : (count : ℕ) (entries : List NewEntry)
    → list_all (is_fit_entry count) (map pair_of entries) ≡ list_all (λ e. is_fit_entry count (pair_of e)) entries
fit_entries-map count entries = list_all-map (is_fit_entry count) pair_of entries

pub ruleset entry_rules = (fit_entries-map)
