-- Which plans are within the limits.
use Rattle.std.specs.Prelude.{ℕ, ◌+◌, List, length, slice_get, sum_by, Bool, false, ◌&&◌, nat_le, Option, Some, None}
use Rattle.std.specs.List.{list_all}
use Rattle.wasi_tree.specs.NodeData.{NodeData}
use Rattle.wasi_tree.specs.NodeDataTests.{is_dir_content}
use Rattle.wasi_form.specs.declared.script.Shown.{Shown}
use Rattle.wasi_form.specs.Plan.{PlannedPreopen, PlannedPiece, Plan, GuestsPlan}

-- how many bytes a memory has at most, and how many of them are shown at most
abbrev pub most_memory : ℕ
most_memory = 16777216

-- there is such a node, and it is a directory
abbrev pub is_directory_data : Option NodeData → Bool
is_directory_data None = false
is_directory_data (Some node) = is_dir_content node.content

-- the node of each is a directory of the list
abbrev pub are_preopens_directories : List NodeData → List PlannedPreopen → Bool
are_preopens_directories nodes preopens =
    list_all (λ preopen. is_directory_data (slice_get nodes preopen.node)) preopens

-- in a memory of this size
abbrev pub is_piece_within : ℕ → PlannedPiece → Bool
is_piece_within size piece = nat_le (piece.offset + length piece.bytes) size

-- in a memory of this size
abbrev pub is_shown_within : ℕ → Shown → Bool
is_shown_within size shown = nat_le (shown.ptr + shown.len) size

-- as many descriptors as there are streams, which are three, and preopens, and at most 65,536
abbrev pub is_table_fit : ℕ → ℕ → Bool
is_table_fit table preopens = nat_le (3 + preopens) table && nat_le table 65536

-- how many bytes are shown
abbrev pub shown_bytes : List Shown → ℕ
shown_bytes show = sum_by (λ shown. shown.len) show

-- by whether the preopens are directories: a table, a memory and ranges that fit
abbrev pub is_session_within : Bool → Plan → Bool
is_session_within directories p =
    directories && is_table_fit p.table (length p.preopens)
    && nat_le p.size most_memory && list_all (is_piece_within p.size) p.pieces && list_all (is_shown_within p.size) p.show
    && nat_le (shown_bytes p.show) most_memory

-- preopens that are directories of the plan's nodes, and all the rest within the limits
unfoldable pub is_within_limits : Plan → Bool
is_within_limits p = is_session_within (are_preopens_directories p.nodes p.preopens) p

-- guests that are each within the limits, whose memories have together no more bytes than one may have; nor are more shown
unfoldable pub guests_within : GuestsPlan → Bool
guests_within p =
    list_all is_within_limits p.guests && nat_le (sum_by (λ guest. guest.size) p.guests) most_memory
    && nat_le (sum_by (λ guest. shown_bytes guest.show) p.guests) most_memory
