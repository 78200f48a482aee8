-- How many nodes a step of a host makes, and how many bytes the files of a tree have more after it.
use Rattle.std.proofs.Common.{◌≡◌, ℕ, ◌+◌, ◌-◌, ◌≤◌, max, inl, inr, Bool, true, false, cond, List, [], ◌∷◌, length, slice_set, slice_index_or, Option, Some, None, refl, ap, arith}
use Rattle.std.specs.Prelude.{sum_by}
use Rattle.std.proofs.lemmas.Bool.{cases_lt}
use Rattle.std.proofs.lemmas.List.{length-set, set_past, get_or_past}
use Rattle.std.proofs.lemmas.List.Sums.{sum_by-set, sum_by_push}
use Rattle.wasi_host.specs.Answer.{size_of, metadata_of}
use Rattle.wasi_host.specs.HostCall.{HostCall, OpenAt, StatAt, ReadLinkAt, MakeDirAt, SymlinkAt, LinkAt, RenameAt, UnlinkAt, RemoveDirAt, TimesAt, Access, Stat, SetTimes, Pread, Pwrite, Append, SetSize, Sync, Advise, Flags, ListDir, Dup, Close}
use Rattle.wasi_host.specs.Options.{Options}
use Rattle.wasi_host.specs.Step.{step, added_step, append_step, content_changed, dropped_step, entry_changed, file_cut, is_cut, link_step, made_gone, moved_step, name_lost, name_moved, name_taken, new_directory, new_file, new_link, node_made, one_name_less, one_name_more, open_step, opened_step, other_bytes, remove_step, rename_step, size_set, times_set, times_set_if, times_step, unlink_step, with_content, with_entry, with_name, with_nodes, with_piece, with_size, with_times, without_entry, without_name, write_step}
use Rattle.wasi_host.specs.Tree.{Tree, Node, Nodes, Content, File, Directory, Link, bytes_of, child, hold_one, next_of, node_at, stray}
use Rattle.wasi_host.specs.declared.system_time.SystemTime.{SystemTime}
use Rattle.wasi_host.proofs.Leaving.{each_kind, made_next, set_cases}
use Rattle.wasi_host.proofs.Pieces.{length-with_piece, length-with_size}
use Rattle.wasi_p1_model.specs.QuotaLaws.{total_bytes}
use Rattle.wasi_p1_types.specs.Quotas.{end_of_piece, growth_to}
use Rattle.wasi_p1_types.specs.Request.{Request, Direct, end_after, size_at, written_by}

-- at most so many nodes are made, and the files have at most so many bytes more
pub record Within (made grown : ℕ) (t u : Tree) : Type 0 where
  pub nodes : next_of u ≤ next_of t + made
  pub bytes : total_bytes u ≤ total_bytes t + grown

pub within_itself : {t : Tree} → Within 0 0 t t
within_itself = record { nodes = omega arith; bytes = omega arith }

-- of two steps the first makes nothing
within_then : {made grown : ℕ} {t u v : Tree} → Within 0 0 t u → Within made grown u v → Within made grown t v
within_then first second =
    let nodes = first.nodes in
    let bytes = first.bytes in
    let nodes' = second.nodes in
    let bytes' = second.bytes in record { nodes = omega arith; bytes = omega arith }

-- ---- nodes in place of others

abbrev node_bytes : Node → ℕ
node_bytes node = length (bytes_of node.content)

-- one node in place of another
total_set : (nodes : List Node) (n : ℕ) (node : Node)
    → sum_by node_bytes (slice_set nodes n node) + node_bytes (slice_index_or nodes n stray)
    ≤ sum_by node_bytes nodes + node_bytes node
total_set nodes n node = elim (cases_lt n (length nodes)) [
  | inl within ↦ let same = sum_by-set node_bytes nodes n node stray within in omega arith
  | inr past ↦
      let same = ap (sum_by node_bytes) (set_past nodes n node past) in
      let none : node_bytes (slice_index_or nodes n stray) ≡ 0 = ap node_bytes (get_or_past nodes n stray past) in
      omega arith
]

-- with as many bytes more as this
put_within : {more : ℕ} (t : Tree) (n : ℕ) (node : Node) (worked : Nodes)
    → node_bytes node ≤ node_bytes (node_at t n) + more
    → Within 0 more t (record t { nodes = slice_set t.nodes n node; worked = worked })
unfolding node_at
put_within t n node worked fits = record {
  nodes = omega (arith, length-set t.nodes n node);
  bytes = omega (arith, total_set t.nodes n node, fits);
}

-- a directory's entries are others, and then another node, which gets no more bytes
entry_within : (t : Tree) (d n : ℕ) (entries change : Content → Content)
    → ((content : Content) → length (bytes_of (entries content)) ≡ 0)
    → ((content : Content) → length (bytes_of (change content)) ≤ length (bytes_of content))
    → Within 0 0 t (entry_changed t d entries n change)
unfolding node_at
entry_within t d n entries change bare fewer =
    let parent : Node = with_content (node_at t d) entries in
    let other : Node = with_content (node_at t n) change in
    let none = bare (node_at t d).content in
    let less = fewer (node_at t n).content in
    let first = total_set t.nodes d parent in
    let second = total_set (slice_set t.nodes d parent) n other in
    let long = length-set (slice_set t.nodes d parent) n other in
    let long' = length-set t.nodes d parent in record {
      nodes = omega arith;
      bytes = elim (set_cases t.nodes d n parent stray) [
        | inl same ↦ let still = ap node_bytes same in omega arith
        | inr (at, set) ↦
            let now = ap node_bytes set in
            let was = ap (λ k. node_bytes (slice_index_or t.nodes k stray)) at in omega arith
      ];
    }

-- the content of a node is another
content_within : {more : ℕ} (t : Tree) (n : ℕ) (change : Content → Content)
    → length (bytes_of (change (node_at t n).content)) ≤ length (bytes_of (node_at t n).content) + more
    → Within 0 more t (content_changed t n change)
content_within t n change fits =
    put_within t n (with_content (node_at t n) change) (with_nodes t.worked (n ∷ [])) fits

-- ---- nodes that are made

-- one that has no bytes
made_within : (t : Tree) (d : ℕ) (name : List ℕ) (node : Node) → node_bytes node ≡ 0
    → Within 1 0 t (node_made t d name node)
made_within t d name node none =
    let parent : Node = with_name (node_at t d) name (next_of t) in
    let set = total_set t.nodes d parent in
    let push = sum_by_push node_bytes (slice_set t.nodes d parent) node in record {
      nodes = omega (arith, made_next t d name node);
      bytes = omega arith;
    }

-- ---- the steps

-- a file's bytes end where this says, or where they did
put_to : (change : List ℕ → List ℕ) (end : ℕ) → ((bytes : List ℕ) → length (change bytes) ≤ max (length bytes) end)
    → (content : Content)
    → length (bytes_of (other_bytes change content)) ≤ length (bytes_of content) + (end - size_of content)
put_to change end fits =
    each_kind (λ c. length (bytes_of (other_bytes change c)) ≤ length (bytes_of c) + (end - size_of c))
    (λ bytes links. let long = fits bytes in omega arith) (λ _ _. omega arith) (λ _ _. omega arith)

written_to : (t : Tree) (n : ℕ) (change : List ℕ → List ℕ) (end : ℕ)
    → ((bytes : List ℕ) → length (change bytes) ≤ max (length bytes) end)
    → Within 0 (end - size_at t n) t (content_changed t n (other_bytes change))
unfolding metadata_of
written_to t n change end fits =
    content_within t n (other_bytes change) (put_to change end fits (node_at t n).content)

size_within : (t : Tree) (n size : ℕ) → Within 0 (size - size_at t n) t (size_set t n size)
size_within t n size =
    written_to t n (with_size size) size (λ bytes. let long = length-with_size size bytes in omega arith)

write_within : (t : Tree) (n offset : ℕ) (piece : List ℕ)
    → Within 0 (growth_to (size_at t n) (end_of_piece offset piece)) t (write_step t n offset piece)
unfolding write_step
write_within t n offset [] = within_itself
write_within t n offset (byte ∷ bytes) =
    written_to t n (λ old. with_piece old offset (byte ∷ bytes)) (offset + length (byte ∷ bytes))
    (λ old. let long = length-with_piece old offset (byte ∷ bytes) in omega arith)

-- a piece after the last byte
append_within : (t : Tree) (n : ℕ) (piece : List ℕ) → Within 0 (length piece) t (append_step t n piece)
unfolding write_step
append_within t n [] = within_itself
append_within t n (byte ∷ bytes) =
    content_within t n (other_bytes (λ old. with_piece old (length (bytes_of (node_at t n).content)) (byte ∷ bytes)))
    (by (node_at t n).content)
  where
    by : (content : Content)
        → length (bytes_of (other_bytes (λ old. with_piece old (length (bytes_of content)) (byte ∷ bytes)) content))
        ≤ length (bytes_of content) + length (byte ∷ bytes)
    by (File old links) = let long = length-with_piece old (length old) (byte ∷ bytes) in omega arith
    by (Directory names gone) = omega arith
    by (Link text links) = omega arith

-- a file is cut
cut_within : (t : Tree) (n : ℕ) → Within 0 0 t (file_cut t n)
cut_within t n = let cut = size_within t n 0 in
    let nodes = cut.nodes in
    let bytes = cut.bytes in record { nodes = nodes; bytes = omega arith }

-- an open of a name that holds a node makes none
pub found_within : (t : Tree) (d : ℕ) (name : List ℕ) (o : Options) (n : ℕ)
    → Within 0 0 t (opened_step t d name o (Some n))
found_within t d name o n = by (is_cut o (node_at t n).content)
  where
    by : (cut : Bool) → Within 0 0 t (cond cut (file_cut t n) t)
    by true = cut_within t n
    by false = within_itself

pub within_more : {made grown : ℕ} {t u : Tree} → Within 0 0 t u → Within made grown t u
within_more stays =
    let nodes = stays.nodes in let bytes = stays.bytes in record { nodes = omega arith; bytes = omega arith }

opened_within : (t : Tree) (d : ℕ) (name : List ℕ) (o : Options) (found : Option ℕ)
    → Within 1 0 t (opened_step t d name o found)
opened_within t d name o None = made_within t d name new_file refl
opened_within t d name o (Some n) = within_more (found_within t d name o n)

added_within : (t : Tree) (d : ℕ) (name : List ℕ) (found : Option ℕ) → Within 0 0 t (added_step t d name found)
added_within t d name None = within_itself
added_within t d name (Some n) = entry_within t d n (with_entry name n) one_name_more (λ c. refl)
    (each_kind (λ c. length (bytes_of (one_name_more c)) ≤ length (bytes_of c)) (λ _ _. omega arith) (λ _ _. omega arith)
    (λ _ _. omega arith))

dropped_within : (t : Tree) (d : ℕ) (name : List ℕ) (change : Content → Content) (found : Option ℕ)
    → ((content : Content) → length (bytes_of (change content)) ≤ length (bytes_of content))
    → Within 0 0 t (dropped_step t d name change found)
dropped_within t d name change None fewer = within_itself
dropped_within t d name change (Some n) fewer = entry_within t d n (without_entry name) change (λ c. refl) fewer

lost_bytes : (content : Content) → length (bytes_of (name_lost content)) ≤ length (bytes_of content)
lost_bytes = each_kind (λ c. length (bytes_of (name_lost c)) ≤ length (bytes_of c)) (λ _ _. omega arith)
    (λ _ _. omega arith) (λ _ _. omega arith)

name_within : (t : Tree) (old : ℕ) (old_name : List ℕ) (new : ℕ) (new_name : List ℕ) (n : ℕ)
    → Within 0 0 t (name_moved t old old_name new new_name n)
name_within t old old_name new new_name n =
    within_then (put_within t old (without_name (node_at t old) old_name) t.worked (omega arith))
    (put_within (name_taken t old old_name) new (with_name (node_at (name_taken t old old_name) new) new_name n)
    (with_nodes t.worked (old ∷ new ∷ [])) (omega arith))

moved_within : (t : Tree) (old : ℕ) (old_name : List ℕ) (new : ℕ) (new_name : List ℕ) (found : Option ℕ)
    → Within 0 0 t (moved_step t old old_name new new_name found)
moved_within t old old_name new new_name None = within_itself
moved_within t old old_name new new_name (Some n) =
    within_then (dropped_within t new new_name name_lost (child t new new_name) lost_bytes)
    (name_within (dropped_step t new new_name name_lost (child t new new_name)) old old_name new new_name n)

renamed_within : (t : Tree) (old : ℕ) (old_name : List ℕ) (new : ℕ) (new_name : List ℕ)
    → Within 0 0 t (rename_step t old old_name new new_name)
unfolding rename_step
renamed_within t old old_name new new_name = by (hold_one (child t old old_name) (child t new new_name))
  where
    by : (one : Bool) → Within 0 0 t (cond one t (moved_step t old old_name new new_name (child t old old_name)))
    by true = within_itself
    by false = moved_within t old old_name new new_name (child t old old_name)

times_within : (t : Tree) (n : ℕ) (atime mtime : Option SystemTime) → Within 0 0 t (times_set t n atime mtime)
times_within t n atime mtime =
    put_within t n (with_times (node_at t n) atime mtime) (with_nodes t.worked (n ∷ [])) (omega arith)

times_if_within : (t : Tree) (atime mtime : Option SystemTime) (found : Option ℕ)
    → Within 0 0 t (times_set_if t atime mtime found)
times_if_within t atime mtime None = within_itself
times_if_within t atime mtime (Some n) = times_within t n atime mtime

-- the most nodes that a call makes
abbrev pub most_made : HostCall → ℕ
most_made (OpenAt d name o) = 1
most_made (MakeDirAt d name) = 1
most_made (SymlinkAt text d name) = 1
most_made call = 0

-- the bytes by which a request may make its file longer, whatever a descriptor was opened for
abbrev pub full_growth : Tree → Request → ℕ
full_growth t r = growth_to (size_at t (written_by r)) (end_after r)

pub step_within : (t : Tree) (call : HostCall) → Within (most_made call) (full_growth t (Direct call)) t (step t call)
unfolding open_step unlink_step remove_step link_step times_step
step_within t (OpenAt d name o) = opened_within t d name o (child t d name)
step_within t (StatAt d name) = within_itself
step_within t (ReadLinkAt d name) = within_itself
step_within t (MakeDirAt d name) = made_within t d name new_directory refl
step_within t (SymlinkAt text d name) = made_within t d name (new_link text) refl
step_within t (LinkAt old old_name new new_name) = added_within t new new_name (child t old old_name)
step_within t (RenameAt old old_name new new_name requires_dir) = renamed_within t old old_name new new_name
step_within t (UnlinkAt d name) = dropped_within t d name one_name_less (child t d name)
    (each_kind (λ c. length (bytes_of (one_name_less c)) ≤ length (bytes_of c)) (λ _ _. omega arith) (λ _ _. omega arith)
    (λ _ _. omega arith))
step_within t (RemoveDirAt d name) = dropped_within t d name made_gone (child t d name)
    (each_kind (λ c. length (bytes_of (made_gone c)) ≤ length (bytes_of c)) (λ _ _. omega arith) (λ _ _. omega arith)
    (λ _ _. omega arith))
step_within t (TimesAt d name atime mtime) = times_if_within t atime mtime (child t d name)
step_within t (Access d) = within_itself
step_within t (Stat n) = within_itself
step_within t (SetTimes n atime mtime) = times_within t n atime mtime
step_within t (Pread file offset length) = within_itself
step_within t (Pwrite file offset piece) = write_within t file.node offset piece
step_within t (Append file piece) = append_within t file.node piece
step_within t (SetSize file size) = size_within t file.node size
step_within t (Sync n) = within_itself
step_within t (Advise n offset length advice) = within_itself
step_within t (Flags n) = within_itself
step_within t (ListDir held) = within_itself
step_within t (Dup held) = within_itself
step_within t Close = within_itself
