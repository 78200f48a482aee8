-- A run leaves each node that it doesn't work on.
use Rattle.std.proofs.Common.{ℕ, ◌≡◌, ◌≢◌, ◌⊎◌, inl, inr, true, false, cond, Bool, List, [], ◌∷◌, ◌++◌, length, Option, Some, None, Result, Ok, Err, refl, ap, sym, ◌∙◌, subst, arith, slice_index_or, nat_eq}
use Rattle.std.specs.FinSet.{contains}
use Rattle.std.specs.List.{list_any}
use Rattle.std.specs.Prelude.{Contains}
use Rattle.std.specs.Cmp.{nat_eq_equiv}
use Rattle.std.proofs.lemmas.Bool.{true≢false, false_from_ne_true, or_left, or_right, cases_lt}
use Rattle.std.proofs.lemmas.List.{length-set, length-append, get_or-set_other, get_or_append_left, get_or_past}
use Rattle.std.proofs.lemmas.List.Elements.{Contains-push}
use Rattle.std.proofs.lemmas.Map.Views.{list_any-from_Contains}
use Rattle.wasi_host.specs.HostCall.{HostCall, OpenAt, StatAt, ReadLinkAt, MakeDirAt, SymlinkAt, LinkAt, RenameAt, UnlinkAt, RemoveDirAt, TimesAt, Access, Stat, SetTimes, Pread, Pwrite, Append, SetSize, Sync, Advise, Flags, ListDir, Dup, Close}
use Rattle.wasi_host.specs.Options.{Options}
use Rattle.wasi_host.specs.Step.{step, with_nodes, with_content, content_changed, entry_changed, with_name, without_name, node_made, new_file, new_directory, new_link, other_bytes, with_size, with_piece, with_entry, without_entry, is_cut, file_cut, opened_step, open_step, write_step, one_name_more, added_step, link_step, one_name_less, made_gone, dropped_step, unlink_step, remove_step, name_lost, name_taken, name_moved, moved_step, rename_step, with_times, times_set, times_set_if, times_step}
use Rattle.wasi_host.specs.Tree.{Tree, Node, Nodes, Content, node_at, next_of, bytes_of, child, hold_one, stray}
use Rattle.wasi_host.specs.declared.errors.ErrorCode.{ErrorCode}
use Rattle.wasi_host.specs.declared.open_handle.OpenHandle.{OpenHandle}
use Rattle.wasi_host.specs.declared.system_time.SystemTime.{SystemTime}
use Rattle.wasi_host.proofs.Chain.{contains-with_nodes}
use Rattle.wasi_host.proofs.Changes.{changed}
use Rattle.wasi_host.proofs.Leaving.{Contains-here}
use Rattle.wasi_resolve.specs.EntryOps as at_place
use Rattle.wasi_resolve.specs.EntryOps.{EntryOp, call_at, place_for, step_in}
use Rattle.wasi_resolve.specs.TwoPathOps.{Places, asks_directory, call_at_two, places_for, step_at_two}
use Rattle.wasi_resolve.specs.PathRequest.{PathRequest, OpenPath, LookPath, AtEntry, TimesPath, AtTwo, path_after, times_through}
use Rattle.wasi_resolve.specs.Paths.{Opening, Place, opening, step_of, timed}
use Rattle.wasi_guest.specs.declared.answer.Value.{Value}
use Rattle.wasi_p1_types.specs.Front.{FueledCall}
use Rattle.wasi_p1_types.specs.Guest.{Guest, State}
use Rattle.wasi_p1_types.specs.Quotas.{is_above}
use Rattle.wasi_p1_types.specs.Request.{Request, Path, Direct, Behind, ListDirectory, Sizes, Grow, after, growth_at}
use Rattle.wasi_p1_types.specs.CallResult.{CallResult, Program, done, asking, spec_on}
use Rattle.wasi_p1_model.specs.Calls.{call_spec, turn}
use Rattle.wasi_p1_model.specs.Trace.{Faulted, Played, Trace, TraceStep}
use Rattle.wasi_p1_model.proofs.Moving.{Moves, over_tree, replied_by, run_keeps, turned_moves}
use Rattle.wasi_setup.specs.Merged.{IsMergedTree}

-- ---- trees over one another

over_itself : (t : Tree) → IsMergedTree t t
over_itself t = record {
  others = λ n not_worked. refl;
  limits = refl;
  grows = omega arith;
  made = λ n made. let fresh = made.fresh in let there = made.there in absurd (omega arith);
  still = λ n is. is;
}

over_through : {t u v : Tree} → IsMergedTree t u → IsMergedTree u v → IsMergedTree t v
over_through {t} {u} {v} first second = record {
  others = λ n not_worked.
      let before = false_from_ne_true (contains u.worked n) (λ is. true≢false (sym (second.still n is) ∙ not_worked)) in
      second.others n not_worked ∙ first.others n before;
  limits = second.limits ∙ first.limits;
  grows = let one = first.grows in let other = second.grows in omega arith;
  made = λ n made.
      let fresh = made.fresh in let there = made.there in elim (cases_lt n (next_of u)) [
        | inl within ↦ second.still n (first.made n (record { fresh = fresh; there = within }))
        | inr past ↦ second.made n (record { fresh = past; there = there })
      ];
  still = λ n is. second.still n (first.still n is);
}

-- ---- what is worked on

-- these nodes are
works_on : (s : Nodes) (ns : List ℕ) (n : ℕ) → Contains ns n → contains (with_nodes s ns) n ≡ true
works_on s ns n has =
    contains-with_nodes s ns n
    ∙ or_left (list_any (nat_eq n) ns) (contains s n) (list_any-from_Contains nat_eq_equiv n ns has)

-- and what was before
still_worked : (s : Nodes) (ns : List ℕ) (n : ℕ) → contains s n ≡ true → contains (with_nodes s ns) n ≡ true
still_worked s ns n is = contains-with_nodes s ns n ∙ or_right (list_any (nat_eq n) ns) (contains s n) is

-- one that isn't is none of these
apart_from : (worked : Nodes) {n d : ℕ} → contains worked n ≡ false → contains worked d ≡ true → n ≢ d
apart_from worked not_worked is here = true≢false (sym is ∙ ap (contains worked) (sym here) ∙ not_worked)

-- ---- changes of nodes

-- a node in place of another, which is worked on
put_over : (t : Tree) (n : ℕ) (node : Node) {worked : Nodes} → contains worked n ≡ true
    → ((k : ℕ) → contains t.worked k ≡ true → contains worked k ≡ true) → IsMergedTree t (changed t n node worked)
unfolding node_at
put_over t n node {worked} is still = record {
  others = λ k not_worked. get_or-set_other t.nodes n k node stray (apart_from worked not_worked is);
  limits = refl;
  grows = omega (arith, length-set t.nodes n node);
  made = λ k made.
      let fresh = made.fresh in let there = made.there in absurd (omega (arith, length-set t.nodes n node));
  still = still;
}

-- an item after a list is at its end
push_other : {X : Type 0} (xs : List X) (n : ℕ) (x d : X) → n ≢ length xs
    → slice_index_or (xs ++ x ∷ []) n d ≡ slice_index_or xs n d
push_other xs n x d other = elim (cases_lt n (length xs)) [
  | inl within ↦ get_or_append_left xs (x ∷ []) d n within
  | inr past ↦ get_or_past (xs ++ x ∷ []) n d (omega (arith, past, other, length-append xs (x ∷ [])))
      ∙ sym (get_or_past xs n d past)
]

-- a node more, which is worked on
more_over : (t : Tree) (node : Node) → contains t.worked (next_of t) ≡ true
    → IsMergedTree t (record t { nodes = t.nodes ++ node ∷ [] })
unfolding node_at
more_over t node is = record {
  others = λ n not_worked. push_other t.nodes n node stray (apart_from t.worked not_worked is);
  limits = refl;
  grows = omega (arith, length-append t.nodes (node ∷ []));
  made = λ n made.
      let fresh = made.fresh in let there = made.there in
      let last : n ≡ next_of t = omega (arith, length-append t.nodes (node ∷ [])) in
      ap (contains t.worked) last ∙ is;
  still = λ n was. was;
}

-- two nodes in the places of others
module _ (t : Tree) (d n : ℕ) (parent other : Node) where
  abbrev half : Tree
  half = changed t d parent (with_nodes t.worked (d ∷ n ∷ []))

  half_over : IsMergedTree t half
  half_over = put_over t d parent (works_on t.worked (d ∷ n ∷ []) d (Contains-here d (n ∷ [])))
      (still_worked t.worked (d ∷ n ∷ []))

  both_over : IsMergedTree t (changed half n other half.worked)
  both_over = over_through half_over
      (put_over half n other (works_on t.worked (d ∷ n ∷ []) n (Contains-push (d ∷ []) n)) (λ k was. was))

-- ---- steps

node_over : (t : Tree) (n : ℕ) (node : Node) → IsMergedTree t (changed t n node (with_nodes t.worked (n ∷ [])))
node_over t n node =
    put_over t n node (works_on t.worked (n ∷ []) n (Contains-here n [])) (still_worked t.worked (n ∷ []))

content_over : (t : Tree) (n : ℕ) (change : Content → Content) → IsMergedTree t (content_changed t n change)
content_over t n change = node_over t n (with_content (node_at t n) change)

entry_over : (t : Tree) (d n : ℕ) (entries change : Content → Content) → IsMergedTree t (entry_changed t d entries n change)
entry_over t d n entries change =
    both_over t d n (with_content (node_at t d) entries) (with_content (node_at t n) change)

made_over : (t : Tree) (d : ℕ) (name : List ℕ) (node : Node) → IsMergedTree t (node_made t d name node)
made_over t d name node =
    let parent : Node = with_name (node_at t d) name (next_of t) in
    let worked = with_nodes t.worked (d ∷ next_of t ∷ []) in
    let last = ap (contains worked) (length-set t.nodes d parent)
    ∙ works_on t.worked (d ∷ next_of t ∷ []) (next_of t) (Contains-push (d ∷ []) (next_of t)) in
    over_through (half_over t d (next_of t) parent node) (more_over (half t d (next_of t) parent node) node last)

write_over : (t : Tree) (n offset : ℕ) (piece : List ℕ) → IsMergedTree t (write_step t n offset piece)
unfolding write_step
write_over t n offset [] = over_itself t
write_over t n offset (byte ∷ bytes) = content_over t n (other_bytes (λ old. with_piece old offset (byte ∷ bytes)))

-- by what a name holds
module _ (t : Tree) (d : ℕ) (name : List ℕ) where
  opened_over : (o : Options) (c : Option ℕ) → IsMergedTree t (opened_step t d name o c)
  opened_over o None = made_over t d name new_file
  opened_over o (Some n) = by (is_cut o (node_at t n).content)
    where
      by : (cut : Bool) → IsMergedTree t (cond cut (file_cut t n) t)
      by true = content_over t n (other_bytes (with_size 0))
      by false = over_itself t

  added_over : (c : Option ℕ) → IsMergedTree t (added_step t d name c)
  added_over None = over_itself t
  added_over (Some n) = entry_over t d n (with_entry name n) one_name_more

  dropped_over : (change : Content → Content) (c : Option ℕ) → IsMergedTree t (dropped_step t d name change c)
  dropped_over change None = over_itself t
  dropped_over change (Some n) = entry_over t d n (without_entry name) change

times_over : (t : Tree) (n : ℕ) (atime mtime : Option SystemTime) → IsMergedTree t (times_set t n atime mtime)
times_over t n atime mtime = node_over t n (with_times (node_at t n) atime mtime)

times_if_over : (t : Tree) (atime mtime : Option SystemTime) (c : Option ℕ) → IsMergedTree t (times_set_if t atime mtime c)
times_if_over t atime mtime None = over_itself t
times_if_over t atime mtime (Some n) = times_over t n atime mtime

name_over : (t : Tree) (old : ℕ) (old_name : List ℕ) (new : ℕ) (new_name : List ℕ) (n : ℕ)
    → IsMergedTree t (name_moved t old old_name new new_name n)
unfolding node_at
name_over t old old_name new new_name n =
    let taken : Tree = name_taken t old old_name in
    both_over t old new (without_name (node_at t old) old_name) (with_name (node_at taken new) new_name n)

-- by what two names hold
module _ (t : Tree) (old : ℕ) (old_name : List ℕ) (new : ℕ) (new_name : List ℕ) where
  moved_over : (c : Option ℕ) → IsMergedTree t (moved_step t old old_name new new_name c)
  moved_over None = over_itself t
  moved_over (Some n) =
      let there = child t new new_name in
      over_through (dropped_over t new new_name name_lost there)
      (name_over (dropped_step t new new_name name_lost there) old old_name new new_name n)

  renamed_over : IsMergedTree t (rename_step t old old_name new new_name)
  unfolding rename_step
  renamed_over = by (hold_one (child t old old_name) (child t new new_name))
    where
      by : (one : Bool) → IsMergedTree t (cond one t (moved_step t old old_name new new_name (child t old old_name)))
      by true = over_itself t
      by false = moved_over (child t old old_name)

-- the step of a call
step_over : (t : Tree) (call : HostCall) → IsMergedTree t (step t call)
unfolding open_step unlink_step remove_step link_step times_step
step_over t (OpenAt d name o) = opened_over t d name o (child t d name)
step_over t (StatAt d name) = over_itself t
step_over t (ReadLinkAt d name) = over_itself t
step_over t (MakeDirAt d name) = made_over t d name new_directory
step_over t (SymlinkAt text d name) = made_over t d name (new_link text)
step_over t (LinkAt old old_name new new_name) = added_over t new new_name (child t old old_name)
step_over t (RenameAt old old_name new new_name requires_dir) = renamed_over t old old_name new new_name
step_over t (UnlinkAt d name) = dropped_over t d name one_name_less (child t d name)
step_over t (RemoveDirAt d name) = dropped_over t d name made_gone (child t d name)
step_over t (TimesAt d name atime mtime) = times_if_over t atime mtime (child t d name)
step_over t (Access d) = over_itself t
step_over t (Stat n) = over_itself t
step_over t (SetTimes n atime mtime) = times_over t n atime mtime
step_over t (Pread file offset n) = over_itself t
step_over t (Pwrite file offset piece) = write_over t file.node offset piece
step_over t (Append file piece) = write_over t file.node (length (bytes_of (node_at t file.node).content)) piece
step_over t (SetSize file size) = content_over t file.node (other_bytes (with_size size))
step_over t (Sync n) = over_itself t
step_over t (Advise n offset length advice) = over_itself t
step_over t (Flags n) = over_itself t
step_over t (ListDir stands) = over_itself t
step_over t (Dup stands) = over_itself t
step_over t Close = over_itself t

-- ---- requests

place_over : (t : Tree) (what : EntryOp) (r : Result Place ErrorCode) → IsMergedTree t (step_in t what r)
place_over t what (Ok p) = step_over t (call_at what p)
place_over t what (Err code) = over_itself t

path_over : (t : Tree) (p : PathRequest) → IsMergedTree t (path_after t p)
path_over t (OpenPath s text o follow directory) = by (opening t s text o follow)
  where
    by : (r : Result Opening ErrorCode) → IsMergedTree t (step_of t r)
    by (Ok e) = step_over t (OpenAt e.directory e.name e.options)
    by (Err code) = over_itself t
path_over t (LookPath s text follow) = over_itself t
path_over t (AtEntry s text what) = place_over t what (place_for t s text what)
path_over t (TimesPath s text true atime mtime) = by (timed t s text)
  where
    by : (r : Result OpenHandle ErrorCode) → IsMergedTree t (times_through t atime mtime r)
    by (Ok held) = times_over t held.node atime mtime
    by (Err code) = over_itself t
path_over t (TimesPath s text false atime mtime) =
    place_over t (at_place.SetTimes atime mtime) (place_for t s text (at_place.SetTimes atime mtime))
path_over t (AtTwo old old_text new new_text what) = by (places_for t old old_text new new_text what)
  where
    by : (r : Result Places ErrorCode) → IsMergedTree t (step_at_two t what (asks_directory old_text new_text) r)
    by (Ok p) = step_over t (call_at_two what (asks_directory old_text new_text) p)
    by (Err code) = over_itself t

-- one that may be left out
over_or : {t u : Tree} (b : Bool) → IsMergedTree t u → IsMergedTree t (cond b t u)
over_or {t} true over = over_itself t
over_or false over = over

request_over : (t : Tree) (r : Request) → IsMergedTree t (after t r)
request_over t (Path p) = path_over t p
request_over t (Direct call) = step_over t call
request_over t (Behind f piece) = step_over t (Append f piece)
request_over t (ListDirectory d) = over_itself t
request_over t (Sizes ns) = over_itself t
request_over t (Grow limit w) = over_or (is_above limit (growth_at t limit w)) (request_over t w)

-- ---- turns and runs

spec_over : (t : Tree) (m : CallResult (Program (Value × Guest))) (p : Value × State) → spec_on t m ≡ Ok p → IsMergedTree t p.1.tree
spec_over t (Ok (done q)) p is = subst (IsMergedTree t) (sym (over_tree (Ok q) is)) (over_itself t)
spec_over t (Ok (asking r next)) p is = subst (IsMergedTree t) (sym (replied_by t r next is).tree) (request_over t r)
spec_over t (Err e) p is = absurd (cc)

pub turned_over : (t : TraceStep) → Played t ⊎ Faulted t → IsMergedTree t.before.tree t.after.tree
turned_over t took = by (turned_moves t took)
  where
    by : Moves t.before t.after (turn t.before t.call) → IsMergedTree t.before.tree t.after.tree
    by (inl (x, is)) = spec_over t.before.tree (call_spec t.before.guest t.call) (x, t.after) is
    by (inr still) = elim still.tree [
      | inl same ↦ subst (IsMergedTree t.before.tree) (sym same) (over_itself t.before.tree)
      | inr step ↦ subst (IsMergedTree t.before.tree) (sym step.tree)
          (spec_over t.before.tree (call_spec t.before.guest t.call) step.given step.answers)
    ]

-- the tree of a run, however often the host fails in it
pub run_over : (k : ℕ) (old new : State) (calls : List FueledCall) (turns : List TraceStep) → Trace k old calls turns new
    → IsMergedTree old.tree new.tree
run_over k old new calls turns run =
    run_keeps (λ s. IsMergedTree old.tree s.tree) (λ t took over. over_through over (turned_over t took)) calls turns k old new
    run (over_itself old.tree)
