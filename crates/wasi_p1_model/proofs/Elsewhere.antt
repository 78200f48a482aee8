-- What a request that is answered leaves of the nodes of any tree: each that was there stays as it is, unless the request
-- comes to it; and then it stays a directory, or stays none.
use Rattle.std.proofs.Common.{ℕ, ◌<◌, ◌≡◌, ◌⊎◌, inl, inr, true, false, cond, Bool, List, [], ◌∷◌, length, Option, Some, None, Result, Ok, Err, refl, sym, ap, ◌∙◌, subst}
use Rattle.std.specs.Prelude.{Contains}
use Rattle.std.proofs.lemmas.Bool.{cases_eq}
use Rattle.std.proofs.lemmas.List.Elements.{Contains-push}
use Rattle.wasi_host.specs.Options.{Options}
use Rattle.wasi_host.specs.Tree.{Tree, Node, Nodes, Content, node_at, next_of, bytes_of, child, hold_one, is_directory, stray}
use Rattle.wasi_host.specs.Agree.{IsClosed}
use Rattle.wasi_host.specs.HostCall.{HostCall, OpenAt, StatAt, ReadLinkAt, MakeDirAt, SymlinkAt, LinkAt, RenameAt, UnlinkAt, RemoveDirAt, TimesAt, Access, Stat, SetTimes, Pread, Pwrite, Append, SetSize, Sync, Advise, Flags, ListDir, Dup, Close}
use Rattle.wasi_host.specs.Refusal.{refusal, naming_rules, renaming_rules}
use Rattle.wasi_host.specs.Answer.{HostAnswer, host_answer}
use Rattle.wasi_host.specs.Step.{step, with_nodes, with_content, content_changed, entry_changed, with_entry, without_entry, with_name, without_name, node_made, new_file, new_directory, new_link, other_bytes, with_size, is_cut, file_cut, opened_step, open_step, with_piece, write_step, one_name_more, added_step, link_step, one_name_less, made_gone, dropped_step, unlink_step, remove_step, name_lost, name_taken, name_moved_onto, moved_step, rename_step, with_times, times_set, times_set_if, times_step, starts_of}
use Rattle.wasi_host.specs.Steps.{◌>>=◌}
use Rattle.wasi_host.specs.declared.errors.ErrorCode.{ErrorCode}
use Rattle.wasi_host.specs.declared.open_handle.OpenHandle.{OpenHandle}
use Rattle.wasi_host.specs.declared.system_time.SystemTime.{SystemTime}
use Rattle.wasi_host.proofs.Agreeing.{child_seen, itself}
use Rattle.wasi_host.proofs.Chain.{free}
use Rattle.wasi_host.proofs.Changes.{changed, directory_within, node_at-apart, node_at-kept}
use Rattle.wasi_host.proofs.Leaving.{Contains-here, each_kind, set_cases}
use Rattle.wasi_host.proofs.Refusals.{free_of, none_refuses}
use Rattle.wasi_host.proofs.ValidSteps.{has_bytes, can_open, can_make_directory, can_make_link, can_add, can_rename, can_unlink, can_remove}
use Rattle.wasi_resolve.specs.Laws.{GivesIn}
use Rattle.wasi_resolve.specs.EntryOps as at_place
use Rattle.wasi_resolve.specs.EntryOps.{EntryOp, EntryAnswer, CreateDir, RemoveFile, RemoveDir, Symlink, ReadLink, call_at, answer_in, place_text, place_for, step_in}
use Rattle.wasi_resolve.specs.TwoPathOps.{TwoPathOp, HardLink, Rename, Places, text_for, asks_directory, answer_at_two, step_at_two}
use Rattle.wasi_resolve.specs.Paths.{Opening, Place, opening, step_of, place, timed}
use Rattle.wasi_resolve.specs.PathRequest.{PathRequest, OpenPath, LookPath, AtEntry, TimesPath, AtTwo, PathReply, Opened, answer_at, as_asked, times_through, path_reply, path_after, path_starts}
use Rattle.wasi_resolve.proofs.PathAgreeing as paths
use Rattle.wasi_resolve.proofs.Requests.{as_opened, from_two}
use Rattle.wasi_resolve.proofs.WalkAgreeing.{from_one}
use Rattle.wasi_p1_types.specs.Request.{Request, Reply, Path, Direct, Behind, ListDirectory, Sizes, Grow, reply_of, after, starts_at}
use Rattle.wasi_p1_model.proofs.Lengthening.{bounded_by}

-- a node that was there stays as it is, or is one of these, and is a directory as before, or none
abbrev pub StaysOr : (ℕ → Type 0) → Tree → Tree → Type 0
StaysOr Near t u = (n : ℕ) → n < next_of t → (node_at u n ≡ node_at t n)
    ⊎ (Near n × (is_directory (node_at u n).content ≡ is_directory (node_at t n).content))

-- ---- contents that change

-- a directory stays one, and what is none stays none
abbrev KeepsKind : (Content → Content) → Type 0
KeepsKind change = (content : Content) → is_directory (change content) ≡ is_directory content

more_kind : KeepsKind one_name_more
more_kind = each_kind (λ c. is_directory (one_name_more c) ≡ is_directory c) (λ _ _. refl) (λ _ _. refl) (λ _ _. refl)

fewer_kind : KeepsKind one_name_less
fewer_kind = each_kind (λ c. is_directory (one_name_less c) ≡ is_directory c) (λ _ _. refl) (λ _ _. refl) (λ _ _. refl)

gone_kind : KeepsKind made_gone
gone_kind = each_kind (λ c. is_directory (made_gone c) ≡ is_directory c) (λ _ _. refl) (λ _ _. refl) (λ _ _. refl)

lost_kind : KeepsKind name_lost
lost_kind = each_kind (λ c. is_directory (name_lost c) ≡ is_directory c) (λ _ _. refl) (λ _ _. refl) (λ _ _. refl)

-- ---- from nodes of a closed set

module _ {Seen : ℕ → Type 0} {t : Tree} (closed : IsClosed Seen t) where
  all_stay : StaysOr Seen t t
  all_stay n within = inl refl

  -- another node in place of one of the set, which is a directory as that was, or none
  put_stays : (u : Tree) (m : ℕ) (node : Node) (worked : Nodes) → StaysOr Seen t u → Seen m
      → is_directory node.content ≡ is_directory (node_at t m).content → StaysOr Seen t (changed u m node worked)
  unfolding node_at
  put_stays u m node worked stays seen kind n within = elim (set_cases u.nodes m n node stray) [
    | inl same ↦ rw same (stays n within)
    | inr (at, set) ↦ inr (
      subst Seen (sym at) seen,
      ap (λ (x : Node). is_directory x.content) set ∙ kind
          ∙ ap (λ k. is_directory (node_at t k).content) (sym at),
    )
  ]

  -- a new node, under a name of a directory
  made_stays : (d : ℕ) (name : List ℕ) (node : Node) → Seen d → is_directory (node_at t d).content ≡ true
      → StaysOr Seen t (node_made t d name node)
  made_stays d name node seen directory n within = elim (cases_eq n d) [
    | inl here ↦ inr (
      subst Seen (sym here) seen,
      node_at-kept t d name node (directory_within t d directory) (λ x. is_directory x.content) (sym directory) n within,
    )
    | inr other ↦ inl (node_at-apart t d name node (directory_within t d directory) n within other)
  ]

  -- other entries of a directory, and another content of the node of a name
  entry_stays : (d n : ℕ) (entries change : Content → Content) → Seen d → Seen n
      → is_directory (entries (node_at t d).content) ≡ is_directory (node_at t d).content → KeepsKind change
      → StaysOr Seen t (entry_changed t d entries n change)
  entry_stays d n entries change above seen directory keeps =
      let parent : Node = with_content (node_at t d) entries in
      put_stays (changed t d parent t.worked) n (with_content (node_at t n) change) (with_nodes t.worked (d ∷ n ∷ []))
      (put_stays t d parent t.worked all_stay above directory) seen (keeps (node_at t n).content)

  bytes_stay : (n : ℕ) (change : List ℕ → List ℕ) → Seen n → StaysOr Seen t (content_changed t n (other_bytes change))
  bytes_stay n change seen =
      put_stays t n (with_content (node_at t n) (other_bytes change)) (with_nodes t.worked (n ∷ [])) all_stay seen
      (has_bytes change (node_at t n).content).directory

  write_stays : (n offset : ℕ) (piece : List ℕ) → Seen n → StaysOr Seen t (write_step t n offset piece)
  unfolding write_step
  write_stays n offset [] seen = all_stay
  write_stays n offset (byte ∷ bytes) seen = bytes_stay n (λ old. with_piece old offset (byte ∷ bytes)) seen

  append_stays : (f : OpenHandle) (piece : List ℕ) → Seen f.node → StaysOr Seen t (step t (Append f piece))
  append_stays f piece seen = write_stays f.node (length (bytes_of (node_at t f.node).content)) piece seen

  times_stay : (n : ℕ) (atime mtime : Option SystemTime) → Seen n → StaysOr Seen t (times_set t n atime mtime)
  times_stay n atime mtime seen =
      put_stays t n (with_times (node_at t n) atime mtime) (with_nodes t.worked (n ∷ [])) all_stay seen refl

  -- by what a name holds
  module _ (d : ℕ) (name : List ℕ) (seen : Seen d) where
    opened_stays : (o : Options) → is_directory (node_at t d).content ≡ true → (c : Option ℕ) → child t d name ≡ c
        → StaysOr Seen t (opened_step t d name o c)
    opened_stays o directory None is = made_stays d name new_file seen directory
    opened_stays o directory (Some n) is = by (is_cut o (node_at t n).content)
      where
        by : (cut : Bool) → StaysOr Seen t (cond cut (file_cut t n) t)
        by true = bytes_stay n (with_size 0) (child_seen closed d n name seen is)
        by false = all_stay

    dropped_stays : (change : Content → Content) → KeepsKind change
        → ((n : ℕ) → child t d name ≡ Some n → is_directory (node_at t d).content ≡ true)
        → (c : Option ℕ) → child t d name ≡ c → StaysOr Seen t (dropped_step t d name change c)
    dropped_stays change keeps directory None is = all_stay
    dropped_stays change keeps directory (Some n) is =
        entry_stays d n (without_entry name) change seen (child_seen closed d n name seen is) (sym (directory n is)) keeps

    times_at_stay : (atime mtime : Option SystemTime) (c : Option ℕ) → child t d name ≡ c
        → StaysOr Seen t (times_set_if t atime mtime c)
    times_at_stay atime mtime None is = all_stay
    times_at_stay atime mtime (Some n) is = times_stay n atime mtime (child_seen closed d n name seen is)

  -- by what the old name holds
  module _ (old : ℕ) (old_name : List ℕ) (new : ℕ) (new_name : List ℕ) (seen : Seen old) (near : Seen new) where
    added_stays : ((n : ℕ) → child t old old_name ≡ Some n → is_directory (node_at t new).content ≡ true)
        → (c : Option ℕ) → child t old old_name ≡ c → StaysOr Seen t (added_step t new new_name c)
    added_stays directory None is = all_stay
    added_stays directory (Some n) is =
        entry_stays new n (with_entry new_name n) one_name_more near (child_seen closed old n old_name seen is)
        (sym (directory n is)) more_kind

    module _ (source : is_directory (node_at t old).content ≡ true)
        (target : is_directory (node_at t new).content ≡ true) where
      onto_stays : (n : ℕ) → StaysOr Seen t (name_moved_onto t old old_name new new_name n (child t new new_name))
      onto_stays n =
          let lost : Tree = dropped_step t new new_name name_lost (child t new new_name) in
          let taken : Tree = name_taken lost old old_name in
          put_stays taken new (with_name (node_at taken new) new_name n) (with_nodes lost.worked (old ∷ new ∷ []))
          (put_stays lost old (without_name (node_at lost old) old_name) lost.worked
          (dropped_stays new new_name near name_lost lost_kind (λ _ _. target) (child t new new_name) refl)
          seen (sym source)) near (sym target)

      moved_stays : (c : Option ℕ) → StaysOr Seen t (moved_step t old old_name new new_name c)
      moved_stays None = all_stay
      moved_stays (Some n) = onto_stays n

      renamed_stays : StaysOr Seen t (rename_step t old old_name new new_name)
      unfolding rename_step
      renamed_stays = by (hold_one (child t old old_name) (child t new new_name))
        where
          by : (one : Bool)
              → StaysOr Seen t (cond one t (moved_step t old old_name new new_name (child t old old_name)))
          by true = all_stay
          by false = moved_stays (child t old old_name)

  rename_stays : (old : ℕ) (old_name : List ℕ) (new : ℕ) (new_name : List ℕ) (requires_dir : Bool) → Seen old → Seen new
      → refusal t (RenameAt old old_name new new_name requires_dir) ≡ None
      → StaysOr Seen t (rename_step t old old_name new new_name)
  unfolding refusal
  rename_stays old old_name new new_name requires_dir seen near none =
      let rows = none_refuses (naming_rules t old old_name new new_name requires_dir)
      (renaming_rules t old new (child t old old_name) (child t new new_name)) none in
      let can = can_rename t old old_name new new_name requires_dir rows.0 in
      renamed_stays old old_name new new_name seen near can.old_directory can.looks.directory

  -- the step of a call that isn't refused
  pub step_stays : (call : HostCall) → ((n : ℕ) → Contains (starts_of call) n → Seen n) → refusal t call ≡ None
      → StaysOr Seen t (step t call)
  unfolding open_step unlink_step remove_step link_step times_step
  step_stays (OpenAt d name o) from none =
      opened_stays d name (from d (Contains-here d [])) o (can_open t d name o none).directory (child t d name) refl
  step_stays (StatAt d name) from none = all_stay
  step_stays (ReadLinkAt d name) from none = all_stay
  step_stays (MakeDirAt d name) from none =
      made_stays d name new_directory (from d (Contains-here d [])) (can_make_directory t d name none).looks.directory
  step_stays (SymlinkAt text d name) from none =
      made_stays d name (new_link text) (from d (Contains-here d [])) (can_make_link t d name text none).0.looks.directory
  step_stays (LinkAt old old_name new new_name) from none =
      added_stays old old_name new new_name (from old (Contains-here old (new ∷ []))) (from new (Contains-push (old ∷ []) new))
      (λ n found. (can_add t old new n old_name new_name none found).looks.directory) (child t old old_name) refl
  step_stays (RenameAt old old_name new new_name requires_dir) from none =
      rename_stays old old_name new new_name requires_dir (from old (Contains-here old (new ∷ []))) (from new (Contains-push (old ∷ []) new)) none
  step_stays (UnlinkAt d name) from none =
      dropped_stays d name (from d (Contains-here d [])) one_name_less fewer_kind
      (λ n found. (can_unlink t d n name none found).0) (child t d name) refl
  step_stays (RemoveDirAt d name) from none =
      dropped_stays d name (from d (Contains-here d [])) made_gone gone_kind
      (λ n found. (can_remove t d n name none found).0) (child t d name) refl
  step_stays (TimesAt d name atime mtime) from none =
      times_at_stay d name (from d (Contains-here d [])) atime mtime (child t d name) refl
  step_stays (Access d) from none = all_stay
  step_stays (Stat n) from none = all_stay
  step_stays (SetTimes n atime mtime) from none = times_stay n atime mtime (from n (Contains-here n []))
  step_stays (Pread file offset n) from none = all_stay
  step_stays (Pwrite file offset piece) from none =
      write_stays file.node offset piece (from file.node (Contains-here file.node []))
  step_stays (Append file piece) from none = append_stays file piece (from file.node (Contains-here file.node []))
  step_stays (SetSize file size) from none =
      bytes_stay file.node (with_size size) (from file.node (Contains-here file.node []))
  step_stays (Sync n) from none = all_stay
  step_stays (Advise n offset length advice) from none = all_stay
  step_stays (Flags n) from none = all_stay
  step_stays (ListDir stands) from none = all_stay
  step_stays (Dup stands) from none = all_stay
  step_stays Close from none = all_stay

  -- and of one that is answered
  answered_stays : (call : HostCall) {x : HostAnswer call} → ((n : ℕ) → Contains (starts_of call) n → Seen n)
      → host_answer t call ≡ Ok x → StaysOr Seen t (step t call)
  answered_stays call from is = step_stays call from (free_of t call is)

  -- ---- through a path

  place_stays : (what : EntryOp) (m : Result Place ErrorCode) {reply : EntryAnswer what}
      → GivesIn Seen (λ (p : Place). p.directory) m → (m >>= answer_in t what) ≡ Ok reply
      → StaysOr Seen t (step_in t what m)
  place_stays CreateDir (Ok p) seen is = answered_stays (call_at CreateDir p) (from_one Seen seen) is
  place_stays RemoveFile (Ok p) seen is = answered_stays (call_at RemoveFile p) (from_one Seen seen) is
  place_stays RemoveDir (Ok p) seen is = answered_stays (call_at RemoveDir p) (from_one Seen seen) is
  place_stays (Symlink text) (Ok p) seen is = answered_stays (call_at (Symlink text) p) (from_one Seen seen) is
  place_stays ReadLink (Ok p) seen is = all_stay
  place_stays (at_place.SetTimes atime mtime) (Ok p) seen is =
      answered_stays (call_at (at_place.SetTimes atime mtime) p) (from_one Seen seen) is
  place_stays what (Err code) seen is = all_stay

  done_stays : (s : ℕ) (text : List ℕ) (what : EntryOp) {reply : EntryAnswer what} → Seen s
      → (place_for t s text what >>= answer_in t what) ≡ Ok reply
      → StaysOr Seen t (step_in t what (place_for t s text what))
  done_stays s text what seen is =
      place_stays what (place_for t s text what) (paths.place_seen closed itself s (place_text what text) seen) is

  opening_stays : (directory : Bool) (m : Result Opening ErrorCode) {reply : Opened}
      → GivesIn Seen (λ (e : Opening). e.directory) m → (m >>= answer_at t >>= as_asked directory) ≡ Ok reply
      → StaysOr Seen t (step_of t m)
  opening_stays directory (Ok e) seen is =
      step_stays (OpenAt e.directory e.name e.options) (from_one Seen seen) (free _ _ _ (as_opened directory (answer_at t e) is))
  opening_stays directory (Err code) seen is = all_stay

  timed_stays : (atime mtime : Option SystemTime) (m : Result OpenHandle ErrorCode)
      → GivesIn Seen (λ (held : OpenHandle). held.node) m → StaysOr Seen t (times_through t atime mtime m)
  timed_stays atime mtime (Ok f) seen = times_stay f.node atime mtime seen
  timed_stays atime mtime (Err code) seen = all_stay

  abbrev both : Result Place ErrorCode → Result Place ErrorCode → Result Places ErrorCode
  both a b = a >>= (λ p. b >>= (λ q. Ok (record { old = p; new = q })))

  two_stay : (what : TwoPathOp) (asks : Bool) (a b : Result Place ErrorCode) {reply : Unit {0}}
      → GivesIn Seen (λ (p : Place). p.directory) a → GivesIn Seen (λ (p : Place). p.directory) b
      → (both a b >>= answer_at_two t what asks) ≡ Ok reply → StaysOr Seen t (step_at_two t what asks (both a b))
  two_stay HardLink asks (Ok p) (Ok q) old new is =
      answered_stays (LinkAt p.directory p.name q.directory q.name) (from_two Seen old new) is
  two_stay Rename asks (Ok p) (Ok q) old new is =
      answered_stays (RenameAt p.directory p.name q.directory q.name asks) (from_two Seen old new) is
  two_stay what asks (Ok p) (Err code) old new is = all_stay
  two_stay what asks (Err code) b old new is = all_stay

  path_stays : (r : PathRequest) (reply : PathReply r) → ((n : ℕ) → Contains (path_starts r) n → Seen n)
      → path_reply t r ≡ Ok reply → StaysOr Seen t (path_after t r)
  path_stays (OpenPath s text o follow directory) reply from is =
      opening_stays directory (opening t s text o follow)
      (paths.opening_seen closed itself s text o follow (from s (Contains-here s []))) is
  path_stays (LookPath s text follow) reply from is = all_stay
  path_stays (AtEntry s text what) reply from is = done_stays s text what (from s (Contains-here s [])) is
  path_stays (TimesPath s text true atime mtime) reply from is =
      timed_stays atime mtime (timed t s text) (paths.timed_seen closed itself s text (from s (Contains-here s [])))
  path_stays (TimesPath s text false atime mtime) reply from is =
      done_stays s text (at_place.SetTimes atime mtime) (from s (Contains-here s [])) is
  path_stays (AtTwo old old_text new new_text what) reply from is =
      two_stay what (asks_directory old_text new_text) (place t old (text_for what old_text)) (place t new (text_for what new_text))
      (paths.place_seen closed itself old (text_for what old_text) (from old (Contains-here old (new ∷ []))))
      (paths.place_seen closed itself new (text_for what new_text) (from new (Contains-push (old ∷ []) new))) is

  -- a request that is answered
  pub request_stays : (r : Request) (reply : Reply r) → ((n : ℕ) → Contains (starts_at r) n → Seen n)
      → reply_of t r ≡ Ok reply → StaysOr Seen t (after t r)
  request_stays (Path p) reply from is = path_stays p reply from is
  request_stays (Direct call) reply from is = answered_stays call from is
  request_stays (Behind f piece) reply from is = append_stays f piece (from f.node (Contains-here f.node []))
  request_stays (ListDirectory d) reply from is = all_stay
  request_stays (Sizes ns) reply from is = all_stay
  request_stays (Grow limit w) None from is = subst (StaysOr Seen t) (sym (bounded_by t limit w None is).leaves) all_stay
  request_stays (Grow limit w) (Some grown) from is =
      let did = bounded_by t limit w (Some grown) is in
      subst (StaysOr Seen t) (sym did.does) (request_stays w grown.1 from did.is)
