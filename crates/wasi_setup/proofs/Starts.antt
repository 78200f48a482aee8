-- How the calls of a script begin.
use Rattle.std.proofs.Common.{ℕ, zero, suc, ◌+◌, ◌<◌, ◌≤◌, ◌≡◌, ◌≢◌, inl, inr, Bool, true, false, subst, ap, List, [], ◌∷◌, ◌++◌, length, map, take, refl, sym, ◌∙◌, arith, get_or, slice_get, slice_index_or, Some, ◌==◌}
use Rattle.std.specs.List.{list_all}
use Rattle.std.specs.Ordering.{nat_cmp}
use Rattle.std.specs.String.{string_bytes}
use Rattle.std.specs.FinSet.{empty, contains, insert, contains-empty, members}
use Rattle.std.proofs.lemmas.Bool.Decides.{nat_tests}
use Rattle.wasi_host.specs.HostLaws.{Handles}
use Rattle.std.proofs.lemmas.Bool.{cases_Bool, leb-true}
use Rattle.std.proofs.lemmas.List.{length-map, map-append, take_more}
use Rattle.std.specs.Prelude.{All}
use Rattle.std.proofs.lemmas.List.Elements.{All-head, All-tail, All-push, All-weaker}
use Rattle.std.proofs.lemmas.List.Quantifiers.{all_pairs_push}
use Rattle.std.proofs.lemmas.List.Folds.{list_all_at, list_all-map}
use Rattle.wasi_host.specs.Tree.{Tree, Nodes, node_at, is_directory, stray}
use Rattle.wasi_host.specs.ValidTree.{root, held}
use Rattle.wasi_host.specs.declared.open_handle.AccessMode.TheVariants.{PathOnly}
use Rattle.wasi_host.specs.declared.open_handle.OpenHandle.{OpenHandle}
use Rattle.wasi_host.specs.declared.limits.Limits.{Limits}
use Rattle.wasi_tree.specs.NodeData.{NodeData, ContentData, file, directory, link, content_from, nodes_from, tree_of}
use Rattle.wasi_tree.specs.NodeDataTests.{is_dir_content}
use Rattle.wasi_host_faults.specs.Faults.{Failing}
use Rattle.wasi_tree.specs.MemState.{HeldMap, MemState, live_of, held_in}
use Rattle.wasi_guest.specs.Range.{with_bytes}
use Rattle.wasi_guest.specs.Services.{Handed}
use Rattle.wasi_guest.specs.declared.quota.Quota.{Quota}
use Rattle.wasi_p1_model.specs.Reach.{Confined}
use Rattle.wasi_form.specs.Plan.{PlannedPreopen, PlannedPiece, planned, planned_preopen, planned_piece}
use Rattle.wasi_form.specs.Within.{are_preopens_directories, is_directory_data, is_piece_within, is_within_limits}
use Rattle.wasi_form.specs.declared.script.Session.{Session}
use Rattle.wasi_form.proofs.Accepted.{limits_kept}
use Rattle.wasi_p1_types.specs.Slots.{first_slots, preopen_mode, preopen_directory, name_of_preopen, preopen_slot, preopen_slots}
use Rattle.wasi_p1_types.specs.Quotas.{with_quota}
use Rattle.wasi_p1_types.specs.GuestEnvModel.{first_stock}
use Rattle.wasi_p1_model.specs.Owners.{handles, one_if, uses, uses_in, IsHandle}
use Rattle.wasi_p1_types.specs.declared.slots.P1Preopen.{P1Preopen}
use Rattle.wasi_setup.specs.Start.{preopen_guest_slot, preopen_guest_slots, ArePreopens, IsBegun, IsWithinOn, with_pieces}
use Rattle.wasi_p1_types.specs.Guest.{State, directory as directory_slot, directory_by, guest_slot}
use Rattle.wasi_form.specs.declared.script.Piece.{Piece}
use Rattle.wasi_form.specs.declared.script.ScriptPreopen.{ScriptPreopen}
use Rattle.wasi_p1_model.proofs.Owning.{first_uses, uses-given}

-- each element passes
pub passes_at : {X : Type 0} (p : X → Bool) (xs : List X) (i : ℕ) (d : X) → i < length xs → list_all p xs ≡ true → p (get_or xs i d) ≡ true
passes_at p xs i d within all = elim (cases_Bool (p (get_or xs i d))) [
  | inl passes ↦ passes
  | inr fails ↦ let none = list_all_at p xs i d within fails in absurd (cc)
]

-- a handle that was just given is live
pub given_is_live : (before now : Handles) (h : ℕ) → now ≡ insert before h → contains now h ≡ true
given_is_live before now h is = rw is (grind (arith, members, nat_tests))

directory_from : (all : List NodeData) (k : ℕ) (content : ContentData) → is_dir_content content ≡ true → is_directory (content_from all k content) ≡ true
directory_from all k (file bytes) is = absurd (cc)
directory_from all k (directory entries) is = refl
directory_from all k (link text) is = absurd (cc)

given_from : (all gs : List NodeData) (k n : ℕ) → is_directory_data (slice_get gs n) ≡ true → is_directory (slice_index_or (nodes_from all k gs) n stray).content ≡ true
given_from all [] k n is = absurd (cc)
given_from all (g ∷ gs) k zero is = directory_from all k g.content is
given_from all (g ∷ gs) k (suc n) is = given_from all gs (k + 1) n is

-- a directory of the list is one of its tree
pub directory_given : (nodes : List NodeData) (limits : Limits) (n : ℕ) → is_directory_data (slice_get nodes n) ≡ true → is_directory (node_at (tree_of nodes limits) n).content ≡ true
unfolding node_at tree_of
directory_given nodes limits n is = given_from nodes nodes 0 n is

-- the directories that the guest is given are
pub directories_given : (nodes : List NodeData) (limits : Limits) (preopens : List ScriptPreopen)
    → are_preopens_directories nodes (map planned_preopen preopens) ≡ true
    → All (λ preopen. is_directory (node_at (tree_of nodes limits) preopen.node).content ≡ true) preopens
directories_given nodes limits preopens are k d within =
    directory_given nodes limits (get_or preopens k d).node
    (passes_at (λ preopen. is_directory_data (slice_get nodes (planned_preopen preopen).node)) preopens k d within
    (sym (list_all-map (λ (preopen : PlannedPreopen). is_directory_data (slice_get nodes preopen.node)) planned_preopen preopens) ∙ are))

-- a script within the limits can begin on the tree of its nodes
pub within_on : {tree : Tree} (nodes : List NodeData) (limits : Limits) (session : Session) → tree ≡ tree_of nodes limits
    → is_within_limits (planned nodes limits session) ≡ true → IsWithinOn tree session
within_on nodes limits session tree-is within =
    let kept = limits_kept (planned nodes limits session) within in
    record {
      directories = rw tree-is (directories_given nodes limits session.preopens.items kept.preopens);
      table = omega (arith, kept.table, length-map session.preopens.items planned_preopen);
      pieces = kept.pieces;
    }

-- ---- handles that are given one after another

abbrev IsLiveIn : HeldMap → P1Preopen → Type 0
IsLiveIn handles preopen = contains (live_of handles) preopen.handle ≡ true

-- those that were given stand for what they stood for
slots_again : (old new : HeldMap) (place : ℕ) (given : List P1Preopen) → All (IsLiveIn old) given
    → ((h : ℕ) → contains (live_of old) h ≡ true → held_in new h ≡ held_in old h)
    → map (guest_slot (held_in new)) (preopen_slots place given) ≡ map (guest_slot (held_in old)) (preopen_slots place given)
slots_again old new place [] lives same = refl
slots_again old new place (p ∷ ps) lives same =
    let here : guest_slot (held_in new) (preopen_slot place p) ≡ guest_slot (held_in old) (preopen_slot place p) =
    ap (λ (held : OpenHandle). directory_slot (directory_by held (record { dir = preopen_directory p; preopen = Some place })))
    (same p.handle (All-head (IsLiveIn old) p ps lives)) in
    λ i. here i ∷ slots_again old new (suc place) ps (All-tail (IsLiveIn old) p ps lives) same i

-- one more stands after them
slots_more : (holds : ℕ → OpenHandle) (planned : PlannedPreopen) (p : P1Preopen) (place : ℕ) (preopens : List PlannedPreopen)
    (given : List P1Preopen)
    → map (guest_slot holds) (preopen_slots place given) ≡ preopen_guest_slots place preopens
    → ((n : ℕ) → guest_slot holds (preopen_slot n p) ≡ preopen_guest_slot n planned)
    → map (guest_slot holds) (preopen_slots place (given ++ p ∷ [])) ≡ preopen_guest_slots place (preopens ++ planned ∷ [])
slots_more holds planned p place [] [] are here = λ i. here place i ∷ []
slots_more holds planned p place (q ∷ preopens) (g ∷ given) are here =
    let first : guest_slot holds (preopen_slot place g) ≡ preopen_guest_slot place q = (cc) in
    let rest : map (guest_slot holds) (preopen_slots (suc place) given) ≡ preopen_guest_slots (suc place) preopens = (cc) in
    λ i. first i ∷ slots_more holds planned p (suc place) preopens given rest here i
slots_more holds planned p place [] (g ∷ given) are here = absurd (cc)
slots_more holds planned p place (q ∷ preopens) [] are here = absurd (cc)

pub none_given : {held : HeldMap} → live_of held ≡ empty → ArePreopens held [] []
none_given none = record {
  live = λ k d within. absurd (omega arith);
  once = λ i j d less within. absurd (omega arith);
  slots = refl;
  names = refl;
  all = λ h live. let not = contains-empty nat_cmp h in absurd (let wrong = sym live ∙ ap (λ s. contains s h) none in cc);
}

-- one descriptor more has its own handle
uses_given : (place : ℕ) (given : List P1Preopen) (p : P1Preopen) (q : ℕ)
    → uses (handles (preopen_slots place (given ++ p ∷ []))) q
    ≡ uses (handles (preopen_slots place given)) q + uses_in (Some p.handle) q
uses_given place [] p q = omega (arith, uses-given place p [] q)
uses_given place (g ∷ gs) p q =
    omega (arith, uses-given place g (gs ++ p ∷ []) q, uses-given place g gs q, uses_given (suc place) gs p q)

abbrev planned_name : PlannedPreopen → List ℕ
planned_name preopen = preopen.name

-- as many as the directories
pub given_length : {held : HeldMap} {preopens : List PlannedPreopen} {given : List P1Preopen}
    → ArePreopens held preopens given → length given ≡ length preopens
given_length {preopens = preopens} {given = given} are =
    sym (length-map given name_of_preopen) ∙ ap length are.names ∙ length-map preopens planned_name

-- a new handle, of one directory more
pub record IsPreopenOf (old new : HeldMap) (planned : PlannedPreopen) (preopen : P1Preopen) : Type 0 where
  pub fresh : contains (live_of old) preopen.handle ≡ false
  pub live : live_of new ≡ insert (live_of old) preopen.handle
  pub held : held_in new preopen.handle ≡ record { node = planned.node; mode = PathOnly }
  pub others : (h : ℕ) → contains (live_of old) h ≡ true → held_in new h ≡ held_in old h
  pub perms : preopen.perms ≡ planned.perms
  pub name : string_bytes preopen.name ≡ planned.name

pub given_more : {old new : HeldMap} {planned : PlannedPreopen} {p : P1Preopen} (preopens : List PlannedPreopen)
    (given : List P1Preopen)
    → ArePreopens old preopens given → IsPreopenOf old new planned p
    → ArePreopens new (preopens ++ planned ∷ []) (given ++ p ∷ [])
given_more {old} {new} {planned} {p} preopens given are is = record {
  live = All-push (IsLiveIn new) given p (All-weaker (IsLiveIn old) (IsLiveIn new) still given are.live) got;
  once = all_pairs_push (λ one other. one.handle ≢ other.handle) given p are.once (λ k d within same.
      absurd (let wrong = sym (are.live k d within) ∙ ap (contains (live_of old)) same ∙ is.fresh in cc));
  slots =
      slots_more (held_in new) planned p 0 preopens given (slots_again old new 0 given are.live is.others ∙ are.slots) (λ place i.
      directory_slot (record {
        node = (is.held i).node;
        perms = is.perms i;
        open_mode = preopen_mode (is.perms i);
        preopen = Some place;
      }));
  names = rw (map-append name_of_preopen given (p ∷ []), map-append planned_name preopens (planned ∷ []))
      (λ i. are.names i ++ is.name i ∷ []);
  all = λ h live. own h (h == p.handle) refl (sym (ap (λ s. contains s h) is.live) ∙ live);
}
  where
    own : (h : ℕ) (b : Bool) → (h == p.handle) ≡ b → contains (insert (live_of old) p.handle) h ≡ true
        → IsHandle (handles (preopen_slots 0 (given ++ p ∷ []))) h
    own h true same live = let one = ap one_if same in omega (arith, one, uses_given 0 given p h)
    own h false other live =
        let was : contains (live_of old) h ≡ true = grind (arith, members, nat_tests, live, other) in
        omega (arith, are.all h was, uses_given 0 given p h)

    still : (q : P1Preopen) → IsLiveIn old q → IsLiveIn new q
    still q lives = subst (λ s. contains s q.handle ≡ true) (sym is.live)
        (let more : contains (insert (live_of old) p.handle) q.handle ≡ true = grind (arith, members, nat_tests) in more)

    got : IsLiveIn new p
    got = given_is_live (live_of old) (live_of new) p.handle is.live

-- a context over a tree in memory that has given handles, whose calls fail
pub begun_by : {host : Failing MemState} {tree : Tree} {preopens : List PlannedPreopen} {services : Handed}
    {quota : Quota} {table fuel : ℕ} {list : List P1Preopen}
    → host.inner.tree ≡ tree → host.inner.touched ≡ empty → host.inner.lookups ≡ []
    → ArePreopens host.inner.handles preopens list
    → IsBegun
    (record {
      host = host;
      slots = first_slots list;
      table_max = table;
      holdings = with_quota quota (first_stock services (map name_of_preopen list));
      fuel = fuel;
    })
    tree preopens services quota table
begun_by {list = list} tree-is none unasked are = record {
  state = λ memory. rw (tree-is, are.slots, are.names) refl;
  untouched = none;
  unasked = unasked;
  alone = λ h live. omega (arith, are.all h live, first_uses list h);
}

-- at the start, where nothing was touched, all that was come to is in reach
pub confined_at_start : (s : State) {touched : Nodes} → touched ≡ empty → Confined s s touched
confined_at_start s untouched = rw untouched (record {
  later = omega arith;
  descriptors = λ n has. inl (root n has);
  names = λ d n name near is. elim near [ inl reached ↦ inl (held d n name reached is) | inr made ↦ let low = made.fresh in let high = made.there in absurd (omega arith) ];
  touched_in = λ n has. let none = contains-empty nat_cmp n in absurd (cc);
})

with_one_more : (memory : List ℕ) (pieces : List PlannedPiece) (piece : PlannedPiece) → with_pieces memory (pieces ++ piece ∷ []) ≡ with_bytes (with_pieces memory pieces) piece.offset piece.bytes
with_one_more memory [] piece = refl
with_one_more memory (p ∷ ps) piece = with_one_more (with_bytes memory p.offset p.bytes) ps piece

-- one more piece is written
pub with_next : (memory : List ℕ) (pieces : List Piece) (i : ℕ) (d : Piece) → i < length pieces
    → with_pieces memory (map planned_piece (take (i + 1) pieces)) ≡ with_bytes (with_pieces memory (map planned_piece (take i pieces))) (get_or pieces i d).offset (get_or pieces i d).bytes.items
with_next memory pieces i d within = rw (take_more pieces i d within, map-append planned_piece (take i pieces) (get_or pieces i d ∷ [])) (with_one_more memory (map planned_piece (take i pieces)) (planned_piece (get_or pieces i d)))

-- a piece at an index lies within
pub piece_within : (size : ℕ) (pieces : List Piece) (i : ℕ) (d : Piece) → i < length pieces → list_all (is_piece_within size) (map planned_piece pieces) ≡ true
    → (get_or pieces i d).offset + length (get_or pieces i d).bytes.items ≤ size
piece_within size pieces i d within all = leb-true _ _ (passes_at (λ piece. is_piece_within size (planned_piece piece)) pieces i d within (sym (list_all-map (is_piece_within size) planned_piece pieces) ∙ all))
