-- What steps work on was touched.
use Rattle.std.proofs.Common.{◌≡◌, ◌∙◌, inl, inr, refl, sym, ap, ℕ, Bool, true, false, cond, IsTrue, arith, nat_eq, List, [], ◌∷◌, ◌++◌, length, Option, Some, None, Result, Ok, Err}
use Rattle.std.proofs.lemmas.Bool.{eqb-true, eq-eqb}
use Rattle.std.proofs.lemmas.List.Elements.{All-nil, All-cons, All-tail, All-append, All-weaker, All-contains, All-contains_itself, Contains-push}
use Rattle.std.proofs.lemmas.List.Folds.{list_any_at}
use Rattle.std.proofs.lemmas.Map.Views.{list_any-from_Contains, Contains-from_any}
use Rattle.std.proofs.lemmas.Result.{IfOk-weaker}
use Rattle.std.specs.Cmp.{nat_eq_equiv}
use Rattle.std.specs.FinSet.{contains, from_list, contains-from_list_nat}
use Rattle.std.specs.Global.{Vec}
use Rattle.std.specs.declared.alloc.AllocError.{AllocError}
use Rattle.std.specs.List.{list_any}
use Rattle.std.specs.Ordering.{nat_cmp}
use Rattle.std.specs.Prelude.{All, Contains, IfOk, option_to_list, is_none}
use Rattle.wasi_host.specs.Answer.{HostAnswer}
use Rattle.wasi_host.specs.HostCall.{HostCall, OpenAt, StatAt, ReadLinkAt, MakeDirAt, SymlinkAt, LinkAt, RenameAt, UnlinkAt, RemoveDirAt, TimesAt, Access, Stat, SetTimes, Pread, Pwrite, Append, SetSize, Sync, Advise, Flags, ListDir, Dup, Close}
use Rattle.wasi_host.specs.HostLaws.{Handles, RefinesCall, Stepped, Looked, Stayed}
use Rattle.wasi_host.specs.Options.{Options}
use Rattle.wasi_host.specs.Step.{step, with_nodes, open_step, opened_step, is_cut, file_cut, write_step, link_step, added_step, unlink_step, remove_step, dropped_step, one_name_less, made_gone, rename_step, moved_step, name_moved_onto, times_step, times_set_if, found_under, found_by, made_by}
use Rattle.wasi_host.specs.Tree.{Tree, Nodes, Content, child, next_of, node_at, bytes_of, hold_one}
use Rattle.wasi_host.specs.declared.errors.ErrorCode.TheVariants.{Io}
use Rattle.wasi_host.specs.declared.errors.HostError.{HostError}
use Rattle.wasi_host.specs.declared.errors.HostError.TheVariants.{Code, Memory}
use Rattle.wasi_host.specs.declared.system_time.SystemTime.{SystemTime}
use Rattle.wasi_tree.specs.MemState.{MemState, model_of}
use Rattle.wasi_host.proofs.Chain.{contains-with_nodes}
use Rattle.wasi_host.proofs.Touching.{one_of, or_left, or_right}
use Rattle.wasi_overlay.specs.Overlay.{WorksOnTouched}

-- all of these are among those
abbrev Within : Nodes → Nodes → Type 0
Within these those = (n : ℕ) → contains these n ≡ true → contains those n ≡ true

-- with more on both sides
more_within : (these those : Nodes) (ns ms : List ℕ) → Within these those → All (Contains ms) ns
    → Within (with_nodes these ns) (with_nodes those ms)
more_within these those ns ms within among n is =
    contains-with_nodes those ms n
    ∙ elim (one_of (any ns) (contains these n) (sym (contains-with_nodes these ns n) ∙ is)) [
      | inl was ↦ or_right (any ms) (contains those n) (within n was)
      | inr here ↦ or_left (any ms) (contains those n) (list_any-from_Contains nat_eq_equiv n ms
          (All-contains (Contains ms) ns n among (Contains-from_any eqb-true n ns here)))
    ]
  where
    any : List ℕ → Bool
    any = list_any (nat_eq n)

two_among : (ms : List ℕ) (a b : ℕ) → Contains ms a → Contains ms b → All (Contains ms) (a ∷ b ∷ [])
two_among ms a b first second = All-cons (Contains ms) a (b ∷ []) first (All-cons (Contains ms) b [] second (All-nil _))

-- ---- a step

module _ (t : Tree) (touched : Nodes) (was : Within t.worked touched) where
  -- nothing is worked on
  none : (ms : List ℕ) → Within t.worked (with_nodes touched ms)
  none ms = more_within t.worked touched [] ms was (All-nil _)

  -- what is touched is worked on
  all : (ns : List ℕ) → Within (with_nodes t.worked ns) (with_nodes touched ns)
  all ns = more_within t.worked touched ns ns was (All-contains_itself ns)

  -- the node under a name is worked on, and not its directory
  found_alone : (d n : ℕ) → Within (with_nodes t.worked (n ∷ [])) (with_nodes touched (d ∷ n ∷ []))
  found_alone d n =
      let ms : List ℕ = d ∷ n ∷ [] in
      more_within t.worked touched (n ∷ []) ms was (All-tail (Contains ms) d (n ∷ []) (All-contains_itself ms))

  -- a node is made in a directory
  made : (d : ℕ) (name : List ℕ)
      → Within (with_nodes t.worked (d ∷ next_of t ∷ [])) (with_nodes touched (found_under t d name ++ next_of t ∷ []))
  made d name =
      let ms : List ℕ = found_under t d name ++ next_of t ∷ [] in
      more_within t.worked touched (d ∷ next_of t ∷ []) ms was
      (two_among ms d (next_of t) (0, omega arith, refl) (Contains-push (found_under t d name) (next_of t)))

  opened : (d : ℕ) (name : List ℕ) (o : Options) (c : Option ℕ)
      → Within (opened_step t d name o c).worked
      (with_nodes touched ((d ∷ option_to_list c) ++ cond (is_none c) (next_of t ∷ []) []))
  opened d name o None = all (d ∷ next_of t ∷ [])
  opened d name o (Some n) =
      elim (is_cut o (node_at t n).content) as (λ b. Within (cond b (file_cut t n) t).worked (with_nodes touched (d ∷ n ∷ []))) [
        | true ↦ found_alone d n
        | false ↦ none (d ∷ n ∷ [])
      ]

  written : (n offset : ℕ) (piece : List ℕ) → Within (write_step t n offset piece).worked (with_nodes touched (n ∷ []))
  unfolding write_step
  written n offset [] = none (n ∷ [])
  written n offset (byte ∷ piece) = all (n ∷ [])

  dropped : (d : ℕ) (name : List ℕ) (change : Content → Content) (c : Option ℕ)
      → Within (dropped_step t d name change c).worked (with_nodes touched ((d ∷ option_to_list c) ++ []))
  dropped d name change None = none (d ∷ [])
  dropped d name change (Some n) = all (d ∷ n ∷ [])

  timed : (d : ℕ) (atime mtime : Option SystemTime) (c : Option ℕ)
      → Within (times_set_if t atime mtime c).worked (with_nodes touched ((d ∷ option_to_list c) ++ []))
  timed d atime mtime None = none (d ∷ [])
  timed d atime mtime (Some n) = found_alone d n

  -- what the call with two names comes to, by what they hold
  abbrev of_both : ℕ → Option ℕ → ℕ → Option ℕ → List ℕ
  of_both old c new there = ((old ∷ option_to_list c) ++ (new ∷ option_to_list there)) ++ []

  linked : (old new : ℕ) (name : List ℕ) (c there : Option ℕ)
      → Within (added_step t new name c).worked (with_nodes touched (of_both old c new there))
  linked old new name None there = none (of_both old None new there)
  linked old new name (Some n) there =
      let ms : List ℕ = of_both old (Some n) new there in
      more_within t.worked touched (new ∷ n ∷ []) ms was
      (two_among ms new n (2, omega arith, refl) (1, omega arith, refl))

  moved_onto : (old new n : ℕ) (old_name new_name : List ℕ) (there : Option ℕ)
      → Within (name_moved_onto t old old_name new new_name n there).worked (with_nodes touched (of_both old (Some n) new there))
  moved_onto old new n old_name new_name None =
      let ms : List ℕ = of_both old (Some n) new None in
      more_within t.worked touched (old ∷ new ∷ []) ms was
      (two_among ms old new (0, omega arith, refl) (2, omega arith, refl))
  moved_onto old new n old_name new_name (Some m) =
      let ms : List ℕ = of_both old (Some n) new (Some m) in
      more_within t.worked touched (new ∷ m ∷ old ∷ new ∷ []) ms was
      (All-append (Contains ms) (new ∷ m ∷ []) (old ∷ new ∷ [])
      (two_among ms new m (2, omega arith, refl) (3, omega arith, refl))
      (two_among ms old new (0, omega arith, refl) (2, omega arith, refl)))

  moved : (old new : ℕ) (old_name new_name : List ℕ) (c : Option ℕ) (one : Bool)
      → Within (cond one t (moved_step t old old_name new new_name c)).worked
      (with_nodes touched (of_both old c new (child t new new_name)))
  moved old new old_name new_name c true = none (of_both old c new (child t new new_name))
  moved old new old_name new_name None false = none (of_both old None new (child t new new_name))
  moved old new old_name new_name (Some n) false = moved_onto old new n old_name new_name (child t new new_name)

  -- what a step works on, its call comes to or makes
  pub worked_by : (call : HostCall)
      → Within (step t call).worked (with_nodes touched (found_by t call ++ made_by t call))
  unfolding open_step link_step unlink_step remove_step rename_step times_step
  worked_by (OpenAt d name o) = opened d name o (child t d name)
  worked_by (StatAt d name) = none (found_under t d name ++ [])
  worked_by (ReadLinkAt d name) = none (found_under t d name ++ [])
  worked_by (MakeDirAt d name) = made d name
  worked_by (SymlinkAt text d name) = made d name
  worked_by (LinkAt old old_name new new_name) = linked old new new_name (child t old old_name) (child t new new_name)
  worked_by (RenameAt old old_name new new_name requires_dir) =
      moved old new old_name new_name (child t old old_name) (hold_one (child t old old_name) (child t new new_name))
  worked_by (UnlinkAt d name) = dropped d name one_name_less (child t d name)
  worked_by (RemoveDirAt d name) = dropped d name made_gone (child t d name)
  worked_by (TimesAt d name atime mtime) = timed d atime mtime (child t d name)
  worked_by (Access d) = none (d ∷ [])
  worked_by (Stat n) = none (n ∷ [])
  worked_by (SetTimes n atime mtime) = all (n ∷ [])
  worked_by (Pread file offset m) = none (file.node ∷ [])
  worked_by (Pwrite file offset piece) = written file.node offset piece
  worked_by (Append file piece) = written file.node (length (bytes_of (node_at t file.node).content)) piece
  worked_by (SetSize file size) = all (file.node ∷ [])
  worked_by (Sync n) = none (n ∷ [])
  worked_by (Advise n offset length advice) = none (n ∷ [])
  worked_by (Flags n) = none (n ∷ [])
  worked_by (ListDir held) = none (held.node ∷ [])
  worked_by (Dup held) = none []
  worked_by Close = none []

-- ---- a call

module _ {m m' : MemState} (was : WorksOnTouched m) where
  carried : {these those : Nodes} → m'.tree.worked ≡ these → m'.touched ≡ those → Within these those → WorksOnTouched m'
  carried worked touched within = record {
    touched = λ n is. ap (λ s. contains s n) touched ∙ within n (sym (ap (λ s. contains s n) worked) ∙ is);
  }

  after_step : {call : HostCall} → Stepped (model_of m) call (model_of m') → WorksOnTouched m'
  after_step {call} by =
      carried (ap (λ (t : Tree). t.worked) by.tree) by.touched (worked_by m.tree m.touched was.touched call)

  after_look : {call : HostCall} → Looked (model_of m) call (model_of m') → WorksOnTouched m'
  after_look {call} by =
      carried (ap (λ (t : Tree). t.worked) by.tree) by.touched (none m.tree m.touched was.touched (found_by m.tree call))

  after_none : Stayed (model_of m) (model_of m') → WorksOnTouched m'
  after_none by = carried (ap (λ (t : Tree). t.worked) by.tree) by.touched was.touched

  after : {A : Type 0} {old new : Handles} {call : HostCall} {shown : A → HostAnswer call} (r : Result A HostError)
      → RefinesCall old new (model_of m) (model_of m') call shown r → WorksOnTouched m'
  after (Ok a) told = after_step told.after
  after (Err Memory) told = elim told.after [ inl stayed ↦ after_none stayed | inr looked ↦ after_look looked ]
  after (Err (Code Io)) told = elim told.after [
    | inl stayed ↦ after_none stayed
    | inr (inl looked) ↦ after_look looked
    | inr (inr hidden) ↦ after_step hidden.1
  ]
  after (Err (Code code)) told = after_look told.after

  -- a call of a modelled host leaves it so
  pub works_on_touched : {A : Type 0} {old new : Handles} {call : HostCall} {shown : A → HostAnswer call}
      {r : Result A HostError} → (IsTrue true → RefinesCall old new (model_of m) (model_of m') call shown r) → WorksOnTouched m'
  works_on_touched {r = r} told = after r (told refl)

-- ---- what is listed

in_list : (nodes : List ℕ) (n : ℕ) → Contains nodes n → contains (from_list {R = nat_cmp} nodes) n ≡ true
in_list nodes n (k, within, is) = contains-from_list_nat nodes n ∙ list_any_at (λ m. nat_eq m n) nodes k n within (eq-eqb _ _ is)

-- what is listed as worked on was touched
pub kept_touched : {m : MemState} {worked : Nodes} (r : Result (Vec ℕ) AllocError) → WorksOnTouched m → worked ≡ m.tree.worked
    → IfOk r (λ nodes. from_list nodes.items ≡ worked) → IfOk r (λ nodes. All (λ n. contains m.touched n ≡ true) nodes.items)
kept_touched {m} {worked} r was is = IfOk-weaker r _ _ (λ nodes listed.
    All-weaker (Contains nodes.items) (λ n. contains m.touched n ≡ true)
    (λ n has. was.touched n (sym (ap (λ s. contains s n) (listed ∙ is)) ∙ in_list nodes.items n has))
    nodes.items (All-contains_itself nodes.items))
