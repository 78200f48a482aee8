-- Where a walk ends: at a last name that is opened or looked at, or in a directory.
use Rattle.std.proofs.Common.{◌≡◌, ◌⊎◌, inl, inr, ℕ, Bool, true, false, ◌||◌, ◌&&◌, cond, not, List, [], ◌∷◌, Option, Some, None, Result, Ok, Err, IsTrue, refl, sym, ap, subst, ◌∙◌}
use Rattle.std.specs.Prelude.{is_ok, codes, Contains}
use Rattle.std.specs.FinSet.{contains, insert}
use Rattle.std.proofs.lemmas.List.Elements.{All-nil, All-cons, Contains-push}
use Rattle.wasi_paths.specs.Text.{is_plain}
use Rattle.wasi_host.specs.Options.{Options}
use Rattle.wasi_host.specs.Agree.{Touches}
use Rattle.wasi_host.specs.Tree.{Tree, child, is_link}
use Rattle.wasi_host.specs.HostCall.{OpenAt, StatAt, Access, Stat}
use Rattle.wasi_host.specs.Refusal.{refusal, holds}
use Rattle.wasi_host.specs.Steps.{◌>>=◌}
use Rattle.wasi_host.specs.Answer.{unless, reached, stat_at_answer, stat_answer, access_answer, metadata_of}
use Rattle.wasi_host.specs.HostLaws.{HostModel, Handles, RefinesCall, MeansErr, hosted}
use Rattle.wasi_host.proofs.Chain.{free}
use Rattle.wasi_host.specs.declared.errors.ErrorCode.{ErrorCode}
use Rattle.wasi_host.specs.declared.errors.ErrorCode.TheVariants.{Io, IsDirectory, NotDirectory}
use Rattle.wasi_host.specs.declared.errors.HostError.{HostError}
use Rattle.wasi_host.specs.declared.errors.HostError.TheVariants.{Code, Memory}
use Rattle.wasi_host.specs.declared.open_handle.OpenHandle.{OpenHandle}
use Rattle.wasi_host.specs.declared.metadata.Metadata.{Metadata}
use Rattle.wasi_resolve.specs.Walk.{Open, Look, Name, Dot, last_options, is_to_be_read}
use Rattle.wasi_resolve.specs.Meanings.{ends_by, opened_node}
use Rattle.wasi_resolve.specs.Paths.{Opening, opened_by, step_of, behind_slash, looked_at}
use Rattle.wasi_resolve.specs.Resolved.{Meant, Resolved, TreeAfter, call_meant}
use Rattle.wasi_resolve.specs.Finding.{is_link_kind, is_directory_kind}
use Rattle.wasi_resolve.specs.WalkState.{Course}
use Rattle.wasi_resolve.specs.WalkSteps.{OnlyLooks, IsFault, Enters, EndsUnread, EndsAtLink, EndsAtName, EndsInDirectory, open_meant, meant_at, Sight, HandleFor, Seen, shown_found}
use Rattle.wasi_resolve.specs.declared.found.Found.TheVariants as found
use Rattle.wasi_resolve.specs.declared.found.Reach.{Reach}
use Rattle.wasi_resolve.specs.declared.found.Reach.TheVariants as reach
use Rattle.wasi_resolve.specs.declared.name_left.NameLeft.{NameLeft}
use Rattle.wasi_host.proofs.Touching.{at_root, open_ends, name_ends}
use Rattle.wasi_resolve.proofs.Calls.{}
use Rattle.wasi_resolve.proofs.Calls.{call_ok, call_err, looks_of, looks_then, resolved_err, resolved_then, err_means, fault_means, same_live, still_live}
use Rattle.wasi_resolve.proofs.Tables.{looked_child, looked_free, looked_is, looked_link, looked_directory, open_to_read, look_to_read, look_reads, look_unread, met_reads}
use Rattle.wasi_host.proofs.Refusals.{unless-err}

-- ---- the same meaning in other words

abbrev pub mapped : {A B : Type 0} → (A → B) → Meant A → Meant B
mapped f m = record { starts = m.starts; answer = m.answer >>= (λ a. Ok (f a)); stepped = m.stepped; ends = m.ends }

means_mapped : {A B : Type 0} (f : A → B) (meant : Result A ErrorCode) (e : HostError) → MeansErr meant e
    → MeansErr (meant >>= (λ a. Ok (f a))) e
means_mapped f meant Memory means = tt
means_mapped f meant (Code Io) means = tt
means_mapped f meant (Code code) means = ap (λ r. r >>= (λ a. Ok (f a))) means

ok_mapped : {A B : Type 0} (f : A → B) (meant : Result A ErrorCode) → is_ok meant ≡ true
    → is_ok (meant >>= (λ a. Ok (f a))) ≡ true
ok_mapped f (Ok a) is = refl
ok_mapped f (Err code) is = absurd (cc)

tree_mapped : (A A' : Type 0) {B B' : Type 0} (f : B
    → B') (t stepped t' : Tree) (meant : Result B ErrorCode) (e : HostError)
    → TreeAfter {A = A} t stepped t' meant (Err e) → TreeAfter {A = A'} t stepped t' (meant >>= (λ b. Ok (f b))) (Err e)
tree_mapped A A' f t stepped t' meant Memory after = after
tree_mapped A A' f t stepped t' meant (Code Io) after = elim after [ inl still ↦ inl still | inr made ↦ inr (ok_mapped f meant made.0, made.1) ]
tree_mapped A A' f t stepped t' meant (Code code) after = after

module _ {A A' B B' : Type 0} (f : B → B') {live : Handles} {w u : HostModel} {m : Meant B} {shown : A
    → B} (shown' : A' → B') where
  pub mapped_ok : {a : A} (a' : A') → shown' a' ≡ f (shown a) → Resolved live w u m shown (Ok a)
      → Resolved live w u (mapped f m) shown' (Ok a')
  mapped_ok a' same resolved = record {
    answer = ap (λ r. r >>= (λ b. Ok (f b))) resolved.answer
        ∙ ap (λ y. let r : Result B' ErrorCode = Ok y in r) (sym same);
    tree = resolved.tree;
    touched = resolved.touched;
    keeps = resolved.keeps;
  }

  pub mapped_err : (e : HostError) → Resolved live w u m shown (Err e) → Resolved live w u (mapped f m) shown' (Err e)
  mapped_err e resolved = record {
    answer = means_mapped f m.answer e resolved.answer;
    tree = tree_mapped A A' f w.tree m.stepped u.tree m.answer e resolved.tree;
    touched = resolved.touched;
    keeps = resolved.keeps;
  }

-- ---- the last name of an open

abbrev as_reach : NameLeft → Result (Option ℕ) HostError → Result Reach HostError
as_reach name (Ok (Some h)) = Ok (reach.Found (found.Handle h))
as_reach name (Ok None) = Ok (reach.Link name)
as_reach name (Err e) = Err e

pub last_opened : (live : Handles) (w u : HostModel) (d : ℕ) (name : NameLeft) (o : Options) (follow slash : Bool)
    (r : Result (Option ℕ) HostError)
    → Enters live w u d name.text.now (last_options o slash) (follow || slash) r
    → EndsAtName live w u d (record { aim = Open o; follow = follow; slash = slash }) name.text.now
    (as_reach name r)
last_opened live w u d name o follow slash (Ok (Some h)) opens = record {
  unread = open_to_read w.tree o follow slash d name.text.now ∙ opens.unread;
  resolved = mapped_ok HandleFor (shown_found u.held) (found.Handle h) refl opens.resolved;
}
last_opened live w u d name o follow slash (Ok None) met = record {
  reads = open_to_read w.tree o follow slash d name.text.now ∙ met.reads;
  free = met_reads w.tree d name.text.now (last_options o slash) (follow || slash) name.plain met.reads;
  looks = met.looks;
  same = refl;
}
last_opened live w u d name o follow slash (Err e) fails = elim fails [
  | inl fault ↦ inl fault
  | inr opens ↦ inr (record {
    unread = open_to_read w.tree o follow slash d name.text.now ∙ opens.unread;
    resolved = mapped_err HandleFor (shown_found u.held) e opens.resolved;
  })
]

-- ---- the last name of a look

abbrev for_look : Bool → Bool → Course
for_look follow slash = record { aim = Look; follow = follow; slash = slash }

module _ {old new : Handles} {w u : HostModel} {d : ℕ} {name : List ℕ} (follow slash : Bool) (plain : IsTrue
    (is_plain name))
    (same : new ≡ old) where
  -- it is refused
  pub last_unseen : (e : HostError) → RefinesCall {A = Metadata} old new w u (StatAt d name) (λ m. m) (Err e)
      → (OnlyLooks old w u (d ∷ []) × IsFault e) ⊎ EndsUnread old w u d (for_look follow slash) name (Err e)
  last_unseen e modelled = by e modelled.meaning
    where
      seen : OnlyLooks old w u (d ∷ [])
      seen = looks_of (Err e) (λ is. refl) (call_err {call = StatAt d name} e [] same modelled)

      by : (x : HostError) → MeansErr (stat_at_answer w.tree d name) x
          → (OnlyLooks old w u (d ∷ []) × IsFault x) ⊎ EndsUnread old w u d (for_look follow slash) name (Err x)
      by Memory means = inl (seen, inl refl)
      by (Code Io) means = inl (seen, inr refl)
      by (Code code) means = inr (record {
        unread = look_unread w.tree follow slash d name code plain (unless-err _ _ means);
        resolved = resolved_err (meant_at w.tree Look d (Name d name slash)) (shown_found u.held) (Code code) refl
            (err_means _ code (ap (λ r. unless r (reached w.tree d name) >>= behind_slash w.tree slash >>= (λ n. Ok
            (Seen (metadata_of w.tree n)))) (unless-err (refusal w.tree (StatAt d name)) _ means))) seen;
      })

  module _ {m : Metadata} (modelled : RefinesCall {A = Metadata} old new w u (StatAt d name) (λ x. x) (Ok m)) where
    none : refusal w.tree (StatAt d name) ≡ None
    none = looked_free w.tree d name m modelled.meaning

    held : holds w.tree d name (λ n. is_link n.content) ≡ is_link_kind m.kind
    held = looked_link w.tree d name m modelled.meaning

    test : is_to_be_read w.tree Look follow slash true d name ≡ (is_link_kind m.kind && (follow || slash))
    test = look_to_read w.tree follow slash d name none ∙ ap (λ b. b && (follow || slash)) held

    child_is : (n : ℕ) × (child w.tree d name ≡ Some n)
    child_is = looked_child w.tree d name none

    resolved : Resolved old w u (call_meant w.tree (StatAt d name) (reached w.tree d name ∷ [])) (λ
        (x : Metadata). x) (Ok m)
    resolved =
        call_ok {call =
        StatAt d name} (reached w.tree d name ∷ []) (name_ends w.tree d child_is.0 name child_is.1)
        (same_live same) modelled

    seen : OnlyLooks old w u (d ∷ [])
    seen = looks_of (Ok m) (λ is. refl) resolved

    -- what the look means, by the test of the slash
    by_slash : (looked_at w.tree (Name d name slash) ≡ behind_slash w.tree slash (reached w.tree d name))
    by_slash = ap (λ r. unless r (reached w.tree d name) >>= behind_slash w.tree slash) none

    slash_test : (b : Bool) → (slash && not (is_directory_kind m.kind)) ≡ b
        → looked_at w.tree (Name d name slash) ≡ cond b (Err NotDirectory) (Ok (reached w.tree d name))
    slash_test b is =
        by_slash
        ∙ ap (λ x. cond x (let r : Result ℕ ErrorCode = Err NotDirectory in r) (Ok (reached w.tree d name)))
        (ap (λ x. slash && not x) (looked_directory w.tree d name m modelled.meaning) ∙ is)

    -- a link that is to be read
    pub last_link : (found_name : List ℕ) → found_name ≡ name → (is_link_kind m.kind && (follow || slash)) ≡ true
        → EndsAtLink old w u d (for_look follow slash) name found_name
    last_link found_name is reads = record {
      reads = test ∙ reads;
      free = look_reads w.tree d name (held ∙ first _ _ reads) none;
      looks = seen;
      same = is;
    }
      where
        first : (a b : Bool) → (a && b) ≡ true → a ≡ true
        first true b both = refl
        first false b both = absurd (cc)

    -- no directory, though a slash stands after it
    pub last_not_directory : (is_link_kind m.kind && (follow || slash)) ≡ false
        → (slash && not (is_directory_kind m.kind)) ≡ true
        → EndsUnread old w u d (for_look follow slash) name (Err (Code NotDirectory))
    last_not_directory unread wants = record {
      unread = test ∙ unread;
      resolved = resolved_err (meant_at w.tree Look d (Name d name slash)) (shown_found u.held) (Code NotDirectory) refl
          (ap (λ r. r >>= (λ n. Ok (Seen (metadata_of w.tree n)))) (slash_test true wants)) seen;
    }

    pub last_seen : (is_link_kind m.kind && (follow || slash)) ≡ false
        → (slash && not (is_directory_kind m.kind)) ≡ false
        → EndsUnread old w u d (for_look follow slash) name (Ok (found.Metadata m))
    last_seen unread wants = record {
      unread = test ∙ unread;
      resolved = record {
        answer = ap (λ r. r >>= (λ n. Ok (Seen (metadata_of w.tree n)))) (slash_test false wants)
            ∙ ap (λ x. let r : Result Sight ErrorCode = Ok (Seen x) in r) (looked_is w.tree d name m modelled.meaning);
        tree = seen.tree;
        touched =
            subst (λ r. Touches w.tree u.tree (d ∷ []) (ends_by (λ n. n) r) w.touched u.touched) (sym
            (slash_test false wants)) resolved.touched;
        keeps = resolved.keeps;
      };
    }

-- ---- a directory

-- an open that ends in a directory, by whether it is for writing
abbrev dot_opening : ℕ → Options → Bool → Result Opening ErrorCode
dot_opening d o writes = cond writes (Err IsDirectory) (Ok (record { directory = d; name = codes "."; options = o }))

abbrev dot_meant : Tree → ℕ → Options → Bool → Meant Sight
dot_meant t d o writes = record {
  starts = d ∷ [];
  answer = dot_opening d o writes >>= opened_by t >>= (λ held. Ok (HandleFor held));
  stepped = step_of t (dot_opening d o writes);
  ends = ends_by (opened_node t) (dot_opening d o writes);
}

-- an open for writing
pub dot_written : {live : Handles} {w : HostModel} {d : ℕ} (o : Options) → o.write ≡ true → OnlyLooks live w w (d ∷ [])
    → EndsInDirectory live w w d (Open o) (Err (Code IsDirectory))
dot_written {w = w} {d = d} o is looks =
    resolved_err (meant_at w.tree (Open o) d (Dot d)) (shown_found w.held) (Code IsDirectory) refl
    (ap (λ b. (dot_meant w.tree d o b).answer) is) looks

read_meant : (t : Tree) (d : ℕ) (o : Options) → o.write ≡ false
    → mapped HandleFor (open_meant t d (codes ".") o) ≡ meant_at t (Open o) d (Dot d)
read_meant t d o is = ap (dot_meant t d o) (sym is)

module _ {w : HostModel} {d : ℕ} {o : Options} (is : o.write ≡ false) where
  pub dot_opened : {old new : Handles} {u : HostModel} {h : ℕ} → new ≡ insert old h
      → RefinesCall {A = ℕ} old new w u (OpenAt d (codes ".") o) u.held (Ok h)
      → EndsInDirectory old w u d (Open o) (Ok (found.Handle h))
  dot_opened {old} {u = u} {h = h} got modelled =
      subst (λ m. Resolved old w u m (shown_found u.held) (Ok (found.Handle h))) (read_meant w.tree d o is)
      (mapped_ok HandleFor (shown_found u.held) (found.Handle h) refl
      (call_ok {call =
      OpenAt d (codes ".") o} {shown = u.held} (reached w.tree d (codes ".") ∷ []) (open_ends w.tree d
      (codes ".") o) (still_live old h got) modelled))

  pub dot_refused : {old new : Handles} {u : HostModel} (e : HostError) → new ≡ old
      → RefinesCall {A = ℕ} old new w u (OpenAt d (codes ".") o) u.held (Err e)
      → EndsInDirectory old w u d (Open o) (Err e)
  dot_refused {old} {u = u} e same modelled =
      subst (λ m. Resolved old w u m (shown_found u.held) (Err e)) (read_meant w.tree d o is)
      (mapped_err HandleFor (shown_found u.held) e
      (call_err {call = OpenAt d (codes ".") o} {shown = u.held} e (reached w.tree d (codes ".") ∷ []) same modelled))

stat_gives : (t : Tree) (n : ℕ) (m : Metadata) → stat_answer t n ≡ Ok m → metadata_of t n ≡ m
unfolding refusal
stat_gives t n m is = (cc)

stat_faults : (t : Tree) (n : ℕ) (code : ErrorCode) → MeansErr (stat_answer t n) (Code code) → IsFault (Code code)
unfolding refusal
stat_faults t n Io means = inr refl
stat_faults t n code means = absurd (cc)

-- a look
dot_means : (t : Tree) (d : ℕ) (r : Option ErrorCode) → refusal t (Access d) ≡ r
    → (meant_at t Look d (Dot d)).answer ≡ unless r (Seen (metadata_of t d))
dot_means t d None is = ap (λ r. unless r d >>= (λ n. Ok (Seen (metadata_of t n)))) is
dot_means t d (Some code) is = ap (λ r. unless r d >>= (λ n. Ok (Seen (metadata_of t n)))) is

module _ {old mid : Handles} {w v : HostModel} {d : ℕ} (same : mid ≡ old) where
  pub dot_denied : (code : ErrorCode) → RefinesCall {A = Unit {0}} old mid w v (Access d) (λ x. x) (hosted (Err code))
      → EndsInDirectory old w v d Look (Err (Code code))
  dot_denied code modelled =
      resolved_err (meant_at w.tree Look d (Dot d)) (shown_found v.held) (Code code) refl (by code modelled.meaning)
      (looks_of (Err (Code code)) (λ is. refl) (call_err {call = Access d} (Code code) [] same modelled))
    where
      by : (c : ErrorCode) → MeansErr (access_answer w.tree d) (Code c)
          → MeansErr (meant_at w.tree Look d (Dot d)).answer (Code c)
      by Io means = tt
      by c means = dot_means w.tree d (Some c) (unless-err _ _ means)

  module _ {new : Handles} (here : ℕ) (at : (w.held here).node ≡ d) (live : contains old here ≡ true)
      (still : new ≡ mid) (modelled : RefinesCall {A = Unit {0}} old mid w v (Access d) (λ x. x) (hosted (Ok tt))) where
    abbrev e : ℕ
    e = (v.held here).node

    first : OnlyLooks old w v (d ∷ [])
    first = looks_of (Ok tt) (λ is. refl) (call_ok {call = Access d} [] (All-nil _) (same_live same) modelled)

    node_same : e ≡ d
    node_same = ap (λ (h : OpenHandle). h.node) (first.keeps here live) ∙ at

    free_is : (meant_at w.tree Look d (Dot d)).answer ≡ Ok (Seen (metadata_of w.tree d))
    free_is = dot_means w.tree d None (free _ _ _ modelled.meaning)

    pub dot_seen : {u : HostModel} {m : Metadata} → RefinesCall {A = Metadata} mid new v u (Stat e) (λ x. x) (hosted (Ok m))
        → EndsInDirectory old w u d Look (Ok (found.Metadata m))
    dot_seen {u} {m} asked =
        let second : Resolved mid v u (call_meant v.tree (Stat e) (e ∷ [])) (λ (x : Metadata). x) (Ok m) =
        call_ok {call = Stat e} (e ∷ []) (All-cons (Contains (e ∷ [])) e [] (Contains-push [] e) (All-nil _))
        (same_live still) asked in
        let both = resolved_then first (at_root w.tree d) (same_live same) {r = Ok m} (ap (λ n. n ∷ []) node_same) second in record {
          answer =
              free_is ∙ ap (λ x. let r : Result Sight ErrorCode = Ok (Seen x) in r) (ap (λ t. metadata_of t d)
              (sym first.tree) ∙ ap (metadata_of v.tree) (sym node_same) ∙ stat_gives v.tree e m asked.meaning);
          tree = both.tree ∙ first.tree;
          touched =
              subst (λ r. Touches w.tree u.tree (d ∷ []) (ends_by (λ n. n) r) w.touched u.touched) (sym (ap
              (λ r. unless r d) (free _ _ _ modelled.meaning)))
              (subst (λ n. Touches w.tree u.tree (d ∷ []) (n ∷ []) w.touched u.touched) node_same both.touched);
          keeps = both.keeps;
        }

    pub dot_fault : {u : HostModel} (code : ErrorCode)
        → RefinesCall {A = Metadata} mid new v u (Stat e) (λ x. x) (hosted (Err code))
        → EndsInDirectory old w u d Look (Err (Code code))
    dot_fault {u} code asked =
        let second : OnlyLooks mid v u (e ∷ []) =
        looks_of (Err (Code code)) (λ is. refl) (call_err {call = Stat e} (Code code) [] still asked) in
        resolved_err (meant_at w.tree Look d (Dot d)) (shown_found u.held) (Code code) refl (fault_means _
        (stat_faults v.tree e code asked.meaning))
        (looks_then first (at_root w.tree d) (same_live same) (subst (λ n. OnlyLooks mid v u (n ∷ [])) node_same second))
