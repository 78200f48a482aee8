-- Looks at nodes, one after another, as the one request for their sizes.
use Rattle.std.proofs.Common.{ℕ, zero, suc, ◌+◌, ◌≡◌, ◌<◌, ◌≤◌, ◌⊎◌, inl, inr, true, List, [], ◌∷◌, ◌++◌, length, map, drop, slice_index_or, Result, Ok, Err, refl, ap, sym, subst, ◌∙◌, append_assoc}
use Rattle.std.specs.Prelude.{All, Contains}
use Rattle.std.proofs.lemmas.List.{drop_more, drop_all, map-append}
use Rattle.std.proofs.lemmas.List.Elements.{All-nil, All-append, All-weaker, Contains-append_left, Contains-append_right}
use Rattle.std.specs.FinSet.{contains}
use Rattle.wasi_host.specs.Agree.{Touches}
use Rattle.wasi_host.specs.Answer.{host_answer, metadata_of}
use Rattle.wasi_host.specs.HostCall.{Stat}
use Rattle.wasi_host.specs.HostLaws.{HostModel, Handles, RefinesCall, MeansErr}
use Rattle.wasi_host.specs.ValidTree.{root}
use Rattle.wasi_host.specs.declared.errors.ErrorCode.{ErrorCode}
use Rattle.wasi_host.specs.declared.errors.ErrorCode.TheVariants.{Io}
use Rattle.wasi_host.specs.declared.errors.HostError.{HostError}
use Rattle.wasi_host.specs.declared.errors.HostError.TheVariants.{Code}
use Rattle.wasi_host.specs.declared.open_handle.OpenHandle.{OpenHandle}
use Rattle.wasi_host.specs.declared.metadata.Metadata.{Metadata}
use Rattle.wasi_host.proofs.Touching.{no_ends, touches_same, touches_through}
use Rattle.wasi_guest.specs.declared.errno.Errno.TheVariants as errnos
use Rattle.wasi_p1_types.specs.Asked.{GivesOrElse}
use Rattle.wasi_p1_types.specs.CallParts.{Makes}
use Rattle.wasi_p1_types.specs.Errnos.{errno_of}
use Rattle.wasi_p1_types.specs.Polling.{OfReading, awaited_by, waited_by, nodes_in, nodes_read}
use Rattle.wasi_p1_types.specs.Request.{Sizes, size_at}
use Rattle.wasi_p1_types.specs.CallResult.{give}
use Rattle.wasi_p1_types.specs.declared.error.P1Error.{P1Error}
use Rattle.wasi_p1_types.specs.declared.error.P1Error.TheVariants.{Errno, Memory}
use Rattle.wasi_p1_types.specs.declared.awaited.Awaited.{Awaited}
use Rattle.wasi_p1_types.specs.declared.awaited.Awaited.TheVariants as awaiteds
use Rattle.wasi_p1_types.specs.declared.awaited.Waited.{Waited}
use Rattle.wasi_p1_model.proofs.Appending.{look, seen, touched_one, with_ends}
use Rattle.wasi_p1_model.proofs.Reading.{keeps_all}

-- looks leave the tree, and touch no other nodes
pub record Sized (live : Handles) (w v : HostModel) (ns : List ℕ) : Type 0 where
  pub keeps : (h : ℕ) → contains live h ≡ true → v.held h ≡ w.held h
  pub tree : v.tree ≡ w.tree
  pub touched : Touches w.tree w.tree ns [] w.touched v.touched

-- these nodes were come to
abbrev pub Touched : HostModel → List ℕ → Type 0
Touched v ns = All (λ n. contains v.touched n ≡ true) ns

-- why one isn't answered
abbrev pub Unsized : Type 0 → P1Error → Type 0
Unsized rose e = (e ≡ Memory) ⊎ ((e ≡ Errno errnos.Io) × rose)

pub sized_none : {live : Handles} {w : HostModel} {ns : List ℕ} → Sized live w w ns
sized_none = record { keeps = λ h is. refl; tree = refl; touched = touches_same refl }

-- one look after others
pub sized_then : {live mid : Handles} {w u v : HostModel} {ns ms : List ℕ} → mid ≡ live → Sized live w u ns → Sized mid u v ms
    → ((n : ℕ) → Contains ms n → Contains ns n) → Sized live w v ns
sized_then {w = w} {u} {v} {ms = ms} same first second each = record {
  keeps = λ h is. second.keeps h (subst (λ s. contains s h ≡ true) (sym same) is) ∙ first.keeps h is;
  tree = second.tree ∙ first.tree;
  touched = touches_through first.touched (λ d has. root d (each d has))
      (subst (λ t. Touches t t ms [] u.touched v.touched) first.tree second.touched);
}

given : {rose : Type 0} {xs ys : List ℕ} → GivesOrElse rose (Ok xs) (Ok ys) → xs ≡ ys
given (inl is) = (cc)
given (inr (inl is)) = absurd (cc)
given (inr (inr (is, rose))) = absurd (cc)

why : {rose : Type 0} {e : P1Error} {ys : List ℕ} → GivesOrElse rose (Err e) (Ok ys) → Unsized rose e
why (inl is) = absurd (cc)
why (inr (inl is)) = inl (cc)
why (inr (inr (is, rose))) = inr ((cc), rose)

module _ {rose : Type 0} {live : Handles} {w v : HostModel} {ns : List ℕ} where
  pub makes_sizes : {xs : List ℕ} → Sized live w v ns → Touched v ns → xs ≡ map (size_at w.tree) ns
      → Makes rose live w v (Sizes ns) give (Ok xs)
  makes_sizes {xs} sized came are = record {
    keeps = sized.keeps;
    does = (
      xs,
      record {
        reply = inl (ap Ok are);
        tree = sized.tree;
        touched = with_ends ns
            (subst (λ t. Touches w.tree t ns [] w.touched v.touched) (sym sized.tree) sized.touched) came;
      },
      refl,
    );
  }

  pub makes_none : {e : P1Error} → Sized live w v ns → Unsized rose e → Makes rose live w v (Sizes ns) give (Err e)
  makes_none sized why = record {
    keeps = sized.keeps;
    does = inl (record {
      reply = elim why [ inl is ↦ inr (inl (ap Err is)) | inr (is, rose) ↦ inr (inr (ap Err is, rose)) ];
      tree = inl sized.tree;
      touched = subst (λ t. Touches w.tree t ns [] w.touched v.touched) (sym sized.tree) sized.touched;
    });
  }

  pub sized_ok : {xs : List ℕ} → Makes rose live w v (Sizes ns) give (Ok xs)
      → Sized live w v ns × Touched v ns × (xs ≡ map (size_at w.tree) ns)
  sized_ok {xs} made =
      let (reply, asked, is) = made.does in
      let same : xs ≡ reply = (cc) in (
        record {
          keeps = made.keeps;
          tree = asked.tree;
          touched = subst (λ t. Touches w.tree t ns [] w.touched v.touched) asked.tree (no_ends asked.touched);
        },
        asked.touched.ends,
        same ∙ given asked.reply,
      )

  pub sized_err : {e : P1Error} → Makes rose live w v (Sizes ns) give (Err e) → Sized live w v ns × Unsized rose e
  sized_err {e} made = elim made.does [
    | inl asked ↦
        let stays : v.tree ≡ w.tree = elim asked.tree [ inl same ↦ same | inr (io, hidden) ↦ hidden.stepped ] in (
          record {
            keeps = made.keeps;
            tree = stays;
            touched = subst (λ t. Touches w.tree t ns [] w.touched v.touched) stays asked.touched;
          },
          why asked.reply,
        )
    | inr (reply, asked, is) ↦ absurd (cc)
  ]

-- ---- one look, which no rule refuses

module _ {live new : Handles} {w v : HostModel} {n : ℕ} (same : new ≡ live) where
  one_sized : (result : Result Metadata HostError) → RefinesCall {A = Metadata} live new w v (Stat n) (λ m. m) result
      → Sized live w v (n ∷ [])
  one_sized result modelled =
      let looked = look n result modelled.after in
      record { keeps = keeps_all w v same modelled.keeps; tree = looked.tree; touched = looked.touched w.tree w.tree }

  pub size_ok : {rose : Type 0} {metadata : Metadata} → RefinesCall {A = Metadata} live new w v (Stat n) (λ m. m) (Ok metadata)
      → Makes rose live w v (Sizes (n ∷ [])) give (Ok (metadata.size ∷ []))
  size_ok {metadata = metadata} modelled =
      let is = sym modelled.meaning ∙ seen w.tree n in
      let same : metadata ≡ metadata_of w.tree n = (cc) in
      let came : Touches w.tree w.tree (n ∷ []) (n ∷ []) w.touched v.touched = touched_one modelled.after.touched in
      makes_sizes (one_sized (Ok metadata) modelled) came.ends (ap (λ m. m.size ∷ []) same)

  pub size_err : {rose : Type 0} {code : ErrorCode} → ((let r : Result Metadata HostError = Err (Code code) in r) ≡ Err (Code Io) → rose)
      → RefinesCall {A = Metadata} live new w v (Stat n) (λ m. m) (Err (Code code))
      → Makes rose live w v (Sizes (n ∷ [])) give (Err (Errno (errno_of code)))
  size_err {rose} {code} io modelled = by code io modelled.meaning (one_sized (Err (Code code)) modelled)
    where
      by : (code : ErrorCode) → ((let r : Result Metadata HostError = Err (Code code) in r) ≡ Err (Code Io) → rose)
          → MeansErr (host_answer w.tree (Stat n)) (Code code) → Sized live w v (n ∷ [])
          → Makes rose live w v (Sizes (n ∷ [])) give (Err (Errno (errno_of code)))
      by Io io meaning sized = makes_none sized (inr (refl, io refl))
      by code io meaning sized = absurd (let wrong = sym (seen w.tree n) ∙ meaning in cc)

-- ---- of all that is waited for

-- handles stand for what they stood for
held_same : (live : Handles) (w v : HostModel) (what : Awaited) → ((h : ℕ) → contains live h ≡ true → v.held h ≡ w.held h)
    → OfReading (λ file. contains live file ≡ true) what → nodes_in (awaited_by v.held what) ≡ nodes_in (awaited_by w.held what)
held_same live w v (awaiteds.FileToRead file position) keeps is = ap (λ (held : OpenHandle). held.node ∷ []) (keeps file is)
held_same live w v (awaiteds.Clock end) keeps is = refl
held_same live w v awaiteds.Input keeps is = refl
held_same live w v awaiteds.Output keeps is = refl
held_same live w v awaiteds.FileToWrite keeps is = refl

-- the nodes of those from one on
abbrev pub nodes_from : (ℕ → OpenHandle) → List Waited → ℕ → List ℕ
nodes_from held ws i = nodes_read (map (waited_by held) (drop i ws))

nodes_more : (held : ℕ → OpenHandle) (ws : List Waited) (i : ℕ) (w : Waited) → i < length ws → w ≡ slice_index_or ws i w
    → nodes_from held ws i ≡ nodes_in (awaited_by held w.what) ++ nodes_from held ws (i + 1)
unfolding nodes_read
nodes_more held ws i w within is = rw (drop_more ws i w within, ← is) refl

nodes_among : (held : ℕ → OpenHandle) (ws : List Waited) (i : ℕ) (n : ℕ) → Contains (nodes_from held ws i) n
    → Contains (nodes_read (map (waited_by held) ws)) n
unfolding nodes_read
nodes_among held ws zero n has = has
nodes_among held [] (suc i) n has = has
nodes_among held (w ∷ ws) (suc i) n has = Contains-append_right (nodes_in (awaited_by held w.what)) (nodes_read (map (waited_by held) ws)) n
    (nodes_among held ws i n has)

item_among : (held : ℕ → OpenHandle) (ws : List Waited) (i : ℕ) (item : Waited) → i < length ws → item ≡ slice_index_or ws i item
    → (n : ℕ) → Contains (nodes_in (awaited_by held item.what)) n → Contains (nodes_read (map (waited_by held) ws)) n
item_among held ws i item within is n has =
    nodes_among held ws i n (subst (λ ns. Contains ns n) (sym (nodes_more held ws i item within is))
    (Contains-append_left (nodes_in (awaited_by held item.what)) (nodes_from held ws (i + 1)) n has))

-- the sizes so far, how the model stands then, and the nodes that were looked at
pub record SizedSo (live : Handles) (w v : HostModel) (ws : List Waited) (i : ℕ) (sizes : List ℕ) : Type 0 where
  pub sized : Sized live w v (nodes_read (map (waited_by w.held) ws))
  pub seen : List ℕ
  pub seen_are : seen ++ nodes_from w.held ws i ≡ nodes_read (map (waited_by w.held) ws)
  pub came : Touched v seen
  pub sizes_are : sizes ++ map (size_at w.tree) (nodes_from w.held ws i)
      ≡ map (size_at w.tree) (nodes_read (map (waited_by w.held) ws))

pub none_sized : {live : Handles} {w : HostModel} {ws : List Waited} {sizes : List ℕ} → sizes ≡ [] → SizedSo live w w ws 0 sizes
none_sized is =
    record { sized = sized_none; seen = []; seen_are = refl; came = All-nil _; sizes_are = rw is refl }

-- one more
module _ {live mid : Handles} {w u v : HostModel} {ws : List Waited} {i : ℕ} {sizes : List ℕ} (item : Waited) (within : i < length ws)
    (is : item ≡ slice_index_or ws i item) (same : mid ≡ live)
    (all : All (λ (w : Waited). OfReading (λ file. contains live file ≡ true) w.what) ws) (so_far : SizedSo live w u ws i sizes) where
  pub one_sized_more : {rose : Type 0} {xs : List ℕ} → Makes rose mid u v (Sizes (nodes_in (awaited_by u.held item.what))) give (Ok xs)
      → SizedSo live w v ws (i + 1) (sizes ++ xs)
  one_sized_more {xs = xs} made =
      let (sized, came, are) = sized_ok made in
      let held = subst (λ (x : Waited). OfReading (λ file. contains live file ≡ true) x.what) (sym is) (all i item within) in
      let theirs = held_same live w u item.what so_far.sized.keeps held in
      let more = nodes_more w.held ws i item within is in
      let nodes : List ℕ = nodes_in (awaited_by w.held item.what) in
      let rest : List ℕ = map (size_at w.tree) (nodes_from w.held ws (i + 1)) in
      let mine : xs ≡ map (size_at w.tree) nodes = are
      ∙ ap (λ t. map (size_at t) (nodes_in (awaited_by u.held item.what))) so_far.sized.tree
      ∙ ap (map (size_at w.tree)) theirs in record {
        sized = sized_then same so_far.sized sized (λ n has. item_among w.held ws i item within is n
            (subst (λ ns. Contains ns n) theirs has));
        seen = so_far.seen ++ nodes;
        seen_are = append_assoc so_far.seen nodes (nodes_from w.held ws (i + 1))
            ∙ ap (λ (ns : List ℕ). so_far.seen ++ ns) (sym more) ∙ so_far.seen_are;
        came = All-append (λ n. contains v.touched n ≡ true) so_far.seen nodes
            (All-weaker (λ n. contains u.touched n ≡ true) _ sized.touched.stays so_far.seen so_far.came)
            (subst (Touched v) theirs came);
        sizes_are = append_assoc sizes xs rest ∙ ap (λ (ys : List ℕ). sizes ++ (ys ++ rest)) mine
            ∙ ap (λ (ys : List ℕ). sizes ++ ys) (sym (map-append (size_at w.tree) nodes (nodes_from w.held ws (i + 1)))
            ∙ ap (map (size_at w.tree)) (sym more)) ∙ so_far.sizes_are;
      }

  pub one_unsized : {rose again : Type 0} {e : P1Error} → (rose → again)
      → Makes rose mid u v (Sizes (nodes_in (awaited_by u.held item.what))) give (Err e)
      → Makes again live w v (Sizes (nodes_read (map (waited_by w.held) ws))) give (Err e)
  one_unsized on made =
      let (sized, why) = sized_err made in
      let held = subst (λ (x : Waited). OfReading (λ file. contains live file ≡ true) x.what) (sym is) (all i item within) in
      let theirs = held_same live w u item.what so_far.sized.keeps held in
      makes_none (sized_then same so_far.sized sized (λ n has. item_among w.held ws i item within is n
      (subst (λ ns. Contains ns n) theirs has))) (elim why [ inl is ↦ inl is | inr (io, rose) ↦ inr (io, on rose) ])

pub all_sized : {rose : Type 0} {live : Handles} {w v : HostModel} {ws : List Waited} {i : ℕ} {sizes : List ℕ} → length ws ≤ i
    → SizedSo live w v ws i sizes → Makes rose live w v (Sizes (nodes_read (map (waited_by w.held) ws))) give (Ok sizes)
unfolding nodes_read
all_sized {w = w} {v = v} {ws = ws} {i} {sizes} behind so_far =
    let none : nodes_from w.held ws i ≡ [] = rw (drop_all i ws behind) refl in
    let all : so_far.seen ≡ nodes_read (map (waited_by w.held) ws) =
    sym (ends so_far.seen) ∙ ap (λ (ns : List ℕ). so_far.seen ++ ns) (sym none) ∙ so_far.seen_are in
    makes_sizes so_far.sized (subst (Touched v) all so_far.came)
    (sym (ends sizes) ∙ ap (λ (ns : List ℕ). sizes ++ map (size_at w.tree) ns) (sym none) ∙ so_far.sizes_are)
  where
    ends : (xs : List ℕ) → xs ++ [] ≡ xs
    ends [] = refl
    ends (x ∷ xs) = ap (λ rest. x ∷ rest) (ends xs)
