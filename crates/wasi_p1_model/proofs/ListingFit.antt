-- What is listed of a valid tree fits into records: its numbers, the lengths of its names, and how many entries there are.
use Rattle.std.proofs.Common.{◌≡◌, refl, ap, sym, ◌∙◌, subst, ℕ, zero, suc, ◌+◌, ◌-◌, ◌*◌, ◌^◌, ◌<◌, ◌≤◌, Bool, true, false, cond, nat_eq, nat_lt, count_by, List, [], ◌∷◌, ◌++◌, length, inl, inr, Result, Ok, arith, mul-le-mul}
use Rattle.std.specs.Prelude.{All, IsTrue, codes}
use Rattle.std.specs.FinMap as maps
use Rattle.std.proofs.lemmas.Bool.{cases_eq, cases_lt, lt-ltb}
use Rattle.std.proofs.lemmas.Bool.Decides.{nat_tests}
use Rattle.std.proofs.lemmas.List.{length-map}
use Rattle.std.proofs.lemmas.List.Elements.{All-nil, All-cons, All-head, All-tail, All-weaker, All-map}
use Rattle.std.proofs.lemmas.List.Sums.{sum_by-cons, get_or-le-sum_by}
use Rattle.wasi_host.specs.Answer.{Listed, reached, listed, listing, metadata_of, open_answer, stat_answer}
use Rattle.wasi_host.specs.HostCall.{ListDir, OpenAt}
use Rattle.wasi_host.specs.Refusal.{refusal}
use Rattle.wasi_host.specs.Tree.{Tree, Content, File, Directory, Link, node_at, next_of, names_of, child, is_directory, stray}
use Rattle.wasi_host.specs.ValidTree.{IsEntry, IsPlaced, IsValidContent, IsValidTree, name_count, names_for}
use Rattle.wasi_host.specs.declared.errors.ErrorCode.{ErrorCode}
use Rattle.wasi_host.specs.declared.file_type.FileType.TheVariants as types
use Rattle.wasi_host.specs.declared.open_handle.OpenHandle.{OpenHandle}
use Rattle.wasi_host.specs.declared.metadata.Metadata.{Metadata}
use Rattle.wasi_host.specs.Agree.{IsClosed}
use Rattle.wasi_host.proofs.Agreeing.{itself, unless_value}
use Rattle.wasi_host.proofs.Chain.{free}
use Rattle.wasi_host.proofs.Carrying.{valid_entries, named_within}
use Rattle.wasi_host.proofs.Changes.{directory_within}
use Rattle.wasi_host.proofs.EntryLemmas.{times}
use Rattle.wasi_host.proofs.ValidSteps.{can_open}
use Rattle.wasi_paths.specs.Text.{is_entry_name}
use Rattle.wasi_resolve.specs.Laws.{GivesIn}
use Rattle.wasi_resolve.specs.Meanings.{listing_options, lists_at}
use Rattle.wasi_resolve.specs.Paths.{looked}
use Rattle.wasi_resolve.specs.PathRequest.{LookPath, path_reply}
use Rattle.wasi_resolve.proofs.PathAgreeing.{looked_seen}
use Rattle.wasi_p1_types.specs.Listing.{Entry, dots, numbered_at, all_numbered_at, listing_at}
use Rattle.wasi_p1_model.specs.PageLaws.{EntryFits, ListingFits, ListingsFit}
use Rattle.wasi_p1_model.proofs.Listings.{both_ok, entry_is_short}
use Rattle.wasi_fs.proofs.Looking.{node_known}
use Rattle.wasi_host.proofs.BelowLemmas.{names_directory}

-- ---- how many numbers a list has, by how often each stands in it

module _ (vs : List ℕ) where
  below : ℕ → ℕ
  below n = count_by (λ v. nat_lt v n) vs

below_none : (vs : List ℕ) → below vs 0 ≡ 0
unfolding below
below_none [] = refl
below_none (v ∷ vs) =
    let never : nat_lt v 0 ≡ false = grind (arith, nat_tests) in
    omega (arith, sum_by-cons (λ v. cond (nat_lt v 0) 1 0) v vs, ap {B = ℕ} (λ b. cond b 1 0) never, below_none vs)

below_more : (n : ℕ) (vs : List ℕ) → below vs (suc n) ≡ below vs n + times n vs
unfolding below
below_more n [] = refl
below_more n (v ∷ vs) = omega (
  arith,
  sum_by-cons (λ v. cond (nat_lt v (suc n)) 1 0) v vs,
  sum_by-cons (λ v. cond (nat_lt v n) 1 0) v vs,
  sum_by-cons (λ v. cond (nat_eq v n) 1 0) v vs,
  one v n,
  below_more n vs,
)
  where
    by_tests : (v n : ℕ) (a b e : Bool) → nat_lt v (suc n) ≡ a → nat_lt v n ≡ b → nat_eq v n ≡ e
        → cond a 1 0 ≡ cond b 1 0 + cond e 1 0 → cond (nat_lt v (suc n)) 1 0 ≡ cond (nat_lt v n) 1 0 + cond (nat_eq v n) 1 0
    by_tests v n a b e is was same sums = rw (is, was, same) sums

    one : (v n : ℕ) → cond (nat_lt v (suc n)) 1 0 ≡ cond (nat_lt v n) 1 0 + cond (nat_eq v n) 1 0
    one v n = elim (cases_lt v n) [
      | inl less ↦ by_tests v n true true false (grind (arith, nat_tests)) (grind (arith, nat_tests)) (grind (arith, nat_tests)) refl
      | inr most ↦ elim (cases_eq v n) [
        | inl is ↦ by_tests v n true false true (grind (arith, nat_tests)) (grind (arith, nat_tests)) (grind (arith, nat_tests)) refl
        | inr other ↦ by_tests v n false false false (grind (arith, nat_tests)) (grind (arith, nat_tests)) (grind (arith, nat_tests)) refl
      ]
    ]

below_all : (n : ℕ) (vs : List ℕ) → All (λ v. v < n) vs → below vs n ≡ length vs
unfolding below
below_all n [] all = refl
below_all n (v ∷ vs) all = omega (
  arith,
  sum_by-cons (λ v. cond (nat_lt v n) 1 0) v vs,
  ap {B = ℕ} (λ b. cond b 1 0) (lt-ltb v n (All-head (λ v. v < n) v vs all)),
  below_all n vs (All-tail (λ v. v < n) v vs all),
)

-- none of them is 0, and each other stands there so often at most
below_few : (n m : ℕ) (vs : List ℕ) → times 0 vs ≡ 0 → ((k : ℕ) → k < suc n → times k vs ≤ m) → below vs (suc n) ≤ n * m
below_few zero m vs none few = omega (arith, below_more 0 vs, below_none vs, none)
below_few (suc n) m vs none few =
    omega (arith, below_more (suc n) vs, below_few n m vs none (λ k less. few k (omega arith)), few (suc n) (omega arith))

-- what is told of a node has its number
told_node : (t : Tree) (n : ℕ) (metadata : Metadata)
    → ◌≡◌ {A = Result Metadata ErrorCode} (Ok (metadata_of t n)) (Ok metadata) → metadata.node ≡ n
unfolding metadata_of
told_node t n metadata is = let same : metadata_of t n ≡ metadata = (cc) in ap (λ (m : Metadata). m.node) (sym same)

-- ---- the names of a directory

module _ (t : Tree) (valid : IsValidTree t) where
  -- a node has no more names than it may
  few_names : (n : ℕ) → n < next_of t → name_count t n ≤ t.limits.links
  few_names n within = by n (node_at t n).content (valid.nodes n within) within
    where
      placed : (n : ℕ) → IsPlaced t n → name_count t n ≤ t.limits.links
      placed n (inl named) = omega (arith, named.0, valid.limits.some_links)
      placed n (inr gone) = omega (arith, gone.0)

      by : (n : ℕ) (content : Content) → IsValidContent t n content → n < next_of t → name_count t n ≤ t.limits.links
      by n (File bytes links) is less = subst (λ k. k ≤ t.limits.links) is.2 is.3
      by zero (Directory names gone) is less = omega (arith, valid.root.nameless)
      by (suc n) (Directory names gone) is less = placed (suc n) (is.1 (omega arith))
      by n (Link text links) is less = subst (λ k. k ≤ t.limits.links) is.4 is.5

  -- what a name of the tree holds is a node of it
  names_within : IsClosed (λ n. n < next_of t) t
  names_within = record {
    under = λ d n name within is. named_within t d valid (names_directory (node_at t d).content name n is) name n is;
  }

  module _ (d : ℕ) (directory : is_directory (node_at t d).content ≡ true) where
    within : d < next_of t
    within = directory_within t d directory

    -- so often does a node stand among a directory's
    among : (n : ℕ) → times n (maps.values (names_of (node_at t d).content)) ≤ name_count t n
    unfolding node_at
    among n = get_or-le-sum_by (names_for n) t.nodes d stray within

    -- with the two dots, 64 bits count them
    pub few_entries : length (maps.entries (names_of (node_at t d).content)) + 2 < 2 ^ 64
    few_entries = by (next_of t) within valid.numbers few_names all
      where
        vs : List ℕ
        vs = maps.values (names_of (node_at t d).content)

        all : All (λ n. n < next_of t) vs
        all = All-map (λ n. n < next_of t) (λ e. e.1) _
            (All-weaker (IsEntry t) (λ e. e.1 < next_of t) (λ e is. is.within) _ (valid_entries t d valid directory))

        by : (next : ℕ) → d < next → next ≤ t.limits.nodes → ((n : ℕ) → n < next → name_count t n ≤ t.limits.links)
            → All (λ n. n < next) vs → length (maps.entries (names_of (node_at t d).content)) + 2 < 2 ^ 64
        by zero less most few under = absurd (omega arith)
        by (suc m) less most few under =
            let most_nodes : m ≤ 2 ^ 32 - 1 = omega (arith, most, valid.limits.most_nodes) in
            let most_held : m * t.limits.links ≤ (2 ^ 32 - 1) * 2 ^ 32 = mul-le-mul most_nodes valid.limits.most_links in
            omega (
              arith,
              below_all (suc m) vs under,
              below_few m t.limits.links vs (omega (arith, among 0, valid.root.nameless))
                  (λ k small. omega (arith, among k, few k small)),
              length-map (maps.entries (names_of (node_at t d).content)) (λ e. e.1),
              most_held,
            )

    -- ---- the entries of its listing

    number_fits : (n : ℕ) → n < next_of t → n < 2 ^ 64
    number_fits n less = omega (arith, less, valid.numbers, valid.limits.most_nodes)

    -- each has a number of the tree
    numbered_fits : (e : Listed) {entry : Entry} → IsTrue (is_entry_name e.0) → numbered_at t d e ≡ Ok entry → EntryFits entry
    numbered_fits e {entry} good is =
        let (metadata, found, modelled) = both_ok (path_reply t (LookPath d e.0 false)) _ is in
        let (n, looks, has) = both_ok (looked t d e.0 false) _ found in
        let inside : GivesIn (λ n. n < next_of t) (λ n. n) (Ok n) =
        subst (GivesIn (λ n. n < next_of t) (λ n. n)) looks (looked_seen names_within itself d e.0 false within) in
        let number : metadata.node ≡ n = told_node t n metadata has in
        let same : record { name = e.0; node = metadata.node; kind = e.1 } ≡ entry = (cc) in
        subst EntryFits same (record {
          node = subst (λ k. k < 2 ^ 64) (sym number) (number_fits n inside);
          name = omega (arith, entry_is_short e.0 good);
        })

    all_fit : (es : List Listed) {entries : List Entry} → All (λ (e : Listed). IsTrue (is_entry_name e.0)) es
        → all_numbered_at t d es ≡ Ok entries
        → All (λ (e : Entry). EntryFits e) entries × (length entries ≡ length es)
    all_fit [] {entries} good is =
        let same : [] ≡ entries = (cc) in
        subst (λ es. All (λ (e : Entry). EntryFits e) es × (length es ≡ 0)) same (All-nil _, refl)
    all_fit (e ∷ es) {entries} good is =
        let (first, modelled, rest) = both_ok (numbered_at t d e) _ is in
        let (others, later, whole) = both_ok (all_numbered_at t d es) _ rest in
        let same : first ∷ others ≡ entries = (cc) in
        let fit = all_fit es (All-tail (λ (e : Listed). IsTrue (is_entry_name e.0)) e es good) later in
        subst (λ xs. All (λ (e : Entry). EntryFits e) xs × (length xs ≡ suc (length es))) same (
          All-cons (λ (e : Entry). EntryFits e) first others (numbered_fits e (All-head (λ (e : Listed). IsTrue (is_entry_name e.0)) e es good) modelled) fit.0,
          ap suc fit.1,
        )

-- what is opened to be listed is a directory, and its names are those of the listing
opened_lists : (t : Tree) (d : ℕ) {names : List Listed} → (lists_at t d).answer ≡ Ok names
    → (is_directory (node_at t d).content ≡ true) × (names ≡ listing t d)
unfolding reached child
opened_lists t d {names} is =
    let (opened, found, lists) = both_ok (open_answer t d (codes ".") listing_options) _ is in
    let same : d ≡ opened.node = ap (λ (h : OpenHandle). h.node) (unless_value (refusal t (OpenAt d (codes ".") listing_options)) found) in (
      (can_open t d (codes ".") listing_options (free _ _ _ found)).directory,
      sym (unless_value (refusal t (ListDir opened)) lists) ∙ ap (listing t) (sym same),
    )

listing_named : (t : Tree) (d : ℕ) → All (IsEntry t) (maps.entries (names_of (node_at t d).content))
    → All (λ (e : Listed). IsTrue (is_entry_name e.0)) (listing t d)
unfolding listing
listing_named t d all =
    All-map (λ (e : Listed). IsTrue (is_entry_name e.0)) (listed t) (maps.entries (names_of (node_at t d).content))
    (All-weaker (IsEntry t) (λ e. IsTrue (is_entry_name e.0)) (λ e is. is.name) _ all)

listing_length : (t : Tree) (d : ℕ) → length (listing t d) ≡ length (maps.entries (names_of (node_at t d).content))
unfolding listing
listing_length t d = length-map (maps.entries (names_of (node_at t d).content)) (listed t)

dot_fits : (d : ℕ) (name : List ℕ) → d < 2 ^ 64 → length name ≤ 2
    → EntryFits (record { name = name; node = d; kind = types.Directory })
dot_fits d name less short = record { node = less; name = omega arith }

dots_fit : (d : ℕ) (entries : List Entry) → d < 2 ^ 64 → All (λ (e : Entry). EntryFits e) entries
    → All (λ (e : Entry). EntryFits e) (dots d ++ entries)
dots_fit d entries less fit =
    let above : Entry = record { name = codes ".."; node = d; kind = types.Directory } in
    All-cons (λ (e : Entry). EntryFits e) _ (above ∷ entries) (dot_fits d (codes ".") less (omega arith))
    (All-cons (λ (e : Entry). EntryFits e) above entries (dot_fits d (codes "..") less (omega arith)) fit)

pub listings_fit : ListingsFit
unfolding listing_at
listings_fit t d told_of valid is =
    let (names, modelled, looks) = both_ok (lists_at t d).answer _ is in
    let (own, stated, rest) = both_ok (stat_answer t d) _ looks in
    let (entries, numbered, whole) = both_ok (all_numbered_at t d names) _ rest in
    let (directory, all) = opened_lists t d modelled in
    let good = subst (All (λ (e : Listed). IsTrue (is_entry_name e.0))) (sym all) (listing_named t d (valid_entries t d valid directory)) in
    let fit = all_fit t valid d directory names good numbered in
    let number : own.node < 2 ^ 64 =
    subst (λ n. n < 2 ^ 64) (sym (node_known t d stated)) (number_fits t valid d directory d (within t valid d directory)) in
    let same : dots own.node ++ entries ≡ told_of = (cc) in
    subst ListingFits same (record {
      entries = dots_fit own.node entries number fit.0;
      count = omega (arith, fit.1, ap (λ es. length es) all, listing_length t d, few_entries t valid d directory);
    })
