-- A directory that is listed, and the looks at its names.
use Rattle.std.proofs.Common.{ℕ, ◌≡◌, ◌≤◌, true, false, Bool, List, [], ◌∷◌, ◌++◌, map, length, Result, Ok, Err, refl, sym, ap, ◌∙◌, subst}
use Rattle.std.specs.Prelude.{All, IsTrue, is_ok, if◌then◌else◌, not, ◌&&◌}
use Rattle.std.proofs.lemmas.Bool.{ltb-false}
use Rattle.std.specs.FinSet.{contains}
use Rattle.std.specs.String.{string_bytes}
use Rattle.std.proofs.lemmas.List.Elements.{All-nil, All-cons, All-head, All-tail, All-weaker}
use Rattle.wasi_paths.specs.Text.{is_plain, has_nul, is_long, is_entry_name}
use Rattle.wasi_host.specs.Answer.{Listed, entry_of, stat_answer}
use Rattle.wasi_host.specs.HostCall.{Stat}
use Rattle.wasi_host.specs.HostLaws.{HostModel, Handles, MeansErr, RefinesCall}
use Rattle.wasi_host.specs.Steps.{◌>>=◌}
use Rattle.wasi_host.specs.Tree.{Tree}
use Rattle.wasi_host.specs.declared.dir_entry.DirEntry.{DirEntry}
use Rattle.wasi_host.specs.declared.errors.ErrorCode.{ErrorCode}
use Rattle.wasi_host.specs.declared.errors.HostError.{HostError}
use Rattle.wasi_host.specs.declared.open_handle.OpenHandle.{OpenHandle}
use Rattle.wasi_host.specs.declared.metadata.Metadata.{Metadata}
use Rattle.wasi_host.proofs.Touching.{at_root}
use Rattle.wasi_resolve.specs.Meanings.{lists_at}
use Rattle.wasi_resolve.specs.Resolved.{Meant, Resolved}
use Rattle.wasi_resolve.specs.WalkSteps.{OnlyLooks}
use Rattle.wasi_resolve.proofs.Calls.{call_ok, call_err, looks_none, looks_of, means_then, resolved_err, resolved_then, same_live, found_ok}
use Rattle.wasi_p1_model.proofs.Appending.{with_ends}
use Rattle.wasi_p1_model.specs.EntriesSeen.{entry_seen, entries_seen, reads_from, numbered_behind, IsListed}
use Rattle.wasi_p1_types.specs.Listing.{Entry, dots, numbered_at, all_numbered_at, listing_at, HasShortNames}
use Rattle.wasi_p1_types.specs.Request.{ListDirectory, meant_of}
use Rattle.wasi_p1_types.specs.declared.looked.Entry.{Entry as Stored}

-- ---- steps and lists

-- where two steps are answered, the first is, and then the second
pub both_ok : {A B E : Type 0} {b : B} (m : Result A E) (next : A → Result B E) → (m >>= next) ≡ Ok b
    → (a : A) × (m ≡ Ok a) × (next a ≡ Ok b)
both_ok (Ok a) next is = (a, refl, is)
both_ok (Err e) next is = absurd (cc)

in_front : (first : Entry) (others : List Entry) (m : Result (List Entry) ErrorCode)
    → m >>= (λ more. Ok (others ++ more)) >>= (λ more. Ok (first ∷ more)) ≡ m >>= (λ more. Ok ((first ∷ others) ++ more))
in_front first others (Ok more) = refl
in_front first others (Err code) = refl

in_front_of_all : (m : Result (List Entry) ErrorCode) → m ≡ m >>= (λ more. Ok more)
in_front_of_all (Ok more) = refl
in_front_of_all (Err code) = refl

-- the looks at some names, and then those at others
numbered_append : (t : Tree) (d : ℕ) (xs ys : List Listed) {es : List Entry} → all_numbered_at t d xs ≡ Ok es
    → all_numbered_at t d (xs ++ ys) ≡ all_numbered_at t d ys >>= (λ more. Ok (es ++ more))
numbered_append t d [] ys {es} is =
    let same : [] ≡ es = (cc) in
    subst (λ es. all_numbered_at t d ys ≡ all_numbered_at t d ys >>= (λ more. Ok (es ++ more))) same
    (in_front_of_all (all_numbered_at t d ys))
numbered_append t d (x ∷ xs) ys {es} is =
    let (first, modelled, rest) = both_ok (numbered_at t d x) _ is in
    let (others, later, whole) = both_ok (all_numbered_at t d xs) _ rest in
    let same : first ∷ others ≡ es = (cc) in
    subst (λ es. all_numbered_at t d (x ∷ xs ++ ys) ≡ all_numbered_at t d ys >>= (λ more. Ok (es ++ more))) same
    (ap (λ m. m >>= (λ first. all_numbered_at t d (xs ++ ys) >>= (λ more. Ok (first ∷ more)))) modelled
    ∙ ap (λ m. m >>= (λ more. Ok (first ∷ more))) (numbered_append t d xs ys later)
    ∙ in_front first others (all_numbered_at t d ys))

-- a name that a directory may hold is short
pub entry_is_short : (name : List ℕ) → IsTrue (is_entry_name name) → length name ≤ 255
entry_is_short name is = ltb-false 255 (length name) (not_long (is_plain name) (has_nul name) (is_long name) is)
  where
    not_long : (a b c : Bool) → (a && not b && not c) ≡ true → c ≡ false
    not_long true false true is = absurd (cc)
    not_long true false false is = refl
    not_long true true c is = absurd (cc)
    not_long false b c is = absurd (cc)

-- and it is plain
pub entry_is_plain : (name : List ℕ) → IsTrue (is_entry_name name) → IsTrue (is_plain name)
entry_is_plain name is = plain (is_plain name) (has_nul name) (is_long name) is
  where
    plain : (a b c : Bool) → (a && not b && not c) ≡ true → a ≡ true
    plain true b c is = refl
    plain false b c is = absurd (cc)

-- the names that a host gives are such
pub all_listed : (xs : List DirEntry) → All (λ (e : Listed). IsTrue (is_entry_name e.0)) (map entry_of xs) → All IsListed xs
all_listed [] all = All-nil _
all_listed (x ∷ xs) all =
    All-cons IsListed x xs (All-head (λ (e : Listed). IsTrue (is_entry_name e.0)) (entry_of x) (map entry_of xs) all)
    (all_listed xs (All-tail (λ (e : Listed). IsTrue (is_entry_name e.0)) (entry_of x) (map entry_of xs) all))

-- one of some names
pub listed_at : (xs : List DirEntry) (x : DirEntry) (rest : List DirEntry) → All IsListed (xs ++ x ∷ rest) → IsListed x
listed_at [] x rest all = All-head IsListed x rest all
listed_at (y ∷ xs) x rest all = listed_at xs x rest (All-tail IsListed y (xs ++ x ∷ rest) all)

-- one name more
pub short_more : (xs : List Stored) (x : Stored) → HasShortNames (entries_seen xs) → length (string_bytes x.name) ≤ 255
    → HasShortNames (entries_seen (xs ++ x ∷ []))
short_more [] x all is = All-cons (λ (e : Entry). length e.name ≤ 255) (entry_seen x) [] is (All-nil _)
short_more (y ∷ xs) x all is =
    All-cons (λ (e : Entry). length e.name ≤ 255) (entry_seen y) (entries_seen (xs ++ x ∷ []))
    (All-head (λ (e : Entry). length e.name ≤ 255) (entry_seen y) (entries_seen xs) all)
    (short_more xs x (All-tail (λ (e : Entry). length e.name ≤ 255) (entry_seen y) (entries_seen xs) all) is)

-- ---- reads from a directory on, one after another

module _ {live mid : Handles} {w u v : HostModel} {dir : ℕ} (held : contains live dir ≡ true) (same : mid ≡ live)
    (so_far : OnlyLooks live w u ((w.held dir).node ∷ [])) where
  read_on : {A B : Type 0} {shown : A → B} {r : Result A HostError} (answer : Tree → ℕ → Result B ErrorCode)
      → Resolved mid u v (reads_from u.tree (u.held dir).node (answer u.tree (u.held dir).node)) shown r
      → Resolved live w v (reads_from w.tree (w.held dir).node (answer w.tree (w.held dir).node)) shown r
  read_on {shown = shown} {r = r} answer next =
      let d : ℕ = (w.held dir).node in
      let here = subst (λ (h : OpenHandle). Resolved mid u v (reads_from u.tree h.node (answer u.tree h.node)) shown r)
      (so_far.keeps dir held) next in
      let there = subst (λ t. Resolved mid u v (reads_from t d (answer t d)) shown r) so_far.tree here in
      resolved_then so_far (at_root w.tree d) (same_live same) refl there

read_looks : {A B : Type 0} {live : Handles} {w v : HostModel} {d : ℕ} {answer : Result B ErrorCode} {shown : A → B}
    (r : Result A HostError) → Resolved live w v (reads_from w.tree d answer) shown r → OnlyLooks live w v (d ∷ [])
read_looks r did = looks_of r (λ _. refl) did

-- ---- the looks at names

-- so far there were looks alone, and these are the entries
pub record SoFar (live : Handles) (w u : HostModel) (d node : ℕ) (names : List Listed) (entries : List Entry) : Type 0 where
  pub looks : OnlyLooks live w u (d ∷ [])
  pub others : List Entry
  pub modelled : all_numbered_at w.tree d names ≡ Ok others
  pub whole : entries ≡ dots node ++ others

pub none_yet : {live : Handles} {w : HostModel} {d node : ℕ} {entries : List Entry} → entries ≡ dots node
    → SoFar live w w d node [] entries
none_yet {live} {w} {d} is = record { looks = looks_none live w (d ∷ []); others = []; modelled = refl; whole = is }

-- all were had
pub all_looked : {A : Type 0} {live : Handles} {w u : HostModel} {d node : ℕ} {names : List Listed} {shown : A → List Entry} {a : A}
    → SoFar live w u d node names (shown a)
    → Resolved live w u (reads_from w.tree d (numbered_behind w.tree d node names)) shown (Ok a)
all_looked {w = w} {d = d} {node = node} {shown = shown} {a = a} so_far =
    found_ok shown a (ap (λ m. m >>= (λ entries. Ok (dots node ++ entries))) so_far.modelled ∙ ap Ok (sym so_far.whole)) so_far.looks

module _ {live mid : Handles} {w u v : HostModel} {dir node : ℕ} {names : List Listed} {entries : List Entry} (e : Listed)
    (held : contains live dir ≡ true) (same : mid ≡ live) (so_far : SoFar live w u (w.held dir).node node names entries) where
  -- one more
  pub one_looked : {A : Type 0} {shown : A → Entry} {a : A}
      → Resolved mid u v (reads_from u.tree (u.held dir).node (numbered_at u.tree (u.held dir).node e)) shown (Ok a)
      → SoFar live w v (w.held dir).node node (names ++ e ∷ []) (entries ++ shown a ∷ [])
  one_looked {shown = shown} {a = a} next =
      let did = read_on held same so_far.looks (λ t d. numbered_at t d e) next in
      let one : all_numbered_at w.tree (w.held dir).node (e ∷ []) ≡ Ok (shown a ∷ []) =
      ap (λ m. m >>= (λ first. Ok (first ∷ []))) did.answer in
      record {
        looks = read_looks (Ok a) did;
        others = so_far.others ++ shown a ∷ [];
        modelled = numbered_append w.tree (w.held dir).node names (e ∷ []) so_far.modelled
            ∙ ap (λ m. m >>= (λ more. Ok (so_far.others ++ more))) one;
        whole = ap (λ es. es ++ shown a ∷ []) so_far.whole;
      }

  -- it wasn't answered
  pub not_looked : {A B : Type 0} {shown : A → Entry} {modelled : B → List Entry} (error : HostError) (rest : List Listed)
      → Resolved mid u v (reads_from u.tree (u.held dir).node (numbered_at u.tree (u.held dir).node e)) shown (Err error)
      → Resolved live w v (reads_from w.tree (w.held dir).node
      (numbered_behind w.tree (w.held dir).node node (names ++ e ∷ rest))) modelled (Err error)
  not_looked {shown = shown} {modelled = modelled} error rest next =
      let d : ℕ = (w.held dir).node in
      let did = read_on held same so_far.looks (λ t d. numbered_at t d e) next in
      let first = means_then (numbered_at w.tree d e) (λ first. all_numbered_at w.tree d rest >>= (λ others. Ok (first ∷ others)))
      error did.answer in
      let all = subst (λ m. MeansErr m error) (sym (numbered_append w.tree d names (e ∷ rest) so_far.modelled))
      (means_then (all_numbered_at w.tree d (e ∷ rest)) (λ more. Ok (so_far.others ++ more)) error first) in
      resolved_err (reads_from w.tree d (numbered_behind w.tree d node (names ++ e ∷ rest))) modelled error refl
      (means_then (all_numbered_at w.tree d (names ++ e ∷ rest)) (λ entries. Ok (dots node ++ entries)) error all)
      (read_looks (Err error) did)

-- ---- the listing

-- what is read from a directory that was come to
abbrev lists_from : {B : Type 0} → Tree → ℕ → Result B ErrorCode → Meant B
lists_from t d answer = record (reads_from t d answer) { ends = d ∷ [] }

ends_if : (P : ℕ → Type 0) (ns : List ℕ) (answered : Bool) → All P ns → All P (if answered then ns else [])
ends_if P ns true all = all
ends_if P ns false all = All-nil P

-- a directory that was listed is looked at itself, and then at each name
abbrev after_names : Tree → ℕ → List Listed → Result (List Entry) ErrorCode
after_names t d names = stat_answer t d >>= (λ own. numbered_behind t d own.node names)

module _ {A B : Type 0} {live : Handles} {w : HostModel} {d : ℕ} {shown : A → List Listed} {modelled : B → List Entry} where
  -- it wasn't listed
  pub not_listed : {u : HostModel} (error : HostError) → Resolved live w u (lists_at w.tree d) shown (Err error)
      → Resolved live w u (meant_of w.tree (ListDirectory d)) modelled (Err error)
  unfolding listing_at
  not_listed error did =
      resolved_err (meant_of w.tree (ListDirectory d)) modelled error refl
      (means_then (lists_at w.tree d).answer (after_names w.tree d) error did.answer) (looks_of (Err error) (λ _. refl) did)

module _ {A B : Type 0} {live mid next : Handles} {w u v : HostModel} {dir : ℕ} {shown : A → List Listed} {modelled : B → List Entry} {names : A}
    (held : contains live dir ≡ true) (same : mid ≡ live) (still : next ≡ mid)
    (listed : Resolved live w u (lists_at w.tree (w.held dir).node) shown (Ok names)) where
  -- it wasn't looked at itself
  pub not_seen : (error : HostError) → RefinesCall {A = Metadata} mid next u v (Stat (u.held dir).node) (λ m. m) (Err error)
      → Resolved live w v (meant_of w.tree (ListDirectory (w.held dir).node)) modelled (Err error)
  unfolding listing_at
  not_seen error looked =
      let d : ℕ = (w.held dir).node in
      let did = read_on held same (looks_of (Ok names) (λ _. refl) listed) {shown = λ (m : Metadata). m} (λ t d. stat_answer t d) (call_err error [] still looked) in
      let means = means_then (stat_answer w.tree d) (λ own. numbered_behind w.tree d own.node (shown names)) error did.answer in
      resolved_err (meant_of w.tree (ListDirectory d)) modelled error refl
      (subst (λ m. MeansErr (m >>= after_names w.tree d) error) (sym listed.answer) means) (read_looks (Err error) did)

  -- and then each name was
  pub is_listed : {last : Handles} {z : HostModel} {metadata : Metadata} {r : Result B HostError} → last ≡ live
      → RefinesCall {A = Metadata} mid next u v (Stat (u.held dir).node) (λ m. m) (Ok metadata)
      → Resolved last v z (reads_from v.tree (v.held dir).node
      (numbered_behind v.tree (v.held dir).node metadata.node (shown names))) modelled r
      → Resolved live w z (meant_of w.tree (ListDirectory (w.held dir).node)) modelled r
  unfolding listing_at
  is_listed {z = z} {metadata = metadata} {r = r} kept looked numbered =
      let d : ℕ = (w.held dir).node in
      let own = call_ok [] (All-nil _) (same_live still) looked in
      let did = read_on held same (looks_of (Ok names) (λ _. refl) listed) {shown = λ (m : Metadata). m} (λ t d. stat_answer t d)
      own in
      let came : All (λ n. contains z.touched n ≡ true) (d ∷ []) =
      All-weaker (λ n. contains u.touched n ≡ true) _ (λ n is. numbered.touched.stays n (own.touched.stays n is)) (d ∷ [])
      listed.touched.ends in
      let whole = read_on held kept (read_looks (Ok metadata) did) (λ t d. numbered_behind t d metadata.node (shown names)) numbered in
      let is : listing_at w.tree d ≡ numbered_behind w.tree d metadata.node (shown names) =
      ap (λ m. m >>= after_names w.tree d) listed.answer
      ∙ ap (λ m. m >>= (λ own. numbered_behind w.tree d own.node (shown names))) did.answer in
      subst (λ m. Resolved live w z (lists_from w.tree d m) modelled r) (sym is) (record {
        answer = whole.answer;
        tree = whole.tree;
        touched = with_ends _ whole.touched (ends_if (λ n. contains z.touched n ≡ true) (d ∷ []) (is_ok r) came);
        keeps = whole.keeps;
      })
