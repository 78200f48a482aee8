-- What a step that adds leaves: all that was there.
use Rattle.std.proofs.Common.{◌≡◌, ℕ, ◌+◌, ◌-◌, inl, inr, true, false, not, List, [], ◌∷◌, ◌++◌, length, drop, slice_set, None, refl, ap, sym, ◌∙◌, subst, arith, append_assoc}
use Rattle.std.proofs.Math.Seq.{take-length}
use Rattle.std.proofs.lemmas.Bool.{cases_eq, cases_lt}
use Rattle.std.proofs.lemmas.List.{append-nil, drop_all, length-set}
use Rattle.std.specs.FinMap as map
use Rattle.wasi_host.specs.Step.{append_step, name_added, new_node, node_made, one_name_more, other_bytes, with_content, with_entry, with_name, with_piece, write_step}
use Rattle.wasi_host.specs.Tree.{Tree, Node, Content, File, Directory, Link, node_at, next_of, names_of, bytes_of, is_directory, is_file, default_bits, stray}
use Rattle.wasi_host.proofs.Agreeing.{unmade}
use Rattle.wasi_host.proofs.Changes as changes
use Rattle.wasi_host.proofs.Changes.{directory_within}
use Rattle.wasi_host.proofs.EntryLemmas.{get-kept}
use Rattle.wasi_host.proofs.Leaving.{set_cases}
use Rattle.wasi_host.proofs.ValidSteps.{missing_name}
use Rattle.wasi_p1_model.specs.AppendOnly.{IsFree, Adds, nothing, make_file, make_directory, make_link, add_name, put_at_end, HasStill, KeepsNode, HasFirstStamps, OnlyGrows}

-- ---- contents

-- a content has what it has
has_itself : (content : Content) → HasStill content content
has_itself (File bytes links) = ([], links, ap (λ b. File b links) (sym (append-nil bytes)), omega arith)
has_itself (Directory names gone) = (names, refl, λ name n is. is)
has_itself (Link text links) = (links, refl, omega arith)

-- what stays twice stays
has_on : (old middle now : Content) → HasStill old middle → HasStill middle now → HasStill old now
has_on (File bytes links) middle now (more, names, is, fewer) second =
    let (more', names', is', fewer') = subst (λ c. HasStill c now) is second in
    (more ++ more', names', is' ∙ ap (λ b. File b names') (append_assoc bytes more more'), omega (arith, fewer, fewer'))
has_on (Directory names gone) middle now (others, is, stay) second =
    let (others', is', stay') = subst (λ c. HasStill c now) is second in
    (others', is', λ name n has. stay' name n (stay name n has))
has_on (Link text links) middle now (names, is, fewer) second =
    let (names', is', fewer') = subst (λ c. HasStill c now) is second in (names', is', omega (arith, fewer, fewer'))

-- a file is one still
file_still : (old now : Content) → HasStill old now → is_file now ≡ is_file old
file_still (File bytes links) now (more, names, is, fewer) = ap is_file is
file_still (Directory names gone) now (others, is, stay) = ap is_file is
file_still (Link text links) now (names, is, fewer) = ap is_file is

-- a directory with a further name has the others
entry_still : {t : Tree} {d : ℕ} {name : List ℕ} → IsFree t d name → (n : ℕ)
    → HasStill (node_at t d).content (with_entry name n (node_at t d).content)
entry_still {t} {d} {name} free n = by (node_at t d).content free.directory (missing_name t d name free.free).1
  where
    by : (content : Content) → is_directory content ≡ true → map.get (names_of content) name ≡ None
        → HasStill content (with_entry name n content)
    by (File bytes links) is missing = absurd (cc)
    by (Directory names gone) is missing = (map.insert names name n, refl, get-kept names name n missing)
    by (Link text links) is missing = absurd (cc)

-- a file or link with one name more has what it had
name_still : (content : Content) → HasStill content (one_name_more content)
name_still (File bytes links) = ([], links + 1, ap (λ b. File b (links + 1)) (sym (append-nil bytes)), omega arith)
name_still (Directory names gone) = has_itself (Directory names gone)
name_still (Link text links) = (links + 1, refl, omega arith)

-- a piece is put after the last byte
piece_at_end : (bytes piece : List ℕ) → with_piece bytes (length bytes) piece ≡ bytes ++ piece
unfolding with_piece
piece_at_end bytes piece =
    let none : length bytes - length bytes ≡ 0 = omega arith in
    let past : drop (length bytes + length piece) bytes ≡ [] = drop_all _ bytes (omega arith) in
    rw (take-length bytes, none, past, append-nil piece) refl

-- a file with a piece at its end has the bytes that it had
piece_still : (content : Content) (piece : List ℕ)
    → HasStill content (other_bytes (λ bytes. with_piece bytes (length (bytes_of content)) piece) content)
piece_still (File bytes links) piece =
    (piece, links, ap (λ b. File b links) (piece_at_end bytes piece), omega arith)
piece_still (Directory names gone) piece = has_itself (Directory names gone)
piece_still (Link text links) piece = has_itself (Link text links)

-- ---- nodes

-- a node whose content is another one, which has what it had
keeps_with : {t u : Tree} {n : ℕ} (change : Content → Content) → node_at u n ≡ with_content (node_at t n) change
    → HasStill (node_at t n).content (change (node_at t n).content) → KeepsNode t u n
keeps_with {t} {u} {n} change is still = record {
  content = rw is still;
  bits = ap (λ (x : Node). x.bits) is;
  atime = ap (λ (x : Node). x.atime) is;
  mtime = ap (λ (x : Node). x.mtime) is;
  btime = ap (λ (x : Node). x.btime) is;
}

-- a node that is as it was keeps all
pub keeps_same : {t u : Tree} {n : ℕ} → node_at u n ≡ node_at t n → KeepsNode t u n
keeps_same {t} {u} {n} same = keeps_with (λ c. c) same (has_itself (node_at t n).content)

-- in one tree each does
pub keeps_itself : {t : Tree} {n : ℕ} → KeepsNode t t n
keeps_itself = keeps_same refl

-- what is kept twice is kept
pub keeps_on : {t u v : Tree} {n : ℕ} → KeepsNode t u n → KeepsNode u v n → KeepsNode t v n
keeps_on {t} {u} {v} {n} first second = record {
  content = has_on (node_at t n).content (node_at u n).content (node_at v n).content first.content second.content;
  bits = second.bits ∙ first.bits;
  atime = second.atime ∙ first.atime;
  mtime = second.mtime ∙ first.mtime;
  btime = second.btime ∙ first.btime;
}

-- one that was made has its first stamps while it is kept
stamps_on : {u v : Tree} {n : ℕ} → HasFirstStamps (node_at u n) → KeepsNode u v n → HasFirstStamps (node_at v n)
stamps_on {u} {v} {n} first keeps = record {
  bits = keeps.bits ∙ first.bits
      ∙ ap (λ b. default_bits (not b)) (sym (file_still (node_at u n).content (node_at v n).content keeps.content));
  atime = keeps.atime ∙ first.atime;
  mtime = keeps.mtime ∙ first.mtime;
  btime = keeps.btime ∙ first.btime;
}

-- ---- trees

-- a tree grows where each node is kept, and none made
keeping_grows : {t u : Tree} → next_of u ≡ next_of t → ((n : ℕ) → KeepsNode t u n) → OnlyGrows t u
keeping_grows {t} {u} next keeps = record {
  later = omega (arith, next);
  kept = λ n h. keeps n;
  made = λ n made. absurd (unmade next made);
}

-- and where it stays
pub still_grows : {t : Tree} → OnlyGrows t t
still_grows = keeping_grows refl (λ n. keeps_itself)

-- a tree that grows twice only grows
pub grows_on : {t u v : Tree} → OnlyGrows t u → OnlyGrows u v → OnlyGrows t v
grows_on {t} {u} {v} first second = record {
  later = omega (arith, first.later, second.later);
  kept = λ n h. keeps_on (first.kept n h) (second.kept n (omega (arith, h, first.later)));
  made = λ n made. elim (cases_lt n (next_of u)) [
    | inl within ↦
        stamps_on (first.made n (record { fresh = made.fresh; there = within })) (second.kept n within)
    | inr past ↦ second.made n (record { fresh = past; there = made.there })
  ];
}

-- one where a node is made under a free name
made_grows : {t : Tree} {d : ℕ} {name : List ℕ} → IsFree t d name → (content : Content)
    → OnlyGrows t (node_made t d name (new_node content (not (is_file content))))
made_grows {t} {d} {name} free content =
    let node : Node = new_node content (not (is_file content)) in
    let within = directory_within t d free.directory in
    let next = changes.next_of-made t d name node within in record {
      later = omega (arith, next);
      kept = λ n h. elim (cases_eq n d) [
        | inl here ↦ rw here (keeps_with (with_entry name (next_of t)) (changes.node_at-parent t d name node within)
            (entry_still free (next_of t)))
        | inr other ↦ keeps_same (changes.node_at-apart t d name node within n h other)
      ];
      made = λ n made.
          let last : n ≡ next_of t = omega (arith, made.fresh, made.there, next) in
          rw (last, changes.node_at-made t d name node within)
          (record { bits = refl; atime = refl; mtime = refl; btime = refl });
    }

-- where a node gets a free name
named_grows : {t : Tree} {d : ℕ} {name : List ℕ} → IsFree t d name → (n : ℕ) → OnlyGrows t (name_added t d name n)
unfolding node_at
named_grows {t} {d} {name} free n =
    let parent : Node = with_name (node_at t d) name n in
    let other : Node = with_content (node_at t n) one_name_more in
    keeping_grows
    (length-set (slice_set t.nodes d parent) n other ∙ length-set t.nodes d parent)
    (λ k. elim (set_cases (slice_set t.nodes d parent) n k other stray) [
      | inl old ↦ elim (set_cases t.nodes d k parent stray) [
        | inl same ↦ keeps_same (old ∙ same)
        | inr (here, set) ↦ rw here (keeps_with (with_entry name n) (rw here at (old ∙ set)) (entry_still free n))
      ]
      | inr (here, set) ↦ rw here (keeps_with one_name_more (rw here at set) (name_still (node_at t n).content))
    ])

-- where a piece is put at a file's end
put_grows : (t : Tree) (n : ℕ) (piece : List ℕ) → OnlyGrows t (append_step t n piece)
unfolding write_step node_at
put_grows t n [] = still_grows
put_grows t n (byte ∷ bytes) =
    let end : ℕ = length (bytes_of (node_at t n).content) in
    let change : Content → Content = other_bytes (λ old. with_piece old end (byte ∷ bytes)) in
    let other : Node = with_content (node_at t n) change in
    keeping_grows (length-set t.nodes n other) (λ k. elim (set_cases t.nodes n k other stray) [
      | inl same ↦ keeps_same same
      | inr (here, set) ↦ rw here (keeps_with change (rw here at set) (piece_still (node_at t n).content (byte ∷ bytes)))
    ])

-- so it only grows by a step that adds
pub adds_grow : {t u : Tree} → Adds t u → OnlyGrows t u
adds_grow (nothing is) = rw is still_grows
adds_grow (make_file d name free is) = rw is (made_grows free (File [] 1))
adds_grow (make_directory d name free is) = rw is (made_grows free (Directory map.empty false))
adds_grow (make_link d name text free is) = rw is (made_grows free (Link text 1))
adds_grow (add_name d name n free is) = rw is (named_grows free n)
adds_grow {t = t} (put_at_end n piece is) = rw is (put_grows t n piece)
