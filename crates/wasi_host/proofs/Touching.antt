-- Which nodes calls of a host touch.
use Rattle.std.proofs.Common.{ℕ, ◌≡◌, ◌⊎◌, inl, inr, true, false, cond, Bool, ◌||◌, List, [], ◌∷◌, ◌++◌, Option, Some, None, refl, sym, ap, subst, ◌∙◌, arith, nat_eq}
use Rattle.std.specs.Prelude.{All, Contains, option_to_list, is_none}
use Rattle.std.specs.List.{list_any}
use Rattle.std.specs.FinSet.{contains}
use Rattle.std.specs.Cmp.{nat_eq_equiv}
use Rattle.std.proofs.lemmas.Bool.{eqb-true}
use Rattle.std.proofs.lemmas.List.Elements.{All-weaker, All-nil, All-cons, Contains-push, Contains-push_cases, Contains-append_cases, Contains-append_right}
use Rattle.std.proofs.lemmas.Map.Views.{list_any-from_Contains, Contains-from_any}
use Rattle.wasi_host.specs.Options.{Options}
use Rattle.wasi_host.specs.Tree.{Tree, Nodes, next_of, child}
use Rattle.wasi_host.specs.ValidTree.{Reached, root, held}
use Rattle.wasi_host.specs.Agree.{IsMade, OrMade, Touches}
use Rattle.wasi_host.specs.HostCall.{HostCall, OpenAt, StatAt, ReadLinkAt, MakeDirAt, SymlinkAt, LinkAt, RenameAt, UnlinkAt, RemoveDirAt, TimesAt, Access, Stat, SetTimes, Pread, Pwrite, Append, SetSize, Sync, Advise, Flags, ListDir, Dup, Close}
use Rattle.wasi_host.specs.Answer.{reached, or_next}
use Rattle.wasi_host.specs.Step.{step, open_step, opened_step, directory_made, link_made, new_file, new_directory, new_link, with_nodes, found_under, found_by, made_by, starts_of}
use Rattle.wasi_host.proofs.Chain.{contains-with_nodes}
use Rattle.wasi_host.proofs.Leaving.{next_is_made, child_near, Contains-here}

pub or_right : (a b : Bool) → b ≡ true → (a || b) ≡ true
or_right true b is = refl
or_right false b is = is

pub or_left : (a b : Bool) → a ≡ true → (a || b) ≡ true
or_left true b is = refl
or_left false b is = absurd (cc)

pub one_of : (a b : Bool) → (a || b) ≡ true → (b ≡ true) ⊎ (a ≡ true)
one_of true b is = inr refl
one_of false b is = inl is

-- these were touched, each near or made
pub touches_with : {t t' : Tree} {roots ends : List ℕ} {old new : Nodes} (ns : List ℕ) → new ≡ with_nodes old ns
    → ((n : ℕ) → Contains ns n → OrMade (Reached t roots) t t' n) → All (Contains ns) ends
    → Touches t t' roots ends old new
touches_with {t} {t'} {roots} {ends} {old} {new} ns with near asked = record {
  stays = λ n is. now n ∙ or_right (any n) (contains old n) is;
  near = λ n is. elim (one_of (any n) (contains old n) (sym (now n) ∙ is)) [
    | inl was ↦ inl was
    | inr here ↦ inr (near n (Contains-from_any eqb-true n ns here))
  ];
  ends =
      All-weaker (Contains ns) _
      (λ n is. now n ∙ or_left (any n) (contains old n) (list_any-from_Contains nat_eq_equiv n ns is)) ends asked;
}
  where
    any : ℕ → Bool
    any n = list_any (nat_eq n) ns

    now : (n : ℕ) → contains new n ≡ (any n || contains old n)
    now n = ap (λ s. contains s n) with ∙ contains-with_nodes old ns n

pub none_in : {n : ℕ} {P : Type 0} → Contains [] n → P
none_in none = absurd (omega (arith, none.1))

pub touches_same : {t t' : Tree} {roots : List ℕ} {old new : Nodes} → new ≡ old → Touches t t' roots [] old new
touches_same same = touches_with [] same (λ n none. none_in none) (All-nil _)

pub no_ends : {t t' : Tree} {roots ends : List ℕ} {old new : Nodes} → Touches t t' roots ends old new
    → Touches t t' roots [] old new
no_ends touches = record { stays = touches.stays; near = touches.near; ends = All-nil _ }

-- ---- from a node that is reached itself

pub same_node : {m n : ℕ} → Contains (m ∷ []) n → n ≡ m
same_node {m} {n} has = elim (Contains-push_cases [] m n has) [ inl none ↦ none_in none | inr is ↦ sym is ]

pub at_root : (t : Tree) (s : ℕ) → Reached t (s ∷ []) s
at_root t s = root s (Contains-push [] s)

-- from nodes that are reached themselves
pub reached_through : {t : Tree} {roots ds : List ℕ} → ((d : ℕ) → Contains ds d → Reached t roots d) → (n : ℕ)
    → Reached t ds n → Reached t roots n
reached_through each _ (root n has) = each n has
reached_through each _ (held d n name from at) = held d n name (reached_through each d from) at

-- of the one node that is reached
pub to_one : {t : Tree} {roots : List ℕ} {d : ℕ} → Reached t roots d → (n : ℕ) → Contains (d ∷ []) n → Reached t roots n
to_one {t} {roots} to n has = subst (Reached t roots) (sym (same_node has)) to

pub reached_on : {t : Tree} {s d n : ℕ} → Reached t (s ∷ []) d → Reached t (d ∷ []) n → Reached t (s ∷ []) n
reached_on {n = n} to from = reached_through (to_one to) n from

-- first what leaves the tree, and then what is touched from nodes that are reached
pub touches_through : {t t' : Tree} {roots ds ends : List ℕ} {a b c : Nodes} → Touches t t roots [] a b
    → ((d : ℕ) → Contains ds d → Reached t roots d)
    → Touches t t' ds ends b c → Touches t t' roots ends a c
touches_through first each second = record {
  stays = λ n is. second.stays n (first.stays n is);
  near = λ n is. elim (second.near n is) [
    | inl before ↦ elim (first.near n before) [
      | inl was ↦ inl was
      | inr (inl near) ↦ inr (inl near)
      | inr (inr made) ↦ absurd (omega (arith, made.fresh, made.there))
    ]
    | inr (inl near) ↦ inr (inl (reached_through each n near))
    | inr (inr made) ↦ inr (inr made)
  ];
  ends = second.ends;
}

-- ---- the nodes to which a call comes

-- the node under a name is reached from its directory
pub child_reached : (t : Tree) (d n : ℕ) (name : List ℕ) → child t d name ≡ Some n → Reached t (d ∷ []) n
child_reached t d n name is = child_near t d name n is (Contains-here d [])

near_name : (t : Tree) {roots : List ℕ} (d n : ℕ) (name : List ℕ) → Contains roots d → Contains (found_under t d name) n
    → Reached t roots n
near_name t {roots} d n name from has =
    elim (Contains-append_cases (d ∷ []) (option_to_list (child t d name)) n has) [
      | inl here ↦ subst (Reached t roots) (sym (same_node here)) (root d from)
      | inr other ↦ by (child t d name) refl other
    ]
  where
    by : (c : Option ℕ) → child t d name ≡ c → Contains (option_to_list c) n → Reached t roots n
    by None is has' = none_in has'
    by (Some m) is has' = child_near t d name n (is ∙ ap Some (sym (same_node has'))) from

-- from the nodes of its handles
pub found_near : (t : Tree) (call : HostCall) (n : ℕ) → Contains (found_by t call) n → Reached t (starts_of call) n
found_near t (OpenAt d name o) n has = near_name t d n name (Contains-here d []) has
found_near t (StatAt d name) n has = near_name t d n name (Contains-here d []) has
found_near t (ReadLinkAt d name) n has = near_name t d n name (Contains-here d []) has
found_near t (MakeDirAt d name) n has = near_name t d n name (Contains-here d []) has
found_near t (SymlinkAt text d name) n has = near_name t d n name (Contains-here d []) has
found_near t (LinkAt old old_name new new_name) n has =
    elim (Contains-append_cases (found_under t old old_name) (found_under t new new_name) n has) [
      | inl first ↦ near_name t old n old_name (Contains-here old (new ∷ [])) first
      | inr second ↦ near_name t new n new_name (Contains-push (old ∷ []) new) second
    ]
found_near t (RenameAt old old_name new new_name requires_dir) n has =
    elim (Contains-append_cases (found_under t old old_name) (found_under t new new_name) n has) [
      | inl first ↦ near_name t old n old_name (Contains-here old (new ∷ [])) first
      | inr second ↦ near_name t new n new_name (Contains-push (old ∷ []) new) second
    ]
found_near t (UnlinkAt d name) n has = near_name t d n name (Contains-here d []) has
found_near t (RemoveDirAt d name) n has = near_name t d n name (Contains-here d []) has
found_near t (TimesAt d name atime mtime) n has = near_name t d n name (Contains-here d []) has
found_near t (Access d) n has = root n has
found_near t (Stat m) n has = root n has
found_near t (SetTimes m atime mtime) n has = root n has
found_near t (Pread file offset m) n has = root n has
found_near t (Pwrite file offset piece) n has = root n has
found_near t (Append file piece) n has = root n has
found_near t (SetSize file size) n has = root n has
found_near t (Sync m) n has = root n has
found_near t (Advise m offset length advice) n has = root n has
found_near t (Flags m) n has = root n has
found_near t (ListDir stands) n has = root n has
found_near t (Dup stands) n has = none_in has
found_near t Close n has = none_in has

made_is : (t : Tree) (d m : ℕ) (name : List ℕ) (o : Options) (c : Option ℕ)
    → Contains (cond (is_none c) (next_of t ∷ []) []) m
    → IsMade t (opened_step t d name o c) m
made_is t d m name o None has =
    subst (IsMade t (opened_step t d name o None)) (sym (same_node has)) (next_is_made t d name new_file)
made_is t d m name o (Some n) has = none_in has

pub made_new : (t : Tree) (call : HostCall) (n : ℕ) → Contains (made_by t call) n → IsMade t (step t call) n
unfolding open_step
made_new t (OpenAt d name o) n has = made_is t d n name o (child t d name) has
made_new t (StatAt d name) n has = none_in has
made_new t (ReadLinkAt d name) n has = none_in has
made_new t (MakeDirAt d name) n has =
    subst (IsMade t (directory_made t d name)) (sym (same_node has)) (next_is_made t d name new_directory)
made_new t (SymlinkAt text d name) n has =
    subst (IsMade t (link_made t d name text)) (sym (same_node has)) (next_is_made t d name (new_link text))
made_new t (LinkAt old old_name new new_name) n has = none_in has
made_new t (RenameAt old old_name new new_name requires_dir) n has = none_in has
made_new t (UnlinkAt d name) n has = none_in has
made_new t (RemoveDirAt d name) n has = none_in has
made_new t (TimesAt d name atime mtime) n has = none_in has
made_new t (Access d) n has = none_in has
made_new t (Stat m) n has = none_in has
made_new t (SetTimes m atime mtime) n has = none_in has
made_new t (Pread file offset m) n has = none_in has
made_new t (Pwrite file offset piece) n has = none_in has
made_new t (Append file piece) n has = none_in has
made_new t (SetSize file size) n has = none_in has
made_new t (Sync m) n has = none_in has
made_new t (Advise m offset length advice) n has = none_in has
made_new t (Flags m) n has = none_in has
made_new t (ListDir stands) n has = none_in has
made_new t (Dup stands) n has = none_in has
made_new t Close n has = none_in has

-- ---- at which nodes a call ends

-- the node to which an open comes is found, or made
pub open_ends : (t : Tree) (d : ℕ) (name : List ℕ) (o : Options)
    → All (Contains (found_by t (OpenAt d name o) ++ made_by t (OpenAt d name o))) (reached t d name ∷ [])
unfolding reached
open_ends t d name o = by (child t d name)
  where
    here : (m : ℕ) → All (Contains (d ∷ m ∷ [])) (m ∷ [])
    here m =
        All-cons (Contains (d ∷ m ∷ [])) m [] (Contains-append_right (d ∷ []) (m ∷ []) m (Contains-push [] m))
        (All-nil _)

    by : (c : Option ℕ)
        → All (Contains ((d ∷ option_to_list c) ++ cond (is_none c) (next_of t ∷ []) [])) (or_next c (next_of t) ∷ [])
    by None = here (next_of t)
    by (Some n) = here n

-- a name that is there is found
pub name_ends : (t : Tree) (d n : ℕ) (name : List ℕ) → child t d name ≡ Some n
    → All (Contains ((d ∷ option_to_list (child t d name)) ++ [])) (reached t d name ∷ [])
unfolding reached
name_ends t d n name is = by (child t d name) is
  where
    by : (c : Option ℕ) → c ≡ Some n → All (Contains ((d ∷ option_to_list c) ++ [])) (or_next c (next_of t) ∷ [])
    by None none = absurd (cc)
    by (Some m) some =
        All-cons (Contains (d ∷ m ∷ [])) m [] (Contains-append_right (d ∷ []) (m ∷ []) m (Contains-push [] m))
        (All-nil _)
