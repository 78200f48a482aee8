-- A walk from the directories of all guests at once, step by step.
use Rattle.std.proofs.Common.{◌≡◌, ◌≢◌, ℕ, suc, ◌+◌, ◌<◌, ◌≤◌, ◌⊎◌, inl, inr, ⊎_elim, true, false, cond, List, [], ◌∷◌, ◌++◌, length, map, slice_index_or, Option, Some, None, MatchOption, refl, sym, ap, ◌∙◌, subst, arith}
use Rattle.std.specs.List.{All, Contains}
use Rattle.std.specs.declared.vec.Vec.{Vec}
use Rattle.std.specs.FinMap as maps
use Rattle.std.specs.Ordering.{nat_cmp, eq_by_cmp}
use Rattle.std.specs.Cmp.Lexicographic.{slice_cmp}
use Rattle.std.proofs.lemmas.Bool.{cases_lt}
use Rattle.std.proofs.lemmas.List.{get_or_past, get_or-map}
use Rattle.std.proofs.lemmas.List.Elements.{Contains-append_left, Contains-push, Contains-push_cases}
use Rattle.wasi_host.specs.Tree.{Tree, Node, Names, node_at, next_of, names_of}
use Rattle.wasi_host.specs.ValidTree.{Reached, root, held}
use Rattle.wasi_host.proofs.EntryLemmas.{find_in, get_entry}
use Rattle.wasi_tree.specs.Sound.{IsSoundNode}
use Rattle.wasi_tree.proofs.FoundLemmas.{entry_of}
use Rattle.wasi_guests.specs.Insides.{IsShared, IsLowestShared, directories_of}
use Rattle.wasi_guests.specs.Holders.{TellsOf, both}
use Rattle.wasi_guests.specs.Walk.{known_at, AreFound, IsSo, IsUnderWay, KnowsAll}
use Rattle.wasi_guests.specs.declared.holders.Holders.{Holders}
use Rattle.wasi_guests.specs.declared.holders.Holders.TheVariants.{Nobody, One, Several}
use Rattle.wasi_guests.specs.declared.walk.Walk.{Walk}
use Rattle.wasi_guests.proofs.HoldersLemmas.{tells_on, same_or_both}
use Rattle.wasi_guests.proofs.FindLemmas.{known_stays}

-- ---- the names of a directory

abbrev numbers : List (List ℕ × ℕ) → List ℕ
numbers entries = map (λ e. e.1) entries

found_among : (entries : List (List ℕ × ℕ)) (name : List ℕ) (n : ℕ) → find_in name entries ≡ Some n
    → Contains (numbers entries) n
found_among [] name n is = absurd (cc)
found_among (e ∷ entries) name n is = elim (eq_by_cmp (slice_cmp nat_cmp) name e.0) as (λ b.
    cond b (Some e.1) (find_in name entries) ≡ Some n → Contains (e.1 ∷ numbers entries) n) [
      | true ↦ λ here. let same : e.1 ≡ n = cc in (0, omega arith, same)
      | false ↦ λ there. let rest = found_among entries name n there in (suc rest.0, omega (arith, rest.1), rest.2)
    ] is

-- the nodes of the entries are those that the names hold
held_among : (names : Names) (name : List ℕ) (n : ℕ) → maps.get names name ≡ Some n
    → Contains (numbers (maps.entries names)) n
held_among names name n is = found_among (maps.entries names) name n (sym (maps.get-entries names name) ∙ is)

among_held : (names : Names) (n : ℕ) → Contains (numbers (maps.entries names)) n
    → (name : List ℕ) × (maps.get names name ≡ Some n)
among_held names n among =
    let (entry, at, is) = entry_of (maps.entries names) n among in
    let (k, short, stands) = at in
    (entry.0, subst (λ (e : List ℕ × ℕ). maps.get names e.0 ≡ Some e.1) stands (get_entry names k entry short) ∙ ap Some is)

pub entries_within : {count : ℕ} {node : Node} → IsSoundNode count node
    → All (λ e. e.1 < count) (maps.entries (names_of node.content))
entries_within {count} {node} sound = λ k e short. sound.below _ _ (get_entry (names_of node.content) k e short)

-- ---- what is known is so

so_both : (t : Tree) (guests : List (List ℕ)) (n : ℕ) (a b : Holders) → IsSo t guests n a → IsSo t guests n b
    → IsSo t guests n (both a b)
so_both t guests n a Nobody first second = first
so_both t guests n Nobody (One guest) first second = second
so_both t guests n (One other) (One guest) first second = same_or_both (IsSo t guests n) other guest (λ _. first)
    (λ apart. record { one = other; other = guest; apart = apart; in_one = first; in_other = second })
so_both t guests n Several (One guest) first second = first
so_both t guests n a Several first second = second

-- what is so of a directory is so of the nodes that its names hold
so_held : (t : Tree) (guests : List (List ℕ)) (d n : ℕ) (name : List ℕ)
    → maps.get (names_of (node_at t d).content) name ≡ Some n → (k : Holders) → IsSo t guests d k → IsSo t guests n k
so_held t guests d n name is Nobody so = tt
so_held t guests d n name is (One guest) so = held d n name so is
so_held t guests d n name is Several so = record {
  one = so.one;
  other = so.other;
  apart = so.apart;
  in_one = held d n name so.in_one is;
  in_other = held d n name so.in_other is;
}

-- ---- guests hold some nodes, in a walk

module _ {nodes : List ℕ} {holders : Holders} {old new : Walk} (found : AreFound nodes holders old new) where
  so_stays : (t : Tree) (guests : List (List ℕ)) → ((n : ℕ) → IsSo t guests n (known_at old n))
      → ((n : ℕ) → Contains nodes n → IsSo t guests n holders) → (n : ℕ) → IsSo t guests n (known_at new n)
  so_stays t guests before so n = elim (found.each n) [
    | inl same ↦ subst (IsSo t guests n) (sym same) (before n)
    | inr learns ↦ subst (IsSo t guests n) (sym learns.more)
        (so_both t guests n (known_at old n) holders (before n) (so n learns.among))
  ]

  tells_stays : (k : Holders) (n : ℕ) → TellsOf (known_at old n) k → TellsOf (known_at new n) k
  tells_stays k n tells = tells_on (known_at new n) (known_at old n) k (known_stays found n) tells

  spread_stays : (d n : ℕ) → Contains old.left.items d ⊎ TellsOf (known_at old n) (known_at old d)
      → Contains new.left.items d ⊎ TellsOf (known_at new n) (known_at new d)
  spread_stays d n (inl left) = inl (found.waits d left)
  spread_stays d n (inr tells) = elim (found.each d) [
    | inl same ↦ inr (subst (TellsOf (known_at new n)) (sym same) (tells_stays (known_at old d) n tells))
    | inr learns ↦ inl learns.waits
  ]

  within_stays : (count : ℕ) → length old.holders.items ≡ count → ((n : ℕ) → Contains old.left.items n → n < count)
      → (n : ℕ) → Contains new.left.items n → n < count
  within_stays count is within n left = ⊎_elim (λ before. within n before)
      (λ below. subst (λ k. n < k) is below) (found.within n left)

-- ---- the walk

-- the directories of a guest are those in its place
pub directories_at : {Y : Type 0} (guests : List (Vec ℕ Y)) (n : ℕ) {guest : Vec ℕ Y} {directories : List ℕ}
    → n < length guests → guest ≡ slice_index_or guests n guest → directories ≡ guest.items
    → directories_of (map (λ guest. guest.items) guests) n ≡ directories
directories_at guests n {guest} {directories} short is same =
    get_or-map (λ guest. guest.items) guests n guest [] short ∙ ap (λ guest. guest.items) (sym is) ∙ sym same

-- the directories of one guest more
pub begun_on : {t : Tree} {guests : List (List ℕ)} {guest : ℕ} {old new : Walk} → IsUnderWay t guests guest old
    → AreFound (directories_of guests guest) (One guest) old new → IsUnderWay t guests (guest + 1) new
begun_on {t} {guests} {guest} {old} {new} before found = record {
  count = found.count ∙ before.count;
  so = so_stays found t guests before.so (λ n among. root n among);
  tells = λ g n below among. elim (cases_lt g guest) [
    | inl earlier ↦ tells_stays found (One g) n (before.tells g n earlier among)
    | inr last ↦
        let same : guest ≡ g = omega (arith, below, last) in
        subst (λ k. TellsOf (known_at new n) (One k)) same
        (found.tells n (subst (λ k. Contains (directories_of guests k) n) (sym same) among))
  ];
  spread = λ d n name is. spread_stays found d n (before.spread d n name is);
  within = within_stays found (next_of t) before.count before.within;
}

-- the last of the list is a node
pub last_within : {t : Tree} {guests : List (List ℕ)} {begun : ℕ} {old : Walk} (rest : List ℕ) (d : ℕ)
    → IsUnderWay t guests begun old → old.left.items ≡ rest ++ d ∷ [] → d < length old.holders.items
last_within rest d before taken =
    let within = before.within d (subst (λ list. Contains list d) (sym taken) (Contains-push rest d)) in
    omega (arith, within, before.count)

-- the names of a directory, which was the last of the list
pub spread_on : {t : Tree} {guests : List (List ℕ)} {begun : ℕ} {old mid new : Walk} (d : ℕ) → IsUnderWay t guests begun old
    → mid.holders.items ≡ old.holders.items → old.left.items ≡ mid.left.items ++ d ∷ []
    → AreFound (numbers (maps.entries (names_of (node_at t d).content))) (known_at mid d) mid new → IsUnderWay t guests begun new
spread_on {t} {guests} {begun} {old} {mid} {new} d before same taken found = record {
  count = found.count ∙ ap length same ∙ before.count;
  so = so_stays found t guests so_before (λ n among.
      let named = among_held (names_of (node_at t d).content) n among in
      so_held t guests d n named.0 named.1 (known_at mid d) (so_before d));
  tells = λ guest n below among. tells_stays found (One guest) n
      (subst (λ k. TellsOf k (One guest)) (sym (knows n)) (before.tells guest n below among));
  spread = λ e n name is. elim (before.spread e n name is) [
    | inl left ↦ elim (Contains-push_cases mid.left.items d e (subst (λ list. Contains list e) taken left)) [
      | inl still ↦ inl (found.waits e still)
      | inr here ↦ subst (λ k. Contains new.left.items k ⊎ TellsOf (known_at new n) (known_at new k)) here
          (spread_here n name (subst (λ k. maps.get (names_of (node_at t k).content) name ≡ Some n) (sym here) is))
    ]
    | inr tells ↦ spread_stays found e n (inr (rw (knows n, knows e) tells))
  ];
  within = within_stays found (next_of t) (ap length same ∙ before.count) (λ n left.
      before.within n (subst (λ list. Contains list n) (sym taken) (Contains-append_left mid.left.items (d ∷ []) n left)));
}
  where
    knows : (n : ℕ) → known_at mid n ≡ known_at old n
    knows n = ap (λ all. slice_index_or all n Nobody) same

    so_before : (n : ℕ) → IsSo t guests n (known_at mid n)
    so_before n = subst (IsSo t guests n) (sym (knows n)) (before.so n)

    spread_here : (n : ℕ) (name : List ℕ) → maps.get (names_of (node_at t d).content) name ≡ Some n
        → Contains new.left.items d ⊎ TellsOf (known_at new n) (known_at new d)
    spread_here n name is = elim (found.each d) [
      | inl stays ↦ inr (subst (TellsOf (known_at new n)) (sym stays) (found.tells n (held_among _ name n is)))
      | inr learns ↦ inl learns.waits
    ]

-- where no directory is left, all is known
pub all_known : {t : Tree} {guests : List (List ℕ)} {old new : Walk} → IsUnderWay t guests (length guests) old
    → length old.left.items ≡ 0 → new.holders.items ≡ old.holders.items → KnowsAll t guests new
all_known {t} {guests} {old} {new} before none same = record {
  so = λ n. subst (IsSo t guests n) (sym (knows n)) (before.so n);
  tells = λ guest n inside. subst (λ k. TellsOf k (One guest)) (sym (knows n)) (inside_known guest n inside);
}
  where
    knows : (n : ℕ) → known_at new n ≡ known_at old n
    knows n = ap (λ all. slice_index_or all n Nobody) same

    inside_known : (guest n : ℕ) → Reached t (directories_of guests guest) n → TellsOf (known_at old n) (One guest)
    inside_known guest _ (root n among) = elim (cases_lt guest (length guests)) [
      | inl below ↦ before.tells guest n below among
      | inr past ↦
          let bare : length (directories_of guests guest) ≡ 0 = ap length (get_or_past guests guest [] past) in
          absurd (omega (arith, among.1, bare))
    ]
    inside_known guest _ (held d n name reached is) = elim (before.spread d n name is) [
      | inl left ↦ absurd (omega (arith, left.1, none))
      | inr tells ↦ tells_on (known_at old n) (known_at old d) (One guest) tells (inside_known guest d reached)
    ]

-- ---- the lowest shared node

-- who tells of two guests tells of several
two_are_several : (k : Holders) {one other : ℕ} → one ≢ other → TellsOf k (One one) → TellsOf k (One other) → k ≡ Several
two_are_several Nobody apart first second = absurd first
two_are_several (One guest) apart first second = absurd (apart (sym first ∙ second))
two_are_several Several apart first second = refl

pub lowest_is : {t : Tree} {guests : List (List ℕ)} {walk : Walk} → KnowsAll t guests walk → (lowest : Option ℕ)
    → MatchOption lowest ((n : ℕ) → known_at walk n ≡ Several → ⊥)
    (λ l. (known_at walk l ≡ Several) × ((n : ℕ) → known_at walk n ≡ Several → l ≤ n))
    → IsLowestShared t guests lowest
lowest_is {t} {guests} {walk} knows lowest is = by lowest is
  where
    several : (n : ℕ) → IsShared t guests n → known_at walk n ≡ Several
    several n shared = two_are_several (known_at walk n) shared.apart
        (knows.tells shared.one n shared.in_one) (knows.tells shared.other n shared.in_other)

    by : (lowest : Option ℕ) → MatchOption lowest ((n : ℕ) → known_at walk n ≡ Several → ⊥)
        (λ l. (known_at walk l ≡ Several) × ((n : ℕ) → known_at walk n ≡ Several → l ≤ n))
        → IsLowestShared t guests lowest
    by None none = λ n shared. none n (several n shared)
    by (Some l) some = (subst (IsSo t guests l) some.0 (knows.so l), λ m shared. some.1 m (several m shared))
