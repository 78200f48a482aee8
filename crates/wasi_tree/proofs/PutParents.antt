-- The directories in which the numbers of a list of nodes stand.
use Rattle.std.proofs.Common.{◌≡◌, ℕ, ◌+◌, ◌<◌, ◌≤◌, inl, inr, ⊎_elim, List, [], ◌∷◌, ◌++◌, map, take, length, slice_index_or, slice_set, Option, Some, None, refl, sym, ap, ◌∙◌, subst, arith}
use Rattle.std.specs.List.{Contains}
use Rattle.std.proofs.Math.ListN.{replicate}
use Rattle.std.proofs.lemmas.Bool.{cases_eq, cases_lt}
use Rattle.std.proofs.lemmas.List.{length-set, length-map, length-replicate, get_or-set_same, get_or-set_other, get_or-replicate, get_or_past}
use Rattle.std.proofs.lemmas.List.Elements.{Contains-append_left, Contains-append_right, Contains-append_cases}
use Rattle.wasi_tree.specs.declared.node.NewEntry.{NewEntry}
use Rattle.wasi_tree.specs.declared.node.NewNode.{NewNode}
use Rattle.wasi_tree.specs.NodeData.{NodeData, pair_of, node_data, content_data, data_entries}
use Rattle.wasi_tree.specs.FitTests.{entry_numbers}
use Rattle.wasi_tree.specs.ParentOf.{parent_of, ArePut, numbers_at, TellParents}
use Rattle.wasi_tree.proofs.CountLemmas.{entry_numbers-take}
use Rattle.wasi_tree.proofs.FoundLemmas.{only, first_of, entries_are, has_numbers}

-- ---- the numbers of one directory

pub put_none : (d : ℕ) (parents : List (Option ℕ)) → ArePut d [] parents parents
put_none d parents = record {
  len = refl;
  each = λ n has within. absurd (omega (arith, has.1));
  from = λ n. inl refl;
}

pub put_out : (d n : ℕ) (parents : List (Option ℕ)) → length parents ≤ n → ArePut d (n ∷ []) parents parents
put_out d n parents out = record {
  len = refl;
  each = λ m has within. absurd (omega (arith, only n m has, within, out));
  from = λ m. inl refl;
}

pub put_here : (d n : ℕ) (parents : List (Option ℕ)) → n < length parents
    → ArePut d (n ∷ []) parents (slice_set parents n (Some d))
put_here d n parents within = record {
  len = length-set parents n (Some d);
  each = λ m has inside.
      subst (λ k. parent_of (slice_set parents n (Some d)) k ≡ Some d) (only n m has)
      (get_or-set_same parents n (Some d) None within);
  from = λ m. elim (cases_eq m n) [
    | inl here ↦ inr (
      subst (Contains (n ∷ [])) (sym here) (first_of n),
      ap (parent_of (slice_set parents n (Some d))) here ∙ get_or-set_same parents n (Some d) None within,
    )
    | inr other ↦ inl (get_or-set_other parents n m (Some d) None other)
  ];
}

put_then : {d : ℕ} {ms ns : List ℕ} {old mid new : List (Option ℕ)} → ArePut d ms old mid → ArePut d ns mid new
    → ArePut d (ms ++ ns) old new
put_then {d} {ms} {ns} first rest = record {
  len = rest.len ∙ first.len;
  each = λ n has within. ⊎_elim
      (λ l. ⊎_elim (λ same. same ∙ first.each n l within) (λ p. p.1) (rest.from n))
      (λ r. rest.each n r (omega (arith, within, first.len)))
      (Contains-append_cases ms ns n has);
  from = λ n. ⊎_elim
      (λ same. ⊎_elim
      (λ before. inl (same ∙ before))
      (λ p. inr (Contains-append_left ms ns n p.0, same ∙ p.1))
      (first.from n))
      (λ p. inr (Contains-append_right ms ns n p.0, p.1))
      (rest.from n);
}

-- one entry more
pub put_entry : {d : ℕ} {old mid new : List (Option ℕ)} (entries : List NewEntry) (i : ℕ) (entry : NewEntry)
    → ArePut d (entry_numbers (take i entries)) old mid → i < length entries → entry ≡ slice_index_or entries i entry
    → ArePut d (entry.node ∷ []) mid new → ArePut d (entry_numbers (take (i + 1) entries)) old new
put_entry {d} {old} {mid} {new} entries i entry are within at more =
    let taken : entry_numbers (take (i + 1) entries) ≡ entry_numbers (take i entries) ++ entry.node ∷ [] =
    entry_numbers-take entries i entry within
    ∙ ap (λ (e : NewEntry). entry_numbers (take i entries) ++ e.node ∷ []) (sym at) in
    subst (λ ns. ArePut d ns old new) (sym taken) (put_then are more)

-- ---- those of the first nodes

pub record TellFirst (nodes : List NodeData) (count : ℕ) (parents : List (Option ℕ)) : Type 0 where
  pub len : length parents ≡ length nodes
  pub each : (d n : ℕ) → d < count → Contains (numbers_at nodes d) n → n < length nodes
      → (e : ℕ) × (parent_of parents n ≡ Some e)
  pub from : (d n : ℕ) → parent_of parents n ≡ Some d → Contains (numbers_at nodes d) n

pub tell_none : {start : List (Option ℕ)} (nodes : List NewNode) → start ≡ replicate (length nodes) None
    → TellFirst (map node_data nodes) 0 start
tell_none {start} nodes is =
    let count : length start ≡ length nodes = ap length is ∙ length-replicate (length nodes) None in
    let nothing : (n : ℕ) → parent_of start n ≡ None = λ n. elim (cases_lt n (length nodes)) [
      | inl within ↦ ap (λ ps. parent_of ps n) is ∙ get_or-replicate (length nodes) n None None within
      | inr past ↦ get_or_past start n None (omega (arith, count, past))
    ] in record {
      len = count ∙ sym (length-map nodes node_data);
      each = λ d n none has within. absurd (omega (arith, none));
      from = λ d n some. let none = nothing n in absurd (cc);
    }

-- one node more
pub tell_more : {old new : List (Option ℕ)} (nodes : List NewNode) (d : ℕ) (node : NewNode) (part : List NewEntry)
    → TellFirst (map node_data nodes) d old → d < length nodes → node ≡ slice_index_or nodes d node
    → map pair_of part ≡ data_entries (content_data node.content) → ArePut d (entry_numbers part) old new
    → TellFirst (map node_data nodes) (d + 1) new
tell_more {old} {new} nodes d node part tell within at entries put =
    let numbers : entry_numbers part ≡ numbers_at (map node_data nodes) d =
    ap (λ (es : List (List ℕ × ℕ)). map (λ e. e.1) es) (entries ∙ entries_are nodes d node within at) in
    let are : ArePut d (numbers_at (map node_data nodes) d) old new =
    subst (λ (ns : List ℕ). ArePut d ns old new) numbers put in record {
      len = are.len ∙ tell.len;
      each = λ e n below has inside. elim (cases_eq e d) [
        | inl here ↦ (
          d,
          are.each n (subst (λ k. Contains (numbers_at (map node_data nodes) k) n) here has)
              (omega (arith, inside, tell.len)),
        )
        | inr other ↦
            let was = tell.each e n (omega (arith, below, other)) has inside in
            ⊎_elim (λ same. (was.0, same ∙ was.1)) (λ p. (d, p.1)) (are.from n)
      ];
      from = λ e n is. ⊎_elim
          (λ same. tell.from e n (sym same ∙ is))
          (λ p.
          let both : Some d ≡ Some e = sym p.1 ∙ is in
          let here : d ≡ e = (cc) in
          subst (λ k. Contains (numbers_at (map node_data nodes) k) n) here p.0)
          (are.from n);
    }

-- only a node in range has numbers
pub tell_all : {parents : List (Option ℕ)} (nodes : List NewNode) (count : ℕ) → length nodes ≤ count
    → TellFirst (map node_data nodes) count parents → TellParents (map node_data nodes) parents
tell_all nodes count all tell = record {
  len = tell.len;
  each = λ d n has within.
      let inside = has_numbers (map node_data nodes) d n has in
      tell.each d n (omega (arith, inside, all, length-map nodes node_data)) has within;
  from = tell.from;
}

pub ruleset put_rules = (put_none, put_out, put_here)
