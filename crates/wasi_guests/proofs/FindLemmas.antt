-- That guests hold some nodes: what is known of each node afterwards.
use Rattle.std.proofs.Common.{◌≡◌, ℕ, ◌<◌, ◌⊎◌, inl, inr, ⊎_elim, List, [], ◌∷◌, ◌++◌, length, slice_index_or, slice_set, sym, ap, ◌∙◌, subst, arith}
use Rattle.std.specs.List.{Contains, sum_by}
use Rattle.std.proofs.lemmas.Bool.{cases_eq}
use Rattle.std.proofs.lemmas.List.{length-set, length_push, get_or-set_same, get_or-set_other}
use Rattle.std.proofs.lemmas.List.Elements.{Contains-append_left, Contains-append_right, Contains-append_cases, Contains-push, Contains-push_cases}
use Rattle.std.proofs.lemmas.List.Sums.{sum_by-set}
use Rattle.wasi_tree.proofs.FoundLemmas.{only, first_of}
use Rattle.wasi_guests.specs.Holders.{TellsOf, both, unknown}
use Rattle.wasi_guests.specs.Walk.{known_at, AreFound, Learns}
use Rattle.wasi_guests.specs.declared.holders.Holders.{Holders}
use Rattle.wasi_guests.specs.declared.holders.Holders.TheVariants.{Nobody}
use Rattle.wasi_guests.specs.declared.walk.Walk.{Walk}
use Rattle.wasi_guests.proofs.HoldersLemmas.{tells_itself, tells_on, both_tell_first, both_tell_second, both_again}

-- what was known stays known
pub known_stays : {nodes : List ℕ} {holders : Holders} {old new : Walk} → AreFound nodes holders old new → (n : ℕ)
    → TellsOf (known_at new n) (known_at old n)
known_stays {nodes} {holders} {old} {new} found n = elim (found.each n) [
  | inl same ↦ subst (λ k. TellsOf k (known_at old n)) (sym same) (tells_itself (known_at old n))
  | inr learns ↦ subst (λ k. TellsOf k (known_at old n)) (sym learns.more) (both_tell_first (known_at old n) holders)
]

-- some nodes, and then others
module _ {first rest : List ℕ} {holders : Holders} {old mid new : Walk} (a : AreFound first holders old mid) (b : AreFound rest holders mid new) where
  each_then : (n : ℕ) → (known_at new n ≡ known_at old n) ⊎ Learns (first ++ rest) holders old new n
  each_then n = elim (a.each n) [
    | inl same ↦ elim (b.each n) [
      | inl again ↦ inl (again ∙ same)
      | inr learns ↦ inr (record {
        among = Contains-append_right first rest n learns.among;
        more = learns.more ∙ ap (λ k. both k holders) same;
        waits = learns.waits;
      })
    ]
    | inr learnt ↦ inr (record {
      among = Contains-append_left first rest n learnt.among;
      more = elim (b.each n) [
        | inl again ↦ again ∙ learnt.more
        | inr learns ↦ learns.more ∙ both_again (known_at mid n) holders (a.tells n learnt.among) ∙ learnt.more
      ];
      waits = b.waits n learnt.waits;
    })
  ]

  pub found_then : AreFound (first ++ rest) holders old new
  found_then = record {
    count = b.count ∙ a.count;
    each = each_then;
    tells = λ n among. ⊎_elim
        (λ here. tells_on (known_at new n) (known_at mid n) holders (known_stays b n) (a.tells n here))
        (λ there. b.tells n there)
        (Contains-append_cases first rest n among);
    waits = λ n waits. b.waits n (a.waits n waits);
    within = λ n waits. ⊎_elim
        (λ before. a.within n before)
        (λ within. inr (subst (λ count. n < count) a.count within))
        (b.within n waits);
    less = let one = a.less in let two = b.less in omega (arith, one, two);
  }

-- a node of which more becomes known
pub found_new : (node : ℕ) (holders all : Holders) (old new : Walk) → node < length old.holders.items
    → (all ≡ both (known_at old node) holders) × (unknown all < unknown (known_at old node))
    → new.holders.items ≡ slice_set old.holders.items node all → new.left.items ≡ old.left.items ++ node ∷ []
    → AreFound (node ∷ []) holders old new
found_new node holders all old new inside more put waits = record {
  count = ap length put ∙ length-set old.holders.items node all;
  each = λ n. elim (cases_eq n node) [
    | inl is ↦ inr (record {
      among = subst (Contains (node ∷ [])) (sym is) (first_of node);
      more = subst (λ k. known_at new k ≡ both (known_at old k) holders) (sym is) (here ∙ more.0);
      waits = subst (Contains new.left.items) (sym is) last;
    })
    | inr other ↦ inl (ap (λ all. slice_index_or all n Nobody) put ∙ get_or-set_other old.holders.items node n all Nobody other)
  ];
  tells = λ n among. subst (λ k. TellsOf (known_at new k) holders) (only node n among)
      (subst (λ k. TellsOf k holders) (sym (here ∙ more.0)) (both_tell_second (known_at old node) holders));
  waits = λ n among. subst (λ left. Contains left n) (sym waits) (Contains-append_left old.left.items (node ∷ []) n among);
  within = λ n among. ⊎_elim (λ before. inl before) (λ is. inr (subst (λ k. k < length old.holders.items) is inside))
      (Contains-push_cases old.left.items node n (subst (λ left. Contains left n) waits among));
  less = omega (
    arith,
    ap length waits,
    length_push old.left.items node,
    ap (sum_by unknown) put,
    more.1,
    sum_by-set unknown old.holders.items node all Nobody inside,
  );
}
  where
    here : known_at new node ≡ all
    here = ap (λ all. slice_index_or all node Nobody) put ∙ get_or-set_same old.holders.items node all Nobody inside

    last : Contains new.left.items node
    last = subst (λ left. Contains left node) (sym waits) (Contains-push old.left.items node)
