-- A request is answered alike over two trees with equal nodes where it starts, and leaves them with equal nodes there.
use Rattle.std.proofs.Common.{ℕ, ◌≡◌, inl, inr, List, [], ◌∷◌, ◌++◌, refl, ap, ◌∙◌, true, false, cond, Bool, sym, subst, arith, Option, Some, None, Ok, map, Result}
use Rattle.std.specs.Prelude.{Contains, codes}
use Rattle.wasi_host.specs.HostCall.{Append, OpenAt, Pwrite, SetSize, Stat}
use Rattle.wasi_host.specs.HostCall as calls
use Rattle.wasi_host.specs.Refusal.{refusal}
use Rattle.wasi_host.specs.Answer.{Listed, unless, reached, open_answer, list_answer, metadata_from, metadata_of}
use Rattle.wasi_host.specs.Steps.{◌>>=◌}
use Rattle.wasi_host.specs.Tree.{Tree, node_at, child}
use Rattle.wasi_host.specs.declared.errors.ErrorCode.{ErrorCode}
use Rattle.wasi_host.specs.declared.open_handle.AccessMode.TheVariants.{Read}
use Rattle.wasi_host.specs.declared.open_handle.OpenHandle.{OpenHandle}
use Rattle.wasi_host.specs.Agree.{IsClosed, AgreeOn, OrMade}
use Rattle.wasi_host.proofs.Leaving.{named_in, Contains-here}
use Rattle.wasi_host.proofs.Agreeing.{step_agree, same_agree, answer_same, reach_closed, none_past}
use Rattle.wasi_resolve.proofs.Requests.{path_reply_same, path_after_agree, path_given_seen}
use Rattle.wasi_resolve.specs.Meanings.{listing_options, lists_at}
use Rattle.wasi_resolve.specs.PathRequest.{LookPath}
use Rattle.wasi_p1_types.specs.Listing.{all_numbered_at, dots, listing_at}
use Rattle.wasi_p1_types.specs.Quotas.{end_of_piece, growth_within, is_above}
use Rattle.wasi_p1_types.specs.Request.{Request, Reply, Path, Direct, Behind, ListDirectory, Sizes, Grow, reply_of, after, growth_at, grown_reply, starts_at, size_at}
use Rattle.wasi_p1_types.specs.declared.quotas.Allowance.{Allowance}
use Rattle.wasi_p1_types.specs.declared.quotas.FileEnd.TheVariants as ends
use Rattle.std.proofs.lemmas.List.Elements.{Contains-append_left, Contains-append_right}
use Rattle.wasi_p1_model.proofs.Lengthening.{bounded_by}
use Rattle.wasi_p1_model.proofs.LocalCalls.{given_by}
use Rattle.wasi_p1_model.proofs.RequestsLeave.{request_leaves}

module _ {Seen : ℕ → Type 0} {t : Tree} (closed : IsClosed Seen t) where
  -- the set with what was made is closed again
  pub after_closed : (r : Request) → ((n : ℕ) → Contains (starts_at r) n → Seen n)
      → IsClosed (OrMade Seen t (after t r)) (after t r)
  after_closed r from = record {
    under = λ d n name above has. elim ((request_leaves t r).names d n name has) [
      | inl was ↦ inl (was_seen d n name above was)
      | inr (inl made) ↦ inr made
      | inr (inr near) ↦ inl (reach_closed closed from n near)
    ];
  }
    where
      was_seen : (d n : ℕ) (name : List ℕ) → OrMade Seen t (after t r) d → named_in (node_at t d) name ≡ Some n → Seen n
      was_seen d n name (inl old) was = closed.under d n name old was
      was_seen d n name (inr new) was = absurd (none_past t d n name new.fresh was)

  -- what an answer gives is of the set, or made
  pub given_seen : (r : Request) (reply : Reply r) → ((n : ℕ) → Contains (starts_at r) n → Seen n)
      → reply_of t r ≡ Ok reply
      → (n : ℕ) → Contains (given_by r reply) n → OrMade Seen t (after t r) n
  given_seen (Path p) reply from is n has = path_given_seen closed p reply from is n has
  given_seen (Direct call) reply from is n has = absurd (omega (arith, has.1))
  given_seen (Behind f piece) reply from is n has = absurd (omega (arith, has.1))
  given_seen (ListDirectory d) reply from is n has = absurd (omega (arith, has.1))
  given_seen (Sizes ns) reply from is n has = absurd (omega (arith, has.1))
  given_seen (Grow limit w) None from is n has = absurd (omega (arith, has.1))
  given_seen (Grow limit w) (Some grown) from is n has =
      let did = bounded_by t limit w (Some grown) is in
      subst (λ u. OrMade Seen t u n) (sym did.does) (given_seen w grown.1 from did.is n has)

module _ {Seen : ℕ → Type 0} {t u : Tree} (closed : IsClosed Seen t) (agree : AgreeOn Seen t u) where
  -- a node is looked at alike
  size_same : (n : ℕ) → ((m : ℕ) → Contains (n ∷ []) m → Seen m) → size_at t n ≡ size_at u n
  unfolding metadata_of
  size_same n from = ap (λ node. (metadata_from n node).size) (agree.nodes n (from n (Contains-here n [])))

  -- a file that is written or given a size has the same growth
  growth_same : (limit : Allowance) (w : Request) → ((n : ℕ) → Contains (starts_at w) n → Seen n)
      → growth_at t limit w ≡ growth_at u limit w
  growth_same limit (Direct (Pwrite f offset piece)) from =
      ap (growth_within limit (end_of_piece offset piece)) (size_same f.node from)
  growth_same limit (Direct (SetSize f size)) from =
      ap (growth_within limit (ends.At size)) (size_same f.node from)
  growth_same limit w from = refl

  -- the trees after a request that may be left out
  left_or : {v v' : Tree} (b : Bool) → AgreeOn (OrMade Seen t v) v v'
      → AgreeOn (OrMade Seen t (cond b t v)) (cond b t v) (cond b u v')
  left_or true done = same_agree closed agree
  left_or false done = done

  -- the trees after a request are again equal on the set and on what was made
  pub after_agree : (r : Request) → ((n : ℕ) → Contains (starts_at r) n → Seen n)
      → AgreeOn (OrMade Seen t (after t r)) (after t r) (after u r)
  after_agree (Path p) from = path_after_agree closed agree p from
  after_agree (Direct call) from = step_agree closed agree call from
  after_agree (Behind f piece) from = step_agree closed agree (Append f piece) from
  after_agree (ListDirectory d) from = same_agree closed agree
  after_agree (Sizes ns) from = same_agree closed agree
  after_agree (Grow limit w) from =
      let grown = after t (Grow limit w) in
      subst (λ growth. AgreeOn (OrMade Seen t grown) grown (cond (is_above limit growth) u (after u w)))
      (growth_same limit w from) (left_or (is_above limit (growth_at t limit w)) (after_agree w from))

  -- a directory that is opened as `.` is the same directory
  names_same : (d : ℕ) → ((n : ℕ) → Contains (d ∷ []) n → Seen n) → (lists_at t d).answer ≡ (lists_at u d).answer
  unfolding reached child
  names_same d from = by (refusal t (OpenAt d (codes ".") listing_options)) ∙ ap (λ m. m >>= list_answer u) opened
    where
      opened : open_answer t d (codes ".") listing_options ≡ open_answer u d (codes ".") listing_options
      opened = answer_same closed agree (OpenAt d (codes ".") listing_options) from

      held : OpenHandle
      held = record { node = d; mode = Read }

      by : (o : Option ErrorCode) → unless o held >>= list_answer t ≡ unless o held >>= list_answer u
      by None = answer_same closed agree (calls.ListDir held) from
      by (Some code) = refl

  numbered_same : (d : ℕ) → ((n : ℕ) → Contains (d ∷ []) n → Seen n) → (es : List Listed)
      → all_numbered_at t d es ≡ all_numbered_at u d es
  numbered_same d from [] = refl
  numbered_same d from (e ∷ es) =
      rw (path_reply_same closed agree (LookPath d e.0 false) from, numbered_same d from es) refl

  listing_same : (d : ℕ) → ((n : ℕ) → Contains (d ∷ []) n → Seen n) → listing_at t d ≡ listing_at u d
  unfolding listing_at
  listing_same d from =
      λ i. names_same d from i >>= (λ names. answer_same closed agree (Stat d) from i
      >>= (λ own. numbered_same d from names i >>= (λ entries. Ok (dots own.node ++ entries))))

  sizes_same : (ns : List ℕ) → ((n : ℕ) → Contains ns n → Seen n) → map (size_at t) ns ≡ map (size_at u) ns
  sizes_same [] from = refl
  sizes_same (n ∷ ns) from =
      let first = size_same n (λ m has. from m (Contains-append_left (n ∷ []) ns m has)) in
      let rest = sizes_same ns (λ m has. from m (Contains-append_right (n ∷ []) ns m has)) in
      λ i. first i ∷ rest i

  -- equal answers
  pub reply_same : (r : Request) → ((n : ℕ) → Contains (starts_at r) n → Seen n) → reply_of t r ≡ reply_of u r
  reply_same (Path p) from = path_reply_same closed agree p from
  reply_same (Direct call) from = answer_same closed agree call from
  reply_same (Behind f piece) from =
      let modelled = answer_same (after_closed closed (Behind f piece) from) (after_agree (Behind f piece) from) (Stat f.node)
      (λ n has. inl (from n has)) in
      rw (answer_same closed agree (Append f piece) from, modelled) refl
  reply_same (ListDirectory d) from = listing_same d from
  reply_same (Sizes ns) from = ap (λ (sizes : List ℕ). let r : Result (List ℕ) ErrorCode = Ok sizes in r) (sizes_same ns from)
  reply_same (Grow limit w) from =
      let growth = growth_same limit w from in
      λ i. grown_reply (is_above limit (growth i)) (growth i) (reply_same w from i)
