-- The requests of the specifications that make something or make a file grow, from what their parts ask.
use Rattle.std.proofs.Common.{ℕ, ◌≡◌, ◌<◌, ◌≤◌, inl, inr, Bool, true, false, [], ◌∷◌, List, Option, Some, None, Result, Ok, Err, refl, ap, sym, subst, ◌∙◌, arith}
use Rattle.std.specs.FinSet.{contains}
use Rattle.std.specs.Prelude.{IsTrue, if◌then◌else◌}
use Rattle.wasi_host.specs.Agree.{Touches}
use Rattle.wasi_host.specs.Answer.{host_answer, metadata_of}
use Rattle.wasi_host.specs.HostCall.{Stat}
use Rattle.wasi_host.specs.HostLaws.{HostModel, Handles}
use Rattle.wasi_host.specs.Steps.{◌>>=◌}
use Rattle.wasi_host.specs.Tree.{Tree, Nodes, next_of}
use Rattle.wasi_host.specs.declared.errors.ErrorCode.{ErrorCode}
use Rattle.wasi_host.specs.declared.metadata.Metadata.{Metadata}
use Rattle.wasi_guest.specs.declared.answer.Value.{Value}
use Rattle.wasi_guest.specs.declared.errno.Errno.TheVariants as errnos
use Rattle.wasi_p1_types.specs.Asked.{Asked, Does, GivesOrElse}
use Rattle.wasi_p1_types.specs.CallParts.{Follows, IsReplied, Makes}
use Rattle.wasi_p1_types.specs.Errnos.{errno_of}
use Rattle.wasi_p1_types.specs.Front.{ask}
use Rattle.wasi_p1_types.specs.Guest.{Guest}
use Rattle.wasi_p1_types.specs.Quotas.{growth_within, is_above}
use Rattle.wasi_p1_types.specs.Request.{Request, Reply, Direct, Grow, after, comes_to, end_after, growth_at, growth_in, grown_reply, reply_of, size_at, starts_at, written_by}
use Rattle.wasi_p1_types.specs.CallResult.{CallResult, asking, from_host, give, made_of_reply}
use Rattle.wasi_p1_types.specs.Spending.{check_to_make, grow_request, grown_in, growing, growth_from, making, with_growth, with_making}
use Rattle.wasi_p1_types.specs.GuestEnvModel.{GuestEnvModel}
use Rattle.wasi_p1_types.specs.declared.error.P1Error.{P1Error}
use Rattle.wasi_p1_types.specs.declared.error.P1Error.TheVariants.{Errno, Memory}
use Rattle.wasi_p1_types.specs.declared.quotas.Allowance.{Allowance}
use Rattle.wasi_p1_types.specs.declared.quotas.FileEnd.{FileEnd}
use Rattle.wasi_p1_model.proofs.SpecEnds.{tail}
use Rattle.wasi_p1_model.proofs.Appending.{seen}

-- ---- makings

-- an answer, whose making is counted where there is one
abbrev pub made : Bool → Value × Guest → Value × Guest
made true p = with_making p
made false p = p

-- where the check let it through, what is asked is permitted
pub made_permitted : (makes : Bool) (own : Option ErrorCode) (s : GuestEnvModel) → check_to_make makes own s ≡ Ok tt → own ≡ None
made_permitted makes None s left = refl
made_permitted makes (Some code) s left = absurd (cc)

-- and then a specification that makes something asks, and its answer is counted
pub made_tail : {A : Type 0} {fuel : ℕ} (makes : Bool) (own : Option ErrorCode) (r : Request) (next : Reply r → CallResult A)
    (shown : Guest → A → Value × Guest) (g : Guest) → check_to_make makes own g.holdings ≡ Ok tt
    → making makes g (tail own r next shown g) fuel ≡ ask r (made_of_reply r next (λ x. made makes (shown g x))) fuel
made_tail {A} {fuel} makes (Some code) r next shown g left = absurd (cc)
made_tail {A} {fuel} false None r next shown g left = refl
made_tail {A} {fuel} true None r next shown g left = rw left (λ i. (Ok (asking r (λ reply. again (next reply) i)), fuel))
  where
    again : (m : CallResult A) → ((m >>= (λ x. give (shown g x))) >>= (λ p. give (with_making p)))
        ≡ (m >>= (λ x. give (with_making (shown g x))))
    again (Ok x) = refl
    again (Err e) = refl

-- ---- growth

-- what a part makes of the reply of a write or a new size, beside the growth
abbrev pub grow_next : {A : Type 0} (limit : Option Allowance) (w : Request) → (Reply w → CallResult A) → Reply (grow_request limit w)
    → CallResult (ℕ × A)
grow_next limit w next reply = grown_in limit w reply >>= (λ grown. next grown.1 >>= (λ x. give (grown.0, x)))

-- and its answer, with the growth counted
abbrev pub grow_shown : {A : Type 0} → (Guest → A → Value × Guest) → Guest → ℕ × A → Value × Guest
grow_shown shown g p = with_growth p.0 (shown g p.1)

-- a specification that makes a file grow asks so
pub grow_tail : {A : Type 0} {fuel : ℕ} (limit : Option Allowance) (w : Request) (next : Reply w → CallResult A)
    (shown : Guest → A → Value × Guest) (g : Guest)
    → growing limit (ask w (made_of_reply w next (shown g))) fuel
    ≡ ask (grow_request limit w) (made_of_reply (grow_request limit w) (grow_next limit w next) (grow_shown shown g)) fuel
grow_tail {A} {fuel} limit w next shown g =
    λ i. (Ok (asking (grow_request limit w) (λ reply. again (grown_in limit w reply) i)), fuel)
  where
    counts : ℕ → CallResult (Value × Guest) → CallResult (Value × Guest)
    counts n m = m >>= (λ p. give (with_growth n p))

    inner : (n : ℕ) (m : CallResult A) → counts n (m >>= (λ x. give (shown g x)))
        ≡ ((m >>= (λ x. give (n, x))) >>= (λ p. give (grow_shown shown g p)))
    inner n (Ok x) = refl
    inner n (Err e) = refl

    again : (m : CallResult (ℕ × Reply w)) → (m >>= (λ grown. counts grown.0 (next grown.1 >>= (λ x. give (shown g x)))))
        ≡ ((m >>= (λ grown. next grown.1 >>= (λ x. give (grown.0, x)))) >>= (λ p. give (grow_shown shown g p)))
    again (Ok grown) = inner grown.0 (next grown.1)
    again (Err e) = refl

-- ---- a look at the file, and then the request

-- a write or a new size: it starts at its file, comes to it alone, and counts no growth itself
pub record IsWriting (w : Request) : Type 0 where
  pub starts : starts_at w ≡ written_by w ∷ []
  pub comes : (t : Tree) → comes_to t w ≡ written_by w ∷ []
  pub alone : (t : Tree) → growth_in t w ≡ 0

-- what the check of the growth gave: without a bound nothing was asked; else the file was looked at
pub record ChecksGrowth {H : Type 0} (modelled : Bool) (model : H → HostModel) (rose : Type 0) (live : Handles) (old new : H)
    (limit : Option Allowance) (n : ℕ) (end : FileEnd) (result : CallResult ℕ) : Type 0 where
  pub unbound : limit ≡ None → (result ≡ Ok 0) × (new ≡ old)
  pub front : (l : Allowance) → limit ≡ Some l
      → IsReplied (Direct (Stat n)) (λ metadata. growth_from l end metadata.size) result
  pub tells : IsTrue modelled → (l : Allowance) → limit ≡ Some l
      → Makes rose live (model old) (model new) (Direct (Stat n)) (λ metadata. growth_from l end metadata.size) result

-- what was reckoned of a size
pub reckoned : {result : CallResult ℕ} (l : Allowance) (end : FileEnd) (size : ℕ) → growth_from l end size ≡ result
    → (b : Bool) × (is_above l (growth_within l end size) ≡ b)
    × (result ≡ (if b then Err (Errno errnos.Dquot) else Ok (growth_within l end size)))
unfolding growth_from
reckoned l end size is = (is_above l (growth_within l end size), refl, sym is)

too_much : {e : P1Error} (n : ℕ) (b : Bool) → (let r : CallResult ℕ = Err e in r) ≡ (if b then Err (Errno errnos.Dquot) else Ok n)
    → (b ≡ true) × (e ≡ Errno errnos.Dquot)
too_much n true is = (refl, (cc))
too_much n false is = absurd (cc)

enough : {m : ℕ} (n : ℕ) (b : Bool) → (let r : CallResult ℕ = Ok m in r) ≡ (if b then Err (Errno errnos.Dquot) else Ok n)
    → (b ≡ false) × (m ≡ n)
enough n true is = absurd (cc)
enough n false is = (refl, (cc))

-- a look that leaves the tree made no node
on_any : {t u t' : Tree} {roots ends : List ℕ} {old new : Nodes} → u ≡ t → Touches t u roots ends old new
    → Touches t t' roots ends old new
on_any {t} {u} {t'} {roots} same touches = record {
  stays = touches.stays;
  near = λ n is. elim (touches.near n is) [
    | inl was ↦ inl was
    | inr (inl near) ↦ inr (inl near)
    | inr (inr made) ↦ absurd (none n made.fresh (subst (λ (x : Tree). n < next_of x) same made.there))
  ];
  ends = touches.ends;
}
  where
    none : (n : ℕ) → next_of t ≤ n → n < next_of t → ⊥
    none n fresh there = omega (arith, fresh, there)

looked : {rose : Type 0} {metadata : Metadata} (t : Tree) (n : ℕ)
    → GivesOrElse rose (Ok metadata) (from_host (host_answer t (Stat n))) → metadata ≡ metadata_of t n
looked t n (inl is) = let modelled = is ∙ ap from_host (seen t n) in (cc)
looked t n (inr (inl is)) = absurd (cc)
looked t n (inr (inr (is, rose))) = absurd (cc)

answered_so : {rose A : Type 0} {x : A} (m : Result A ErrorCode) → GivesOrElse rose (Ok x) (from_host m) → m ≡ Ok x
answered_so (Ok y) (inl is) = (cc)
answered_so (Err code) (inl is) = absurd (cc)
answered_so m (inr (inl is)) = absurd (cc)
answered_so m (inr (inr (is, rose))) = absurd (cc)

-- what the host's look gave, where the growth was let through
pub record Reckons (live : Handles) (w u : HostModel) (l : Allowance) (n : ℕ) (end : FileEnd) (growth : ℕ) : Type 0 where
  pub keeps : (h : ℕ) → contains live h ≡ true → u.held h ≡ w.held h
  pub tree : u.tree ≡ w.tree
  pub touched : Touches w.tree u.tree (n ∷ []) (n ∷ []) w.touched u.touched
  pub below : is_above l (growth_within l end (size_at w.tree n)) ≡ false
  pub is : growth ≡ growth_within l end (size_at w.tree n)

pub reckons : {rose : Type 0} {live : Handles} {w u : HostModel} {n growth : ℕ} (l : Allowance) (end : FileEnd)
    → Makes rose live w u (Direct (Stat n)) (λ metadata. growth_from l end metadata.size) (Ok growth)
    → Reckons live w u l n end growth
reckons {w = w} {u = u} {n = n} {growth = growth} l end makes =
    let (metadata, asked, is) = makes.does in
    let is_so : growth_from l end (size_at w.tree n) ≡ Ok growth =
    subst (λ (m : Metadata). growth_from l end m.size ≡ Ok growth) (looked _ _ asked.reply) is in
    let (b, at, gives) = reckoned l end (size_at w.tree n) is_so in
    let let_through = enough _ b gives in record {
      keeps = makes.keeps;
      tree = asked.tree;
      touched = asked.touched;
      below = at ∙ let_through.0;
      is = let_through.1;
    }

touches_both : {t t' : Tree} {roots ends came : List ℕ} {a b c : Nodes} → Touches t t' roots ends a b
    → Touches t t' roots came b c → Touches t t' roots came a c
touches_both {b = b} first second = record {
  stays = λ n is. second.stays n (first.stays n is);
  near = λ n is. elim (second.near n is) [ inl before ↦ first.near n before | inr near ↦ inr near ];
  ends = second.ends;
}

-- a fault that rose in a part of it rose in all of it
rises_in : {A rose all : Type 0} {result call_spec : CallResult A} → (rose → all) → GivesOrElse rose result call_spec → GivesOrElse all result call_spec
rises_in rises (inl is) = inl is
rises_in rises (inr (inl is)) = inr (inl is)
rises_in rises (inr (inr (is, up))) = inr (inr (is, rises up))

asked_all : {rose all : Type 0} {w v : HostModel} {r : Request} {result : CallResult (Reply r)} → (rose → all) → Asked rose w v r result
    → Asked all w v r result
asked_all rises asked = record { reply = rises_in rises asked.reply; tree = asked.tree; touched = asked.touched }

-- where the bound isn't passed, the request under a growth is refused as it is, and answered beside the growth
module _ (t : Tree) (l : Allowance) (w : Request) (below : is_above l (growth_at t l w) ≡ false) where
  grow_answers : {reply : Reply w} → reply_of t w ≡ Ok reply → reply_of t (Grow l w) ≡ Ok (Some (growth_at t l w, reply))
  grow_answers is = rw (below, is) refl

  grow_steps : after t (Grow l w) ≡ after t w
  grow_steps = rw below refl

  grow_refuses : {e : P1Error} → (let r : CallResult (Reply w) = Err e in r) ≡ from_host (reply_of t w)
      → (let r : CallResult (Reply (Grow l w)) = Err e in r) ≡ from_host (reply_of t (Grow l w))
  grow_refuses {e} is = rw below (by (reply_of t w) is)
    where
      by : (m : Result (Reply w) ErrorCode) → (let r : CallResult (Reply w) = Err e in r) ≡ from_host m
          → (let r : CallResult (Reply (Grow l w)) = Err e in r) ≡ from_host (grown_reply false (growth_at t l w) m)
      by (Ok reply) is = absurd (cc)
      by (Err code) is = let same : e ≡ Errno (errno_of code) = (cc) in ap Err same

-- the look, and then the request over the tree that it left, are the growth
module _ {rose all : Type 0} {live : Handles} {w u : HostModel} {l : Allowance} {r : Request} {growth : ℕ} (writes : IsWriting r)
    (first : Reckons live w u l (written_by r) (end_after r) growth) (rises : rose → all) (v : HostModel) where
  both_touch : {ends : List ℕ} → Touches u.tree v.tree (starts_at r) ends u.touched v.touched
      → Touches w.tree v.tree (starts_at r) ends w.touched v.touched
  both_touch {ends} second = touches_both
      (subst (λ (ns : List ℕ). Touches w.tree v.tree ns (written_by r ∷ []) w.touched u.touched) (sym writes.starts)
      (on_any first.tree first.touched))
      (subst (λ (t : Tree). Touches t v.tree (starts_at r) ends u.touched v.touched) first.tree second)

  both_ok : {reply : Reply r} → Asked rose u v r (Ok reply) → Asked all w v (Grow l r) (Ok (Some (growth, reply)))
  both_ok {reply} asked =
      let answered : reply_of w.tree r ≡ Ok reply = ap (λ t. reply_of t r) (sym first.tree) ∙ answered_so _ asked.reply in record {
        reply = inl (ap from_host (ap (λ n. Ok (Some (n, reply))) first.is ∙ sym (grow_answers w.tree l r first.below answered)));
        tree = asked.tree ∙ ap (λ t. after t r) first.tree ∙ sym (grow_steps w.tree l r first.below);
        touched = both_touch (subst (λ (t : Tree). Touches u.tree v.tree (starts_at r) (comes_to t r) u.touched v.touched)
            first.tree asked.touched);
      }

  both_err : {e : P1Error} → Asked rose u v r (Err e) → Asked all w v (Grow l r) (Err e)
  both_err {e} asked = record {
    reply = elim asked.reply [
      | inl is ↦ inl (grow_refuses w.tree l r first.below (is ∙ ap (λ t. from_host (reply_of t r)) first.tree))
      | inr (inl is) ↦ inr (inl (let same : e ≡ Memory = (cc) in ap Err same))
      | inr (inr (is, up)) ↦ inr (inr (let same : e ≡ Errno errnos.Io = (cc) in ap Err same, rises up))
    ];
    tree = elim asked.tree [
      | inl same ↦ inl (same ∙ first.tree)
      | inr (io, hidden) ↦ inr (
        io,
        record {
          reply = Some (growth_at w.tree l r, hidden.reply);
          answered = grow_answers w.tree l r first.below (ap (λ t. reply_of t r) (sym first.tree) ∙ hidden.answered);
          stepped = hidden.stepped ∙ ap (λ t. after t r) first.tree ∙ sym (grow_steps w.tree l r first.below);
        },
      )
    ];
    touched = both_touch asked.touched;
  }

module _ {H : Type 0} {modelled : Bool} {model : H → HostModel} {rose : Type 0} {live : Handles} {old mid : H}
    {limit : Option Allowance} (w : Request) where
  -- where the growth was refused, or its file not looked at
  module _ {e : P1Error} (check : ChecksGrowth modelled model rose live old mid limit (written_by w) (end_after w) (Err e)) where
    -- the tree stays
    pub growth_refused_leaves : IsTrue modelled → (model mid).tree ≡ (model old).tree
    growth_refused_leaves is = by limit check
      where
        by : (o : Option Allowance) → ChecksGrowth modelled model rose live old mid o (written_by w) (end_after w) (Err e)
            → (model mid).tree ≡ (model old).tree
        by None check = ap (λ h. (model h).tree) (check.unbound refl).1
        by (Some l) check = elim (check.tells is l refl).does [
          | inl asked ↦ elim asked.tree [ inl same ↦ same | inr (io, hidden) ↦ hidden.stepped ]
          | inr (metadata, asked, gives) ↦ asked.tree
        ]

    module _ {A : Type 0} (next : Reply w → CallResult A) where
      pub growth_refused_front : IsReplied (grow_request limit w) (grow_next limit w next) (Err e)
      growth_refused_front = by limit check
        where
          by : (o : Option Allowance) → ChecksGrowth modelled model rose live old mid o (written_by w) (end_after w) (Err e)
              → IsReplied (grow_request o w) (grow_next o w next) (Err e)
          by None check = absurd (let is = (check.unbound refl).0 in cc)
          by (Some l) check = elim (check.front l refl) [
            | inl from ↦ inl from
            | inr (metadata, may, is) ↦ (let (b, at, gives) = reckoned l (end_after w) metadata.size is in
                inr (None, tt, ap Err (sym (too_much _ b gives).1)))
          ]

      pub growth_refused_made : IsWriting w → IsTrue modelled
          → Makes rose live (model old) (model mid) (grow_request limit w) (grow_next limit w next) (Err e)
      growth_refused_made writes is = by limit check
        where
          by : (o : Option Allowance) → ChecksGrowth modelled model rose live old mid o (written_by w) (end_after w) (Err e)
              → Makes rose live (model old) (model mid) (grow_request o w) (grow_next o w next) (Err e)
          by None check = absurd (let wrong = (check.unbound refl).0 in cc)
          by (Some l) check = record { keeps = (check.tells is l refl).keeps; does = does (check.tells is l refl).does }
            where
              t : Tree
              t = (model old).tree

              n : ℕ
              n = written_by w

              above : (b : Bool) → is_above l (growth_at t l w) ≡ b → b ≡ true
                  → (reply_of t (Grow l w) ≡ Ok None) × (after t (Grow l w) ≡ t)
              above true at is = (rw at refl, rw at refl)
              above false at is = absurd (cc)

              does : Does rose (model old) (model mid) (Direct (Stat n))
                  (λ metadata. growth_from l (end_after w) metadata.size) (Err e)
                  → Does rose (model old) (model mid) (Grow l w) (grow_next (Some l) w next) (Err e)
              does (inl asked) = inl (record {
                reply = elim asked.reply [
                  | inl is ↦ absurd (let wrong = is ∙ ap from_host (seen t n) in cc)
                  | inr (inl is) ↦ inr (inl (let same : e ≡ Memory = (cc) in ap Err same))
                  | inr (inr (is, up)) ↦ inr (inr (let same : e ≡ Errno errnos.Io = (cc) in ap Err same, up))
                ];
                tree = inl (elim asked.tree [ inl same ↦ same | inr (io, hidden) ↦ hidden.stepped ]);
                touched = subst (λ (ns : List ℕ). Touches t (model mid).tree ns [] (model old).touched (model mid).touched)
                    (sym writes.starts) asked.touched;
              })
              does (inr (metadata, asked, gives)) =
                  let (b, at, result) = reckoned l (end_after w) (size_at t n)
                  (subst (λ (m : Metadata). growth_from l (end_after w) m.size ≡ Err e) (looked _ _ asked.reply) gives) in
                  let much = too_much _ b result in
                  let both = above b at much.0 in inr (
                    None,
                    record {
                      reply = inl (sym (ap from_host both.0));
                      tree = asked.tree ∙ sym both.1;
                      touched = subst (λ (ns : List ℕ). Touches t (model mid).tree ns (comes_to t w) (model old).touched (model mid).touched)
                          (sym writes.starts)
                          (subst (λ (ns : List ℕ). Touches t (model mid).tree (n ∷ []) ns (model old).touched (model mid).touched)
                          (sym (writes.comes t)) asked.touched);
                    },
                    ap Err (sym much.1),
                  )

  -- where it was let through, and the request was made then
  module _ {growth : ℕ} (check : ChecksGrowth modelled model rose live old mid limit (written_by w) (end_after w) (Ok growth)) where
    -- the growth is the one that the request counts
    pub grow_counts : IsWriting w → IsTrue modelled → growth ≡ growth_in (model old).tree (grow_request limit w)
    grow_counts writes is = by limit check
      where
        by : (o : Option Allowance) → ChecksGrowth modelled model rose live old mid o (written_by w) (end_after w) (Ok growth)
            → growth ≡ growth_in (model old).tree (grow_request o w)
        by None check = (let none : growth ≡ 0 = (let is = (check.unbound refl).0 in cc) in none ∙ sym (writes.alone (model old).tree))
        by (Some l) check = (reckons l (end_after w) (check.tells is l refl)).is

    module _ {A : Type 0} (next : Reply w → CallResult A) where
      pub grow_front_err : {e : P1Error} → IsReplied w next (Err e)
          → IsReplied (grow_request limit w) (grow_next limit w next) (Err e)
      grow_front_err {e} replied = by limit
        where
          by : (o : Option Allowance) → IsReplied (grow_request o w) (grow_next o w next) (Err e)
          by None = elim replied [ inl from ↦ inl from | inr (reply, may, is) ↦ inr (reply, may, rw is refl) ]
          by (Some l) = elim replied [ inl from ↦ inl from | inr (reply, may, is) ↦ inr (Some (0, reply), may, rw is refl) ]

      pub grow_front_ok : {x : A} → Follows w next (Ok x)
          → Follows (grow_request limit w) (grow_next limit w next) (Ok (growth, x))
      grow_front_ok {x} (reply, may, is) = by limit check
        where
          by : (o : Option Allowance) → ChecksGrowth modelled model rose live old mid o (written_by w) (end_after w) (Ok growth)
              → Follows (grow_request o w) (grow_next o w next) (Ok (growth, x))
          by None check = (reply, may, let none : growth ≡ 0 = (let is = (check.unbound refl).0 in cc) in rw (is, none) refl)
          by (Some l) check = (Some (growth, reply), may, rw is refl)

      module _ {new : H} {rose' all : Type 0} (writes : IsWriting w) (rises : rose' → all) (is : IsTrue modelled) where
        pub grow_made_err : {e : P1Error} → Makes rose' live (model mid) (model new) w next (Err e)
            → Makes all live (model old) (model new) (grow_request limit w) (grow_next limit w next) (Err e)
        grow_made_err {e} makes = by limit check
          where
            by : (o : Option Allowance) → ChecksGrowth modelled model rose live old mid o (written_by w) (end_after w) (Ok growth)
                → Makes all live (model old) (model new) (grow_request o w) (grow_next o w next) (Err e)
            by None check =
                let there = subst (λ (h : H). Makes rose' live (model h) (model new) w next (Err e)) (check.unbound refl).1 makes in
                record {
                  keeps = there.keeps;
                  does = elim there.does [
                    | inl asked ↦ inl (asked_all rises asked)
                    | inr (reply, asked, is) ↦ inr (reply, asked_all rises asked, rw is refl)
                  ];
                }
            by (Some l) check =
                let first = reckons l (end_after w) (check.tells is l refl) in record {
                  keeps = λ h live. makes.keeps h live ∙ first.keeps h live;
                  does = elim makes.does [
                    | inl asked ↦ inl (both_err writes first rises (model new) asked)
                    | inr (reply, asked, is) ↦ inr (Some (growth, reply), both_ok writes first rises (model new) asked, rw is refl)
                  ];
                }

        pub grow_made_ok : {x : A} → Makes rose' live (model mid) (model new) w next (Ok x)
            → Makes all live (model old) (model new) (grow_request limit w) (grow_next limit w next) (Ok (growth, x))
        grow_made_ok {x} makes = by limit check
          where
            by : (o : Option Allowance) → ChecksGrowth modelled model rose live old mid o (written_by w) (end_after w) (Ok growth)
                → Makes all live (model old) (model new) (grow_request o w) (grow_next o w next) (Ok (growth, x))
            by None check =
                let there = subst (λ (h : H). Makes rose' live (model h) (model new) w next (Ok x)) (check.unbound refl).1 makes in
                let none : growth ≡ 0 = (let is = (check.unbound refl).0 in cc) in
                let (reply, asked, is) = there.does in
                record { keeps = there.keeps; does = (reply, asked_all rises asked, rw (is, none) refl) }
            by (Some l) check =
                let first = reckons l (end_after w) (check.tells is l refl) in
                let (reply, asked, is) = makes.does in record {
                  keeps = λ h live. makes.keeps h live ∙ first.keeps h live;
                  does = (Some (growth, reply), both_ok writes first rises (model new) asked, rw is refl);
                }
