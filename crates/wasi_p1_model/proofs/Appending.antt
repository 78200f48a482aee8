-- A piece that is put after a file's last byte, and a look at the file then, as the one request that they stand for.
use Rattle.std.proofs.Common.{ℕ, ◌≡◌, inl, inr, true, List, [], ◌∷◌, length, Option, Some, None, Result, Ok, Err, refl, ap, sym, subst, ◌∙◌}
use Rattle.std.proofs.lemmas.List.Elements.{All-weaker, All-contains_itself}
use Rattle.std.specs.FinSet.{contains}
use Rattle.std.specs.Prelude.{All}
use Rattle.wasi_host.specs.Agree.{Touches}
use Rattle.wasi_host.specs.Answer.{host_answer, metadata_of, unless}
use Rattle.wasi_host.specs.HostCall.{Append, Stat}
use Rattle.wasi_host.specs.HostLaws.{HostModel, Handles, RefinesCall, After, MeansErr}
use Rattle.wasi_host.specs.Refusal.{refusal}
use Rattle.wasi_host.specs.Step.{step, with_nodes}
use Rattle.wasi_host.specs.Steps.{◌>>=◌}
use Rattle.wasi_host.specs.Tree.{Tree, Nodes}
use Rattle.wasi_host.specs.ValidTree.{root}
use Rattle.wasi_host.specs.declared.errors.ErrorCode.{ErrorCode}
use Rattle.wasi_host.specs.declared.errors.ErrorCode.TheVariants.{Io}
use Rattle.wasi_host.specs.declared.errors.HostError.{HostError}
use Rattle.wasi_host.specs.declared.errors.HostError.TheVariants.{Code, Memory}
use Rattle.wasi_host.specs.declared.open_handle.OpenHandle.{OpenHandle}
use Rattle.wasi_host.specs.declared.metadata.Metadata.{Metadata}
use Rattle.wasi_host.proofs.Touching.{touches_with, touches_same, no_ends}
use Rattle.wasi_guest.specs.declared.errno.Errno.TheVariants as errnos
use Rattle.wasi_p1_types.specs.Asked.{Asked, GivesOrElse, Hidden}
use Rattle.wasi_p1_types.specs.CallParts.{Makes}
use Rattle.wasi_p1_types.specs.Errnos.{errno_of}
use Rattle.wasi_p1_model.specs.Putting.{appended_in}
use Rattle.wasi_p1_types.specs.Request.{Direct, Behind, reply_of}
use Rattle.wasi_p1_types.specs.CallResult.{CallResult, from_host, give}
use Rattle.wasi_p1_types.specs.declared.error.P1Error.{P1Error}
use Rattle.wasi_p1_types.specs.declared.error.P1Error.TheVariants.{Errno, Memory as Wanted}
use Rattle.wasi_p1_model.proofs.Reading.{keeps_all}

-- ---- the look

-- no rule refuses it
pub seen : (t : Tree) (n : ℕ) → host_answer t (Stat n) ≡ Ok (metadata_of t n)
unfolding refusal
seen t n = refl

pub touched_one : {t t' : Tree} {n : ℕ} {old new : Nodes} → new ≡ with_nodes old (n ∷ [])
    → Touches t t' (n ∷ []) (n ∷ []) old new
touched_one {n = n} with =
    touches_with (n ∷ []) with (λ m has. inl (root m has)) (All-contains_itself (n ∷ []))

-- it leaves the tree, and touches its node at most
pub record LooksAt (n : ℕ) (u v : HostModel) : Type 0 where
  pub tree : v.tree ≡ u.tree
  pub touched : (t t' : Tree) → Touches t t' (n ∷ []) [] u.touched v.touched

pub look : {A : Type 0} {u v : HostModel} (n : ℕ) (result : Result A HostError) → After u (Stat n) result v → LooksAt n u v
look n (Ok a) did = record { tree = did.tree; touched = λ t t'. no_ends (touched_one did.touched) }
look n (Err Memory) (inl did) = record { tree = did.tree; touched = λ t t'. touches_same did.touched }
look n (Err Memory) (inr did) = record { tree = did.tree; touched = λ t t'. no_ends (touched_one did.touched) }
look n (Err (Code Io)) (inl did) = record { tree = did.tree; touched = λ t t'. touches_same did.touched }
look n (Err (Code Io)) (inr (inl did)) = record { tree = did.tree; touched = λ t t'. no_ends (touched_one did.touched) }
look n (Err (Code Io)) (inr (inr (free, did))) = record { tree = did.tree; touched = λ t t'. no_ends (touched_one did.touched) }
look n (Err (Code code)) did = record { tree = did.tree; touched = λ t t'. no_ends (touched_one did.touched) }

-- these were come to as well
pub with_ends : {t t' : Tree} {roots ends : List ℕ} {old new : Nodes} (came : List ℕ) → Touches t t' roots ends old new
    → All (λ n. contains new n ≡ true) came → Touches t t' roots came old new
with_ends came touches all = record { stays = touches.stays; near = touches.near; ends = all }

-- what is touched after one another: what was come to first stays
touches_then : {t t' : Tree} {roots ends : List ℕ} {a b c : Nodes} → Touches t t' roots ends a b
    → Touches t t' roots [] b c → Touches t t' roots ends a c
touches_then {ends = ends} {b = b} first second = record {
  stays = λ n is. second.stays n (first.stays n is);
  near = λ n is. elim (second.near n is) [ inl before ↦ first.near n before | inr near ↦ inr near ];
  ends = All-weaker (λ n. contains b n ≡ true) _ second.stays ends first.ends;
}

-- both are answered so, where they are
pub behind_reply : (t : Tree) (f : OpenHandle) (piece : List ℕ) {reply : ℕ × Metadata} → reply_of t (Behind f piece) ≡ Ok reply
    → reply ≡ (length piece, metadata_of (step t (Append f piece)) f.node)
behind_reply t f piece {reply} is = by (refusal t (Append f piece)) is
  where
    modelled : ℕ → Result (ℕ × Metadata) ErrorCode
    modelled count = host_answer (step t (Append f piece)) (Stat f.node) >>= (λ metadata. Ok (count, metadata))

    by : (o : Option ErrorCode) → (unless o (length piece) >>= modelled) ≡ Ok reply
        → reply ≡ (length piece, metadata_of (step t (Append f piece)) f.node)
    by None is =
        let looked = ap (λ m. m >>= (λ metadata. let r : Result (ℕ × Metadata) ErrorCode = Ok (length piece, metadata) in r))
        (seen (step t (Append f piece)) f.node) in
        let same = sym is ∙ looked in (cc)
    by (Some code) is = absurd (cc)

-- ---- the append

module _ (f : OpenHandle) (piece : List ℕ) where
  -- where it is answered the two are
  pub answered_both : (t : Tree) {count : ℕ} → host_answer t (Append f piece) ≡ Ok count
      → reply_of t (Behind f piece) ≡ Ok (count, metadata_of (step t (Append f piece)) f.node)
  answered_both t is = rw (is, seen (step t (Append f piece)) f.node) refl

  hidden_both : {t t' : Tree} → Hidden t t' (Direct (Append f piece)) → Hidden t t' (Behind f piece)
  hidden_both {t} hidden = record {
    reply = (hidden.reply, metadata_of (step t (Append f piece)) f.node);
    answered = answered_both t hidden.answered;
    stepped = hidden.stepped;
  }

  refused_both : {rose : Type 0} {e : P1Error} (t : Tree)
      → GivesOrElse {A = ℕ} rose (Err e) (from_host (host_answer t (Append f piece)))
      → GivesOrElse {A = ℕ × Metadata} rose (Err e) (from_host (reply_of t (Behind f piece)))
  refused_both {e = e} t (inl is) = inl (by (host_answer t (Append f piece)) is)
    where
      next : ℕ → Result (ℕ × Metadata) ErrorCode
      next count = host_answer (step t (Append f piece)) (Stat f.node) >>= (λ metadata. Ok (count, metadata))

      by : (m : Result ℕ ErrorCode) → (let r : CallResult ℕ = Err e in r) ≡ from_host m
          → (let r : CallResult (ℕ × Metadata) = Err e in r) ≡ from_host (m >>= next)
      by (Ok count) is = absurd (cc)
      by (Err code) is = let same : e ≡ Errno (errno_of code) = (cc) in ap Err same
  refused_both t (inr (inl is)) = inr (inl (let same : _ ≡ Wanted = (cc) in ap Err same))
  refused_both t (inr (inr (is, rose))) = inr (inr (let same : _ ≡ Errno errnos.Io = (cc) in ap Err same, rose))

  -- it wasn't answered
  pub behind_err : {rose : Type 0} {live : Handles} {w v : HostModel} {e : P1Error}
      → Makes rose live w v (Direct (Append f piece)) give (Err e)
      → Makes rose live w v (Behind f piece) (λ put. give (appended_in put)) (Err e)
  behind_err {rose} {w = w} {v = v} {e = e} made = record {
    keeps = made.keeps;
    does = elim made.does [
      | inl asked ↦ inl (record {
        reply = refused_both w.tree asked.reply;
        tree = elim asked.tree [ inl same ↦ inl same | inr (io, hidden) ↦ inr (io, hidden_both hidden) ];
        touched = asked.touched;
      })
      | inr (reply, asked, is) ↦ absurd (cc)
    ];
  }

-- ---- and then the look

-- what came of the two
pub record Looked (live : Handles) (w v : HostModel) (f : OpenHandle) (piece : List ℕ) (count : ℕ) : Type 0 where
  pub keeps : (h : ℕ) → contains live h ≡ true → v.held h ≡ w.held h
  pub answered : host_answer w.tree (Append f piece) ≡ Ok count
  pub tree : v.tree ≡ step w.tree (Append f piece)
  pub touched : Touches w.tree v.tree (f.node ∷ []) (f.node ∷ []) w.touched v.touched

given : {rose : Type 0} {count : ℕ} (m : Result ℕ ErrorCode) → GivesOrElse rose (Ok count) (from_host m) → m ≡ Ok count
given (Ok n) (inl is) = (cc)
given (Err code) (inl is) = absurd (cc)
given m (inr (inl is)) = absurd (cc)
given m (inr (inr (is, rose))) = absurd (cc)

module _ {rose : Type 0} {live mid new : Handles} {w u v : HostModel} {h : ℕ} {piece : List ℕ} {count : ℕ}
    (held : contains live h ≡ true) (kept : mid ≡ live) (still : new ≡ mid)
    (first : Makes rose live w u (Direct (Append (w.held h) piece)) give (Ok count)) where
  both : (result : Result Metadata HostError) → RefinesCall {A = Metadata} mid new u v (Stat (u.held h).node) (λ m. m) result
      → Looked live w v (w.held h) piece count
  both result modelled =
      let (reply, asked, is) = first.does in
      let same : reply ≡ count = (cc) in
      let there = subst (λ (f : OpenHandle). RefinesCall {A = Metadata} mid new u v (Stat f.node) (λ m. m) result) (first.keeps h held) modelled in
      let looked = look (w.held h).node result there.after in
      let tree : v.tree ≡ step w.tree (Append (w.held h) piece) = looked.tree ∙ asked.tree in record {
        keeps = λ q live. keeps_all u v still there.keeps q (subst (λ s. contains s q ≡ true) (sym kept) live)
            ∙ first.keeps q live;
        answered = given _ asked.reply ∙ ap Ok same;
        tree = tree;
        touched = touches_then (subst (λ t. Touches w.tree t ((w.held h).node ∷ []) ((w.held h).node ∷ []) w.touched u.touched)
            (sym looked.tree) asked.touched) (looked.touched w.tree v.tree);
      }

  pub behind_ok : {again : Type 0} {metadata : Metadata}
      → RefinesCall {A = Metadata} mid new u v (Stat (u.held h).node) (λ m. m) (Ok metadata)
      → Makes again live w v (Behind (w.held h) piece) (λ put. give (appended_in put))
      (Ok (record { count = count; position = metadata.size }))
  behind_ok {metadata = metadata} modelled =
      let did = both (Ok metadata) modelled in record {
        keeps = did.keeps;
        does = (
          (count, metadata),
          record { reply = inl (ap from_host (sym (replies did.answered))); tree = did.tree; touched = did.touched },
          refl,
        );
      }
    where
      n : ℕ
      n = (w.held h).node

      same : (reply : ℕ) × Asked rose w u (Direct (Append (w.held h) piece)) (Ok reply) × (give reply ≡ Ok count)
          → metadata ≡ metadata_of (step w.tree (Append (w.held h) piece)) n
      same (reply, asked, is) =
          let there = subst (λ (f : OpenHandle). RefinesCall {A = Metadata} mid new u v (Stat f.node) (λ m. m) (Ok metadata))
          (first.keeps h held) modelled in
          let told_so = sym there.meaning ∙ ap (λ t. host_answer t (Stat n)) asked.tree ∙ seen _ n in (cc)

      replies : host_answer w.tree (Append (w.held h) piece) ≡ Ok count
          → reply_of w.tree (Behind (w.held h) piece) ≡ Ok (count, metadata)
      replies is = answered_both (w.held h) piece w.tree is ∙ ap (λ m. Ok (count, m)) (sym (same first.does))

  -- the look wasn't answered, which no rule refuses
  pub behind_unseen : {again : Type 0} {code : ErrorCode}
      → ((let r : Result Metadata HostError = Err (Code code) in r) ≡ Err (Code Io) → again)
      → RefinesCall {A = Metadata} mid new u v (Stat (u.held h).node) (λ m. m) (Err (Code code))
      → Makes again live w v (Behind (w.held h) piece) (λ put. give (appended_in put)) (Err (Errno (errno_of code)))
  behind_unseen {again} {code} io modelled = by code io modelled.meaning (both (Err (Code code)) modelled)
    where
      by : (code : ErrorCode) → ((let r : Result Metadata HostError = Err (Code code) in r) ≡ Err (Code Io) → again)
          → MeansErr (host_answer u.tree (Stat (u.held h).node)) (Code code)
          → Looked live w v (w.held h) piece count
          → Makes again live w v (Behind (w.held h) piece) (λ put. give (appended_in put)) (Err (Errno (errno_of code)))
      by Io io meaning did = record {
        keeps = did.keeps;
        does = inl (record {
          reply = inr (inr (refl, io refl));
          tree = inr (refl, hidden_both (w.held h) piece (record { reply = count; answered = did.answered; stepped = did.tree }));
          touched = no_ends did.touched;
        });
      }
      by code io meaning did = absurd (let wrong = sym (seen u.tree (u.held h).node) ∙ meaning in cc)
