-- What a call of the resolver or of the host does, as the request that it stands for.
use Rattle.std.proofs.Common.{◌≡◌, inl, inr, true, ◌++◌, Result, Ok, Err, refl, sym, ap}
use Rattle.std.proofs.lemmas.List.Elements.{All-weaker, All-contains_itself, Contains-append_left}
use Rattle.std.specs.Prelude.{All, Contains, is_ok}
use Rattle.wasi_fs.specs.Calls.{meant_as}
use Rattle.wasi_host.specs.Answer.{HostAnswer}
use Rattle.wasi_host.specs.HostCall.{HostCall}
use Rattle.wasi_host.specs.Step.{found_by, made_by}
use Rattle.wasi_host.specs.HostLaws.{HostModel, Handles, MeansErr, RefinesCall}
use Rattle.wasi_host.specs.Steps.{◌>>=◌}
use Rattle.wasi_host.specs.Tree.{Tree}
use Rattle.wasi_host.specs.declared.errors.ErrorCode.{ErrorCode}
use Rattle.wasi_host.specs.declared.errors.ErrorCode.TheVariants.{Io}
use Rattle.wasi_host.specs.declared.errors.HostError.{HostError}
use Rattle.wasi_host.specs.declared.errors.HostError.TheVariants.{Code, Memory}
use Rattle.wasi_resolve.specs.Resolved.{Resolved, TreeAfter}
use Rattle.wasi_p1_types.specs.Asked.{Asked, Hidden}
use Rattle.wasi_p1_types.specs.Errnos.{error_of}
use Rattle.wasi_resolve.proofs.Calls.{call_ok, call_err, same_live}
use Rattle.wasi_p1_types.specs.Request.{Request, Reply, Direct, after, reply_of, meant_of}
use Rattle.wasi_p1_types.specs.CallResult.{from_host}

-- it would have been answered
hidden : (t t' : Tree) (r : Request) → is_ok (reply_of t r) ≡ true → t' ≡ after t r → Hidden t t' r
hidden t t' r free stepped = by (reply_of t r) refl free
  where
    by : (m : Result (Reply r) ErrorCode) → reply_of t r ≡ m → is_ok m ≡ true → Hidden t t' r
    by (Ok reply) at free = record { reply = reply; answered = at; stepped = stepped }
    by (Err code) at free = absurd (cc)

module _ {A : Type 0} {live : Handles} {w v : HostModel} {r : Request} {shown : A → Reply r} where
  -- an answer is the request's reply
  pub resolved_ok : {rose : Type 0} {a : A} → Resolved live w v (meant_of w.tree r) shown (Ok a)
      → Asked rose w v r (Ok (shown a))
  resolved_ok did = record { reply = inl (ap from_host (sym did.answer)); tree = did.tree; touched = did.touched }

  -- it wasn't answered
  pub resolved_err : {rose : Type 0} (e : HostError) → (e ≡ Code Io → rose)
      → Resolved live w v (meant_of w.tree r) shown (Err e)
      → Asked rose w v r (Err (error_of e))
  resolved_err Memory io did = record { reply = inr (inl refl); tree = inl did.tree; touched = did.touched }
  resolved_err (Code Io) io did = record {
    reply = inr (inr (refl, io refl));
    tree = elim did.tree [
      | inl same ↦ inl same
      | inr (free, stepped) ↦ inr (refl, hidden w.tree v.tree r free stepped)
    ];
    touched = did.touched;
  }
  resolved_err (Code code) io did = record {
    reply = inl (ap from_host (sym did.answer));
    tree = inl did.tree;
    touched = did.touched;
  }

-- a call of the host is the request for it
module _ {rose A : Type 0} {old new : Handles} {w v : HostModel} {call : HostCall} {shown : A → HostAnswer call}
    (same : new ≡ old) where
  pub asked_ok : {a : A} → RefinesCall old new w v call shown (Ok a) → Asked rose w v (Direct call) (Ok (shown a))
  asked_ok modelled = resolved_ok {r = Direct call} {shown = shown} (call_ok (found_by w.tree call) found (same_live same) modelled)
    where
      found : All (Contains (found_by w.tree call ++ made_by w.tree call)) (found_by w.tree call)
      found =
          All-weaker (Contains (found_by w.tree call)) _
          (λ n has. Contains-append_left (found_by w.tree call) (made_by w.tree call) n has) (found_by w.tree call)
          (All-contains_itself (found_by w.tree call))

  pub asked_err : (e : HostError) → (e ≡ Code Io → rose) → RefinesCall old new w v call shown (Err e)
      → Asked rose w v (Direct call) (Err (error_of e))
  asked_err e io modelled = resolved_err {r = Direct call} {shown = shown} e io (call_err e (found_by w.tree call) same modelled)

-- ---- where something is made of the answer

module _ {A B : Type 0} (f : A → B) where
  made_err : (m : Result A ErrorCode) {code : ErrorCode}
      → m >>= (λ a. let r : Result B ErrorCode = Ok (f a) in r) ≡ Err code → m ≡ Err code
  made_err (Ok a) is = absurd (cc)
  made_err (Err code) is = cc

  made_free : (m : Result A ErrorCode) → is_ok (m >>= (λ a. let r : Result B ErrorCode = Ok (f a) in r)) ≡ true
      → is_ok m ≡ true
  made_free (Ok a) is = refl
  made_free (Err code) is = absurd (cc)

  pub made_of : (m : Result A ErrorCode) {b : B} → m >>= (λ a. let r : Result B ErrorCode = Ok (f a) in r) ≡ Ok b
      → (a : A) × (m ≡ Ok a) × (f a ≡ b)
  made_of (Ok a) is = (a, refl, cc)
  made_of (Err code) is = absurd (cc)

module _ {B : Type 0} {live : Handles} {w v : HostModel} (r : Request) (f : Reply r → B) where
  -- some reply was given, of which it is made
  pub made_ok : {rose : Type 0} {b : B} → Resolved live w v (meant_as f (meant_of w.tree r)) (λ b. b) (Ok b)
      → (reply : Reply r) × Asked rose w v r (Ok reply) × (f reply ≡ b)
  made_ok did =
      let (reply, is, made) = made_of f (reply_of w.tree r) did.answer in
      (reply, record { reply = inl (ap from_host (sym is)); tree = did.tree; touched = did.touched }, made)

  pub made_not : {rose : Type 0} (e : HostError) → (e ≡ Code Io → rose)
      → Resolved live w v (meant_as f (meant_of w.tree r)) (λ b. b) (Err e)
      → Asked rose w v r (Err (error_of e))
  made_not e io did = resolved_err {A = Reply r} {live = live} {r = r} {shown = λ reply. reply} e io (record {
    answer = answer e did.answer;
    tree = tree e did.tree;
    touched = did.touched;
    keeps = did.keeps;
  })
    where
      answer : (e : HostError) → MeansErr (meant_as f (meant_of w.tree r)).answer e → MeansErr (reply_of w.tree r) e
      answer Memory means = tt
      answer (Code Io) means = tt
      answer (Code code) means = made_err f (reply_of w.tree r) means

      tree : (e : HostError)
          → TreeAfter {A = B} w.tree (after w.tree r) v.tree (meant_as f (meant_of w.tree r)).answer (Err e)
          → TreeAfter {A = Reply r} w.tree (after w.tree r) v.tree (reply_of w.tree r) (Err e)
      tree Memory is = is
      tree (Code Io) is =
          elim is [ inl same ↦ inl same | inr (free, stepped) ↦ inr (made_free f (reply_of w.tree r) free, stepped) ]
      tree (Code code) is = is
