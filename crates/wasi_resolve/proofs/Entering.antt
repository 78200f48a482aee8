-- A name that is opened, which may be a link that is to be read.
use Rattle.std.proofs.Common.{◌≡◌, ◌⊎◌, inl, inr, ℕ, Bool, true, false, List, [], ◌∷◌, Option, Some, None, Result, Ok, Err, IsTrue, refl, sym, ap, subst, ◌∙◌, ◌&&◌}
use Rattle.std.specs.Prelude.{is_ok}
use Rattle.std.specs.FinSet.{contains, insert}
use Rattle.std.proofs.lemmas.List.Elements.{All-nil}
use Rattle.wasi_paths.specs.Text.{is_plain}
use Rattle.wasi_host.specs.Options.{Options}
use Rattle.wasi_host.specs.Tree.{is_link}
use Rattle.wasi_host.specs.HostCall.{OpenAt, StatAt}
use Rattle.wasi_host.specs.Refusal.{refusal, holds}
use Rattle.wasi_host.specs.Answer.{unless, reached, open_answer, stat_at_answer}
use Rattle.wasi_host.specs.HostLaws.{HostModel, Handles, RefinesCall, MeansErr, AfterErr}
use Rattle.wasi_host.proofs.Chain.{free}
use Rattle.wasi_host.specs.declared.errors.ErrorCode.{ErrorCode}
use Rattle.wasi_host.specs.declared.errors.ErrorCode.TheVariants.{Io, Loop, NotDirectory}
use Rattle.wasi_host.specs.declared.errors.HostError.{HostError}
use Rattle.wasi_host.specs.declared.errors.HostError.TheVariants.{Code, Memory}
use Rattle.wasi_host.specs.declared.open_handle.OpenHandle.{OpenHandle}
use Rattle.wasi_host.specs.declared.metadata.Metadata.{Metadata}
use Rattle.wasi_resolve.specs.Walk.{is_link_code}
use Rattle.wasi_resolve.specs.Resolved.{Resolved}
use Rattle.wasi_resolve.specs.Finding.{is_loop, may_be_link, is_link_kind}
use Rattle.wasi_resolve.specs.WalkSteps.{OnlyLooks, IsFault, OpensUnread, MeetsLink, open_meant}
use Rattle.wasi_host.proofs.Touching.{open_ends, at_root}
use Rattle.wasi_resolve.proofs.Calls.{call_ok, call_err, looks_of, looks_still, looks_then, resolved_err, err_means, same_live, still_live}
use Rattle.wasi_resolve.proofs.Tables.{looked_link, loop_link, unrequired_link, unmet_code, unmet_rule, unmet_unlooked}
use Rattle.wasi_host.proofs.Refusals.{unless-err}
use Rattle.std.proofs.lemmas.Bool.{and_parts}

pub ok_free : {B : Type 0} (r : Option ErrorCode) (b : B) → is_ok (unless r b) ≡ true → r ≡ None
ok_free None b is = refl
ok_free (Some code) b is = absurd (cc)

-- it is opened
pub enters_ok : {old new : Handles} {w u : HostModel} {d : ℕ} {name : List ℕ} {o : Options} {h : ℕ} (may_read : Bool)
    → new ≡ insert old h → RefinesCall {A = ℕ} old new w u (OpenAt d name o) u.held (Ok h)
    → OpensUnread old w u d name o may_read (Ok h)
enters_ok {old} {w = w} {u = u} {d = d} {name = name} {o = o} {h = h} may_read got modelled = record {
  unread = unmet_code w.tree d name o may_read None (free _ _ _ modelled.meaning) refl;
  resolved =
      call_ok {call = OpenAt d name o} {shown = u.held} (reached w.tree d name ∷ []) (open_ends w.tree d name o)
      (still_live old h got) modelled;
}

module _ {old mid : Handles} {w v : HostModel} {d : ℕ} {name : List ℕ} {o : Options} (may_read : Bool)
    (same : mid ≡ old) where
  -- no link is read, whatever the code
  pub enters_refused : (e : HostError) → may_read ≡ false → RefinesCall {A = ℕ} old mid w v (OpenAt d name o) v.held (Err e)
      → (OnlyLooks old w v (d ∷ []) × IsFault e) ⊎ OpensUnread old w v d name o may_read (Err e)
  enters_refused e rule modelled = inr (record {
    unread = unmet_rule w.tree d name o may_read rule;
    resolved = call_err {call = OpenAt d name o} {shown = v.held} e (reached w.tree d name ∷ []) same modelled;
  })

  -- the code isn't one that a link has
  pub enters_other : (e : HostError) → IsTrue (is_plain name) → is_loop e ≡ false
      → may_be_link e o.dir_required ≡ false
      → RefinesCall {A = ℕ} old mid w v (OpenAt d name o) v.held (Err e)
      → (OnlyLooks old w v (d ∷ []) × IsFault e) ⊎ OpensUnread old w v d name o may_read (Err e)
  enters_other Memory plain loop other modelled =
      let resolved : Resolved old w v (open_meant w.tree d name o) v.held (Err Memory) =
      call_err {call = OpenAt d name o} {shown = v.held} Memory (reached w.tree d name ∷ []) same modelled in
      inl (looks_still resolved.tree resolved, inl refl)
  enters_other (Code Io) plain loop other modelled =
      let resolved : Resolved old w v (open_meant w.tree d name o) v.held (Err (Code Io)) =
      call_err {call = OpenAt d name o} {shown = v.held} (Code Io) (reached w.tree d name ∷ []) same modelled in
      elim resolved.tree [
        | inl still ↦ inl (looks_still still resolved, inr refl)
        | inr stepped ↦ inr (record {
          unread =
              unmet_code w.tree d name o may_read None (ok_free (refusal w.tree (OpenAt d name o)) _ stepped.0) refl;
          resolved = resolved;
        })
      ]
  enters_other (Code NotDirectory) plain loop other modelled = inr (record {
    unread =
        ap (λ b. b && (may_read && is_link_code (refusal w.tree (OpenAt d name o)))) (unrequired_link w.tree d name o plain
        other (unless-err _ _ modelled.meaning));
    resolved =
        call_err {call = OpenAt d name o} {shown = v.held} (Code NotDirectory) (reached w.tree d name ∷ []) same modelled;
  })
  enters_other (Code Loop) plain loop other modelled = absurd (cc)
  enters_other (Code code) plain loop other modelled = inr (record {
    unread = unmet_code w.tree d name o may_read (Some code) (unless-err _ _ modelled.meaning) refl;
    resolved = call_err {call = OpenAt d name o} {shown = v.held} (Code code) (reached w.tree d name ∷ []) same modelled;
  })

-- ---- a code that a link has

abbrev has_link_code : HostError → Bool
has_link_code Memory = false
has_link_code (Code code) = is_link_code (Some code)

pub loop_code : (e : HostError) → is_loop e ≡ true → has_link_code e ≡ true
loop_code Memory is = absurd (cc)
loop_code (Code Loop) is = refl
loop_code (Code code) is = absurd (cc)

pub doubtful_code : (e : HostError) (dir_required : Bool) → may_be_link e dir_required ≡ true → has_link_code e ≡ true
doubtful_code Memory dir_required is = absurd (cc)
doubtful_code (Code NotDirectory) dir_required is = refl
doubtful_code (Code code) dir_required is = absurd (cc)

first_two : (a b c : Bool) → (a && b) ≡ false → (a && (b && c)) ≡ false
first_two true true c is = absurd (cc)
first_two true false c is = refl
first_two false b c is = refl

loop_is : (code : ErrorCode) → is_loop (Code code) ≡ true → code ≡ Loop
loop_is Loop is = refl
loop_is code is = absurd (cc)

-- the code of an open that may have met a link
link_code : {B : Type 0} {meant : Result B ErrorCode} (e : HostError) → has_link_code e ≡ true → MeansErr meant e
    → (code : ErrorCode) × (e ≡ Code code) × (is_link_code (Some code) ≡ true) × (meant ≡ Err code)
link_code Memory may means = absurd (cc)
link_code (Code Io) may means = absurd (cc)
link_code (Code code) may means = (code, refl, may, means)

link_tree : (w v : HostModel) (d : ℕ) (name : List ℕ) (o : Options) (e : HostError) → has_link_code e ≡ true
    → AfterErr w (OpenAt d name o) e v
    → v.tree ≡ w.tree
link_tree w v d name o Memory may after = absurd (cc)
link_tree w v d name o (Code Io) may after = absurd (cc)
link_tree w v d name o (Code code) may after = after.tree

module _ {old mid : Handles} {w v : HostModel} (here : ℕ) {name : List ℕ} {o : Options} (may_read : Bool)
    (plain : IsTrue (is_plain name)) (refused : HostError) (may : has_link_code refused ≡ true) (same : mid ≡ old)
    (here_live : contains old here ≡ true)
    (opens : RefinesCall {A = ℕ} old mid w v (OpenAt (w.held here).node name o) v.held (Err refused)) where
  abbrev d : ℕ
  d = (w.held here).node

  first : OnlyLooks old w v (d ∷ [])
  first =
      let resolved : Resolved old w v (open_meant w.tree d name o) v.held (Err refused) =
      call_err {call = OpenAt d name o} {shown = v.held} refused (reached w.tree d name ∷ []) same opens in
      looks_still (link_tree w v d name o refused may opens.after) resolved

  here_same : (v.held here).node ≡ d
  here_same = ap (λ (h : OpenHandle). h.node) (first.keeps here here_live)

  both : {u : HostModel} → OnlyLooks mid v u ((v.held here).node ∷ []) → OnlyLooks old w u (d ∷ [])
  both {u} second = looks_then first (at_root w.tree d) (same_live same) (subst (λ n. OnlyLooks mid v u (n ∷ [])) here_same second)

  -- what is looked at is the same as before
  as_before : stat_at_answer v.tree (v.held here).node name ≡ stat_at_answer w.tree d name
  as_before =
      ap (λ t. stat_at_answer t (v.held here).node name) first.tree ∙ ap (λ n. stat_at_answer w.tree n name) here_same

  found : (code : ErrorCode) × (refused ≡ Code code) × (is_link_code (Some code) ≡ true) ×
      (open_answer w.tree d name o ≡ Err code)
  found = link_code refused may opens.meaning

  refusal_is : refusal w.tree (OpenAt d name o) ≡ Some found.0
  refusal_is = unless-err _ _ found.3

  -- Loop needs no look
  pub enters_loop : is_loop refused ≡ true → may_read ≡ true → MeetsLink old w v d name o may_read
  enters_loop loop rule =
      let code : found.0 ≡ Loop = loop_is found.0 (ap is_loop (sym found.1) ∙ loop) in
      let link = loop_link w.tree d name o (refusal_is ∙ ap Some code) in
      record {
        reads = ap (λ b. b && (may_read && is_link_code (refusal w.tree (OpenAt d name o)))) link
            ∙ ap (λ b. true && (b && is_link_code (refusal w.tree (OpenAt d name o)))) rule
            ∙ ap (λ r. true && (true && is_link_code r)) refusal_is ∙ found.2;
        looks = first;
      }

  -- ---- a look after it

  module _ {new : Handles} {u : HostModel} (still : new ≡ mid) where
    -- the look is refused
    pub enters_unlooked : (e : HostError)
        → RefinesCall {A = Metadata} mid new v u (StatAt (v.held here).node name) (λ m. m) (Err e)
        → (OnlyLooks old w u (d ∷ []) × IsFault e) ⊎ OpensUnread old w u d name o may_read (Err e)
    enters_unlooked e looks = by e (subst (λ r. MeansErr r e) as_before looks.meaning)
      where
        seen : OnlyLooks old w u (d ∷ [])
        seen = both (looks_of (Err e) (λ is. refl) (call_err {call = StatAt (v.held here).node name} e [] still looks))

        by : (x : HostError) → MeansErr (stat_at_answer w.tree d name) x
            → (OnlyLooks old w u (d ∷ []) × IsFault x) ⊎ OpensUnread old w u d name o may_read (Err x)
        by Memory means = inl (seen, inl refl)
        by (Code Io) means = inl (seen, inr refl)
        by (Code code) means =
            let alike =
            unmet_unlooked w.tree d name o may_read found.0 code plain refusal_is found.2
            (unless-err _ _ means) in
            inr (record {
              unread = alike.0;
              resolved = resolved_err (open_meant w.tree d name o) u.held (Code code) refl
                  (err_means (open_answer w.tree d name o) code (found.3 ∙ ap (λ c. let r : Result OpenHandle ErrorCode =
                  Err c in r) (sym alike.1))) seen;
            })

    module _ {m : Metadata} (looks : RefinesCall {A =
        Metadata} mid new v u (StatAt (v.held here).node name) (λ m. m) (Ok m)) where
      seen : OnlyLooks old w u (d ∷ [])
      seen =
          both (looks_of (Ok m) (λ is. refl) (call_ok {call = StatAt (v.held here).node name} [] (All-nil _)
          (same_live still) looks))

      kind : holds w.tree d name (λ n. is_link n.content) ≡ is_link_kind m.kind
      kind = looked_link w.tree d name m (sym as_before ∙ looks.meaning)

      -- it says that there is no link, or none is read
      pub enters_no_link : (is_link_kind m.kind && may_read) ≡ false
          → (OnlyLooks old w u (d ∷ []) × IsFault refused) ⊎ OpensUnread old w u d name o may_read (Err refused)
      enters_no_link other = inr (record {
        unread = ap (λ b. b && (may_read && is_link_code (refusal w.tree (OpenAt d name o)))) kind
            ∙ first_two (is_link_kind m.kind) may_read (is_link_code (refusal w.tree (OpenAt d name o))) other;
        resolved = resolved_err (open_meant w.tree d name o) u.held refused refl opens.meaning seen;
      })

      -- it says that there is one, which is read
      pub enters_link : (is_link_kind m.kind && may_read) ≡ true → MeetsLink old w u d name o may_read
      enters_link reads =
          let tests = and_parts (is_link_kind m.kind) may_read reads in
          record {
            reads = ap (λ b. b && (may_read && is_link_code (refusal w.tree (OpenAt d name o)))) (kind ∙ tests.0)
                ∙ ap (λ b. true && (b && is_link_code (refusal w.tree (OpenAt d name o)))) tests.1
                ∙ ap (λ r. true && (true && is_link_code r)) refusal_is ∙ found.2;
            looks = seen;
          }
