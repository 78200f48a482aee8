-- A directory that is opened anew, and listed.
use Rattle.std.proofs.Common.{ℕ, ◌≡◌, true, List, [], ◌∷◌, Option, Some, None, Result, Ok, Err, refl, sym, ap, subst, ◌∙◌}
use Rattle.std.specs.Prelude.{Contains, codes, is_ok}
use Rattle.std.specs.FinSet.{insert}
use Rattle.std.proofs.lemmas.List.Elements.{All-cons, All-nil, Contains-push}
use Rattle.wasi_host.specs.Tree.{Tree, child, next_of}
use Rattle.wasi_host.specs.HostCall.{OpenAt, ListDir}
use Rattle.wasi_host.specs.Refusal.{refusal}
use Rattle.wasi_host.specs.Answer.{Listed, unless, or_next, reached, open_answer, list_answer}
use Rattle.wasi_host.specs.Step.{open_step}
use Rattle.wasi_host.specs.Steps.{◌>>=◌}
use Rattle.wasi_host.specs.HostLaws.{HostModel, Handles, RefinesCall}
use Rattle.wasi_host.specs.declared.errors.ErrorCode.{ErrorCode}
use Rattle.wasi_host.specs.declared.errors.HostError.{HostError}
use Rattle.wasi_host.specs.declared.open_handle.OpenHandle.{OpenHandle}
use Rattle.wasi_host.proofs.Touching.{at_root, open_ends}
use Rattle.wasi_resolve.specs.Meanings.{listing_options, lists_at}
use Rattle.wasi_resolve.specs.Resolved.{Meant, Resolved, call_meant}
use Rattle.wasi_resolve.specs.WalkSteps.{OnlyLooks, ModelStays, open_meant}
use Rattle.wasi_resolve.proofs.Calls.{call_ok, call_err, looks_of, means_then, resolved_err, resolved_stay, resolved_then, same_live, still_live}
use Rattle.wasi_resolve.proofs.Entering.{ok_free}
use Rattle.wasi_resolve.proofs.Tables.{open_leaves}

-- `.` is the directory itself
dot_child : (t : Tree) (d : ℕ) → child t d (codes ".") ≡ Some d
unfolding child
dot_child t d = refl

dot_reached : (t : Tree) (d : ℕ) → reached t d (codes ".") ≡ d
unfolding reached
dot_reached t d = ap (λ c. or_next c (next_of t)) (dot_child t d)

-- its open makes no step
dot_leaves : (t : Tree) (d : ℕ) → is_ok (open_answer t d (codes ".") listing_options) ≡ true
    → open_step t d (codes ".") listing_options ≡ t
dot_leaves t d is =
    open_leaves t d (codes ".") listing_options
    (ok_free (refusal t (OpenAt d (codes ".") listing_options)) _ is) refl refl

answer_is : {B : Type 0} (refused : Option ErrorCode) (b c : B) → unless refused b ≡ Ok c → b ≡ c
answer_is None b c is = (cc)
answer_is (Some code) b c is = absurd (cc)

-- it isn't opened
pub not_opened : {A : Type 0} {old mid : Handles} {w v : HostModel} {d : ℕ} (shown : A → List Listed) (e : HostError)
    → mid ≡ old → RefinesCall {A = ℕ} old mid w v (OpenAt d (codes ".") listing_options) v.held (Err e)
    → Resolved old w v (lists_at w.tree d) shown (Err e)
not_opened {w = w} {v = v} {d = d} shown e same modelled =
    let opened : Resolved _ w v (open_meant w.tree d (codes ".") listing_options) v.held (Err e) =
    call_err {call = OpenAt d (codes ".") listing_options} {shown = v.held} e (reached w.tree d (codes ".") ∷ []) same
    modelled in
    resolved_err (lists_at w.tree d) shown e refl
    (means_then (open_answer w.tree d (codes ".") listing_options) (list_answer w.tree) e modelled.meaning)
    (looks_of (Err e) (dot_leaves w.tree d) opened)

-- it is opened
module _ {old mid : Handles} {w v : HostModel} {d : ℕ} (h : ℕ) (got : mid ≡ insert old h)
    (modelled : RefinesCall {A = ℕ} old mid w v (OpenAt d (codes ".") listing_options) v.held (Ok h)) where
  abbrev listed : OpenHandle
  listed = v.held h

  opened_looks : OnlyLooks old w v (d ∷ [])
  opened_looks =
      let opened : Resolved old w v (open_meant w.tree d (codes ".") listing_options) v.held (Ok h) =
      call_ok {call = OpenAt d (codes ".") listing_options} {shown = v.held} (reached w.tree d (codes ".") ∷ [])
      (open_ends w.tree d (codes ".") listing_options) (still_live old h got) modelled in
      looks_of (Ok h) (dot_leaves w.tree d) opened

  -- the handle stands for the directory
  same_node : listed.node ≡ d
  same_node =
      let is = answer_is (refusal w.tree (OpenAt d (codes ".") listing_options)) _ listed modelled.meaning in
      sym (ap (λ (held : OpenHandle). held.node) is) ∙ dot_reached w.tree d

  abbrev list_meant : Tree → ℕ → Result (List Listed) ErrorCode → Meant (List Listed)
  list_meant t end answer = record { starts = d ∷ []; answer = answer; stepped = t; ends = end ∷ [] }

  -- and then it is listed, and closed
  pub is_listed : {A : Type 0} {new : Handles} {u z : HostModel} {shown : A → List Listed} (r : Result A HostError)
      → new ≡ mid → RefinesCall mid new v u (ListDir listed) shown r → ModelStays old u z
      → Resolved old w z (lists_at w.tree d) shown r
  is_listed {A} {new = new} {u = u} {shown = shown} r same asked closed =
      let there : Resolved old w u (list_meant v.tree listed.node (list_answer v.tree listed)) shown r =
      resolved_then opened_looks (at_root w.tree d) (still_live old h got) (ap (λ n. n ∷ []) same_node) (by r asked) in
      let here : Resolved old w u (list_meant w.tree listed.node (list_answer w.tree listed)) shown r =
      subst (λ t. Resolved old w u (list_meant t listed.node (list_answer t listed)) shown r) opened_looks.tree there in
      let at : Resolved old w u (list_meant w.tree d (list_answer w.tree listed)) shown r =
      subst (λ n. Resolved old w u (list_meant w.tree n (list_answer w.tree listed)) shown r) same_node here in
      resolved_stay
      (subst (λ x. Resolved old w u (list_meant w.tree d x) shown r)
      (sym (ap (λ x. x >>= list_answer w.tree) modelled.meaning)) at) closed
    where
      by : (x : Result A HostError) → RefinesCall mid new v u (ListDir listed) shown x
          → Resolved mid v u (call_meant v.tree (ListDir listed) (listed.node ∷ [])) shown x
      by (Ok a) says =
          call_ok {call = ListDir listed} {shown = shown} (listed.node ∷ [])
          (All-cons (Contains (listed.node ∷ [])) listed.node [] (Contains-push [] listed.node) (All-nil _))
          (same_live same) says
      by (Err e) says = call_err {call = ListDir listed} {shown = shown} e (listed.node ∷ []) same says
