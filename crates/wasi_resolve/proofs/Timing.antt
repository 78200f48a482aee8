-- The handle through which times are set, and the times that are set through it.
use Rattle.std.proofs.Common.{ℕ, ◌≡◌, true, false, List, [], ◌∷◌, Option, Result, Ok, Err, refl, sym, ap, subst}
use Rattle.std.specs.Prelude.{Contains}
use Rattle.std.specs.FinSet.{contains, insert}
use Rattle.std.proofs.lemmas.List.Elements.{All-cons, All-nil, Contains-push}
use Rattle.wasi_host.specs.Tree.{Tree}
use Rattle.wasi_host.specs.HostCall.{SetTimes}
use Rattle.wasi_host.specs.Refusal.{refusal}
use Rattle.wasi_host.specs.Steps.{◌>>=◌}
use Rattle.wasi_host.specs.HostLaws.{HostModel, Handles, RefinesCall, MeansErr}
use Rattle.wasi_host.specs.declared.errors.ErrorCode.{ErrorCode}
use Rattle.wasi_host.specs.declared.errors.ErrorCode.TheVariants.{Access, Io, IsDirectory}
use Rattle.wasi_host.specs.declared.errors.HostError.{HostError}
use Rattle.wasi_host.specs.declared.errors.HostError.TheVariants.{Code, Memory}
use Rattle.wasi_host.specs.declared.open_handle.OpenHandle.{OpenHandle}
use Rattle.wasi_host.specs.declared.system_time.SystemTime.{SystemTime}
use Rattle.wasi_host.proofs.Touching.{at_root}
use Rattle.wasi_resolve.specs.Laws.{From, GivesIn}
use Rattle.wasi_resolve.specs.Meanings.{ends_by, opens_at}
use Rattle.wasi_resolve.specs.PathRequest.{TimesPath, meant_by, times_through}
use Rattle.wasi_resolve.specs.Paths.{opened, reading, writing, or_else, access_unsupported, timed_again, timed}
use Rattle.wasi_resolve.specs.Resolved.{Meant, Resolved, call_meant}
use Rattle.wasi_resolve.specs.Timed.{reads_after, read_refused, read_at, timed_at}
use Rattle.wasi_resolve.specs.WalkSteps.{OnlyLooks, ModelStays}
use Rattle.wasi_resolve.proofs.LawProofs.{paths_stay_in_reach}
use Rattle.wasi_resolve.proofs.Calls.{call_ok, call_err, found_ok, looks_of, means_then, resolved_err, resolved_stay, resolved_then, same_live, still_live}
use Rattle.wasi_resolve.proofs.Parenting.{opening_leaves}

-- ---- an open for reading

refused_reads : (r : Result OpenHandle ErrorCode) (e : HostError) → MeansErr r e
    → MeansErr (or_else access_unsupported r) (read_refused e)
refused_reads r Memory means = tt
refused_reads r (Code Io) means = tt
refused_reads r (Code Access) means = ap (or_else access_unsupported) means
refused_reads r (Code code) means = ap (or_else access_unsupported) means

module _ {live : Handles} {w v : HostModel} (s : ℕ) (text : List ℕ) where
  pub read_ok : (h : ℕ) → Resolved live w v (opens_at w.tree s text reading) v.held (Ok h)
      → Resolved live w v (read_at w.tree s text) v.held (Ok h)
  read_ok h opens =
      found_ok v.held h (ap (or_else access_unsupported) opens.answer)
      (looks_of (Ok h) (opening_leaves w.tree s text reading true refl refl) opens)

  pub read_err : (e : HostError) → Resolved live w v (opens_at w.tree s text reading) v.held (Err e)
      → Resolved live w v (read_at w.tree s text) v.held (Err (read_refused e))
  read_err e opens =
      resolved_err (read_at w.tree s text) v.held (read_refused e) refl
      (refused_reads (opened w.tree s text reading true) e opens.answer)
      (looks_of (Err e) (opening_leaves w.tree s text reading true refl refl) opens)

-- ---- an open for writing, and then perhaps one for reading

-- its refusal is the last one
refused_once : (t : Tree) (s : ℕ) (text : List ℕ) (e : HostError) → reads_after e ≡ false
    → MeansErr (opened t s text writing true) e → MeansErr (timed t s text) e
unfolding timed
refused_once t s text Memory last means = tt
refused_once t s text (Code Io) last means = tt
refused_once t s text (Code Access) last means = absurd (cc)
refused_once t s text (Code IsDirectory) last means = absurd (cc)
refused_once t s text (Code code) last means = ap (or_else (timed_again t s text)) means

-- or one for reading decides
read_decides : (t : Tree) (s : ℕ) (text : List ℕ) (e : HostError) → reads_after e ≡ true
    → MeansErr (opened t s text writing true) e
    → timed t s text ≡ or_else access_unsupported (opened t s text reading true)
unfolding timed
read_decides t s text (Code Access) more means = ap (or_else (timed_again t s text)) means
read_decides t s text (Code IsDirectory) more means = ap (or_else (timed_again t s text)) means
read_decides t s text Memory more means = absurd (cc)
read_decides t s text (Code code) more means = absurd (cc)

written : (t : Tree) (s : ℕ) (text : List ℕ) (held : OpenHandle) → opened t s text writing true ≡ Ok held
    → timed t s text ≡ Ok held
unfolding timed
written t s text held is = ap (or_else (timed_again t s text)) is

module _ {live : Handles} {w v : HostModel} (s : ℕ) (text : List ℕ) where
  pub timed_ok : (h : ℕ) → Resolved live w v (opens_at w.tree s text writing) v.held (Ok h)
      → Resolved live w v (timed_at w.tree s text) v.held (Ok h)
  timed_ok h opens =
      found_ok v.held h (written w.tree s text (v.held h) opens.answer)
      (looks_of (Ok h) (opening_leaves w.tree s text writing true refl refl) opens)

  refused_looks : (e : HostError) → Resolved live w v (opens_at w.tree s text writing) v.held (Err e)
      → OnlyLooks live w v (s ∷ [])
  refused_looks e opens = looks_of (Err e) (opening_leaves w.tree s text writing true refl refl) opens

  pub timed_err : (e : HostError) → reads_after e ≡ false
      → Resolved live w v (opens_at w.tree s text writing) v.held (Err e)
      → Resolved live w v (timed_at w.tree s text) v.held (Err e)
  timed_err e last opens =
      resolved_err (timed_at w.tree s text) v.held e refl (refused_once w.tree s text e last opens.answer)
      (refused_looks e opens)

-- the same start is read in the same tree
pub timed_by_read : {live : Handles} {w v u : HostModel} (start : ℕ) (text : List ℕ) (e : HostError)
    {r : Result ℕ HostError} → contains live start ≡ true → reads_after e ≡ true
    → Resolved live w v (opens_at w.tree (w.held start).node text writing) v.held (Err e)
    → Resolved live v u (read_at v.tree (v.held start).node text) u.held r
    → Resolved live w u (timed_at w.tree (w.held start).node text) u.held r
timed_by_read {live} {w} {v} {u} start text e {r} is_live more opens reads =
    let s = (w.held start).node in
    let looks = refused_looks s text e opens in
    let here : Resolved live v u (read_at w.tree s text) u.held r =
    subst (λ t. Resolved live v u (read_at t s text) u.held r) looks.tree
    (subst (λ (h : OpenHandle). Resolved live v u (read_at v.tree h.node text) u.held r) (looks.keeps start is_live) reads) in
    subst (λ x. Resolved live w u (record (timed_at w.tree s text) { answer = x }) u.held r)
    (sym (read_decides w.tree s text e more opens.answer))
    (resolved_then looks (at_root w.tree s) (λ h is. is) refl here)

-- ---- the times are set

-- what is set through a handle, if there is one
abbrev set_meant : Tree → ℕ → Option SystemTime → Option SystemTime → Result OpenHandle ErrorCode → Meant (Unit {0})
set_meant t s atime mtime held = record {
  starts = s ∷ [];
  answer = held >>= (λ h. Ok tt);
  stepped = times_through t atime mtime held;
  ends = ends_by (λ (h : OpenHandle). h.node) held;
}

module _ {first : Handles} {w v : HostModel} (s : ℕ) (text : List ℕ) (atime mtime : Option SystemTime) where
  -- nothing is opened
  pub not_timed : (e : HostError) → Resolved first w v (timed_at w.tree s text) v.held (Err e)
      → Resolved first w v (meant_by w.tree (TimesPath s text true atime mtime)) (λ unit. unit) (Err e)
  not_timed e opens =
      resolved_err (meant_by w.tree (TimesPath s text true atime mtime)) (λ unit. unit) e refl
      (means_then (timed w.tree s text) (λ h. Ok tt) e opens.answer) (looks_of (Err e) (λ is. refl) opens)

  -- the handle's node is reached from the start, its times are set, and it is closed
  pub is_timed : {mid new : Handles} {u z : HostModel} (h : ℕ) (r : Result (Unit {0}) HostError) → mid ≡ insert first h
      → new ≡ mid → Resolved first w v (timed_at w.tree s text) v.held (Ok h)
      → RefinesCall mid new v u (SetTimes (v.held h).node atime mtime) (λ unit. unit) r → ModelStays first u z
      → Resolved first w z (meant_by w.tree (TimesPath s text true atime mtime)) (λ unit. unit) r
  unfolding refusal
  is_timed {mid} {new} {u} {z} h r got same opens set closed =
      let looks = looks_of (Ok h) (λ is. refl) opens in
      let near : From w.tree s n =
      subst (GivesIn (From w.tree s) (λ (held : OpenHandle). held.node)) opens.answer (paths_stay_in_reach w.tree s text).times in
      let there : Resolved first w u (set_meant v.tree s atime mtime (Ok (v.held h))) (λ unit. unit) r =
      resolved_then looks near (still_live first h got) refl (by r set) in
      let here : Resolved first w u (set_meant w.tree s atime mtime (Ok (v.held h))) (λ unit. unit) r =
      subst (λ t. Resolved first w u (set_meant t s atime mtime (Ok (v.held h))) (λ unit. unit) r) looks.tree there in
      resolved_stay
      (subst (λ x. Resolved first w u (set_meant w.tree s atime mtime x) (λ unit. unit) r) (sym opens.answer) here)
      closed
    where
      n : ℕ
      n = (v.held h).node

      by : (x : Result (Unit {0}) HostError) → RefinesCall mid new v u (SetTimes n atime mtime) (λ unit. unit) x
          → Resolved mid v u (call_meant v.tree (SetTimes n atime mtime) (n ∷ [])) (λ unit. unit) x
      by (Ok a) says =
          call_ok {call = SetTimes n atime mtime} (n ∷ [])
          (All-cons (Contains (n ∷ [])) n [] (Contains-push [] n) (All-nil _)) (same_live same) says
      by (Err e) says = call_err {call = SetTimes n atime mtime} e (n ∷ []) same says
