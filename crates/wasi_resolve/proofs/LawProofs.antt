-- The laws.
use Rattle.std.proofs.Common.{ℕ, zero, suc, ◌≤◌, true, false, cond, Bool, List, [], ◌++◌, sym, subst, arith}
use Rattle.std.proofs.lemmas.List.Elements.{Contains-push}
use Rattle.wasi_host.specs.Tree.{Tree}
use Rattle.wasi_host.specs.ValidTree.{root, held}
use Rattle.wasi_host.specs.declared.errors.ErrorCode.TheVariants.{Loop, NoEntry}
use Rattle.wasi_paths.specs.Parts.{Component, parts, trailing_slash, is_empty}
use Rattle.wasi_resolve.specs.Walk.{Aim, Stop, Position, Leg, Ended, Linked, leg, Walk, ended, one_link_more, resume, walk_from, walk}
use Rattle.wasi_host.specs.Agree.{IsClosed}
use Rattle.wasi_resolve.specs.ByNodes.{nodes_of}
use Rattle.wasi_resolve.specs.Laws.{ReadsFewLinks, WalksReadFewLinks, From, PathsStayInReach, PathsAgree}
use Rattle.wasi_host.proofs.Agreeing.{itself}
use Rattle.wasi_resolve.proofs.Coming.{links_within}
use Rattle.wasi_resolve.proofs.Simulation.{walk-by_nodes}
use Rattle.wasi_resolve.proofs.WalkAgreeing as walks
use Rattle.wasi_resolve.proofs.PathAgreeing as paths

resume_few : (on : Bool → ℕ → List Component → Position → Walk) (slash : Bool) (l : Leg Position) (k : ℕ)
    → ((slash : Bool) (m : ℕ) (left : List Component) (names : Position) → (on slash m left names).links ≤ k)
    → (resume on slash l).links ≤ k
resume_few on slash (Ended m outcome) k few = omega arith
resume_few on slash (Linked m names text left) k few = few _ m (parts text ++ left) names

few_links : (t : Tree) (s : ℕ) (aim : Aim) (follow : Bool) (links : ℕ) (slash : Bool) (m : ℕ)
    (left : List Component) (names : Position) → (walk_from t s aim follow links slash m left names).links ≤ links
few_links t s aim follow zero slash m left names =
    resume_few (λ _ m _ _. ended m (Stop Loop)) slash (leg t s aim follow slash m left names) zero
    (λ _ _ _ _. omega arith)
few_links t s aim follow (suc links) slash m left names =
    resume_few (λ slash m left names. one_link_more (walk_from t s aim follow links slash m left names)) slash
    (leg t s aim follow slash m left names) (suc links)
    (λ slash m left names. let few = few_links t s aim follow links slash m left names in omega arith)

pub walks_read_few_links : WalksReadFewLinks
unfolding walk
walks_read_few_links t s text aim follow = by (is_empty text)
  where
    whole : Walk
    whole = walk_from t s aim follow 40 (trailing_slash text) 0 (parts text) []

    within : whole.links ≤ whole.parts
    within =
        subst (λ (w : Walk). w.links ≤ w.parts) (sym (walk-by_nodes t s aim follow 40 (trailing_slash text) 0 (parts text) []))
        (omega (arith, links_within t s aim follow 40 (trailing_slash text) 0 (parts text) (nodes_of t s [])))

    by : (b : Bool) → ReadsFewLinks (cond b (ended 0 (Stop NoEntry)) whole)
    by true = record { most = omega arith; parts = omega arith }
    by false = record { most = few_links t s aim follow 40 (trailing_slash text) 0 (parts text) []; parts = within }

start_in : (t : Tree) (s : ℕ) → From t s s
start_in t s = root s (Contains-push [] s)

from_closed : (t : Tree) (s : ℕ) → IsClosed (From t s) t
from_closed t s = record { under = λ d n name seen is. held d n name seen is }

pub paths_stay_in_reach : PathsStayInReach
paths_stay_in_reach t s text = record {
  walks = λ aim follow. walks.walk_seen (from_closed t s) itself s aim follow (start_in t s) text;
  opens = λ o follow. paths.opening_seen (from_closed t s) itself s text o follow (start_in t s);
  finds = λ o follow makes_none. paths.opened_seen (from_closed t s) itself s text o follow makes_none (start_in t s);
  looks = λ follow. paths.looked_seen (from_closed t s) itself s text follow (start_in t s);
  places = paths.place_seen (from_closed t s) itself s text (start_in t s);
  times = paths.timed_seen (from_closed t s) itself s text (start_in t s);
}

pub paths_agree : PathsAgree
paths_agree t u s text agree = record {
  walks = λ aim follow. walks.walk_same (from_closed t s) agree s aim follow (start_in t s) text;
  opens = λ o follow. paths.opening_same (from_closed t s) agree s text o follow (start_in t s);
  opened_alike = λ o follow. paths.opened_same (from_closed t s) agree s text o follow (start_in t s);
  looks = λ follow. paths.looked_same (from_closed t s) agree s text follow (start_in t s);
  places = paths.place_same (from_closed t s) agree s text (start_in t s);
  times = paths.timed_same (from_closed t s) agree s text (start_in t s);
}
