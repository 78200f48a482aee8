-- The script's own nodes and those that are kept of a run are together the tree of its report.
use Rattle.std.proofs.Common.{ℕ, ◌≡◌, inl, inr, true, false, List, length, Some, ap, sym, ◌∙◌, arith, map, slice_get}
use Rattle.std.specs.FinSet.{contains, from_list}
use Rattle.std.proofs.lemmas.Bool.{true≢false, false_from_ne_true, cases_lt}
use Rattle.wasi_host.specs.Tree.{Tree, next_of}
use Rattle.wasi_tree.specs.NodeData.{data_of_node, tree_of}
use Rattle.wasi_form.specs.Plan.{Plan}
use Rattle.wasi_setup.specs.Merged.{IsMergedTree}
use Rattle.wasi_setup.specs.Start.{start}
use Rattle.wasi_setup.proofs.ListedNodes.{in_listed}
use Rattle.wasi_setup.proofs.Merging.{run_over}
use Rattle.wasi_setup.proofs.ToldNodes.{none_told, told_at}
use Rattle.wasi_script.specs.Headline.{Reports, fueled_calls, own_nodes}
use Rattle.wasi_script.specs.Merged.{IsMerged}
use Rattle.wasi_script.proofs.KeptTrees.{tree_again}

-- the tree of a report is over the script's own
pub reports_over : (plan : Plan) {line : List ℕ} (run : Reports plan line)
    → IsMergedTree (tree_of plan.nodes plan.limits) run.last.tree
reports_over plan run = run_over (length plan.faults) (start plan) run.last (fueled_calls plan) run.turns run.run

-- what isn't worked on is told as of the base
told_over : {base t : Tree} → IsMergedTree base t → (n : ℕ) → contains t.worked n ≡ false
    → slice_get (map data_of_node t.nodes) n ≡ slice_get (map data_of_node base.nodes) n
told_over {base} {t} over n not_worked = let grows = over.grows in elim (cases_lt n (next_of base)) [
  | inl within ↦ told_at t n (omega arith) ∙ ap (λ node. Some (data_of_node node)) (over.others n not_worked)
      ∙ sym (told_at base n within)
  | inr past ↦ elim (cases_lt n (next_of t)) [
    | inl within ↦
        absurd (true≢false (sym (over.made n (record { fresh = past; there = within })) ∙ not_worked))
    | inr beyond ↦ none_told t n beyond ∙ sym (none_told base n past)
  ]
]

-- the nodes of a report are the script's own but for those that are kept
pub reports_merged : (plan : Plan) {line : List ℕ} (run : Reports plan line) (kept : List ℕ)
    → from_list kept ≡ run.last.tree.worked → IsMerged (own_nodes plan) kept (map data_of_node run.last.tree.nodes)
reports_merged plan run kept worked = record {
  others = λ n other.
      let not_worked = false_from_ne_true (contains run.last.tree.worked n)
      (λ is. other (in_listed kept n (ap (λ s. contains s n) worked ∙ is))) in
      told_over (reports_over plan run) n not_worked ∙ ap (λ nodes. slice_get nodes n) (tree_again plan);
}
