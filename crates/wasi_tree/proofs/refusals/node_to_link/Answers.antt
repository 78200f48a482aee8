use Rattle.std.proofs.Common.{◌∙◌, sym}
use Rattle.std.proofs.lemmas.Result.{err_from_is_err_and}
use Rattle.wasi_paths.specs.Name.{name_bytes}
use Rattle.wasi_tree.proofs.LinkLemmas.{AreNamed, may_gain, none_there, names_refused, entry_refused, links_free, links_refused}
use Rattle.wasi_tree.proofs.refusals.node_to_link.Goals as goal
use Rattle.wasi_tree.proofs.refusals.node_to_link.Given.{Over}
use Rattle.wasi_tree.proofs.refusals.node_to_link.Goals.{After-refuse_entry}

pub returns-in-Some-clause-refusal : goal.returns-in-Some-clause-refusal
returns-in-Some-clause-refusal g c = sym (names_refused _ _ _ _ _ (sym c.in-Some.ensures))

named : (g : Over) (c : After-refuse_entry g)
    → AreNamed (g.S.NodeStore.seen c.args.store.now).tree c.args.old.now.directory (name_bytes c.args.old.now.name) c.args.new.now.directory (name_bytes c.args.new.now.name)
    c.in-Some-found.node
named g c = record {
  named = sym c.in_default.ensures;
  found = sym c.requires.old.found ∙ c.in-Some-found.is;
  missing = sym c.requires.new.found ∙ none_there _ (sym c.if-is_some.ensures);
}

pub returns-in-Some-refuse_entry-clause-refusal : goal.returns-in-Some-refuse_entry-clause-refusal
returns-in-Some-refuse_entry-clause-refusal g c =
    sym (entry_refused (named g (goal.at.returns-in-Some-refuse_entry-clause-refusal g c).After-refuse_entry)
    (sym c.in-Some-refuse_entry.ensures))

pub returns-in_err-check_links-clause-refusal : goal.returns-in_err-check_links-clause-refusal
returns-in_err-check_links-clause-refusal g c =
    let error = err_from_is_err_and c.from_residual.result c.from_residual.ensures.1 in
    rw (error.1, error.2)
    (sym (links_refused (named g (goal.at.returns-in_err-check_links-clause-refusal g c).After-refuse_entry)
    (sym c.in_default-refuse_entry.ensures) (sym c.in_err-check_links.ensures.refusal)))

pub returns-clause-gains : goal.returns-clause-gains
returns-clause-gains g c =
    let are = named g (goal.at.returns-clause-gains g c).After-refuse_entry in
    may_gain (record {
      free = links_free are (sym c.in_default-refuse_entry.ensures) (sym c.in_ok-check_links.ensures.refusal);
      found = are.found;
    }) c.args.new.now.name.is_name (rw c.in-Some-found.is at c.requires.old.below) c.in_ok-check_links.ensures.room
