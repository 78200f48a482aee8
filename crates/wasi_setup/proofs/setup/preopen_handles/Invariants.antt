use Rattle.std.proofs.Common.{◌≡◌, map, take}
use Rattle.wasi_form.specs.Plan.{planned_preopen}
use Rattle.wasi_setup.specs.Start.{ArePreopens}
use Rattle.wasi_setup.proofs.setup.preopen_handles.Given as goal

abbrev pub invariant-loop-preopen : goal.invariant-loop-preopen
invariant-loop-preopen g l = record {
  tree : (g.T.ScriptTree.seen l.tree).tree ≡ (g.T.ScriptTree.seen l.fn.tree).tree;
  touched : (g.T.ScriptTree.seen l.tree).touched ≡ (g.T.ScriptTree.seen l.fn.tree).touched;
  lookups : (g.T.ScriptTree.seen l.tree).lookups ≡ (g.T.ScriptTree.seen l.fn.tree).lookups;
  given : ArePreopens (g.T.ScriptTree.seen l.tree).handles (map planned_preopen (take l.preopen-index l.preopens)) l.given.items;
}
