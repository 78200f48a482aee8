use Rattle.std.proofs.Common.{◌∙◌, refl}
use Rattle.std.proofs.lemmas.List.{map-append, take_more}
use Rattle.wasi_form.specs.Plan.{planned_preopen}
use Rattle.wasi_setup.proofs.Starts.{given_more, none_given, IsPreopenOf}
use Rattle.wasi_setup.proofs.setup.preopen_handles.Goals as goal

pub loop-preopen-init : goal.loop-preopen-init
loop-preopen-init g c = record {
  tree = refl;
  touched = refl;
  lookups = refl;
  given = rw c.new-given.ensures.items (none_given c.requires.none);
}

pub loop-preopen-preserved : goal.loop-preopen-preserved
loop-preopen-preserved g c =
    let handle = c.in-Ok.ensures in
    record {
      tree = handle.tree ∙ c.loop-preopen.invariant.tree;
      touched = handle.touched ∙ c.loop-preopen.invariant.touched;
      lookups = handle.lookups ∙ c.loop-preopen.invariant.lookups;
      given =
          let is : IsPreopenOf (g.T.ScriptTree.seen c.loop-preopen.tree).handles (g.T.ScriptTree.seen c.directory_handle.new.self).handles (planned_preopen c.preopen-item.result) _ = record {
            fresh = handle.fresh;
            live = handle.live;
            held = handle.held;
            others = handle.others;
            perms = refl;
            name = c.in_ok-name.ensures.cases;
          } in
          rw (
            c.in_ok-push.ensures.items,
            take_more _ _ c.preopen-item.result c.loop-preopen-test.true,
            map-append planned_preopen _ _,
            ← c.preopen-item.is,
          ) (given_more _ _ c.loop-preopen.invariant.given is);
    }
