use Rattle.std.proofs.Common.{map, refl}
use Rattle.std.proofs.lemmas.Result.{err_from_is_err_and}
use Rattle.wasi_tree.specs.MemState.{MemState}
use Rattle.wasi_tree.specs.NodeData.{node_data}
use Rattle.wasi_sandbox.proofs.Starts.{begun_on, no_tree_of, unworked}
use Rattle.wasi_sandbox.proofs.starting.start_on.Goals as goal

pub begin_over-requires : goal.begin_over-requires
begin_over-requires c =
    let new = c.in_ok-tree.ensures in
    let session = c.in_ok-session.ensures in
    record {
      within = rw (unworked _ _ _ new.tree) at session.within;
      none = new.live;
      untouched = new.touched;
      unasked = new.lookups;
      rising = session.rising;
      quota = session.quota;
    }

pub returns-in_err-tree : goal.returns-in_err-tree
returns-in_err-tree c =
    let error = err_from_is_err_and c.from_residual.result c.from_residual.ensures.1 in
    rw (error.1, error.2) (record {
      starts = no_tree_of (λ (m : MemState). m) c.args.limits (map node_data c.args.nodes.items) c.args.text.now _
          c.in_err-tree.ensures.cause;
    })

pub returns : goal.returns
returns c =
    let begins = rw c.in_ok-tree.ensures.tree at c.in_ok-begun.ensures.begins in
    rw c.of_state.ensures (record {
      starts = begun_on (λ (m : MemState). m) c.args.limits (map node_data c.args.nodes.items) c.args.text.now _ _
          c.in_ok-tree.ensures.fit (rw c.in_ok-tree.ensures.tree at c.in_ok-session.ensures.judged)
          (record { begun = begins.begun; faults = begins.faults; fuel = begins.fuel; answered = refl; running = refl });
    })
