use Rattle.wasi_sandbox.proofs.Calls.{called, Did, IsSeen}
use Rattle.wasi_sandbox.proofs.sandbox.Sandbox.make.Goals as goal

pub returns : goal.returns
returns g c =
    let tree = g.met.T.ScriptTree in
    let seen : IsSeen g.T.ScriptTree.seen g.T.Host.modelled g.T.Host.model g.T.Host.live g.T.Host.lookups g.T.Host.faults = record {
      tells = tree.is_told;
      models = tree.same_model;
      lives = tree.same_live;
      looks = tree.same_lookups;
      quiet = tree.no_faults;
    } in
    let bounds = c.call-outcome.ensures.host_laws in
    let did : Did _ c.call-outcome.new.context _ _ _ _ g.T.Host.modelled g.T.Host.model g.T.Host.live g.T.Host.lookups g.T.Host.faults = record {
      cause = bounds.cause;
      handles = bounds.handles;
      provenance = bounds.provenance;
      logged = bounds.logged;
      unchanged = c.call-outcome.ensures.unchanged;
      turn = c.call-outcome.ensures.spec;
      complete = c.call-outcome.ensures.complete tree.is_told;
      errnos = c.call-outcome.ensures.errnos tree.is_told;
    } in
    record {
      called = rw (c.note_end.ensures.noted, c.count_answer-self.ensures) (called c.args.self.now c.call-outcome.new.context _ _ _ _ c.requires.running seen
          (rw c.set_hostcall_fuel.ensures.set at did));
    }
