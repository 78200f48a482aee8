use Rattle.std.proofs.Common.{ap, arith, length, ◌∙◌}
use Rattle.wasi_form.specs.Plan.{planned}
use Rattle.wasi_guest.proofs.Ranges.{written_back}
use Rattle.wasi_host.specs.HostLaws.{HostModel}
use Rattle.wasi_setup.proofs.Starts.{confined_at_start}
use Rattle.wasi_script.proofs.Headlines.{begun_at, few_behind, has_run, run_seen, state_seen}
use Rattle.wasi_script.proofs.run.run_over.Goals as goal

pub begin_over-requires : goal.begin_over-requires
begin_over-requires g c = record {
  within = c.requires.within;
  none = c.requires.none;
  untouched = c.requires.untouched;
  unasked = c.requires.unasked;
  rising = c.requires.rising;
  quota = c.requires.quota;
}

pub returns : goal.returns
returns g c = λ nodes limits tree-is.
    let plan = planned nodes limits c.args.session in
    let tree = g.met.T.ScriptTree in
    let begins = c.in_ok-begun.ensures.begins in
    let started = rw tree-is at begins.begun in
    let begun = c.in_ok-begun.begun.context in
    let same = c.of-context.ensures in
    let now = c.run_calls-ran.new.context in
    let value = c.bytes_mut-bytes.ensures.value in
    let size = c.run_calls-ran.ensures.size ∙ ap length value in
    rw (written_back _ _ size) (record {
      run = run_seen g.T.ScriptTree.seen tree.same_model now _ (has_run _ _
          (few_behind _ _ _ _ (tree.no_faults begun.host.inner) (tree.no_faults now.host.inner) begins.faults
          (rw same at c.run_calls-ran.ensures.most) (let v = c.args.session.faults in omega (arith, v.small, v.ok.0, v.ok.1)))
          (state_seen g.T.ScriptTree.seen tree.same_model begun _ ∙ begun_at plan started begins.written)
          (rw (same, value, begins.fuel, begins.calls) at (c.in-Ok.ensures.run tree.is_told)) (rw same at c.in-Ok.ensures.ios)
          ((rw (same, value) at (c.in-Ok.ensures.confined tree.is_told)) _
          (confined_at_start _ (ap (λ (w : HostModel). w.touched) (tree.same_model begun.host.inner) ∙ begins.begun.untouched))));
      size = size ∙ begins.size;
      show = begins.show;
      calls = begins.calls;
    })
