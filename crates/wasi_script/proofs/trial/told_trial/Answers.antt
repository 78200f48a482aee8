use Rattle.wasi_script.proofs.trial.told_trial.Goals as goal

pub returns : goal.returns
returns g c =
    let left = c.inner-overlay.ensures.inner in
    let tree = rw left at c.in_ok-tree.ensures.tree in
    record {
      kept = c.in_ok-kept.kept.items;
      worked = rw left at c.in_ok-kept.ensures.nodes;
      rising = c.in_ok-kept.ensures.rising;
      among = rw left at c.in_ok-kept.ensures.touched;
      fits = rw (c.as_slice.ensures.value, tree) at c.in_ok-text.ensures.fits;
      text_is = rw (c.as_slice.ensures.value, tree) at c.in_ok-text.ensures.text;
    }
