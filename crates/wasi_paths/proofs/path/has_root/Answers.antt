use Rattle.std.proofs.Common.{◌∙◌, lit<}
use Rattle.wasi_paths.proofs.Tails.{root_by_byte}
use Rattle.wasi_paths.proofs.path.has_root.Goals as goal

pub returns : goal.returns
returns c = record {
  test = c.starts_with.ensures.byte (lit< tt) (lit< tt) (λ w o found. found) ∙ root_by_byte c.args.path.now;
}
