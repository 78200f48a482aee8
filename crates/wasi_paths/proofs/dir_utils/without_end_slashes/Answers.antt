use Rattle.wasi_paths.proofs.Tails.{trimmed}
use Rattle.wasi_paths.proofs.dir_utils.without_end_slashes.Goals as goal

pub returns : goal.returns
returns c = trimmed c.args.path.now c.trim_end_matches.result.now c.trim_end_matches.ensures.matches
