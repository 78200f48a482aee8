use Rattle.std.proofs.Common.{◌≡◌, length, take}
use denote.Text.{Utf8}
use denote.Shadow.{shadow}
use Rattle.wasi_paths.specs.Parts.{components_with_ends}
use Rattle.wasi_paths.proofs.split.up_to_last.Given as goal

abbrev pub invariant-loop-text : goal.invariant-loop-text
invariant-loop-text l = record {
  text : shadow (Utf8 l.text);
  prefix : take (length l.text) l.fn.path ≡ l.text;
  same : components_with_ends l.text ≡ components_with_ends l.fn.path;
}

abbrev pub decreases-loop-text : goal.decreases-loop-text
decreases-loop-text l = length l.text
