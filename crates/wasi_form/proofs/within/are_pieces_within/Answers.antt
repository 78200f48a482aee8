use Rattle.std.proofs.Common.{◌∙◌, sym}
use Rattle.std.proofs.lemmas.List.Folds.{list_all-map}
use Rattle.wasi_form.specs.Plan.{planned_piece}
use Rattle.wasi_form.specs.Within.{is_piece_within}
use Rattle.wasi_form.proofs.within.are_pieces_within.Goals as goal

pub returns : goal.returns
returns c = c.each_piece_is_within.ensures ∙ sym (list_all-map (is_piece_within c.args.size) planned_piece c.args.pieces.now)
