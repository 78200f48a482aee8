use Rattle.std.proofs.Common.{sym, ◌∙◌}
use Rattle.wasi_paths.proofs.Segments.{empty_by_length}
use Rattle.wasi_paths.proofs.Splitting.{in_name, split_of_none, split_of_whole, split_of_dot, split_of_up, split_of_name}
use Rattle.wasi_paths.proofs.split.split_parent.Goals as goal

pub returns-then-is_empty : goal.returns-then-is_empty
returns-then-is_empty c = record {
  split = split_of_none c.args.path.now (sym (empty_by_length _) ∙ sym c.is_empty.ensures ∙ c.if-is_empty.true);
}

pub returns-then-path_requires_dir : goal.returns-then-path_requires_dir
returns-then-path_requires_dir c =
    let some = sym (empty_by_length c.args.path.now) ∙ sym c.is_empty.ensures ∙ c.if-is_empty.false in
    let requires = sym c.path_requires_dir.ensures.test ∙ c.if-path_requires_dir.true in
    record { split = split_of_whole c.args.path.now some requires }

pub returns-then-eq : goal.returns-then-eq
returns-then-eq c = record { split = split_of_dot c.args.path.now (sym c.eq.ensures ∙ c.if-eq.true) }

pub returns-then-eq-2 : goal.returns-then-eq-2
returns-then-eq-2 c =
    let ends =
    in_name c.is_empty.ensures c.if-is_empty.false c.path_requires_dir.ensures.test c.if-path_requires_dir.false
    c.eq.ensures c.if-eq.false
    in
    record { split = split_of_up c.cut_last.ensures ends (sym c.eq-2.ensures ∙ c.if-eq-2.true) }

pub returns : goal.returns
returns c =
    let ends =
    in_name c.is_empty.ensures c.if-is_empty.false c.path_requires_dir.ensures.test c.if-path_requires_dir.false
    c.eq.ensures c.if-eq.false
    in
    record {
      split = split_of_name _ c.cut_last.ensures ends (sym c.eq-2.ensures ∙ c.if-eq-2.false) c.up_to_last.ensures.prefix
          c.up_to_last.ensures.end;
    }
