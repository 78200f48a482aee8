use Rattle.std.proofs.Common.{◌≡◌, ◌∙◌, false, length, sym, eqb-true, eq-eqb}
use Rattle.wasi_paths.specs.Parts.{without_end_slashes, has_root}
use Rattle.wasi_paths.proofs.Tails.{stripped_root, stripped_other}
use Rattle.wasi_paths.proofs.dir_utils.strip_dir_suffix.Goals as goal
use Rattle.wasi_paths.proofs.dir_utils.strip_dir_suffix.Goals.{else-is_empty-via-then-is_empty+else-has_root, else-is_empty-via-else-is_empty}

pub returns-then-has_root : goal.returns-then-has_root
returns-then-has_root c =
    let none : length (without_end_slashes c.args.path.now) ≡ 0 =
    rw (← c.without_end_slashes-text.ensures) (eqb-true _ 0 (sym c.is_empty.ensures ∙ c.if-is_empty.true))
    in record { text = stripped_root c.args.path.now none (sym c.has_root.ensures.test ∙ c.if-has_root.true) }

pub returns-else-is_empty : goal.returns-else-is_empty
returns-else-is_empty c =
    let text = c.without_end_slashes-text in
    let other : length (without_end_slashes c.args.path.now) ≡ 0 → has_root c.args.path.now ≡ false =
    elim c.else-is_empty.branch [
      | else-is_empty-via-then-is_empty+else-has_root w ↦ λ none. sym w.has_root.ensures.test ∙ w.if-has_root.false
      | else-is_empty-via-else-is_empty w ↦ λ none.
          let empty = eq-eqb (length text.result.now) 0 (rw text.ensures none) in
          absurd (cc (w.if-is_empty.false, c.is_empty.ensures))
    ]
    in record { text = text.ensures ∙ stripped_other c.args.path.now other }
