use Rattle.std.proofs.Common.{◌≡◌, ◌-◌, length, take, ap, sym, ◌∙◌, arith}
use Rattle.std.specs.Prelude.{reverse}
use Rattle.std.proofs.lemmas.Grind.{common_steps}
use Rattle.wasi_paths.specs.Parts.{components_with_ends, end_of_first}
use Rattle.wasi_paths.proofs.Splitting.{shorter, shorter_prefix, ends_at_end}
use Rattle.wasi_paths.proofs.split.up_to_last.Goals as goal

pub range-text-requires-clause-end_boundary : goal.range-text-requires-clause-end_boundary
range-text-requires-clause-end_boundary c =
    let requires = sym c.path_requires_dir.ensures.test ∙ c.if-path_requires_dir.true in
    (shorter c.loop-text.text.now requires (omega arith)).boundary

pub loop-text-preserved : goal.loop-text-preserved
loop-text-preserved c =
    let text = c.loop-text.text.now in
    let requires = sym c.path_requires_dir.ensures.test ∙ c.if-path_requires_dir.true in
    let cut : c.range-text.result.now ≡ take (length text - 1) text = grind (arith, common_steps) in
    record {
      text = c.range-text.utf8;
      prefix = shorter_prefix c.args.path.now text _ (length text - 1) (omega arith) c.loop-text.invariant.prefix cut;
      same = ap components_with_ends cut ∙ (shorter text requires (omega arith)).same ∙ c.loop-text.invariant.same;
    }

pub returns-else-path_requires_dir-clause-end : goal.returns-else-path_requires_dir-clause-end
returns-else-path_requires_dir-clause-end c =
    let free = sym c.path_requires_dir.ensures.test ∙ c.if-path_requires_dir.false in
    ap (λ pieces. end_of_first (reverse pieces)) (sym c.loop-text.invariant.same)
    ∙ ends_at_end c.loop-text.text.now (λ requires. absurd (cc free))

pub returns-after-loop-text-clause-end : goal.returns-after-loop-text-clause-end
returns-after-loop-text-clause-end c =
    ap (λ pieces. end_of_first (reverse pieces)) (sym c.loop-text.invariant.same)
    ∙ ends_at_end c.loop-text.text.now (λ requires. omega arith)
