use Rattle.std.proofs.Common.{◌++◌, ◌∙◌, ap, arith, sym, take_all}
use Rattle.std.proofs.lemmas.List.Filters.{dedup_is}
use Rattle.wasi_script.proofs.ListLemmas.{all_listed, joined_has, joined_rises, one_list_more}
use Rattle.wasi_script.proofs.audited.all_listed.Goals as goal

pub loop-preopen-preserved : goal.loop-preopen-preserved
loop-preopen-preserved c = c.in_ok-extend_from_slice.ensures.items
    ∙ ap (λ nodes. nodes ++ c.in-Some.list.now) c.loop-preopen.invariant
    ∙ sym (one_list_more c.args.audit.now.lists c.loop-preopen.preopen c.in-Some.list.now (sym c.in-Some.ensures.listed))

pub returns-clause-rising : goal.returns-clause-rising
returns-clause-rising c = joined_rises c.sort.new.self.items _ c.in_ok-sort.ensures.sorted (dedup_is _ _ _ c.dedup.ensures.filtered)

pub returns-clause-joined : goal.returns-clause-joined
returns-clause-joined c = joined_has c.args.audit.now.lists _ c.sort.new.self.items _
    (c.loop-preopen.invariant ∙ ap all_listed (take_all c.loop-preopen.preopen c.args.audit.now.lists (omega (arith, c.requires.count))))
    c.in_ok-sort.ensures.permutation (dedup_is _ _ _ c.dedup.ensures.filtered)
