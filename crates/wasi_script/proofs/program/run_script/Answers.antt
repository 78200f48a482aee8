use Rattle.std.proofs.Common.{◌≡◌, ◌∙◌, [], sym, inl, inr}
use Rattle.wasi_script.specs.Due.{the_usage}
use Rattle.wasi_script.specs.declared.words.Task.TheVariants as tasks
use Rattle.wasi_script.proofs.KeptTrees.{keeps_tree}
use Rattle.wasi_script.proofs.Tops.{writes, writes_due, is_due_by, line_due, made_due, made_keeps, other_end}
use Rattle.wasi_script.proofs.program.run_script.Goals as goal

-- ---- `run` and `audit`

pub returns-in-Script-clause-read_fault : goal.returns-in-Script-clause-read_fault
returns-in-Script-clause-read_fault g c = λ fault.
    let is = rw c.as_slice.ensures.value at (sym c.task_of.ensures.task ∙ c.in-Script.is) in
    (rw is tt, c.run_source.ensures.read_fault fault)

pub returns-in-Script-clause-exact : goal.returns-in-Script-clause-exact
returns-in-Script-clause-exact g c = λ tells.
    let is = rw c.as_slice.ensures.value at (sym c.task_of.ensures.task ∙ c.in-Script.is) in
    rw is (c.run_source.ensures.exact tells)

pub returns-in-Script-clause-writes : goal.returns-in-Script-clause-writes
returns-in-Script-clause-writes g c = λ tells takes.
    let is = rw c.as_slice.ensures.value at (sym c.task_of.ensures.task ∙ c.in-Script.is) in
    rw is (c.run_source.ensures.writes tells takes)

pub returns-in-Script-clause-keeps : goal.returns-in-Script-clause-keeps
returns-in-Script-clause-keeps g c = λ tells takes.
    let is = rw c.as_slice.ensures.value at (sym c.task_of.ensures.task ∙ c.in-Script.is) in
    rw is (c.run_source.ensures.keeps tells takes)

pub returns-in-Script-clause-some : goal.returns-in-Script-clause-some
returns-in-Script-clause-some g c = λ takes.
    let is = rw c.as_slice.ensures.value at (sym c.task_of.ensures.task ∙ c.in-Script.is) in
    rw is (c.run_source.ensures.some takes)

-- ---- `gen N`

pub returns-in-Generate-clause-read_fault : goal.returns-in-Generate-clause-read_fault
returns-in-Generate-clause-read_fault g c = λ fault. other_end _ c.run_generated.ensures.ends (inl fault)

pub returns-in-Generate-clause-usage : goal.returns-in-Generate-clause-usage
returns-in-Generate-clause-usage g c = λ usage. other_end _ c.run_generated.ensures.ends (inr usage)

pub returns-in-Generate-clause-exact : goal.returns-in-Generate-clause-exact
returns-in-Generate-clause-exact g c = λ tells.
    let is = rw c.as_slice.ensures.value at (sym c.task_of.ensures.task ∙ c.in-Generate.is) in
    rw is (made_due _ c.in-Generate.n _ c.run_generated.ensures.ends)

pub returns-in-Generate-clause-line : goal.returns-in-Generate-clause-line
returns-in-Generate-clause-line g c = λ takes n asked.
    let is = rw c.as_slice.ensures.value at (sym c.task_of.ensures.task ∙ c.in-Generate.is) in
    let same : c.in-Generate.n ≡ n = cc in
    rw same at (c.run_generated.ensures.writes takes)

pub returns-in-Generate-clause-nothing : goal.returns-in-Generate-clause-nothing
returns-in-Generate-clause-nothing g c = λ takes.
    made_keeps _ c.in-Generate.n _ _ c.run_generated.ensures.ends (c.run_generated.ensures.writes takes)

pub returns-in-Generate-clause-writes : goal.returns-in-Generate-clause-writes
returns-in-Generate-clause-writes g c = λ tells takes.
    let is = rw c.as_slice.ensures.value at (sym c.task_of.ensures.task ∙ c.in-Generate.is) in
    rw is (line_due _ c.in-Generate.n _ _ _ c.run_generated.ensures.ends (c.run_generated.ensures.writes takes))

pub returns-in-Generate-clause-keeps : goal.returns-in-Generate-clause-keeps
returns-in-Generate-clause-keeps g c = λ tells takes.
    keeps_tree _ _ _ _ _ (returns-in-Generate-clause-writes g c tells takes)

pub returns-in-Generate-clause-some : goal.returns-in-Generate-clause-some
returns-in-Generate-clause-some g c = λ takes.
    let is = rw c.as_slice.ensures.value at (sym c.task_of.ensures.task ∙ c.in-Generate.is) in
    rw is (([], line_due _ c.in-Generate.n [] _ _ c.run_generated.ensures.ends (c.run_generated.ensures.writes takes)))

-- ---- other words

pub returns-in-Usage-clause-usage_line : goal.returns-in-Usage-clause-usage_line
returns-in-Usage-clause-usage_line g c = λ takes other.
    writes the_usage takes c.as_bytes.ensures.value c.written.ensures.written

pub returns-in-Usage-clause-exact : goal.returns-in-Usage-clause-exact
returns-in-Usage-clause-exact g c = λ tells.
    let is = rw c.as_slice.ensures.value at (sym c.task_of.ensures.task ∙ c.in-Usage.is) in
    rw is (is_due_by tasks.Usage _ the_usage tt c.written.ensures.written)

pub returns-in-Usage-clause-writes : goal.returns-in-Usage-clause-writes
returns-in-Usage-clause-writes g c = λ tells takes.
    let is = rw c.as_slice.ensures.value at (sym c.task_of.ensures.task ∙ c.in-Usage.is) in
    rw is (writes_due tasks.Usage _ the_usage tt takes c.as_bytes.ensures.value c.written.ensures.written)

pub returns-in-Usage-clause-keeps : goal.returns-in-Usage-clause-keeps
returns-in-Usage-clause-keeps g c = λ tells takes.
    keeps_tree _ _ _ _ _ (returns-in-Usage-clause-writes g c tells takes)

pub returns-in-Usage-clause-some : goal.returns-in-Usage-clause-some
returns-in-Usage-clause-some g c = λ takes.
    let is = rw c.as_slice.ensures.value at (sym c.task_of.ensures.task ∙ c.in-Usage.is) in
    rw is (([], writes_due tasks.Usage [] the_usage tt takes c.as_bytes.ensures.value c.written.ensures.written))
