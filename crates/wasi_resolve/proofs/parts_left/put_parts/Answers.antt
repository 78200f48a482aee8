use Rattle.wasi_paths.specs.Part.{component}
use Rattle.wasi_resolve.proofs.Putting.{put_one, put_all}
use Rattle.wasi_resolve.proofs.parts_left.put_parts.Goals as goal

pub loop-part-preserved : goal.loop-part-preserved
loop-part-preserved c =
    rw c.in_ok-push.ensures.items
    (put_one c.loop-part.left.items c.next_back.new.self c.of_text.result (component c.in-Some.part)
    c.loop-part.invariant c.in-Some.ensures.steps c.of_text.ensures)

pub returns-clause-parts : goal.returns-clause-parts
returns-clause-parts c =
    put_all c.args.text.now c.loop-part.left.items _ c.in_default.ensures.steps.0
    (rw c.parts-rest.ensures.components at c.loop-part.invariant.so_far) c.in_ok-put_dot.ensures.parts
