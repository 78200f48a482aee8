use Rattle.std.proofs.Common.{◌≡◌, sym, ◌∙◌}
use Rattle.wasi_p1_file_calls.proofs.file_pieces.check_growth.Goals as goal

pub returns-clause-front : goal.returns-clause-front
returns-clause-front g c = λ limit bound.
    let same : limit ≡ c.in-Some.limit = (let both = sym bound ∙ sym c.allowance.ensures.is ∙ c.in-Some.is in cc) in
    rw same c.growth_of.ensures.front

pub returns-clause-modelled : goal.returns-clause-modelled
returns-clause-modelled g c = λ modelled limit bound.
    let same : limit ≡ c.in-Some.limit = (let both = sym bound ∙ sym c.allowance.ensures.is ∙ c.in-Some.is in cc) in
    rw same (c.growth_of.ensures.modelled modelled)
