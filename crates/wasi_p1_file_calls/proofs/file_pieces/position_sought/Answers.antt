use Rattle.std.proofs.Common.{refl, sym, ◌∙◌, w64}
use Rattle.std.proofs.lemmas.Int.{to_z-of_z}
use Rattle.wasi_p1_file_calls.proofs.file_pieces.position_sought.Goals as goal

pub returns-in_default-clause-known : goal.returns-in_default-clause-known
returns-in_default-clause-known g c = rw (← c.base_of.ensures, c.in_default.is) tt

pub returns-in_default-clause-front : goal.returns-in_default-clause-front
returns-in_default-clause-front g c = λ none.
    rw (to_z-of_z w64 c.args.offset c.ranges.offset) at c.position_from_end.ensures.front

pub returns-in_default-clause-modelled : goal.returns-in_default-clause-modelled
returns-in_default-clause-modelled g c = λ modelled none.
    rw (to_z-of_z w64 c.args.offset c.ranges.offset) at (c.position_from_end.ensures.modelled modelled)

pub returns-clause-known : goal.returns-clause-known
returns-clause-known g c = rw (← c.base_of.ensures, c.in-Some.is)
    (simp (to_z-of_z, c.ranges.offset) at c.position_from.ensures.specified, refl)

pub returns-clause-front : goal.returns-clause-front
returns-clause-front g c = λ none. absurd (let wrong = sym c.in-Some.is ∙ c.base_of.ensures ∙ none in cc)

pub returns-clause-modelled : goal.returns-clause-modelled
returns-clause-modelled g c = λ modelled none. absurd (let wrong = sym c.in-Some.is ∙ c.base_of.ensures ∙ none in cc)
