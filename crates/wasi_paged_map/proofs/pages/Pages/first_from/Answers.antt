use Rattle.std.proofs.Common.{subst}
use Rattle.wasi_paged_map.specs.Places.{IsFirstFrom, place_in}
use Rattle.wasi_paged_map.proofs.EntryLemmas.{first_told}
use Rattle.wasi_paged_map.proofs.pages.Pages.first_from.Goals as goal

pub returns-clause-first : goal.returns-clause-first
returns-clause-first g c = rw (← c.self.view_is)
    (first_told c.self.inside.pages.items c.self.inside.numbers.items c.self.inside.things.items c.self.invariant c.args.from c.first_from.result
    (subst (λ pages. IsFirstFrom (place_in pages) c.args.from c.first_from.result) c.as_slice.ensures.value c.first_from.ensures.first))
