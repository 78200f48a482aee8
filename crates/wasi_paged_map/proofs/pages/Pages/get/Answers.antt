use Rattle.std.proofs.Common.{arith, None, sym, ap, ◌∙◌}
use Rattle.wasi_paged_map.specs.Places.{place_in}
use Rattle.wasi_paged_map.proofs.EntryLemmas.{get_told, thing_told, told_within}
use Rattle.wasi_paged_map.proofs.pages.Pages.get.Goals as goal

pub returns-in_err-place : goal.returns-in_err-place
returns-in_err-place g c = rw (← c.self.view_is, c.from_residual.ensures)
    (sym (get_told c.self.inside.pages.items c.self.inside.numbers.items c.self.inside.things.items c.self.invariant c.args.n None
    (c.in_err-place.ensures ∙ ap (λ pages. place_in pages c.args.n) c.as_slice.ensures.value)))

pub index-requires : goal.index-requires
index-requires g c =
    let within = told_within c.self.inside.pages.items c.self.inside.numbers.items c.self.inside.things.items c.self.invariant c.args.n
    c.in_ok-place.place (c.in_ok-place.ensures ∙ ap (λ pages. place_in pages c.args.n) c.as_slice.ensures.value) in
    omega (arith, within)

pub returns : goal.returns
returns g c = rw (← c.self.view_is)
    (sym (thing_told c.self.inside.pages.items c.self.inside.numbers.items c.self.inside.things.items c.self.invariant c.args.n c.in_ok-place.place
    c.index.result.now
    (c.in_ok-place.ensures ∙ ap (λ pages. place_in pages c.args.n) c.as_slice.ensures.value) c.index.ensures))
