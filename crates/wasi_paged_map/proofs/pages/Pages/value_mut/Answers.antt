use Rattle.std.proofs.Common.{None, sym, ap, ◌∙◌, true, false, ◌≡◌, is_some, refl, arith}
use Rattle.wasi_paged_map.specs.Places.{place_in}
use Rattle.wasi_paged_map.proofs.EntryLemmas.{get_told, thing_told, told_within, set_told}
use Rattle.wasi_paged_map.proofs.pages.Pages.value_mut.Goals as goal

pub unreachable-requires : goal.unreachable-requires
unreachable-requires g c =
    let none = get_told c.self.inside.pages.items c.self.inside.numbers.items c.self.inside.things.items c.self.invariant c.args.n None
    (c.in_default.ensures ∙ ap (λ pages. place_in pages c.args.n) c.as_slice.ensures.value) in
    let apart : false ≡ true = ap is_some (sym none) ∙ (rw (← c.self.view_is) at c.requires) in absurd (cc)

pub index_mut-requires : goal.index_mut-requires
index_mut-requires g c =
    let within = told_within c.self.inside.pages.items c.self.inside.numbers.items c.self.inside.things.items c.self.invariant c.args.n c.in-Some.place
    (c.in-Some.ensures ∙ ap (λ pages. place_in pages c.args.n) c.as_slice.ensures.value) in
    omega (arith, within)

pub returns : goal.returns
returns g c =
    let told = c.in-Some.ensures ∙ ap (λ pages. place_in pages c.args.n) c.as_slice.ensures.value in (
      (
        refl,
        λ w. rw (← c.self.view_is)
            (set_told c.self.inside.pages.items c.self.inside.numbers.items c.self.inside.things.items c.self.invariant c.args.n c.in-Some.place w told),
      ),
      record {
        writes_back = tt;
        value = rw (← c.self.view_is)
            (thing_told c.self.inside.pages.items c.self.inside.numbers.items c.self.inside.things.items c.self.invariant c.args.n c.in-Some.place
            c.index_mut.result.now told c.index_mut.ensures.value);
      },
    )
