use Rattle.std.proofs.Common.{◌≡◌, ◌≤◌, ◌∷◌, ◌++◌, [], ◌∙◌, List, map, length, ap, sym, subst, append_assoc, arith}
use Rattle.std.specs.Prelude.{All}
use Rattle.std.specs.String.{string_bytes}
use Rattle.std.specs.Vec.Iter.{into_iter_items}
use Rattle.std.proofs.lemmas.List.{map-append}
use Rattle.std.proofs.lemmas.Result.{err_from_is_err_and}
use Rattle.wasi_host.specs.Answer.{entry_of}
use Rattle.wasi_host.specs.declared.dir_entry.DirEntry.{DirEntry}
use Rattle.wasi_host.proofs.Tracing.{traced_twice}
use Rattle.wasi_p1_model.specs.EntriesSeen.{entry_seen, IsListed}
use Rattle.wasi_p1_model.proofs.Listings.{one_looked, entry_is_short, listed_at, not_looked, short_more}
use Rattle.wasi_p1_fd_calls.proofs.pages.all_numbered.Goals as goal

pub returns-in_err-entry-clause-provenance : goal.returns-in_err-entry-clause-provenance
returns-in_err-entry-clause-provenance g c = traced_twice c.loop-name.invariant.provenance c.in_err-entry.ensures.provenance

pub returns-in_err-push-clause-provenance : goal.returns-in_err-push-clause-provenance
returns-in_err-push-clause-provenance g c = traced_twice c.loop-name.invariant.provenance c.in_ok-entry.ensures.provenance

pub returns-in_err-entry-clause-modelled : goal.returns-in_err-entry-clause-modelled
returns-in_err-entry-clause-modelled g c = λ modelled.
    let error = err_from_is_err_and c.from_residual-in_err-entry.result c.from_residual-in_err-entry.ensures.1 in
    let rest : List DirEntry = into_iter_items c.next.new.self in
    let steps : into_iter_items c.loop-name.name-iterator ≡ c.in-Some.name ∷ rest = c.in-Some.ensures.steps.0 in
    let all : c.loop-name.yielded ++ (c.in-Some.name ∷ rest) ≡ c.args.names.items =
    ap (λ l. c.loop-name.yielded ++ l) (sym steps) ∙ c.loop-name.invariant.items in
    let names = sym (map-append entry_of c.loop-name.yielded (c.in-Some.name ∷ rest)) ∙ ap (map entry_of) all in
    rw (error.1, error.2, ← names) (not_looked (entry_of c.in-Some.name) c.requires.live c.loop-name.invariant.live
    (c.loop-name.invariant.modelled modelled) _ (map entry_of rest) (c.in_err-entry.ensures.modelled modelled))

pub loop-name-preserved : goal.loop-name-preserved
loop-name-preserved g c =
    let rest : List DirEntry = into_iter_items c.next.new.self in
    let steps : into_iter_items c.loop-name.name-iterator ≡ c.in-Some.name ∷ rest = c.in-Some.ensures.steps.0 in
    let all : c.loop-name.yielded ++ (c.in-Some.name ∷ rest) ≡ c.args.names.items =
    ap (λ l. c.loop-name.yielded ++ l) (sym steps) ∙ c.loop-name.invariant.items in
    let short : length (string_bytes c.in-Some.name.name) ≤ 255 =
    entry_is_short _ (listed_at c.loop-name.yielded c.in-Some.name rest (subst (All IsListed) (sym all) c.requires.listed)) in
    let names = map-append entry_of c.loop-name.yielded (c.in-Some.name ∷ []) in
    let entries = map-append entry_seen c.loop-name.entries.items (c.in_ok-entry.entry ∷ []) in
    record {
      items = append_assoc c.loop-name.yielded (c.in-Some.name ∷ []) rest ∙ all;
      later = omega (arith, c.loop-name.invariant.later, c.numbered.ensures.cause.later);
      most = c.numbered.ensures.cause.most ∙ c.loop-name.invariant.most;
      live = c.numbered.ensures.live ∙ c.loop-name.invariant.live;
      provenance = traced_twice c.loop-name.invariant.provenance c.in_ok-entry.ensures.provenance;
      short = rw c.in_ok-push.ensures.items (short_more c.loop-name.entries.items c.in_ok-entry.entry c.loop-name.invariant.short
          (rw c.in_ok-entry.ensures.name short));
      modelled = λ modelled. rw (c.in_ok-push.ensures.items, names, entries) (one_looked (entry_of c.in-Some.name) c.requires.live
          c.loop-name.invariant.live (c.loop-name.invariant.modelled modelled) (c.in_ok-entry.ensures.modelled modelled));
    }

pub numbered-requires-clause-listed : goal.numbered-requires-clause-listed
numbered-requires-clause-listed g c =
    let rest : List DirEntry = into_iter_items c.next.new.self in
    let steps : into_iter_items c.loop-name.name-iterator ≡ c.in-Some.name ∷ rest = c.in-Some.ensures.steps.0 in
    let all : c.loop-name.yielded ++ (c.in-Some.name ∷ rest) ≡ c.args.names.items =
    ap (λ l. c.loop-name.yielded ++ l) (sym steps) ∙ c.loop-name.invariant.items in
    listed_at c.loop-name.yielded c.in-Some.name rest (subst (All IsListed) (sym all) c.requires.listed)
