use Rattle.std.proofs.Common.{◌≡◌, ◌+◌, ◌<◌, length, refl, ◌∙◌, rules, arith}
use Rattle.wasi_form.specs.Atoms.{atom_data, values_left}
use Rattle.wasi_form.proofs.CallWords.{kind_at, reads_one, reads_none, reads_all, reads_more}
use Rattle.wasi_form.proofs.arguments.Arguments.words.Goals as goal

pub loop-place-init : goal.loop-place-init
loop-place-init c = (search rules, λ make. refl)

pub loop-place-preserved : goal.loop-place-preserved
loop-place-preserved c =
    let within : c.loop-place.place < length c.args.kinds.now = search rules in
    let fits : c.loop-place.place < length c.loop-place.words = omega (arith, c.loop-place.invariant.0, c.requires) in (
      search rules,
      λ make.
          reads_one c.loop-place.place (c.loop-place.place + 1) c.args.kinds.now make c.loop-place.words c.in_ok-words.field-0
          (values_left c.loop-place.self) (values_left c.word.new.self) _ refl (kind_at c.args.kinds.now c.loop-place.place within) fits
          c.in_ok-words.ensures
          ∙ c.loop-place.invariant.1 make,
    )

pub returns-in_err-words : goal.returns-in_err-words
returns-in_err-words c = λ make.
    let within : c.loop-place.place < length c.args.kinds.now = search rules in
    rw c.from_residual.ensures
    (reads_none c.loop-place.place c.args.kinds.now make c.loop-place.words (values_left c.loop-place.self) _
    (kind_at c.args.kinds.now c.loop-place.place within) c.in_err-words.ensures
    ∙ c.loop-place.invariant.1 make)

pub returns-in-Some : goal.returns-in-Some
returns-in-Some c = λ make.
    let all : c.loop-place.place ≡ length c.args.kinds.now = omega (arith, c.loop-place-test.false, c.loop-place.auto.place-end) in
    reads_more c.loop-place.place c.args.kinds.now make c.loop-place.words (values_left c.loop-place.self)
    (atom_data c.in-Some.field-0, values_left c.next.new.self) all c.in-Some.ensures
    ∙ c.loop-place.invariant.1 make

pub returns-in-None : goal.returns-in-None
returns-in-None c = λ make.
    let all : c.loop-place.place ≡ length c.args.kinds.now = omega (arith, c.loop-place-test.false, c.loop-place.auto.place-end) in
    reads_all c.loop-place.place c.args.kinds.now make c.loop-place.words (values_left c.loop-place.self) all c.in-None.ensures
    ∙ c.loop-place.invariant.1 make
