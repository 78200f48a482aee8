use Rattle.std.proofs.Common.{rules, w64}
use Rattle.std.proofs.lemmas.Int.{to_z-of_z}
use mir.Val.{SFits}
use Rattle.wasi_form.proofs.atoms.Atom.i64_word.Goals as goal

pub returns : goal.returns
returns c =
    let fits : SFits w64 c.in_ok-number.number = search rules in
    simp (c.cast_unsigned.ensures, to_z-of_z w64 c.in_ok-number.number fits) c.in_ok-number.ensures
