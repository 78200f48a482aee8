use Rattle.std.proofs.Common.{◌<◌, ◌^◌, rules}
use Rattle.std.proofs.Math.Nat.{mod-eq_of_lt}
use Rattle.wasi_form.proofs.atoms.Atom.u32_word.Goals as goal

pub returns : goal.returns
returns c =
    let small : c.in_ok-number.number < 2 ^ 32 = search rules in
    rw (mod-eq_of_lt small) c.in_ok-number.ensures
