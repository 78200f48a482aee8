use Rattle.std.proofs.Common.{◌∙◌}
use Rattle.wasi_call_table.specs.declared.call_table.Kind.TheVariants.{U32, U64, I64}
use Rattle.wasi_form.specs.Atoms.{atom_data}
use Rattle.wasi_form.proofs.CallWords.{as_kind, as_it_is}
use Rattle.wasi_form.proofs.atoms.Atom.as_word.Goals as goal

pub returns-in-U32 : goal.returns-in-U32
returns-in-U32 c = as_kind c.args.kind U32 c.in-U32.is (atom_data c.args.self) c.u32_word.result c.u32_word.ensures

pub returns-in-U64 : goal.returns-in-U64
returns-in-U64 c =
    as_kind c.args.kind U64 c.in-U64.is (atom_data c.args.self) c.as_u64.result (as_it_is c.as_u64.result ∙ c.as_u64.ensures)

pub returns-in-I64 : goal.returns-in-I64
returns-in-I64 c = as_kind c.args.kind I64 c.in-I64.is (atom_data c.args.self) c.i64_word.result c.i64_word.ensures
