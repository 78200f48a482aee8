use Rattle.std.proofs.Common.{arith, ◌≡◌, ◌≤◌, ◌<◌, ◌+◌, length}
use Rattle.wasi_io.proofs.Fronts.{gave}
use Rattle.wasi_io.proofs.in_memory.BytesSourceSource.read.Goals as goal

pub returns-clause-bytes : goal.returns-clause-bytes
returns-clause-bytes c _ =
    let within : c.self.inside.given + c.min-count.result ≤ length c.self.inside.bytes.items = omega arith in
    let ended : c.min-count.result ≡ 0 → 0 < length c.args.buf.now → length c.self.inside.bytes.items ≤ c.self.inside.given = λ none some. omega arith in
    let copied = rw c.deref.ensures.value at c.copy_from_slice.ensures.after in
    rw (← c.self.view_is) (gave _ c.args.buf.now _ _ _ within (omega arith) ended copied)
