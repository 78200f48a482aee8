use Rattle.std.proofs.Common.{◌∙◌, ap, length, map}
use Rattle.std.specs.String.{string_bytes}
use Rattle.wasi_p1_types.proofs.Texts.{first_fits, left_at, one_less, all_written, with_texts_length}
use Rattle.wasi_p1_types.proofs.guest_env.put_texts.Goals as goal

pub put_text-address-requires-clause-bytes : goal.put_text-address-requires-clause-bytes
put_text-address-requires-clause-bytes c =
    let fits = first_fits (left_at string_bytes c.args.texts.now c.loop-text.text-index c.text-item.result
    c.loop-text-test.true c.text-item.is c.loop-text.invariant) in
    rw c.as_str.ensures.value fits

pub loop-text-preserved : goal.loop-text-preserved
loop-text-preserved c =
    let left = left_at string_bytes c.args.texts.now c.loop-text.text-index c.text-item.result
    c.loop-text-test.true c.text-item.is c.loop-text.invariant in
    rw (c.put_text-address.ensures.written, c.put_text-address.ensures.next, c.as_str.ensures.value) (one_less left)

pub returns-clause-size : goal.returns-clause-size
returns-clause-size c =
    let whole = all_written string_bytes c.args.texts.now c.loop-text.text-index c.loop-text-test.false
    c.loop-text.invariant in
    ap length whole
    ∙ with_texts_length c.args.memory.now (map string_bytes c.args.texts.now) c.args.at c.args.buf

pub returns-clause-written : goal.returns-clause-written
returns-clause-written c = all_written string_bytes c.args.texts.now c.loop-text.text-index c.loop-text-test.false
    c.loop-text.invariant
