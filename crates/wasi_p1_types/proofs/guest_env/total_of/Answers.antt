use Rattle.std.proofs.Common.{◌≡◌, ◌∙◌, length, refl, arith}
use Rattle.std.specs.String.{string_bytes}
use Rattle.wasi_p1_types.specs.Services.{total_of}
use Rattle.wasi_p1_types.proofs.Texts.{total_more}
use Rattle.wasi_p1_types.proofs.guest_env.total_of.Goals as goal

pub loop-text-init : goal.loop-text-init
unfolding total_of
loop-text-init c = refl

pub loop-text-preserved : goal.loop-text-preserved
loop-text-preserved c =
    let more = total_more string_bytes c.args.texts.now c.loop-text.text-index c.text-item.result c.loop-text-test.true
    c.text-item.is in
    let long : c.len.result ≡ length (string_bytes c.text-item.result) = c.len.ensures ∙ c.text-item.result.bytes.ok.0 in
    rw more (omega (arith, long))
