use Rattle.std.proofs.Common.{◌<◌, refl, ap, sym, ◌∙◌, inr, length, arith}
use Rattle.std.proofs.lemmas.Option.{slice_get_read}
use Rattle.wasi_guest.proofs.Ranges.{written_back}
use Rattle.wasi_guests.proofs.guest_run.GuestRun.take_turn.Goals as goal

pub returns : goal.returns
returns c =
    let within : c.args.self.now.next < length c.args.self.now.calls.items = omega (arith, c.if-self-len.false, c.len.ensures) in
    let same = c.set_hostcall_fuel.ensures.set in
    let value = c.bytes_mut.ensures.value in
    rw (written_back c.args.self.now.memory c.call-result.new.memory (c.call-result.ensures.spec.size ∙ ap length value))
    (inr (record {
      call = c.index-next.result.now;
      there = slice_get_read c.args.self.now.calls.items _ _ _ refl within c.index-next.ensures;
      result = c.call-result.result;
      answer = c.in-Some.answer;
      answers = sym c.in-Some.ensures;
      cause = rw same at c.call-result.ensures.host_laws.cause;
      turn = rw (same, value) at (c.call-result.ensures.spec.turn refl);
      more = c.push.ensures.answers;
      next = c.place_after-self.ensures;
      fuel = refl;
      calls = refl;
      joint = refl;
      size = c.call-result.ensures.spec.size ∙ ap length value;
      spare = omega (arith, c.push.ensures.spare);
    }))
