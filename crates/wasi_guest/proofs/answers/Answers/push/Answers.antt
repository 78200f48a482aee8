use Rattle.wasi_guest.proofs.KeptMore.{kept_more}
use Rattle.wasi_guest.proofs.answers.Answers.push.Goals as goal

pub returns-clause-answers : goal.returns-clause-answers
returns-clause-answers c =
    rw (c.push_reserved.ensures.items, ← c.self.view_is)
    (kept_more c.self.inside.kept.items c.keep-kept.result c.args.answer c.keep-kept.ensures.stay c.self.inside.placed
    c.keep-kept.ensures.kept)
