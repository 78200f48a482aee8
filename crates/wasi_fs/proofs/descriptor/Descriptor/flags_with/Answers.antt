use Rattle.wasi_fs.proofs.Flagging.{flags_put}
use Rattle.wasi_fs.proofs.descriptor.Descriptor.flags_with.Goals as goal

pub returns : goal.returns
returns c = record {
  bits =
      rw (
        c.set-5.ensures tt,
        c.set-4.ensures tt,
        c.set-3.ensures tt,
        c.set-2.ensures tt,
        c.set.ensures tt,
        c.empty-flags.ensures tt,
        c.change_flag.ensures.bit,
        c.contains.ensures tt,
        c.contains-2.ensures tt,
        c.open_mode.ensures,
        c.open_mode-2.ensures,
      ) (flags_put c.args.self.now _ _ _ _ _);
}
