use Rattle.std.proofs.Common.{refl}
use Rattle.wasi_host.proofs.Times.{zero_time-is}
use Rattle.wasi_tree.proofs.NodeLemmas.{is_new_node}
use Rattle.wasi_tree.proofs.inode.Inode.made.Goals as goal

pub returns : goal.returns
returns c =
    is_new_node refl c.new_bits.ensures (zero_time-is _ refl refl) (zero_time-is _ refl refl)
    (zero_time-is _ refl refl)
