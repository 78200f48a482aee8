use Rattle.wasi_p1_model.proofs.DescriptorLaws.{seeks_are_told, offsets_leave_positions}
use Rattle.wasi_p1_model.proofs.laws.positions.Goals as goal

pub returns : goal.returns
returns c = record { sought = seeks_are_told; offsets = offsets_leave_positions }
