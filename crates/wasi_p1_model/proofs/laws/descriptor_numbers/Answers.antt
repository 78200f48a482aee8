use Rattle.wasi_p1_model.proofs.DescriptorLaws.{numbers_are_dense, opens_the_largest_closed}
use Rattle.wasi_p1_model.proofs.Stemming.{numbers_fit}
use Rattle.wasi_p1_model.proofs.laws.descriptor_numbers.Goals as goal

pub returns : goal.returns
returns c = record { dense = numbers_are_dense; largest = opens_the_largest_closed; fit = numbers_fit }
