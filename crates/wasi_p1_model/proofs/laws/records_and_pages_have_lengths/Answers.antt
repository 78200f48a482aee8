use Rattle.wasi_p1_model.proofs.Paging.{record_length, page_length, past_the_end}
use Rattle.wasi_p1_model.proofs.laws.records_and_pages_have_lengths.Goals as goal

pub returns : goal.returns
returns c = record { one = record_length; page = page_length; past = past_the_end }
