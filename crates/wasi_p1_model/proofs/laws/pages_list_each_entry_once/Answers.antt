use Rattle.wasi_p1_model.proofs.ListingFit.{listings_fit}
use Rattle.wasi_p1_model.proofs.PagingLaws.{whole_of_page, large_pages_hold, pages_in_order, pages_have_all, empty_page_ends}
use Rattle.wasi_p1_model.proofs.laws.pages_list_each_entry_once.Goals as goal

pub returns : goal.returns
returns c = record {
  fit = listings_fit;
  whole = whole_of_page;
  held = large_pages_hold;
  order = pages_in_order;
  everything = pages_have_all;
  ends = empty_page_ends;
}
