-- What holds of the specification of the call that lists a directory.
use Rattle.std.proofs.Common.{ℕ, List, length, [], refl, slice_get}
use Rattle.wasi_guest.specs.declared.call.Call.TheVariants as calls
use Rattle.wasi_p1_types.specs.Guest.{Guest}
use Rattle.wasi_p1_types.specs.Listing.{Entry}
use Rattle.wasi_p1_model.specs.Pages.{page}
use Rattle.wasi_p1_types.specs.SpecParts.{range}
use Rattle.wasi_p1_types.specs.CallResult.{CallResult}
use Rattle.wasi_p1_model.specs.Calls.{fd_readdir}
use Rattle.wasi_host.proofs.Leaving.{Contains-here}
use Rattle.wasi_p1_model.proofs.Changing.{written_slots, written_ends, written_bytes}
use Rattle.wasi_p1_model.proofs.LocalCalls.{leaves}
use Rattle.wasi_p1_model.proofs.Locality.SpecParts.{SpecNear, then, asks_near, starts_near}
use Rattle.wasi_p1_model.proofs.Paging.{page_bytes}
use Rattle.wasi_p1_types.proofs.Wanting.{start_never, range_never, room_never}

pub fd_readdir_near : {g : Guest} {fd buf buf_len cookie : ℕ} → SpecNear g (calls.FdReaddir fd buf buf_len cookie)
unfolding fd_readdir
fd_readdir_near {g} {fd} {buf} {buf_len} {cookie} = then _ (start_never (slice_get g.slots fd)) (λ d is. then _ (room_never g.slots g.table_max 1) (λ _ _.
    let put : List Entry → CallResult (List ℕ) = λ listing. range g.memory buf (length (page listing cookie buf_len)) in asks_near (record {
      starts = λ n has. starts_near g fd n (Contains-here fd []) is has;
      slots = λ listing. written_slots g buf (page listing cookie buf_len) (put listing);
      ends = λ t listing answered. written_ends g buf (page listing cookie buf_len) (put listing)
          (range_never g.memory buf (length (page listing cookie buf_len))) refl;
      permits = λ _ _ _. leaves refl;
      asked = λ _. tt;
      bytes = λ are listing names. written_bytes g buf (page listing cookie buf_len) (put listing) are (page_bytes listing cookie buf_len names);
    })))
