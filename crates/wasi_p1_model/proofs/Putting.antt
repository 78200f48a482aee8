-- What puts a piece into a file, whatever the file's mode.
use Rattle.std.proofs.Common.{ℕ, ◌≡◌, Bool, true, false, List, [], ◌∷◌, refl}
use Rattle.wasi_host.specs.Tree.{Tree}
use Rattle.wasi_host.specs.declared.open_handle.OpenHandle.{OpenHandle}
use Rattle.wasi_p1_model.specs.AppendOnly.{Adds}
use Rattle.wasi_p1_model.specs.Putting.{put_call, put_request}
use Rattle.wasi_p1_types.specs.Request.{Request, Direct, after, starts_at}
use Rattle.wasi_p1_model.specs.Validity.{AreBytes}
use Rattle.wasi_p1_model.proofs.Adding.{call_adds, request_adds}
use Rattle.wasi_p1_model.proofs.LocalCalls.{MayBeAsked}

-- it starts at the file, and may be asked where the piece are bytes; in append mode it puts the piece at the file's end
pub record PutsInto (append : Bool) (f : OpenHandle) (piece : List ℕ) (r : Request) : Type 0 where
  pub starts : starts_at r ≡ f.node ∷ []
  pub asked : AreBytes piece → MayBeAsked r
  pub adds : (t : Tree) → append ≡ true → Adds t (after t r)

pub call_puts : (append : Bool) (f : OpenHandle) (offset : ℕ) (piece : List ℕ)
    → PutsInto append f piece (Direct (put_call append f offset piece))
call_puts true f offset piece =
    record { starts = refl; asked = λ are. are; adds = call_adds true f offset piece }
call_puts false f offset piece =
    record { starts = refl; asked = λ are. are; adds = call_adds false f offset piece }

pub request_puts : (append : Bool) (f : OpenHandle) (offset : ℕ) (piece : List ℕ)
    → PutsInto append f piece (put_request append f offset piece)
request_puts true f offset piece =
    record { starts = refl; asked = λ are. are; adds = request_adds true f offset piece }
request_puts false f offset piece =
    record { starts = refl; asked = λ are. are; adds = request_adds false f offset piece }
