-- How a piece is put into a file: in append mode after its last byte, and else from an offset on.
use Rattle.std.specs.Prelude.{ℕ, ◌+◌, Bool, true, false, List, length}
use Rattle.wasi_host.specs.Answer.{HostAnswer}
use Rattle.wasi_host.specs.HostCall.{HostCall, Append, Pwrite}
use Rattle.wasi_host.specs.declared.open_handle.OpenHandle.{OpenHandle}
use Rattle.wasi_host.specs.declared.metadata.Metadata.{Metadata}
use Rattle.wasi_guest.specs.declared.answer.Value.{Value}
use Rattle.wasi_guest.specs.declared.answer.Value.TheVariants.{Number}
use Rattle.wasi_p1_types.specs.Guest.{Guest, OpenFile}
use Rattle.wasi_p1_types.specs.SpecParts.{at_position, with_file}
use Rattle.wasi_p1_types.specs.Request.{Request, Reply, Direct, Behind}
use Rattle.wasi_p1_types.specs.Quotas.{end_of_piece}
use Rattle.wasi_p1_types.specs.declared.quotas.FileEnd.{FileEnd}
use Rattle.wasi_p1_types.specs.declared.quotas.FileEnd.TheVariants as ends
use Rattle.wasi_p1_types.specs.declared.usage.Put.{Put}

-- where the file's position stays: one call of the host
abbrev pub put_call : Bool → OpenHandle → ℕ → List ℕ → HostCall
put_call true f offset piece = Append f piece
put_call false f offset piece = Pwrite f offset piece

-- whose answer is how many bytes the file took
abbrev pub count_in : (append : Bool) (f : OpenHandle) (offset : ℕ) (piece : List ℕ)
    → HostAnswer (put_call append f offset piece) → ℕ
count_in true f offset piece count = count
count_in false f offset piece count = count

-- where its position goes along: in append mode the file's size is looked at then
abbrev pub put_request : Bool → OpenHandle → ℕ → List ℕ → Request
put_request true f offset piece = Behind f piece
put_request false f offset piece = Direct (Pwrite f offset piece)

abbrev pub appended_in : ℕ × Metadata → Put
appended_in put = record { count = put.0; position = put.1.size }

-- how many bytes the file took, and its position: in append mode its size, and else after the bytes
abbrev pub put_in : (append : Bool) (f : OpenHandle) (offset : ℕ) (piece : List ℕ)
    → Reply (put_request append f offset piece) → Put
put_in true f offset piece put = appended_in put
put_in false f offset piece count = record { count = count; position = offset + count }

-- where the file ends then, if that is more than its size
abbrev pub put_end : Bool → ℕ → List ℕ → FileEnd
put_end true offset piece = ends.Behind (length piece)
put_end false offset piece = end_of_piece offset piece

-- the answer is how many bytes the file took, and the file is at that position
abbrev pub put_answer : Guest → ℕ → OpenFile → Put → Value × Guest
put_answer g fd f put = (Number put.count, with_file g fd (at_position f put.position))
