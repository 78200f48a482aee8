-- What holds of the specifications of the calls that read and write by a number.
use Rattle.std.proofs.Common.{ℕ, ◌≡◌, ◌+◌, List, length, [], ◌∷◌, refl, ap, slice_get, Some, Ok}
use Rattle.std.specs.Prelude.{min}
use Rattle.wasi_guest.specs.declared.answer.Value.{Value}
use Rattle.wasi_guest.specs.declared.answer.Value.TheVariants.{Number}
use Rattle.wasi_guest.specs.declared.call.Call.{Call}
use Rattle.wasi_guest.specs.declared.call.Call.TheVariants as calls
use Rattle.wasi_guest.specs.declared.iovec.Iovec.{Iovec}
use Rattle.wasi_host.specs.HostCall.{Pread}
use Rattle.wasi_p1_types.specs.Front.{free, ask, ◌>>=◌}
use Rattle.wasi_p1_types.specs.Guest.{Guest, OpenFile, file, perms_in}
use Rattle.wasi_p1_types.specs.SpecParts.{ReadTarget, input, from, read_target_in, WriteTarget, output, into, write_target_in, held_by, may_write}
use Rattle.wasi_p1_types.specs.Quotas.{allowance}
use Rattle.wasi_p1_types.specs.Request.{Request, Reply, Direct}
use Rattle.wasi_p1_types.specs.CallResult.{give}
use Rattle.wasi_p1_model.specs.Calls.{fd_pread, fd_pwrite, fd_read, fd_write, read_from, write_to, descriptors_named, stem_in}
use Rattle.wasi_p1_types.specs.Services.{written}
use Rattle.wasi_p1_types.specs.Spending.{growing}
use Rattle.wasi_p1_model.specs.Validity.{AreBytes, HasBytes}
use Rattle.wasi_p1_model.proofs.Bytes.{put_bytes, range_bytes, input_bytes, written_stock}
use Rattle.wasi_p1_model.proofs.Changing.{file_is, read_place_is, source_is, sink_is, put_back, put_nothing}
use Rattle.wasi_p1_model.proofs.Keeping.{no_write}
use Rattle.wasi_p1_model.proofs.LocalCalls.{StaysNear, given_by, leaves}
use Rattle.wasi_p1_model.proofs.Locality.SpecParts.{AlwaysNear, SpecNear, then, then_at_buffer, file_asked, one_under, permitted_by, answers_near}
use Rattle.wasi_p1_model.proofs.Locality.Spending.{growing_near}
use Rattle.wasi_p1_model.proofs.Putting.{PutsInto, call_puts, request_puts}
use Rattle.wasi_p1_types.proofs.Wanting.{file_never, read_place_never, source_never, sink_never, input_never, write_never}
use Rattle.wasi_p1_types.specs.declared.usage.FileUse.TheVariants.{WriteAt}

pub fd_pread_near : {g : Guest} {fd iovs n offset : ℕ} → SpecNear g (calls.FdPread fd iovs n offset)
unfolding fd_pread
fd_pread_near {g} {fd} {offset = offset} =
    then_at_buffer g _ _ (read_place_never g.slots g.table_max (slice_get g.slots fd)) (λ f is buffer _ _.
    file_asked {r = Direct (Pread (held_by f) offset (min buffer.buf_len 65536))} fd refl
    (read_place_is g.slots g.table_max _ is) refl (λ _. put_nothing g) (λ _ _. tt) (λ _. leaves refl) (λ _. tt)
    (λ are bytes read. (put_bytes g.memory bytes buffer.buf are.0 read, are.1)))

-- a piece goes into a file, where that is permitted
piece_near : {g : Guest} {call : Call} {f : OpenFile} {piece : List ℕ} {r : Request}
    {shown : Reply r → Value × Guest} (fd : ℕ)
    → descriptors_named g.memory call ≡ fd ∷ [] → slice_get g.slots fd ≡ Some (file f) → PutsInto f.modes.append (held_by f) piece r
    → (HasBytes g → AreBytes piece)
    → ((reply : Reply r) → StaysNear g (stem_in call) (given_by r reply) (shown reply))
    → ((reply : Reply r) → HasBytes g → HasBytes (shown reply).1)
    → AlwaysNear g call (free (may_write f.perms)
    >>= (λ _. growing (allowance g.holdings f.open_mode) (ask r (λ reply. give (shown reply)))))
piece_near {g} {call} {f} {shown = shown} fd named is puts bytes slots still = then (may_write f.perms) (write_never f.perms) (λ _ may.
    growing_near (allowance g.holdings f.open_mode) (file_asked {next = λ reply. give (shown reply)} fd named is puts.starts slots (λ _ _. tt)
    (λ t. permitted_by (one_under g call fd named (ap perms_in is)) (λ perms. absurd (no_write f.perms may perms))
    (λ perms all. puts.adds t (all fd f is perms)))
    (λ are. puts.asked (bytes are)) (λ are reply _. still reply are)))

pub fd_pwrite_near : {g : Guest} {fd iovs n offset : ℕ} → SpecNear g (calls.FdPwrite fd iovs n offset)
unfolding fd_pwrite
fd_pwrite_near {g} {fd} {offset = offset} =
    then_at_buffer g _ _ (file_never WriteAt (slice_get g.slots fd)) (λ f is buffer piece at. piece_near fd refl
    (file_is WriteAt _ is) (call_puts f.modes.append (held_by f) offset piece)
    (λ are. range_bytes g.memory buffer.buf buffer.buf_len are.0 at) (λ _. put_nothing g) (λ _ are. are))

-- what is read
reads_near : (g : Guest) (fd iovs n : ℕ) (source : ReadTarget) (buffer : Iovec) → read_target_in (slice_get g.slots fd) ≡ Ok source
    → AlwaysNear g (calls.FdRead fd iovs n) (read_from g fd source buffer)
reads_near g fd iovs n input buffer is =
    then _ (input_never g.memory g.holdings buffer) (λ read taken. answers_near (Number read.0) read.1.0 read.1.1 refl
    (λ are. input_bytes g.memory g.holdings buffer taken are.0 are.1))
reads_near g fd iovs n (from f) buffer is =
    let named = source_is (slice_get g.slots fd) is in
    file_asked {r = Direct (Pread (held_by f) f.position buffer.buf_len)} fd refl named refl
    (λ bytes. put_back g fd (f.position + length bytes) f.modes [] named (λ _ appends. appends)) (λ _ _. tt)
    (λ _. leaves refl) (λ _. tt)
    (λ are bytes read. (put_bytes g.memory bytes buffer.buf are.0 read, are.1))

pub fd_read_near : {g : Guest} {fd iovs n : ℕ} → SpecNear g (calls.FdRead fd iovs n)
unfolding fd_read
fd_read_near {g} {fd} {iovs} {n} =
    then_at_buffer g _ _ (source_never _) (λ source is buffer _ _. reads_near g fd iovs n source buffer is)

-- what is written
writes_near : (g : Guest) (fd iovs n : ℕ) (sink : WriteTarget) (piece : List ℕ) → write_target_in (slice_get g.slots fd) ≡ Ok sink
    → (HasBytes g → AreBytes piece) → AlwaysNear g (calls.FdWrite fd iovs n) (write_to g fd sink piece)
writes_near g fd iovs n (output o) piece is bytes =
    answers_near (Number (length piece)) g.memory (written g.holdings o piece) refl
    (λ are. (are.0, written_stock g.holdings o piece are.1))
writes_near g fd iovs n (into f) piece is bytes = let named = sink_is (slice_get g.slots fd) is in
    piece_near fd refl named (request_puts f.modes.append (held_by f) f.position piece) bytes
    (λ reply. put_back g fd _ f.modes _ named (λ _ appends. appends)) (λ _ are. are)

pub fd_write_near : {g : Guest} {fd iovs n : ℕ} → SpecNear g (calls.FdWrite fd iovs n)
unfolding fd_write
fd_write_near {g} {fd} {iovs} {n} = then_at_buffer g _ _ (sink_never _) (λ sink is buffer piece at.
    writes_near g fd iovs n sink piece is (λ are. range_bytes g.memory buffer.buf buffer.buf_len are.0 at))
