-- What an answered write did.
use Rattle.std.proofs.Common.{ℕ, ◌≡◌, ◌+◌, Bool, true, false, cond, refl, ap, sym, ◌∙◌, List, length, slice_get, Ok}
use Rattle.wasi_fs.specs.OpenFlags.{includes}
use Rattle.wasi_fs.specs.OpenMode.{mode_bits}
use Rattle.wasi_host.specs.Answer.{metadata_of, size_of}
use Rattle.wasi_host.specs.Step.{write_step}
use Rattle.wasi_host.specs.Tree.{Tree, bytes_of, node_at}
use Rattle.wasi_host.specs.declared.metadata.Metadata.{Metadata}
use Rattle.wasi_host.specs.HostCall.{Pwrite}
use Rattle.wasi_guest.specs.declared.answer.Value.{Value}
use Rattle.wasi_guest.specs.declared.answer.Value.TheVariants.{Number}
use Rattle.wasi_guest.specs.declared.iovec.Iovec.{Iovec}
use Rattle.wasi_p1_types.specs.Guest.{Guest, State}
use Rattle.wasi_p1_model.specs.Putting.{put_answer, put_end, put_in, put_request}
use Rattle.wasi_p1_types.specs.Quotas.{allowance, growth_to}
use Rattle.wasi_p1_types.specs.Request.{Reply, Direct, Behind, size_at}
use Rattle.wasi_p1_types.specs.CallResult.{CallResult, done, give}
use Rattle.wasi_p1_types.specs.SpecParts.{WriteTarget, output, into, write_target_in, range, may_write, held_by, at_position, with_file}
use Rattle.wasi_p1_types.specs.Front.{ask, charged_buffer}
use Rattle.wasi_p1_model.specs.Calls.{fd_write, write_to}
use Rattle.wasi_p1_types.specs.Spending.{growing}
use Rattle.wasi_p1_model.specs.Writing.{WritesWhole, with_grown, written_to}
use Rattle.wasi_p1_types.specs.declared.guest_env.Output.{Output}
use Rattle.wasi_host.proofs.Agreeing.{unless_value}
use Rattle.wasi_p1_model.proofs.Alike.{spec_on}
use Rattle.wasi_p1_model.proofs.Appending.{behind_reply}
use Rattle.wasi_p1_model.proofs.Bytes.{range_is}
use Rattle.wasi_p1_model.proofs.Moving.{gave_buffer, gave}
use Rattle.wasi_p1_model.proofs.Spending.{answer_is, gave_growing, grew_to}

-- a specification's answer is the answer and the state after it
pub state_is : {t : Tree} {x y : Value} {g : Guest} {s' : State}
    → spec_on t (Ok (done (y, g))) ≡ Ok (x, s') → (x ≡ y) × (s' ≡ record { tree = t; guest = g })
state_is {t} {x} {y} {g} {s'} is =
    let same : ◌≡◌ {A = Value × State} (y, record { tree = t; guest = g }) (x, s') = (cc) in
    (ap (λ (p : Value × State). p.0) (sym same), ap (λ (p : Value × State). p.1) (sym same))

-- what is told of a file is its size
told_size : (t : Tree) (n : ℕ) → (metadata_of t n).size ≡ size_of (node_at t n).content
unfolding metadata_of
told_size t n = refl

pub writes_whole : (s s' : State) (fuel fd iovs n : ℕ) (x : Value)
    → spec_on s.tree (fd_write s.guest fd iovs n fuel).0 ≡ Ok (x, s') → WritesWhole s s' fd iovs n x
unfolding fd_write
writes_whole s s' fuel fd iovs n x is =
    let (buffer, left, found, one) = gave_buffer s.tree s.guest.memory iovs n _ fuel is in
    let (sink, named, two) = gave s.tree (write_target_in (slice_get s.guest.slots fd)) _ left one in
    let (piece, inside, three) = gave s.tree (range s.guest.memory buffer.buf buffer.buf_len) _ left two in
    let part = range_is s.guest.memory buffer.buf buffer.buf_len inside in
    let put = puts buffer left piece part.long sink three in record {
      buffer = buffer;
      first = found;
      sink = sink;
      named = named;
      answer = put.0;
      after = put.1 ∙ ap (λ l. written_to s fd l sink) part.bytes_are;
    }
  where
    puts : (buffer : Iovec) (left : ℕ) (piece : List ℕ) → length piece ≡ buffer.buf_len → (sink : WriteTarget)
        → spec_on s.tree (write_to s.guest fd sink piece left).0 ≡ Ok (x, s')
        → (x ≡ Number buffer.buf_len) × (s' ≡ written_to s fd piece sink)
    puts buffer left piece long (output o) is =
        let (answered, after) = state_is is in (answered ∙ ap (λ k. Number k) long, after)
    puts buffer left piece long (into f) is =
        let (may, allowed, four) = gave s.tree (may_write f.perms) _ left is in
        by f.modes.append refl four
      where
        answers : {count : ℕ} → x ≡ Number count → count ≡ length piece → x ≡ Number buffer.buf_len
        answers given whole = given ∙ ap (λ k. Number k) (whole ∙ long)

        after : Bool → State
        after b =
            let put = write_step s.tree f.node (cond b (length (bytes_of (node_at s.tree f.node).content)) f.position) piece in
            record {
              tree = put;
              guest = with_grown (cond (includes (mode_bits f.open_mode) 2) (growth_to (size_at s.tree f.node) (put_end b f.position piece)) 0)
                  (with_file s.guest fd
                  (at_position f (cond b (size_of (node_at put f.node).content) (f.position + length piece))));
            }

        moved : ℕ → Guest
        moved position = with_file s.guest fd (at_position f position)

        next : (b : Bool) → Reply (put_request b (held_by f) f.position piece) → CallResult (Value × Guest)
        next b reply = give (put_answer s.guest fd f (put_in b (held_by f) f.position piece reply))

        by : (b : Bool) → f.modes.append ≡ b
            → spec_on s.tree (growing (allowance s.guest.holdings f.open_mode) (ask (put_request b (held_by f) f.position piece) (next b)) left).0 ≡ Ok (x, s')
            → (x ≡ Number buffer.buf_len) × (s' ≡ written_to s fd piece (into f))
        by true at is =
            let grew = gave_growing s.tree (allowance s.guest.holdings f.open_mode) (Behind (held_by f) piece) (next true) left is in
            let put = behind_reply s.tree (held_by f) piece grew.within.is in
            let gives = answer_is grew.within.gives in
            let size = ap (λ (p : ℕ × Metadata). p.1.size) put ∙ told_size _ f.node in
            let guest = grew_to (moved _) f.open_mode grew (gives.1 ∙ ap moved size) in (
              answers gives.0 (ap (λ (p : ℕ × Metadata). p.0) put),
              (λ i. record { tree = grew.within.tree i; guest = guest i }) ∙ ap after (sym at),
            )
        by false at is =
            let grew = gave_growing s.tree (allowance s.guest.holdings f.open_mode)
            (Direct (Pwrite (held_by f) f.position piece)) (next false) left is in
            let whole : grew.within.reply ≡ length piece = sym (unless_value _ grew.within.is) in
            let gives = answer_is grew.within.gives in
            let guest = grew_to (moved _) f.open_mode grew (gives.1 ∙ ap (λ k. moved (f.position + k)) whole) in (
              answers gives.0 whole,
              (λ i. record { tree = grew.within.tree i; guest = guest i }) ∙ ap after (sym at),
            )

-- and what is written to an output is put so
pub output_whole : (s : State) (fuel fd iovs n : ℕ) {left : ℕ} {buffer : Iovec} {o : Output} {piece : List ℕ}
    → (Ok buffer, left) ≡ charged_buffer s.guest.memory iovs n fuel → Ok (output o) ≡ write_target_in (slice_get s.guest.slots fd)
    → Ok piece ≡ range s.guest.memory buffer.buf buffer.buf_len
    → WritesWhole s (written_to s fd piece (output o)) fd iovs n (Number (length piece))
unfolding fd_write
output_whole s fuel fd iovs n found within inside =
    writes_whole s _ fuel fd iovs n _ (rw (← found, ← within, ← inside) refl)
