-- The ends of specifications: what is made of what a part gives, as an answer and the guest after it.
use Rattle.std.proofs.Common.{ℕ, ◌+◌, List, Option}
use Rattle.wasi_guest.specs.declared.answer.Value.{Value}
use Rattle.wasi_guest.specs.declared.answer.Value.TheVariants.{Number, Unit as Nothing, Fdstat as Described, Filestat as RefinesCall}
use Rattle.wasi_guest.specs.declared.fdstat.Fdstat.{Fdstat}
use Rattle.wasi_guest.specs.declared.filestat.Filestat.{Filestat}
use Rattle.wasi_host.specs.declared.errors.ErrorCode.{ErrorCode}
use Rattle.wasi_p1_types.specs.Front.{CallFront, free, ask, ◌>>=◌}
use Rattle.wasi_p1_types.specs.Guest.{Guest, GuestSlot, OpenFile}
use Rattle.wasi_p1_types.specs.Files.{sought}
use Rattle.wasi_p1_types.specs.SpecParts.{permit, at_position, with_file}
use Rattle.wasi_p1_types.specs.Request.{Request, Reply}
use Rattle.wasi_p1_model.specs.Putting.{put_answer}
use Rattle.wasi_p1_types.specs.CallResult.{CallResult, made_of_reply}
use Rattle.wasi_p1_types.specs.declared.usage.Put.{Put}

-- of a specification that asks for what has to be permitted
abbrev pub tail : {A : Type 0} → Option ErrorCode → (r : Request) → (Reply r → CallResult A) → (Guest → A → Value × Guest)
    → Guest → CallFront
tail own r next shown g = free (permit own) >>= (λ _. ask r (made_of_reply r next (shown g)))

-- nothing is answered but that it was done
abbrev pub with_nothing : Guest → Unit {0} → Value × Guest
with_nothing g done = (Nothing, g)

-- a number beside the descriptors after it
abbrev pub with_slots : Guest → ℕ × List GuestSlot → Value × Guest
with_slots g p = (Number p.0, record g { slots = p.1 })

-- a number beside the memory after it
abbrev pub with_text : Guest → ℕ × List ℕ → Value × Guest
with_text g p = (Number p.0, record g { memory = p.1 })

-- and the file's position is after what was read
abbrev pub with_memory : ℕ → OpenFile → Guest → ℕ × List ℕ → Value × Guest
with_memory fd f g p = (Number p.0, record (with_file g fd (at_position f (f.position + p.0))) { memory = p.1 })

-- a number alone
abbrev pub with_number : Guest → ℕ → Value × Guest
with_number g count = (Number count, g)

-- and the file's position is where a piece was put
abbrev pub with_position : ℕ → OpenFile → Guest → Put → Value × Guest
with_position fd f g put = put_answer g fd f put

-- and is the number
abbrev pub with_sought : ℕ → OpenFile → Guest → ℕ → Value × Guest
with_sought fd f g position = sought g fd f position

-- a record of a node
abbrev pub with_filestat : Guest → Filestat → Value × Guest
with_filestat g stat = (RefinesCall stat, g)

-- one of a descriptor
abbrev pub with_fdstat : Guest → Fdstat → Value × Guest
with_fdstat g stat = (Described stat, g)
