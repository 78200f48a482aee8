-- What a handle owns: the block of its sandbox, which isn't at null, or the tree that stays; where it has none it is null,
-- and owns nothing.
use Rattle.std.specs.Prelude.{[], Option, Some, None}
use Rattle.std.specs.Coded.{coded_option}
use base.Fml.{Fml, feq, ffalse}
use base.Stored.{Coded}
use denote.Memory.{hidden_shr}
use denote.RawPtr.{Ptr, block_ptr, null_ptr}
use Rattle.std.specs.Box.Ownership.{box_owns}
use Rattle.std.specs.Global.{Global}
use Rattle.std.specs.contracts.impls.GlobalAllocator.TheImpl.{ghosts}
use Rattle.wasi_sandbox.specs.contracts.any.AnySandbox.{the_row}
use Rattle.wasi_sandbox.specs.contracts.base.Base as Inner

-- what a sandbox's handle is worth
abbrev pub Held : Type 0
Held = Option the_row.Denot

abbrev pub held_coded : Coded Held
held_coded = coded_option the_row.coded

abbrev pub owned_by : Global → Ptr → Held → Fml
owned_by alloc p None = feq Ptr p null_ptr
owned_by alloc p (Some x) = box_owns (ghosts.dealloc_token alloc) the_row p x

-- what a base's handle is worth
abbrev pub HeldBase : Type 0
HeldBase = Option Inner.the_row.Denot

abbrev pub base_coded : Coded HeldBase
base_coded = coded_option Inner.the_row.coded

-- what a `&'static` to the tree at the pointer holds: the tree stays for as long as the program runs
abbrev pub lent_by : Ptr → HeldBase → Fml
lent_by p None = feq Ptr p null_ptr
lent_by (block_ptr b o) (Some x) = hidden_shr Inner.the_row [] x b o
lent_by null_ptr (Some x) = ffalse
