-- A handle and a box's parts own what a box at the same types owns.
use mir.Syntax.{impl, tnil, dnil}
use mathlib.Core.List.{[]}
use denote.Signature.{Slot, plain}
use Rattle.std.proofs.BoxSteps.Form.{Bx}
use Rattle.std.specs.contracts.alloc.Global as Heap
use Rattle.std.specs.contracts.impls.GlobalAllocator.TheImpl.{ghosts, dict}
use Rattle.std.proofs.alloc.Global.TheLaws as heap
use Rattle.wasi_sandbox.specs.contracts.any.AnySandbox as Inner
use Rattle.wasi_sandbox.proofs.any.AnySandbox.TheLaws as inner
use Rattle.wasi_c.specs.contracts.boxed.Parts as Parts
use Rattle.wasi_c.specs.contracts.handle.SandboxHandle as Handle

abbrev pub E : Bx
E = record { row = Inner.the_row; laws = inner.the_row_laws; al = record { row = Heap.the_row; laws = heap.the_row_laws; g = ghosts; d = dict; drops = impl [] tnil dnil } }

abbrev pub FromParts : Slot 0
FromParts = plain (λ _. Parts.the_row Inner.the_row Heap.the_row ghosts)

abbrev pub FromHandle : Slot 0
FromHandle = plain (λ _. Handle.the_row)
