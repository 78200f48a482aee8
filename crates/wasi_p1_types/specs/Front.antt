-- The front of a specification: refusals in order, some of which take fuel.
use Rattle.std.specs.Prelude.{ℕ, ◌-◌, ◌*◌, nat_le, List, slice_get, if◌then◌else◌, Option, Some, None, Ok, Err}
use Rattle.wasi_host.specs.declared.errors.ErrorCode.{ErrorCode}
use Rattle.wasi_guest.specs.Iovec.{first_buffer}
use Rattle.wasi_guest.specs.Records.{text_in}
use Rattle.wasi_guest.specs.declared.answer.Value.{Value}
use Rattle.wasi_guest.specs.declared.answer.Value.TheVariants.{Unit as Nothing}
use Rattle.wasi_guest.specs.declared.call.Call.{Call}
use Rattle.wasi_guest.specs.declared.errno.Errno.TheVariants as errnos
use Rattle.wasi_guest.specs.declared.iovec.Iovec.{Iovec}
use Rattle.wasi_p1_types.specs.Guest.{Guest}
use Rattle.wasi_p1_types.specs.SpecParts.{OpenNode, from_guest, permit, range, start_in}
use Rattle.wasi_p1_types.specs.Request.{Request, Reply}
use Rattle.wasi_p1_types.specs.CallResult.{CallResult, give, Program, done, asking, made_of_reply}
use Rattle.wasi_p1_types.specs.declared.error.P1Error.TheVariants.{Errno}

-- a call, and the fuel that it may take
pub record FueledCall : Type 0 where
  pub call : Call
  pub fuel : ℕ

abbrev pub with_fuel : ℕ → Call → FueledCall
with_fuel fuel call = record { call = call; fuel = fuel }

-- from the fuel that there is: what is given, or the first refusal, and the fuel that is left then
abbrev pub Front : Type 0 → Type 0
Front A = ℕ → CallResult A × ℕ

abbrev pub onward : {A B : Type 0} → CallResult A → ℕ → (A → Front B) → CallResult B × ℕ
onward (Ok x) fuel next = next x fuel
onward (Err e) fuel next = (Err e, fuel)

infixl 10 ◌>>=◌
abbrev pub ◌>>=◌ : {A B : Type 0} → Front A → (A → Front B) → Front B
part >>= next = λ fuel. onward (part fuel).0 (part fuel).1 next

-- a part that takes no fuel
abbrev pub free : {A : Type 0} → CallResult A → Front A
free part = λ fuel. (part, fuel)

-- that of a call: it ends in an answer and the guest after it, or in a request
abbrev pub CallFront : Type 0
CallFront = Front (Program (Value × Guest))

-- so much fuel is taken; where there is less, the call is refused `nomem`
unfoldable pub charge : ℕ → Front (Unit {0})
charge n = λ fuel. if nat_le n fuel then (Ok tt, fuel - n) else (Err (Errno errnos.Nomem), fuel)

-- the end of a specification that needs no tree
abbrev pub answer : {A : Type 0} → A → Front (Program A)
answer x = free (give (done x))

-- the end of a specification that asks the tree
abbrev pub ask : {A : Type 0} → (r : Request) → (Reply r → CallResult A) → Front (Program A)
ask r next = free (give (asking r next))

-- the end of a specification that asks the tree only where something isn't known of which the answer is made
abbrev pub known_or_asked : {A B : Type 0} → Option B → (B → CallResult A) → (r : Request) → (Reply r → CallResult A)
    → (A → Value × Guest) → CallFront
known_or_asked (Some known) part r next shown = do
  x ← free (part known)
  answer (shown x)
known_or_asked None part r next shown = ask r (made_of_reply r next shown)

-- the text in a range of memory, which is charged by its length
unfoldable pub charged_text : List ℕ → ℕ → ℕ → Front (List ℕ)
charged_text memory at n = do
  _ ← charge n
  free (from_guest (text_in memory at n))

-- the first buffer that has bytes, of so many records at an address; where none has any, an empty one at 0. The records
-- are charged by their length, before they are read, and then the buffer
unfoldable pub charged_buffer : List ℕ → ℕ → ℕ → Front Iovec
charged_buffer memory iovs n = do
  _ ← charge (8 * n)
  buffer ← free (from_guest (first_buffer memory iovs n))
  _ ← charge buffer.buf_len
  free (give buffer)

-- ---- what the fronts of calls share

-- A path from the directory of a number: a number that isn't a directory's is refused; then a text of more bytes than
-- the fuel, `nomem`; a range that leaves the memory traps; bytes that aren't a text are refused `ilseq`
abbrev pub at_path : Guest → ℕ → ℕ → ℕ → (OpenNode → List ℕ → CallFront) → CallFront
at_path g fd path len next = do
  d ← free (start_in (slice_get g.slots fd))
  text ← charged_text g.memory path len
  next d text

-- A buffer, and what a number stands for: records of more bytes than the fuel are refused `nomem`; one that isn't
-- aligned or leaves the memory traps; a buffer of more bytes than the fuel that is left is refused `nomem`; then the
-- number, where it doesn't stand for such a thing; then a buffer that leaves the memory traps
abbrev pub at_buffer : {A : Type 0} → Guest → CallResult A → ℕ → ℕ → (A → Iovec → List ℕ → CallFront) → CallFront
at_buffer g named iovs n next = do
  buffer ← charged_buffer g.memory iovs n
  what ← free named
  bytes ← free (range g.memory buffer.buf buffer.buf_len)
  next what buffer bytes

-- the end of a specification that changes nothing: the answer is made of what a part gives
abbrev pub tells : {A : Type 0} → Guest → CallResult A → (A → Value) → CallFront
tells g part shown = do
  x ← free part
  answer (shown x, g)

-- The end of a specification that answers nothing but that it was done: what isn't permitted is refused, and then as
-- the request is
abbrev pub done_if : Option ErrorCode → Request → Guest → CallFront
done_if own r g = do
  _ ← free (permit own)
  ask r (λ _. give (Nothing, g))
