-- What holds of the specifications of the calls that need no tree.
use Rattle.std.proofs.Common.{ℕ, ◌≡◌, List, refl, slice_get}
use Rattle.std.specs.Prelude.{All}
use Rattle.wasi_guest.specs.declared.answer.Value.TheVariants.{Unit as Nothing}
use Rattle.wasi_guest.specs.declared.call.Call.{Call}
use Rattle.wasi_guest.specs.declared.call.Call.TheVariants as calls
use Rattle.wasi_p1_types.specs.Guest.{Guest}
use Rattle.wasi_p1_types.specs.CallResult.{CallResult}
use Rattle.wasi_p1_model.specs.Calls.{puts_texts, random_get, no_socket, itself, stem_in}
use Rattle.wasi_p1_types.specs.Services.{random_bytes, random_taken}
use Rattle.wasi_p1_model.specs.Validity.{AreBytes, HasBytes}
use Rattle.wasi_p1_model.proofs.Bytes.{put_bytes, put_texts_bytes, random_are, taken_stock}
use Rattle.wasi_p1_model.proofs.Locality.SpecParts.{AlwaysNear, SpecNear, then, answers_near}
use Rattle.wasi_p1_types.proofs.Wanting.{Never, range_never, live_never, texts_never}

-- texts that are put into memory
pub texts_near : {g : Guest} {call : Call} (texts : List (List ℕ)) (at buf : ℕ) → stem_in call ≡ itself
    → (HasBytes g → All AreBytes texts) → AlwaysNear g call (puts_texts g texts at buf)
texts_near {g} texts at buf stems bytes = then _ (texts_never g.memory texts at buf) (λ memory put.
    answers_near Nothing memory g.holdings stems
    (λ are. (put_texts_bytes g.memory texts at buf put are.0 (bytes are), are.1)))

pub random_get_near : {g : Guest} {buf buf_len : ℕ} → SpecNear g (calls.RandomGet buf buf_len)
unfolding random_get
random_get_near {g} {buf} {buf_len} = then _ (range_never g.memory buf buf_len) (λ _ _.
    answers_near Nothing _ (random_taken g.holdings buf_len) refl (λ are. (
      put_bytes g.memory (random_bytes g.holdings buf_len) buf are.0 (random_are g.holdings buf_len are.1),
      taken_stock g.holdings buf_len are.1,
    )))

-- no number is a socket's
pub no_socket_near : {g : Guest} {call : Call} (fd : ℕ) (flags : CallResult ℕ) → Never flags
    → AlwaysNear g call (no_socket g fd flags)
no_socket_near {g} fd flags never =
    then flags never (λ _ _. then _ (live_never (slice_get g.slots fd)) (λ _ _. record { near = λ fuel. refl }))
