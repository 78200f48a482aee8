-- A byte that is written at an offset of a file is the one that is read there.
use Rattle.std.proofs.Common.{ℕ, zero, suc, ◌+◌, ◌-◌, ◌<◌, ◌≤◌, ◌≡◌, Bool, true, false, cond, List, [], ◌∷◌, ◌++◌, length, take, drop, replicate, refl, ap, sym, ◌∙◌, subst, arith, slice_get, slice_range, Option, Some, None, Ok, length-take}
use Rattle.std.specs.Prelude.{min}
use Rattle.std.specs.Option.{option_map}
use Rattle.std.proofs.lemmas.List.{length-replicate}
use Rattle.std.proofs.lemmas.Option.{slice_get_within, slice_get-get_or, slice_get-map}
use Rattle.wasi_fs.specs.OpenFlags.{includes}
use Rattle.wasi_fs.specs.OpenMode.{mode_bits}
use Rattle.wasi_host.specs.HostCall.{Pread, Pwrite}
use Rattle.wasi_host.specs.HostLaws.{IsHeld}
use Rattle.wasi_host.specs.Refusal.{refusal, can_write}
use Rattle.wasi_host.specs.Step.{other_bytes, with_piece, write_step, with_content}
use Rattle.wasi_host.specs.Tree.{Tree, Node, Content, File, Directory, Link, bytes_of, is_file, next_of, node_at}
use Rattle.wasi_host.specs.declared.open_handle.OpenHandle.{OpenHandle}
use Rattle.wasi_host.proofs.Agreeing.{unless_value}
use Rattle.wasi_host.proofs.Changes.{node_at-changed}
use Rattle.wasi_host.proofs.Refusals.{free_of}
use Rattle.wasi_guest.specs.Range.{with_bytes}
use Rattle.wasi_guest.specs.declared.answer.Value.TheVariants.{Number}
use Rattle.wasi_guest.specs.declared.answer.Value.{Value}
use Rattle.wasi_guest.proofs.Ranges.{length_part, with_whole}
use Rattle.wasi_p1_types.specs.Files.{file_in, read_place_in}
use Rattle.wasi_p1_types.specs.Front.{ask}
use Rattle.wasi_p1_types.specs.Guest.{Guest, OpenFile, State, file, file_by, guest_slot}
use Rattle.wasi_p1_types.specs.SpecParts.{range, may_write, held_by}
use Rattle.wasi_p1_model.specs.PutBytes.{file_bytes, bytes_from, PutsAt, BytesArePut, FilesAreHeld, PutBytesStand, BytesAreGot, PutBytesAreGot}
use Rattle.wasi_p1_model.specs.Putting.{count_in, put_call, put_end}
use Rattle.wasi_p1_types.specs.Quotas.{allowance, growth_to}
use Rattle.wasi_p1_types.specs.Request.{Reply, Direct, size_at}
use Rattle.wasi_p1_types.specs.CallResult.{CallResult, give}
use Rattle.wasi_p1_model.specs.Calls.{fd_pread, fd_pwrite, write_into}
use Rattle.wasi_p1_types.specs.Spending.{growing}
use Rattle.wasi_p1_model.specs.Writing.{put_growth, with_grown}
use Rattle.wasi_p1_types.specs.declared.slots.Slot.{Slot}
use Rattle.wasi_p1_types.specs.declared.slots.Slot.TheVariants as slots
use Rattle.wasi_p1_types.specs.declared.usage.FileUse.TheVariants.{WriteAt}
use Rattle.wasi_p1_model.proofs.Alike.{spec_on}
use Rattle.wasi_p1_model.proofs.Bytes.{range_is}
use Rattle.wasi_p1_model.proofs.Changing.{file_is, read_place_is}
use Rattle.wasi_p1_model.proofs.Moving.{gave_buffer, gave, replied_by}
use Rattle.wasi_p1_model.proofs.Owning.{owned_live}
use Rattle.wasi_p1_model.proofs.Spending.{answer_is, gave_growing, grew_to}

-- ---- an element of a list

pub slice_get-append_left : {A : Type 0} (xs ys : List A) (i : ℕ) → i < length xs → slice_get (xs ++ ys) i ≡ slice_get xs i
slice_get-append_left [] ys i below = absurd (omega (arith, below))
slice_get-append_left (x ∷ xs) ys zero below = refl
slice_get-append_left (x ∷ xs) ys (suc i) below = slice_get-append_left xs ys i (omega (arith, below))

pub slice_get-append_right : {A : Type 0} (xs ys : List A) (i k : ℕ) → i ≡ length xs + k
    → slice_get (xs ++ ys) i ≡ slice_get ys k
slice_get-append_right [] ys i k is = let same : i ≡ k = omega (arith, is) in ap (slice_get ys) same
slice_get-append_right (x ∷ xs) ys zero k is = absurd (omega (arith, is))
slice_get-append_right (x ∷ xs) ys (suc i) k is = slice_get-append_right xs ys i k (omega (arith, is))

pub slice_get-take : {A : Type 0} (m : ℕ) (xs : List A) (i : ℕ) → i < m → slice_get (take m xs) i ≡ slice_get xs i
slice_get-take zero xs i below = absurd (omega (arith, below))
slice_get-take (suc m) [] i below = refl
slice_get-take (suc m) (x ∷ xs) zero below = refl
slice_get-take (suc m) (x ∷ xs) (suc i) below = slice_get-take m xs i (omega (arith, below))

pub slice_get-drop : {A : Type 0} (m : ℕ) (xs : List A) (i k : ℕ) → k ≡ m + i → slice_get (drop m xs) i ≡ slice_get xs k
slice_get-drop zero xs i k is = let same : i ≡ k = omega (arith, is) in ap (slice_get xs) same
slice_get-drop (suc m) [] i k is = refl
slice_get-drop (suc m) (x ∷ xs) i zero is = absurd (omega (arith, is))
slice_get-drop (suc m) (x ∷ xs) i (suc k) is = slice_get-drop m xs i k (omega (arith, is))

pub slice_get-range : {A : Type 0} (xs : List A) (at n i : ℕ) → i < n
    → slice_get (slice_range xs at (at + n)) i ≡ slice_get xs (at + i)
slice_get-range xs at n i below =
    slice_get-take (at + n - at) (drop at xs) i (omega (arith, below)) ∙ slice_get-drop at xs i (at + i) refl

-- ---- a byte of a piece that was put

-- into bytes
slice_get-with_piece : (bytes : List ℕ) (offset : ℕ) (piece : List ℕ) (k : ℕ) → k < length piece
    → slice_get (with_piece bytes offset piece) (offset + k) ≡ slice_get piece k
unfolding with_piece
slice_get-with_piece bytes offset piece k below =
    let gap : List ℕ = replicate (offset - length bytes) 0 in
    let long = length-take offset bytes in
    let wide = length-replicate {A = ℕ} (offset - length bytes) 0 in
    slice_get-append_right (take offset bytes) _ (offset + k) (length gap + k) (omega (arith, long, wide))
    ∙ slice_get-append_right gap _ (length gap + k) k refl
    ∙ slice_get-append_left piece _ k below

-- into a memory
slice_get-with_bytes : (memory : List ℕ) (at : ℕ) (bytes : List ℕ) (j : ℕ) → at + length bytes ≤ length memory
    → j < length bytes → slice_get (with_bytes memory at bytes) (at + j) ≡ slice_get bytes j
slice_get-with_bytes memory at bytes j inside below =
    let long = length-take at memory in
    ap (λ l. slice_get l (at + j)) (with_whole memory at bytes inside)
    ∙ slice_get-append_right (take at memory) _ (at + j) j (omega (arith, long, inside))
    ∙ slice_get-append_left bytes _ j below

-- into a file
slice_get-write_step : (t : Tree) (n offset : ℕ) (piece : List ℕ) (k : ℕ) → n < next_of t
    → is_file (node_at t n).content ≡ true → k < length piece
    → slice_get (file_bytes (write_step t n offset piece) n) (offset + k) ≡ slice_get piece k
unfolding write_step
slice_get-write_step t n offset [] k within is below = absurd (omega (arith, below))
slice_get-write_step t n offset (byte ∷ bytes) k within is below =
    ap (λ (node : Node). slice_get (bytes_of node.content) (offset + k))
    (node_at-changed t n (with_content (node_at t n) put) _ within)
    ∙ by (node_at t n).content is
  where
    put : Content → Content
    put = other_bytes (λ old. with_piece old offset (byte ∷ bytes))

    by : (c : Content) → is_file c ≡ true → slice_get (bytes_of (put c)) (offset + k) ≡ slice_get (byte ∷ bytes) k
    by (File old links) is = slice_get-with_piece old offset (byte ∷ bytes) k below
    by (Directory names gone) is = absurd (cc)
    by (Link text links) is = absurd (cc)

-- ---- the calls

-- what was written to was opened for it
opened_for : (t : Tree) (held : OpenHandle) (offset : ℕ) (piece : List ℕ) → refusal t (Pwrite held offset piece) ≡ None
    → can_write held.mode ≡ true
unfolding refusal
opened_for t held offset piece none = grind arith

-- a piece is put whole, the growth is counted, and nothing else changes
record Puts (s s' : State) (f : OpenFile) (offset : ℕ) (piece : List ℕ) (x : Value) : Type 0 where
  may : can_write f.mode ≡ true
  answer : x ≡ Number (length piece)
  after : s' ≡ record {
    tree = write_step s.tree f.node offset piece;
    guest = with_grown (put_growth s.tree f offset piece) s.guest;
  }

puts : (s s' : State) (f : OpenFile) (offset : ℕ) (piece : List ℕ) (left : ℕ) (x : Value) → f.modes.append ≡ false
    → spec_on s.tree (write_into s.guest f offset piece left).0 ≡ Ok (x, s') → Puts s s' f offset piece x
puts s s' f offset piece left x other is =
    let (u, permitted, rest) = gave s.tree (may_write f.perms) _ left is in by f.modes.append other rest
  where
    counted : Bool → Guest
    counted append =
        with_grown (cond (includes (mode_bits f.open_mode) 2) (growth_to (size_at s.tree f.node) (put_end append offset piece)) 0) s.guest

    next : (b : Bool) → Reply (Direct (put_call b (held_by f) offset piece)) → CallResult (Value × Guest)
    next b answer = give (Number (count_in b (held_by f) offset piece answer), s.guest)

    by : (b : Bool) → b ≡ false
        → spec_on s.tree (growing (allowance s.guest.holdings f.open_mode)
        (ask (Direct (put_call b (held_by f) offset piece)) (next b)) left).0 ≡ Ok (x, s')
        → Puts s s' f offset piece x
    by true at is = absurd (cc)
    by false at is =
        let grew = gave_growing s.tree (allowance s.guest.holdings f.open_mode)
        (Direct (Pwrite (held_by f) offset piece)) (next false) left is in
        let whole : grew.within.reply ≡ length piece = sym (unless_value _ grew.within.is) in
        let gives = answer_is grew.within.gives in
        let guest = grew_to s.guest f.open_mode grew gives.1 ∙ ap counted (sym other) in
        record {
          may = opened_for s.tree (held_by f) offset piece (free_of s.tree (Pwrite (held_by f) offset piece) grew.within.is);
          answer = gives.0 ∙ ap (λ m. Number m) whole;
          after = λ i. record { tree = grew.within.tree i; guest = guest i };
        }

pub bytes_are_put : BytesArePut
unfolding fd_pwrite
bytes_are_put s s' fuel fd iovs n offset x f named other is =
    let (buffer, left, found, one) = gave_buffer s.tree s.guest.memory iovs n _ fuel is in
    let (g, wanted, two) = gave s.tree (file_in WriteAt (slice_get s.guest.slots fd)) _ left one in
    let (piece, ranged, three) = gave s.tree (range s.guest.memory buffer.buf buffer.buf_len) _ left two in
    let at = file_is WriteAt _ wanted in
    let same : g ≡ f = (cc) in
    let put = puts s s' g offset piece left x (ap (λ (h : OpenFile). h.modes.append) same ∙ other) three in
    let part = range_is s.guest.memory buffer.buf buffer.buf_len ranged in
    subst (λ (h : OpenFile). PutsAt s s' h iovs n offset x) same (record {
      buffer = buffer;
      first = found;
      inside = part.inside;
      may = put.may;
      answer = put.answer ∙ ap (λ m. Number m) part.long;
      after = put.after ∙ ap (λ l. record {
        tree = write_step s.tree g.node offset l;
        guest = with_grown (put_growth s.tree g offset l) s.guest;
      }) part.bytes_are;
    })

pub files_are_held : FilesAreHeld
files_are_held w live table fd f all owned at =
    by (slice_get table fd) refl (sym (slice_get-map (guest_slot w.held) table fd) ∙ at)
  where
    by : (o : Option Slot) → slice_get table fd ≡ o → option_map (guest_slot w.held) o ≡ Some (file f)
        → IsHeld w.tree (held_by f)
    by (Some (slots.File s)) found is =
        let same : file_by (w.held s.file.file) s ≡ f = (cc) in
        subst (λ (h : OpenFile). IsHeld w.tree (held_by h)) same
        (all.each s.file.file (owned_live table fd owned found refl))
    by (Some (slots.Directory d)) found is = absurd (cc)
    by (Some (slots.Stream s)) found is = absurd (cc)
    by (Some slots.Closed) found is = absurd (cc)
    by None found is = absurd (cc)

pub put_bytes_stand : PutBytesStand
put_bytes_stand s s' f iovs n offset x put held k below =
    let memory = s.guest.memory in
    let bytes = slice_range memory put.buffer.buf (put.buffer.buf + put.buffer.buf_len) in
    let long : length bytes ≡ put.buffer.buf_len = length_part memory put.buffer.buf put.buffer.buf_len put.inside in
    ap (λ (t : State). slice_get (file_bytes t.tree f.node) (offset + k)) put.after
    ∙ slice_get-write_step s.tree f.node offset bytes k held.within (held.writes_file put.may) (omega (arith, long, below))
    ∙ slice_get-range memory put.buffer.buf put.buffer.buf_len k below

pub bytes_are_got : BytesAreGot
unfolding fd_pread
bytes_are_got s s' fuel fd iovs n offset x f named is =
    let (buffer, left, found, one) = gave_buffer s.tree s.guest.memory iovs n _ fuel is in
    let (g, placed, two) =
    gave s.tree (read_place_in s.guest.slots s.guest.table_max (slice_get s.guest.slots fd)) _ left one in
    let (bytes, ranged, three) = gave s.tree (range s.guest.memory buffer.buf buffer.buf_len) _ left two in
    let did = replied_by s.tree (Direct (Pread (held_by g) offset (min buffer.buf_len 65536))) _ three in
    let at = read_place_is s.guest.slots s.guest.table_max _ placed in
    let same : g ≡ f = (cc) in
    let read : did.reply ≡ bytes_from s.tree f.node offset buffer.buf_len =
    sym (unless_value _ did.is) ∙ ap (λ (h : OpenFile). bytes_from s.tree h.node offset buffer.buf_len) same in
    let gives = answer_is did.gives in
    let part = range_is s.guest.memory buffer.buf buffer.buf_len ranged in
    record {
      buffer = buffer;
      first = found;
      inside = part.inside;
      answer = gives.0 ∙ ap (λ l. Number (length l)) read;
      after = (λ i. record { tree = did.tree i; guest = gives.1 i })
          ∙ ap (λ l. record s { guest = record s.guest { memory = with_bytes s.guest.memory buffer.buf l } }) read;
    }

pub put_bytes_are_got : PutBytesAreGot
put_bytes_are_got s s' t t' f g iovs n offset iovs' n' offset' x y put got held node k j here there place still =
    let bytes = bytes_from t.tree g.node offset' got.buffer.buf_len in
    let stands = put_bytes_stand s s' f iovs n offset x put held k here in
    let read : slice_get bytes j ≡ slice_get s.guest.memory (put.buffer.buf + k) =
    slice_get-take (min got.buffer.buf_len 65536) (drop offset' (file_bytes t.tree g.node)) j there
    ∙ slice_get-drop offset' (file_bytes t.tree g.node) j (offset' + j) refl
    ∙ (λ i. slice_get (file_bytes t.tree (node i)) (place i))
    ∙ still ∙ stands in
    let written = slice_get-get_or s.guest.memory (put.buffer.buf + k) 0 (omega (arith, put.inside, here)) in
    let below : j < length bytes = slice_get_within bytes j _ (read ∙ written) in
    let long = length-take (min got.buffer.buf_len 65536) (drop offset' (file_bytes t.tree g.node)) in
    ap (λ (u : State). slice_get u.guest.memory (got.buffer.buf + j)) got.after
    ∙ slice_get-with_bytes t.guest.memory got.buffer.buf bytes j (omega (arith, long, got.inside)) below
    ∙ read
