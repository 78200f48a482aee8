-- What holds of the parts of specifications, and of the ends that they share.
use Rattle.std.proofs.Common.{ℕ, ◌≡◌, ◌-◌, ◌*◌, nat_le, Bool, true, false, cond, List, [], ◌∷◌, refl, ap, sym, ◌∙◌, subst, slice_get, Option, Some, None, Ok, Err}
use Rattle.std.specs.Prelude.{Contains, IfSome, IsUtf8}
use Rattle.wasi_fs.specs.declared.perms.FsPerms.{FsPerms}
use Rattle.wasi_fs.specs.Calls.{may_do}
use Rattle.wasi_fs.specs.declared.perms.Act.TheVariants.{Alter}
use Rattle.wasi_fs.specs.declared.perms.FsPerms.TheVariants.{ReadOnly, AppendOnly, ReadWrite}
use Rattle.wasi_guest.specs.Iovec.{first_buffer}
use Rattle.wasi_guest.specs.Records.{text_in}
use Rattle.wasi_guest.specs.declared.answer.Value.{Value}
use Rattle.wasi_guest.specs.declared.answer.Value.TheVariants.{Unit as Nothing}
use Rattle.wasi_guest.specs.declared.call.Call.{Call}
use Rattle.wasi_guest.specs.declared.errno.Errno.TheVariants as errnos
use Rattle.wasi_guest.specs.declared.iovec.Iovec.{Iovec}
use Rattle.wasi_host.specs.Tree.{Tree}
use Rattle.wasi_host.specs.declared.errors.ErrorCode.{ErrorCode}
use Rattle.wasi_resolve.specs.PathRequest.{PathRequest, PathReply, path_reply, path_after, path_starts}
use Rattle.wasi_p1_types.specs.Front.{Front, CallFront, onward, free, answer, ask, charge, charged_text, charged_buffer, at_path, at_buffer, known_or_asked, tells, done_if, ◌>>=◌}
use Rattle.wasi_p1_types.specs.Guest.{Guest, GuestSlot, OpenFile, file, node_in, perms_in}
use Rattle.wasi_p1_types.specs.SpecParts.{OpenNode, start_in, range, permit, from_guest}
use Rattle.wasi_p1_model.specs.AppendOnly.{Adds, AppendsAtEnd}
use Rattle.wasi_p1_types.specs.Request.{Request, Reply, Path, reply_of, after, starts_at}
use Rattle.wasi_p1_types.specs.CallResult.{CallResult, Program, give, made_of_reply}
use Rattle.wasi_p1_model.specs.Calls.{Stem, front, descriptors_named, itself, stem_in}
use Rattle.wasi_p1_types.specs.GuestEnvModel.{GuestEnvModel}
use Rattle.wasi_p1_model.specs.Validity.{HasBytes}
use Rattle.wasi_p1_types.specs.declared.error.P1Error.TheVariants.{Errno}
use Rattle.wasi_host.proofs.Agreeing.{one}
use Rattle.wasi_host.proofs.Leaving.{Contains-here}
use Rattle.wasi_p1_model.proofs.Bytes.{text_utf8}
use Rattle.wasi_p1_model.proofs.Changing.{named_directory, named_file, directory_perms, put_nothing}
use Rattle.wasi_p1_types.proofs.Codes.{IsKnown}
use Rattle.wasi_p1_model.proofs.LocalCalls.{Ends, IsNamed, AllUnder, Permitted, leaves, changes, StaysNear, AsksNear, IsLocal, KeepsSlots, KeepsBytes, GivesBytes, MayBeAsked, AreTexts, given_by}
use Rattle.wasi_p1_model.proofs.Adding.{no_altering}
use Rattle.wasi_p1_model.proofs.Keeping.{no_act}
use Rattle.wasi_p1_types.proofs.Wanting.{IsRefusal, Never, guest_never, start_never, permit_never, range_never}

-- whatever fuel there is
pub record AlwaysNear (g : Guest) (call : Call) (m : CallFront) : Type 0 where
  pub near : (fuel : ℕ) → IsLocal g call (m fuel).0

-- of a call's specification
abbrev pub SpecNear : Guest → Call → Type 0
SpecNear g call = AlwaysNear g call (front g call)

-- ---- a part of a specification, and what follows it

pub then : {A : Type 0} {g : Guest} {call : Call} {next : A → CallFront} (m : CallResult A) → Never m
    → ((x : A) → m ≡ Ok x → AlwaysNear g call (next x)) → AlwaysNear g call (free m >>= next)
then (Ok x) never near = near x refl
then (Err e) never near = record { near = λ fuel. never }

-- what fuel is taken for, if there is enough
abbrev pub taken : ℕ → ℕ → Bool → CallResult (Unit {0}) × ℕ
taken n fuel b = cond b (Ok tt, fuel - n) (Err (Errno errnos.Nomem), fuel)

abbrev pub then_taken : {A : Type 0} → CallResult A × ℕ → (A → CallFront) → CallResult (Program (Value × Guest))
then_taken part next = (onward part.0 part.1 next).0

-- a text
pub then_text : {call : Call} {next : List ℕ → CallFront} (g : Guest) (at n : ℕ)
    → ((text : List ℕ) → IsUtf8 text → AlwaysNear g call (next text))
    → AlwaysNear g call (charged_text g.memory at n >>= next)
unfolding charged_text charge
then_text {call} {next} g at n near = record { near = λ fuel. by fuel (nat_le n fuel) }
  where
    read : CallResult (List ℕ)
    read = from_guest (text_in g.memory at n)

    by : (fuel : ℕ) (b : Bool)
        → IsLocal g call (then_taken (let t = taken n fuel b in onward t.0 t.1 (λ _. free read)) next)
    by fuel true = (then read (guest_never (text_in g.memory at n))
        (λ text is. near text (text_utf8 g.memory at n is))).near (fuel - n)
    by fuel false = refl

-- a path from the directory of a number
pub then_path : {call : Call} {next : OpenNode → List ℕ → CallFront} (g : Guest) (fd path len : ℕ)
    → ((d : OpenNode) → start_in (slice_get g.slots fd) ≡ Ok d → (text : List ℕ) → IsUtf8 text
    → AlwaysNear g call (next d text))
    → AlwaysNear g call (at_path g fd path len next)
then_path g fd path len near =
    then (start_in (slice_get g.slots fd)) (start_never (slice_get g.slots fd)) (λ d is. then_text g path len (near d is))

-- a buffer
then_buffer : {call : Call} {next : Iovec → CallFront} (g : Guest) (iovs n : ℕ)
    → ((buffer : Iovec) → AlwaysNear g call (next buffer))
    → AlwaysNear g call (charged_buffer g.memory iovs n >>= next)
unfolding charged_buffer charge
then_buffer {call} {next} g iovs n near = record { near = λ fuel. by fuel (nat_le (8 * n) fuel) }
  where
    charged : Iovec → Front Iovec
    charged buffer = λ left. (let t = taken buffer.buf_len left (nat_le buffer.buf_len left) in
        onward t.0 t.1 (λ _. free (give buffer)))

    by_buffer : (found : CallResult Iovec) → Never found → (left : ℕ)
        → IsLocal g call (then_taken (onward found left charged) next)
    by_buffer (Err e) never left = never
    by_buffer (Ok buffer) never left = by_length (nat_le buffer.buf_len left)
      where
        by_length : (b : Bool) → IsLocal g call
            (then_taken (let t = taken buffer.buf_len left b in onward t.0 t.1 (λ _. free (give buffer))) next)
        by_length true = (near buffer).near (left - buffer.buf_len)
        by_length false = refl

    by : (fuel : ℕ) (b : Bool) → IsLocal g call (then_taken (let t = taken (8 * n) fuel b in
        onward t.0 t.1 (λ _. free (from_guest (first_buffer g.memory iovs n)) >>= charged)) next)
    by fuel true = by_buffer (from_guest (first_buffer g.memory iovs n)) (guest_never (first_buffer g.memory iovs n))
        (fuel - 8 * n)
    by fuel false = refl

-- and what a number stands for
pub then_at_buffer : {A : Type 0} {call : Call} {named : CallResult A} {next : A → Iovec → List ℕ → CallFront} (g : Guest)
    (iovs n : ℕ) → Never named
    → ((what : A) → named ≡ Ok what → (buffer : Iovec) (bytes : List ℕ)
    → range g.memory buffer.buf buffer.buf_len ≡ Ok bytes → AlwaysNear g call (next what buffer bytes))
    → AlwaysNear g call (at_buffer g named iovs n next)
then_at_buffer {named = named} g iovs n never near = then_buffer g iovs n (λ buffer. then named never (λ what is.
    then (range g.memory buffer.buf buffer.buf_len) (range_never g.memory buffer.buf buffer.buf_len)
    (near what is buffer)))

-- ---- what is permitted to the descriptors that a call names

-- the one that a call names is under its permissions
pub one_under : {perms : FsPerms} (g : Guest) (call : Call) (fd : ℕ) → descriptors_named g.memory call ≡ fd ∷ []
    → perms_in (slice_get g.slots fd) ≡ Some perms → AllUnder perms g call
one_under {perms} g call fd named has = record {
  one = fd;
  named = subst (λ fds. Contains fds fd) (sym named) (Contains-here fd []);
  all = λ n is. ap (λ k. perms_in (slice_get g.slots k)) (sym (one (subst (λ fds. Contains fds n) named is))) ∙ has;
}

-- What a request does is permitted under each of the permissions, where it does nothing under read-only ones, and adds
-- under append-only ones
pub permitted_by : {perms : FsPerms} {g : Guest} {call : Call} {t u : Tree} → AllUnder perms g call
    → (perms ≡ ReadOnly → u ≡ t) → (perms ≡ AppendOnly → AppendsAtEnd g → Adds t u) → Permitted g call t u
permitted_by {perms = ReadOnly} all leave adds = leaves (leave refl)
permitted_by {perms = AppendOnly} all leave adds = changes AppendOnly all (λ is. absurd (cc)) adds
permitted_by {perms = ReadWrite} all leave adds = changes ReadWrite all (λ is. absurd (cc)) adds

-- what was let through: never under read-only permissions, and under append-only ones what adds
pub record LetsThrough (perms : FsPerms) (Adding : Type 0) : Type 0 where
  pub never : perms ≡ ReadOnly → ⊥
  pub adds : perms ≡ AppendOnly → Adding

pub let_through : {perms : FsPerms} {g : Guest} {call : Call} {t u : Tree} → AllUnder perms g call
    → LetsThrough perms (Adds t u) → Permitted g call t u
let_through all lets = permitted_by all (λ is. absurd (lets.never is)) (λ is _. lets.adds is)

-- altering is under read-write permissions alone
pub alters : {Adding : Type 0} {done : Unit {0}} (perms : FsPerms) → permit (may_do perms Alter) ≡ Ok done
    → LetsThrough perms Adding
alters perms may =
    record { never = no_act perms Alter may; adds = λ is. absurd (no_altering perms may is) }

pub start_perms : {d : OpenNode} (g : Guest) (fd : ℕ) → start_in (slice_get g.slots fd) ≡ Ok d
    → perms_in (slice_get g.slots fd) ≡ Some d.perms
start_perms g fd = directory_perms errnos.Badf (slice_get g.slots fd)

-- ---- ends of specifications

-- an answer, where descriptors stay and memory are bytes again
pub answers_near : {g : Guest} {call : Call} (x : Value) (memory : List ℕ) (stock : GuestEnvModel) → stem_in call ≡ itself
    → (HasBytes g → HasBytes (record g { memory = memory; holdings = stock }))
    → AlwaysNear g call (answer (x, record g { memory = memory; holdings = stock }))
answers_near {g} x memory stock stems are = record {
  near = λ fuel. record {
    slots = subst (λ stem. StaysNear g stem [] (x, record g { memory = memory; holdings = stock })) (sym stems)
        (put_nothing g);
    bytes = are;
  };
}

-- one where descriptors change, and nothing else
pub slots_near : {g : Guest} {call : Call} {x : Value} {slots : List GuestSlot}
    → StaysNear g (stem_in call) [] (x, record g { slots = slots })
    → AlwaysNear g call (answer (x, record g { slots = slots }))
slots_near stays = record { near = λ fuel. record { slots = stays; bytes = λ are. are } }

-- one made of what a part gives
pub tells_near : {A : Type 0} {g : Guest} {call : Call} (m : CallResult A) (shown : A → Value) → stem_in call ≡ itself
    → Never m → AlwaysNear g call (tells g m shown)
tells_near {g = g} m shown stems never =
    then m never (λ x _. answers_near (shown x) g.memory g.holdings stems (λ are. are))

-- a request
pub asks_near : {g : Guest} {call : Call} {r : Request} {next : Reply r → CallResult (Value × Guest)} → AsksNear g call r next
    → AlwaysNear g call (ask r next)
asks_near near = record { near = λ fuel. near }

-- of a specification that starts from a directory, and asks for something at a path
pub starts_near : {d : OpenNode} {call : Call} (g : Guest) (fd n : ℕ) → Contains (descriptors_named g.memory call) fd
    → start_in (slice_get g.slots fd) ≡ Ok d → Contains (d.node ∷ []) n → IsNamed g call n
starts_near = named_directory errnos.Badf

-- at the file of the one number that a call names
pub file_asked : {g : Guest} {call : Call} {f : OpenFile} {r : Request} {next : Reply r → CallResult (Value × Guest)} (fd : ℕ)
    → descriptors_named g.memory call ≡ fd ∷ [] → slice_get g.slots fd ≡ Some (file f) → starts_at r ≡ f.node ∷ []
    → ((reply : Reply r) → KeepsSlots g (stem_in call) (given_by r reply) (next reply))
    → ((t : Tree) (reply : Reply r) → Ends (after t r ≡ t) (next reply))
    → ((t : Tree) → Permitted g call t (after t r)) → (HasBytes g → MayBeAsked r)
    → (HasBytes g → (reply : Reply r) → GivesBytes r reply → KeepsBytes (next reply))
    → AlwaysNear g call (ask r next)
file_asked {g} {call} fd named is starts slots ends permits asked bytes = asks_near (record {
  starts = λ n has. named_file g fd n (subst (λ fds. Contains fds fd) (sym named) (Contains-here fd [])) is
      (subst (λ ns. Contains ns n) starts has);
  slots = slots;
  ends = λ t reply _. ends t reply;
  permits = λ t _ _. permits t;
  asked = asked;
  bytes = bytes;
})

-- the tree is asked only where something isn't known
pub known_near : {A B : Type 0} {g : Guest} {call : Call} (part : B → CallResult A) {r : Request} (next : Reply r → CallResult A)
    (shown : A → Value × Guest) (base : Option B) → ((known : B) → Never (part known))
    → ((x : A) → AlwaysNear g call (answer (shown x))) → AlwaysNear g call (ask r (made_of_reply r next shown))
    → AlwaysNear g call (known_or_asked base part r next shown)
known_near part next shown (Some known) never answers asks = then (part known) (never known) (λ x _. answers x)
known_near part next shown None never answers asks = asks

-- what a specification ends in leaves the guest, or refuses
abbrev pub LeavesGuest : Guest → CallResult (Value × Guest) → Type 0
LeavesGuest g (Ok p) = p.1 ≡ g
LeavesGuest g (Err e) = IsRefusal e

left_slots : {stem : Stem} (g : Guest) (given : List ℕ) (m : CallResult (Value × Guest)) → stem ≡ itself → LeavesGuest g m
    → KeepsSlots g stem given m
left_slots g given (Ok (x, h)) stems same =
    subst (λ s. StaysNear g s given (x, h)) (sym stems) (subst (λ h. StaysNear g itself given (x, h)) (sym same) (put_nothing g))
left_slots g given (Err e) stems same = tt

left_ends : {P : Type 0} (g : Guest) (m : CallResult (Value × Guest)) → LeavesGuest g m → P → Ends P m
left_ends g (Ok p) same is = tt
left_ends g (Err e) refuses is = (refuses, is)

left_bytes : (g : Guest) (m : CallResult (Value × Guest)) → LeavesGuest g m → HasBytes g → KeepsBytes m
left_bytes g (Ok (x, h)) same are = subst HasBytes (sym same) are
left_bytes g (Err e) same are = tt

-- at the node of the one number that a call names, where the tree and the guest are left
pub look_asked : {g : Guest} {call : Call} {slot : GuestSlot} {r : Request}
    {next : Reply r → CallResult (Value × Guest)} (fd : ℕ)
    → stem_in call ≡ itself → descriptors_named g.memory call ≡ fd ∷ [] → slice_get g.slots fd ≡ Some slot
    → starts_at r ≡ node_in (Some slot) → ((t : Tree) → after t r ≡ t) → MayBeAsked r
    → ((reply : Reply r) → LeavesGuest g (next reply)) → AlwaysNear g call (ask r next)
look_asked {g} {call} {r = r} {next = next} fd stems named is starts stays may same = asks_near (record {
  starts = λ n has. record {
    fd = fd;
    named = subst (λ fds. Contains fds fd) (sym named) (Contains-here fd []);
    node = subst (λ p. Contains (node_in p) n) (sym is) (subst (λ ns. Contains ns n) starts has);
  };
  slots = λ reply. left_slots g (given_by r reply) (next reply) stems (same reply);
  ends = λ t reply _. left_ends g (next reply) (same reply) (stays t);
  permits = λ t _ _. leaves (stays t);
  asked = λ _. may;
  bytes = λ are reply _. left_bytes g (next reply) (same reply) are;
})

-- that it was done, of what is permitted
pub done_if_near : {g : Guest} {call : Call} (own : Option ErrorCode) (r : Request) → stem_in call ≡ itself
    → ((n : ℕ) → Contains (starts_at r) n → IsNamed g call n)
    → ((done : Unit {0}) → permit own ≡ Ok done → (t : Tree) (reply : Reply r) → reply_of t r ≡ Ok reply
    → Permitted g call t (after t r)) → MayBeAsked r
    → IfSome own IsKnown → AlwaysNear g call (done_if own r g)
done_if_near {g} {call} own r stems starts permits may known = then (permit own) (permit_never own known) (λ done permitted. asks_near (record {
  starts = starts;
  slots = λ reply. subst (λ stem. StaysNear g stem (given_by r reply) (Nothing, g)) (sym stems) (put_nothing g);
  ends = λ _ _ _. tt;
  permits = permits done permitted;
  asked = λ _. may;
  bytes = λ are _ _. are;
}))

-- what is asked for at a path adds
abbrev pub AddsAt : PathRequest → Type 0
AddsAt p = (t : Tree) (reply : PathReply p) → path_reply t p ≡ Ok reply → Adds t (path_after t p)

-- by a path from one directory
pub done_if_at : {g : Guest} {call : Call} {d : OpenNode} (own : Option ErrorCode) (p : PathRequest) (fd : ℕ)
    → stem_in call ≡ itself → descriptors_named g.memory call ≡ fd ∷ []
    → start_in (slice_get g.slots fd) ≡ Ok d → path_starts p ≡ d.node ∷ []
    → ((done : Unit {0}) → permit own ≡ Ok done → LetsThrough d.perms (AddsAt p)) → AreTexts p
    → IfSome own IsKnown → AlwaysNear g call (done_if own (Path p) g)
done_if_at {g} {call} {d} own p fd stems named is starts lets texts known = done_if_near own (Path p) stems
    (λ n has. starts_near g fd n (subst (λ fds. Contains fds fd) (sym named) (Contains-here fd [])) is
    (subst (λ ns. Contains ns n) starts has))
    (λ done may t reply answered. let_through (one_under g call fd named (start_perms g fd is)) (record {
      never = (lets done may).never;
      adds = λ perms. (lets done may).adds perms t reply answered;
    })) texts known

-- at the file of a number
pub done_at_file : {g : Guest} {call : Call} {f : OpenFile} (own : Option ErrorCode) (r : Request) (fd : ℕ)
    → stem_in call ≡ itself → descriptors_named g.memory call ≡ fd ∷ [] → slice_get g.slots fd ≡ Some (file f)
    → starts_at r ≡ f.node ∷ []
    → ((done : Unit {0}) → permit own ≡ Ok done → (t : Tree) → Permitted g call t (after t r)) → MayBeAsked r
    → IfSome own IsKnown → AlwaysNear g call (done_if own r g)
done_at_file {g} {call} own r fd stems named is starts permits may known = done_if_near own r stems
    (λ n has. named_file g fd n (subst (λ fds. Contains fds fd) (sym named) (Contains-here fd [])) is
    (subst (λ ns. Contains ns n) starts has))
    (λ done let_through t _ _. permits done let_through t) may known
