-- What a specification makes and grows, against what it counts.
use Rattle.std.proofs.Common.{ℕ, ◌+◌, ◌-◌, ◌≡◌, ◌≤◌, ◌⊎◌, inl, inr, Bool, true, false, cond, List, length, drop, slice_get, slice_set, refl, ap, sym, ◌∙◌, subst, arith, Option, Some, None, Ok, Err}
use Rattle.std.specs.Option.{option_map}
use Rattle.std.specs.Prelude.{IfOk, IfSome}
use Rattle.std.proofs.lemmas.Bool.Decides.{nat_tests}
use Rattle.std.proofs.lemmas.Result.{IfOk-weaker}
use Rattle.wasi_fs.specs.OpenFlags.{includes}
use Rattle.wasi_fs.specs.OpenMode.{mode_bits}
use Rattle.wasi_fs.specs.declared.open_mode.OpenMode.{OpenMode}
use Rattle.wasi_fs.specs.declared.perms.FsPerms.{FsPerms}
use Rattle.wasi_guest.specs.Range.{with_bytes}
use Rattle.wasi_guest.specs.declared.answer.Value.{Value}
use Rattle.wasi_guest.specs.declared.errno.Errno.TheVariants.{Dquot}
use Rattle.wasi_guest.specs.declared.iovec.Iovec.{Iovec}
use Rattle.wasi_host.specs.Refusal.{can_write}
use Rattle.wasi_host.specs.Steps.{◌>>=◌}
use Rattle.wasi_host.specs.Tree.{Tree, next_of}
use Rattle.wasi_resolve.specs.PathRequest.{Opened}
use Rattle.wasi_p1_types.specs.Guest.{Guest, OpenFile, closed, file, with_guest_slot}
use Rattle.wasi_p1_types.specs.Numbering.{renumbered}
use Rattle.wasi_p1_types.specs.SpecParts.{new_guest_slot, with_file}
use Rattle.wasi_p1_model.specs.QuotaLaws.{WritesAsOpened, total_bytes}
use Rattle.wasi_p1_types.specs.Quotas.{allowance, count_on, counted_growth, counted_making, is_used_up}
use Rattle.wasi_p1_types.specs.Request.{Request, Reply, Grow, after, growth_at, growth_in, reply_of}
use Rattle.wasi_p1_types.specs.CallResult.{CallResult, Program, done, asking, give}
use Rattle.wasi_p1_types.specs.Services.{input_into, next_input, written}
use Rattle.wasi_p1_types.specs.Spending.{grown_by, grown_in, made_by, may_make, spent, with_growth, with_making}
use Rattle.wasi_p1_types.specs.GuestEnvModel.{GuestEnvModel}
use Rattle.wasi_p1_types.specs.declared.error.P1Error.TheVariants.{Errno}
use Rattle.wasi_p1_types.specs.declared.guest_env.Output.{Output}
use Rattle.wasi_p1_types.specs.declared.guest_env.Output.TheVariants as outputs
use Rattle.wasi_p1_types.specs.declared.quotas.Allowance.{Allowance}
use Rattle.wasi_p1_types.specs.declared.slots.FileModes.{FileModes}
use Rattle.wasi_p1_model.proofs.Changing.{IsFileOf, file_open, in_set, new_stems}
use Rattle.wasi_p1_model.proofs.Lengthening.{IsBounded, Lengthens, bounded_by}
use Rattle.wasi_p1_model.proofs.QuotaRequests.{Grows, IsWrite, grow_within}
use Rattle.wasi_p1_model.proofs.Renumbering.{renumbered_is}
use Rattle.wasi_p1_model.proofs.TotalBytes.{Within, within_itself}
use Rattle.wasi_p1_model.proofs.Uses.{growth_none}

-- where a bound is set, this much more is counted; and where it is something, the count is within the bound then
abbrev pub Fits : Option ℕ → ℕ → ℕ → ℕ → Type 0
Fits bound used now more = IfSome bound (λ most. (more + used ≤ now) × ((more ≡ 0) ⊎ (now ≤ most)))

-- what a call does that makes something, or not, and grows so much: from a guest and a tree to others
pub record SpendsWithin (makes : Bool) (growth : ℕ) (g h : Guest) (t u : Tree) : Type 0 where
  pub quota : h.holdings.quota ≡ g.holdings.quota
  pub used : h.holdings.used ≡ (spent makes growth g.holdings).used
  pub nodes : Fits g.holdings.quota.nodes g.holdings.used.nodes (spent makes growth g.holdings).used.nodes
      (next_of u - next_of t)
  pub bytes : WritesAsOpened g → Fits g.holdings.quota.bytes g.holdings.used.bytes
      (spent makes growth g.holdings).used.bytes (total_bytes u - total_bytes t)
  pub opened : WritesAsOpened g → WritesAsOpened h

-- so a specification does that asks, or answers at once
abbrev pub Uses : Bool → Guest → Program (Value × Guest) → Type 0
Uses makes g (done p) = (t : Tree) → SpendsWithin makes 0 g p.1 t t
Uses makes g (asking r next) = (t : Tree) (reply : Reply r) → reply_of t r ≡ Ok reply
    → IfOk (next reply) (λ p. SpendsWithin makes (growth_in t r) g p.1 t (after t r))

-- the counts stay, and files are still written as they were opened
pub record KeepsUse (g h : Guest) : Type 0 where
  pub quota : h.holdings.quota ≡ g.holdings.quota
  pub used : h.holdings.used ≡ g.holdings.used
  pub opened : WritesAsOpened g → WritesAsOpened h

-- ---- what is counted

-- a making in the counts that were kept, and a growth
made_same : {g h : Guest} → KeepsUse g h → (counted_making h.holdings).used ≡ (counted_making g.holdings).used
made_same keeps = rw (keeps.quota, keeps.used) refl

grown_same : {g h : Guest} (growth : ℕ) → KeepsUse g h
    → (counted_growth growth h.holdings).used ≡ (counted_growth growth g.holdings).used
grown_same growth keeps = rw (keeps.quota, keeps.used) refl

-- nothing is made or grown
pub none_fits : (bound : Option ℕ) (used now more : ℕ) → more ≡ 0 → used ≤ now → Fits bound used now more
none_fits None used now more none later = tt
none_fits (Some most) used now more none later = (omega arith, inl none)

-- a count goes on by what is made, within the bound
some_fit : (bound : Option ℕ) (used more counted : ℕ) → more ≤ counted → IfSome bound (λ most. used + counted ≤ most)
    → Fits bound used (count_on bound used counted) more
some_fit None used more counted fewer fits = tt
some_fit (Some most) used more counted fewer fits = (omega arith, inr fits)

goes_on : (bound : Option ℕ) (used more : ℕ) → used ≤ count_on bound used more
goes_on None used more = omega arith
goes_on (Some most) used more = omega arith

-- ---- the use of a call alone

spent_quota : (makes : Bool) (growth : ℕ) (s : GuestEnvModel) → (spent makes growth s).quota ≡ s.quota
spent_quota true growth s = refl
spent_quota false growth s = refl

nodes_later : (makes : Bool) (growth : ℕ) (s : GuestEnvModel) → s.used.nodes ≤ (spent makes growth s).used.nodes
nodes_later true growth s = goes_on s.quota.nodes s.used.nodes 1
nodes_later false growth s = omega arith

bytes_later : (makes : Bool) (growth : ℕ) (s : GuestEnvModel) → s.used.bytes ≤ (spent makes growth s).used.bytes
bytes_later true growth s = goes_on s.quota.bytes s.used.bytes growth
bytes_later false growth s = goes_on s.quota.bytes s.used.bytes growth

-- where the tree is that of the call, or stays
pub counted_alone : {makes : Bool} {growth : ℕ} {g h : Guest} {t u : Tree} → SpendsWithin makes growth g h t u
    → SpendsWithin makes growth g (record g { holdings = spent makes growth g.holdings }) t u
counted_alone {makes} {growth} {g} spends = record {
  quota = spent_quota makes growth g.holdings;
  used = refl;
  nodes = spends.nodes;
  bytes = spends.bytes;
  opened = λ all. all;
}

pub nothing_done : (makes : Bool) (growth : ℕ) (g : Guest) (t : Tree)
    → SpendsWithin makes growth g (record g { holdings = spent makes growth g.holdings }) t t
nothing_done makes growth g t = record {
  quota = spent_quota makes growth g.holdings;
  used = refl;
  nodes = none_fits _ _ _ _ (omega arith) (nodes_later makes growth g.holdings);
  bytes = λ _. none_fits _ _ _ _ (omega arith) (bytes_later makes growth g.holdings);
  opened = λ all. all;
}

-- ---- specifications that make and grow nothing

-- a request that counts no growth makes so many nodes at most, and no file longer, and the counts stay
pub record Makes (most : ℕ) (g : Guest) (r : Request) (next : Reply r → CallResult (Value × Guest)) : Type 0 where
  pub none : (t : Tree) → growth_in t r ≡ 0
  pub within : (t : Tree) (reply : Reply r) → reply_of t r ≡ Ok reply → Within most 0 t (after t r)
  pub keeps : (t : Tree) (reply : Reply r) → reply_of t r ≡ Ok reply → IfOk (next reply) (λ p. KeepsUse g p.1)

abbrev pub IsIdle : Guest → Program (Value × Guest) → Type 0
IsIdle g (done p) = KeepsUse g p.1
IsIdle g (asking r next) = Makes 0 g r next

idle_spends : {g h : Guest} {t u : Tree} {growth : ℕ} → growth ≡ 0 → KeepsUse g h → Within 0 0 t u
    → SpendsWithin false growth g h t u
idle_spends {g} {h} {t} {u} none keeps within =
    let nodes = within.nodes in
    let bytes = within.bytes in
    subst (λ n. SpendsWithin false n g h t u) (sym none) (record {
      quota = keeps.quota;
      used = keeps.used ∙ sym (ap (λ (s : GuestEnvModel). s.used) (growth_none g.holdings));
      nodes = none_fits _ _ _ _ (omega arith) (omega arith);
      bytes = λ _. none_fits _ _ _ _ (omega arith) (goes_on _ _ _);
      opened = keeps.opened;
    })

pub idle_uses : (g : Guest) (q : Program (Value × Guest)) → IsIdle g q → Uses false g q
idle_uses g (done p) keeps = λ t. idle_spends refl keeps within_itself
idle_uses g (asking r next) makes = λ t reply is. IfOk-weaker (next reply) (λ p. KeepsUse g p.1) _
    (λ p keeps. idle_spends (makes.none t) keeps (makes.within t reply is)) (makes.keeps t reply is)

-- what is made of an answer
shown_ok : (P Q : Value × Guest → Type 0) (shown : Value × Guest → Value × Guest) (m : CallResult (Value × Guest))
    → ((p : Value × Guest) → P p → Q (shown p)) → IfOk m P → IfOk (m >>= (λ p. give (shown p))) Q
shown_ok P Q shown (Ok p) all has = all p has
shown_ok P Q shown (Err e) all has = tt

-- ---- specifications that make something

abbrev pub IsMaking : Guest → Program (Value × Guest) → Type 0
IsMaking g (done p) = ⊥
IsMaking g (asking r next) = Makes 1 g r next

-- a making is left
making_left : (s : GuestEnvModel) {left : Unit {0}} → may_make s ≡ Ok left → IfSome s.quota.nodes (λ most. s.used.nodes + 1 ≤ most)
unfolding may_make
making_left s {left} may = by s.quota.nodes may
  where
    by : (bound : Option ℕ)
        → (let m : CallResult (Unit {0}) = cond (is_used_up bound s.used.nodes) (Err (Errno Dquot)) (Ok tt) in m) ≡ Ok left
        → IfSome bound (λ most. s.used.nodes + 1 ≤ most)
    by None may = tt
    by (Some most) may = grind (arith, nat_tests)

made_spends : {g h : Guest} {t u : Tree} {growth : ℕ} {left : Unit {0}} → growth ≡ 0 → may_make g.holdings ≡ Ok left
    → Within 1 0 t u → KeepsUse g h → SpendsWithin true growth g (record h { holdings = counted_making h.holdings }) t u
made_spends {g} {h} {t} {u} none may within keeps =
    let nodes = within.nodes in
    let bytes = within.bytes in
    subst (λ n. SpendsWithin true n g (record h { holdings = counted_making h.holdings }) t u) (sym none) (record {
      quota = keeps.quota;
      used = made_same keeps ∙ sym (ap (λ (s : GuestEnvModel). s.used) (growth_none (counted_making g.holdings)));
      nodes = some_fit g.holdings.quota.nodes _ _ 1 (omega arith) (making_left g.holdings may);
      bytes = λ _. none_fits _ _ _ _ (omega arith) (goes_on _ _ _);
      opened = keeps.opened;
    })

pub made_uses : (g : Guest) (m : CallResult (Program (Value × Guest))) → IfOk m (IsMaking g)
    → IfOk (made_by true g m) (Uses true g)
made_uses g (Err e) none = tt
made_uses g (Ok (done p)) none = absurd none
made_uses g (Ok (asking r next)) makes = by (may_make g.holdings) refl
  where
    by : (left : CallResult (Unit {0})) → may_make g.holdings ≡ left
        → IfOk (left >>= (λ _. give (asking r (λ reply. next reply >>= (λ p. give (with_making p)))))) (Uses true g)
    by (Err e) may = tt
    by (Ok left) may = λ t reply is. shown_ok (λ p. KeepsUse g p.1) _ with_making (next reply)
        (λ p keeps. made_spends (makes.none t) may (makes.within t reply is) keeps) (makes.keeps t reply is)

-- ---- specifications that make a file longer

-- a request that writes a file, or gives it a size, which was opened for that where its handle does so
pub record WritesFile (g : Guest) (f : OpenFile) (w : Request) (next : Reply w → CallResult (Value × Guest)) : Type 0 where
  pub write : IsWrite f.mode w
  pub keeps : (t : Tree) (reply : Reply w) → reply_of t w ≡ Ok reply → IfOk (next reply) (λ p. KeepsUse g p.1)
  pub opened : WritesAsOpened g → can_write f.mode ≡ true → includes (mode_bits f.open_mode) 2 ≡ true

abbrev pub IsGrowing : Guest → OpenFile → Program (Value × Guest) → Type 0
IsGrowing g f (done p) = ⊥
IsGrowing g f (asking w next) = WritesFile g f w next

module _ (g : Guest) (f : OpenFile) where
  -- what a bound leaves to the file
  abbrev left_by : ℕ → Allowance
  left_by most =
      record { most = most; used = g.holdings.used.bytes; may_grow = includes (mode_bits f.open_mode) 2 }

  unbounded_spends : {h : Guest} {t u : Tree} {growth made : ℕ} → growth ≡ 0 → g.holdings.quota.bytes ≡ None
      → Within 0 made t u → KeepsUse g h
      → SpendsWithin false growth g (record h { holdings = counted_growth 0 h.holdings }) t u
  unbounded_spends {h} {t} {u} none at within keeps =
      let nodes = within.nodes in
      subst (λ n. SpendsWithin false n g (record h { holdings = counted_growth 0 h.holdings }) t u) (sym none) (record {
        quota = keeps.quota;
        used = grown_same 0 keeps;
        nodes = none_fits _ _ _ _ (omega arith) (omega arith);
        bytes = λ _. rw at tt;
        opened = keeps.opened;
      })

  bounded_spends : {h : Guest} {t : Tree} {most : ℕ} {w : Request} {grown : ℕ × Reply w}
      → g.holdings.quota.bytes ≡ Some most
      → (WritesAsOpened g → can_write f.mode ≡ true → includes (mode_bits f.open_mode) 2 ≡ true)
      → Lengthens t (left_by most) w grown → Grows t f.mode (left_by most) w → KeepsUse g h
      → SpendsWithin false (growth_at t (left_by most) w) g (record h { holdings = counted_growth grown.0 h.holdings }) t
      (after t (Grow (left_by most) w))
  bounded_spends {h} {t} {most} {w} {grown} at opened longer grows keeps =
      let nodes = grows.within.nodes in
      let bytes = grows.within.bytes in record {
        quota = keeps.quota;
        used = grown_same grown.0 keeps ∙ ap (λ n. (counted_growth n g.holdings).used) longer.growth;
        nodes = none_fits _ _ _ _ (omega arith) (omega arith);
        bytes = λ writes. let all = grows.reckoned (opened writes) in
            some_fit g.holdings.quota.bytes _ _ (growth_at t (left_by most) w) (omega arith) (rw at grows.fits);
        opened = keeps.opened;
      }

  pub grown_uses : (m : CallResult (Program (Value × Guest))) → IfOk m (IsGrowing g f)
      → IfOk (grown_by (allowance g.holdings f.open_mode) m) (Uses false g)
  grown_uses (Err e) none = tt
  grown_uses (Ok (done p)) none = absurd none
  grown_uses (Ok (asking w next)) writes = by g.holdings.quota.bytes refl
    where
      by : (bound : Option ℕ) → g.holdings.quota.bytes ≡ bound
          → IfOk (grown_by (option_map left_by bound) (Ok (asking w next))) (Uses false g)
      by None at = λ t reply is. shown_ok (λ p. KeepsUse g p.1) _ (with_growth 0) (next reply)
          (λ p keeps. unbounded_spends (writes.write.none t) at (writes.write.within t) keeps) (writes.keeps t reply is)
      by (Some most) at = λ t reply is. bounded t reply (bounded_by t (left_by most) w reply is)
        where
          bounded : (t : Tree) (reply : Option (ℕ × Reply w)) → IsBounded t (left_by most) w reply
              → IfOk (grown_in (Some (left_by most)) w reply >>= (λ grown. next grown.1 >>= (λ p. give (with_growth grown.0 p))))
              (λ p. SpendsWithin false (growth_at t (left_by most) w) g p.1 t (after t (Grow (left_by most) w)))
          bounded t None passed = tt
          bounded t (Some grown) longer = shown_ok (λ p. KeepsUse g p.1) _ (with_growth grown.0) (next grown.1)
              (λ p keeps. bounded_spends at writes.opened longer (grow_within t (left_by most) w writes.write longer) keeps)
              (writes.keeps t grown.1 longer.is)

-- ---- what becomes of the counts, and of files

-- they stay, whatever becomes of memory
pub still : {memory : List ℕ} (g : Guest) → KeepsUse g (record g { memory = memory })
still g = record { quota = refl; used = refl; opened = λ all. all }

-- and of what else a guest has
pub restocked : {memory : List ℕ} {stock : GuestEnvModel} (g : Guest) → stock.quota ≡ g.holdings.quota
    → stock.used ≡ g.holdings.used → KeepsUse g (record g { memory = memory; holdings = stock })
restocked g quota used = record { quota = quota; used = used; opened = λ all. all }

-- whatever is made of what a part gives
pub shown_keeps : {A : Type 0} (g : Guest) (shown : A → Value × Guest) (m : CallResult A)
    → ((x : A) → KeepsUse g (shown x).1) → IfOk (m >>= (λ x. give (shown x))) (λ p. KeepsUse g p.1)
shown_keeps g shown (Ok x) keeps = keeps x
shown_keeps g shown (Err e) keeps = tt

-- a file's descriptor is put back
pub file_put : {f : OpenFile} {memory : List ℕ} (g : Guest) (fd position : ℕ) (modes : FileModes)
    → slice_get g.slots fd ≡ Some (file f)
    → KeepsUse g (record (with_file g fd (record f { position = position; modes = modes })) { memory = memory })
file_put {f} g fd position modes is = record {
  quota = refl;
  used = refl;
  opened = λ all k other has writes. elim (in_set (IsFileOf other) g.slots fd k (file now) has) [
    | inl was ↦ all k other was writes
    | inr (at, own) ↦ let same : now ≡ other = (cc) in
        ap (λ (h : OpenFile). includes (mode_bits h.open_mode) 2) (sym same)
        ∙ all fd f is (ap (λ (h : OpenFile). can_write h.mode) same ∙ writes)
  ];
}
  where
    now : OpenFile
    now = record f { position = position; modes = modes }

-- a number becomes closed
pub number_closed : (g : Guest) (fd : ℕ) → KeepsUse g (record g { slots = slice_set g.slots fd closed })
number_closed g fd = record {
  quota = refl;
  used = refl;
  opened = λ all k f has writes. elim (in_set (IsFileOf f) g.slots fd k closed has) [
    | inl was ↦ all k f was writes
    | inr (at, none) ↦ absurd (cc)
  ];
}

-- another number is given
pub number_changed : (g : Guest) (from to : ℕ) → KeepsUse g (record g { slots = renumbered closed g.slots from to })
number_changed g from to = record {
  quota = refl;
  used = refl;
  opened = λ all k f has writes. all _ f (renumbered_is (IsFileOf f) file_open g.slots from to k has) writes;
}

new_file : {f : OpenFile} (perms : FsPerms) (mode : OpenMode) (modes : FileModes) (found : Opened)
    → Some (new_guest_slot perms mode modes found) ≡ Some (file f)
    → (f.mode ≡ found.held.mode) × (f.open_mode ≡ mode)
new_file {f} perms mode modes found is = by found.is_dir is
  where
    by : (dir : Bool) → Some (new_guest_slot perms mode modes (record found { is_dir = dir })) ≡ Some (file f)
        → (f.mode ≡ found.held.mode) × (f.open_mode ≡ mode)
    by true is = absurd (cc)
    by false is = (cc, cc)

-- a new descriptor comes, opened for what its handle does
pub slot_opened : (g : Guest) (perms : FsPerms) (mode : OpenMode) (modes : FileModes) (found : Opened)
    → (can_write found.held.mode ≡ true → includes (mode_bits mode) 2 ≡ true)
    → KeepsUse g (record g { slots = with_guest_slot g.slots (new_guest_slot perms mode modes found) })
slot_opened g perms mode modes found asked = record {
  quota = refl;
  used = refl;
  opened = λ all k f has writes. elim (new_stems (IsFileOf f) file_open g.slots 0 k (new_guest_slot perms mode modes found) has) [
    | inl was ↦ all _ f was writes
    | inr (at, own) ↦ let (handle, opened) = new_file perms mode modes found own in
        ap (λ m. includes (mode_bits m) 2) opened ∙ asked (ap can_write (sym handle) ∙ writes)
  ];
}

-- what is read of the standard input
pub input_read : {read : ℕ × (List ℕ × GuestEnvModel)} (g : Guest) (buffer : Iovec) → input_into g.memory g.holdings buffer ≡ Ok read
    → KeepsUse g (record g { memory = read.1.0; holdings = read.1.1 })
unfolding input_into
input_read {read} g buffer is = by (next_input g.holdings.stdin buffer.buf_len) is
  where
    taken : List ℕ → ℕ × (List ℕ × GuestEnvModel)
    taken bytes = (
      length bytes,
      (with_bytes g.memory buffer.buf bytes, record g.holdings { stdin = drop (length bytes) g.holdings.stdin }),
    )

    by : (m : CallResult (List ℕ)) → (m >>= (λ bytes. give (taken bytes))) ≡ Ok read
        → KeepsUse g (record g { memory = read.1.0; holdings = read.1.1 })
    by (Ok bytes) is =
        let same : taken bytes ≡ read = (cc) in
        subst (λ (r : ℕ × (List ℕ × GuestEnvModel)). KeepsUse g (record g { memory = r.1.0; holdings = r.1.1 })) same
        (restocked g refl refl)
    by (Err e) is = absurd (cc)

-- what is written to an output
pub output_written : (g : Guest) (o : Output) (piece : List ℕ)
    → KeepsUse g (record g { holdings = written g.holdings o piece })
output_written g outputs.Stdout piece = restocked g refl refl
output_written g outputs.Stderr piece = restocked g refl refl
