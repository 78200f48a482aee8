-- Directories that are given one after another.
use Rattle.std.proofs.Common.{suc, ◌≡◌, ◌+◌, ◌⊎◌, ℕ, Bool, true, false, cond, is_some, IsTrue, IsSome, IfSome, List, [], ◌∷◌, length, slice_get, option_map, Option, Some, None, Result, Ok, Err, refl, ap, sym, subst, ◌∙◌, inl, inr, arith}
use Rattle.std.proofs.lemmas.Bool.{cases_eq}
use Rattle.std.proofs.lemmas.Bool.Decides.{nat_tests}
use Rattle.std.specs.Cmp.{nat_cmp_total}
use Rattle.std.specs.FinMap.{get, gets, insert, len, len-insert, remove, same_map}
use Rattle.std.specs.FinSet.{contains, members, nat_cmp-IsAntisymmetric, insert as with_handle}
use Rattle.wasi_host.proofs.Chain.{remove-insert}
use Rattle.wasi_host.proofs.Tracing.{got_in_more, in_still, traced_given, traced_got_err, traced_kept, traced_none, traced_same, traced_then}
use Rattle.wasi_host.specs.Provenance.{HasProvenance, Only, OrGot, OrGotIn, Nothing}
use Rattle.wasi_host.specs.HostCall.{Dup}
use Rattle.wasi_host.specs.HostLaws.{AfterErr, FaultCount, Handles, LiveGot, LoggedGot, MeansErr, RefinesCall, HostModel}
use Rattle.wasi_host.specs.declared.errors.ErrorCode.{ErrorCode as LowerCode}
use Rattle.wasi_host.specs.declared.errors.ErrorCode.TheVariants as lower
use Rattle.wasi_host.specs.declared.errors.HostError.{HostError}
use Rattle.wasi_host.specs.declared.errors.HostError.TheVariants as hosts
use Rattle.wasi_host.specs.declared.open_handle.OpenHandle.{OpenHandle}
use Rattle.wasi_host.specs.declared.lookup.LookKind.TheVariants as kinds
use Rattle.wasi_host.specs.declared.host.Host.{Ghosts}
use Rattle.wasi_host.specs.declared.lookup.Lookup.{Lookup}
use Rattle.wasi_streams.specs.Table.{Entries, Table}
use Rattle.wasi_streams.specs.declared.entry.Entry.{Entry}
use Rattle.wasi_p2_calls.specs.Directories.{EachOrNone, GivesDirectories, GivesEach, GivesNone, GivesOne, GivesThese, IsNewlyLive, IsOfThese, TakesBack, WhyNotAll, preopen_entry}
use Rattle.wasi_p2_calls.specs.Drops.{LeavesTree, live_without}
use Rattle.wasi_p2_types.specs.FsErrors.{FsCause, fs_error}
use Rattle.wasi_p2_calls.specs.Resources.{AreOwned, entry_handle, preopened}
use Rattle.wasi_p2_calls.specs.Rooms.{KeepsTable}
use Rattle.wasi_p2_calls.specs.Views.{files_of}
use Rattle.wasi_p2_calls.specs.declared.context.Preopen.{Preopen}
use Rattle.wasi_p2_calls.specs.declared.context.WasiFilesystemCtx.{WasiFilesystemCtx}
use Rattle.wasi_p2_types.specs.declared.error.FsError.{FsError}
use Rattle.wasi_p2_types.specs.declared.error.FsError.TheVariants.{Code}
use Rattle.wasi_p2_calls.specs.declared.preopens.PreopenEntry.{PreopenEntry}
use Rattle.wasi_p2_types.specs.declared.error_code.ErrorCode.TheVariants.{Io}
use Rattle.wasi_p2_calls.proofs.Owning.{got_put, owned_added}

-- ---- sets and maps

-- what is live stays live, as a handle comes
live_on : (live : Handles) (h q : ℕ) → contains live q ≡ true → contains (with_handle live h) q ≡ true
live_on live h q is = grind (arith, members, nat_tests)

live_here : (live : Handles) (h : ℕ) → contains (with_handle live h) h ≡ true
live_here live h = grind (arith, members, nat_tests)

-- an entry that came and went
taken_again : (table : Entries) (n : ℕ) (e : Entry) → get table n ≡ None → remove (insert table n e) n ≡ table
taken_again table n e none = same_map nat_cmp_total nat_cmp-IsAntisymmetric _ _ (λ q. elim (cases_eq q n) [
  | inl here ↦ grind (arith, gets, nat_tests)
  | inr other ↦ grind (arith, gets, nat_tests)
])

one_longer : (table : Entries) (n : ℕ) (e : Entry) → get table n ≡ None → len (insert table n e) ≡ len table + 1
one_longer table n e none =
    len-insert nat_cmp_total table n e ∙ ap (λ o. cond (is_some o) (len table) (len table + 1)) none

-- ---- what is live afterwards, and who has it

grown : (modelled : Bool) (w : HostModel) (live : Handles) (table : Entries) (ps : List Preopen) (ms : List PreopenEntry)
    (live' : Handles) (table' : Entries) → GivesEach modelled w live table ps ms live' table'
    → (q : ℕ) → contains live q ≡ true → contains live' q ≡ true
grown modelled w live table [] [] live' table' gives q is = ap (λ (s : Handles). contains s q) gives.0 ∙ is
grown modelled w live table [] (m ∷ ms) live' table' gives q is = absurd gives
grown modelled w live table (p ∷ ps) [] live' table' gives q is = absurd gives
grown modelled w live table (p ∷ ps) (m ∷ ms) live' table' gives q is =
    grown modelled w (with_handle live gives.0) (insert table m.fd.number (preopen_entry p gives.0)) ps ms live' table' gives.5 q
    (live_on live gives.0 q is)

pub owned_each : (modelled : Bool) (w : HostModel) (live : Handles) (table : Entries) (ps : List Preopen) (ms : List PreopenEntry)
    (live' : Handles) (table' : Entries) (all : List Preopen) → GivesEach modelled w live table ps ms live' table'
    → AreOwned live all table → AreOwned live' all table'
owned_each modelled w live table [] [] live' table' all gives owned = rw (gives.0, gives.1) owned
owned_each modelled w live table [] (m ∷ ms) live' table' all gives owned = absurd gives
owned_each modelled w live table (p ∷ ps) [] live' table' all gives owned = absurd gives
owned_each modelled w live table (p ∷ ps) (m ∷ ms) live' table' all gives owned =
    owned_each modelled w (with_handle live gives.0) (insert table m.fd.number (preopen_entry p gives.0)) ps ms live' table' all
    gives.5 (owned_added m.fd.number (preopen_entry p gives.0) owned (gives.1, refl))

-- ---- lookups

or_got_known : (A : ℕ → Type 0) (o : Option ℕ) (rest : List Lookup) (h : ℕ) → OrGot A o h
    → A h ⊎ OrGotIn (OrGot Nothing o) rest h
or_got_known A None rest h known = inl known
or_got_known A (Some k) rest h known = elim known [
  | inl is ↦ inl is
  | inr same ↦ inr (in_still (OrGot Nothing (Some k)) rest h (inr same))
]

-- who is known, or was got, was known before or was got by the piece
split_got : (A : ℕ → Type 0) (piece : List Lookup) (h : ℕ) → OrGotIn A piece h → A h ⊎ OrGotIn Nothing piece h
split_got A [] h has = inl has
split_got A (entry ∷ rest) h has = elim (split_got (OrGot A entry.got) rest h has) [
  | inl known ↦ or_got_known A entry.got rest h known
  | inr got ↦ inr (got_in_more Nothing (OrGot Nothing entry.got) (λ q none. absurd none) rest h got)
]

-- of these, or this one
abbrev OrThis : (ℕ → Type 0) → ℕ → ℕ → Type 0
OrThis A h q = A q ⊎ (q ≡ h)

never_both : {x : Bool} → x ≡ false → x ≡ true → ⊥
never_both none some = absurd (let wrong = sym none ∙ some in cc)

-- those of one directory, and then those of the others
looks_both : {a b c : List Lookup} {h : ℕ} (p : Preopen) (ps : List Preopen) (live mid last : Handles)
    → HasProvenance (Only p.dir.dir) Nothing (Only h) a b → HasProvenance (IsOfThese ps) Nothing (IsNewlyLive mid last) b c
    → mid ≡ with_handle live h → ((q : ℕ) → IsOfThese (p ∷ ps) q → contains live q ≡ true)
    → HasProvenance (IsOfThese (p ∷ ps)) Nothing (IsNewlyLive live last) a c
looks_both {a} {b} {c} {h} p ps live mid last first second came lives = record {
  piece = both.piece;
  adds = both.adds;
  provenance = both.provenance;
  ends = λ q new. elim (split_got (IsOfThese (p ∷ ps)) both.piece q (both.ends q new)) [
    | inl given ↦ absurd (never_both new.0 (lives q given))
    | inr got ↦ got
  ];
}
  where
    either : (q : ℕ) → IsNewlyLive live last q → (x : Bool) → contains mid q ≡ x
        → OrThis (IsOfThese (p ∷ ps)) h q ⊎ IsNewlyLive mid last q
    either q new true is =
        let now : contains (with_handle live h) q ≡ true = sym (ap (λ (s : Handles). contains s q) came) ∙ is in
        let not_before : contains live q ≡ false = new.0 in
        let here : q ≡ h = grind (arith, members, nat_tests) in inl (inr here)
    either q new false is = inr (is, new.1)

    both : HasProvenance (IsOfThese (p ∷ ps)) (IsOfThese (p ∷ ps)) (IsNewlyLive live last) a c
    both = traced_then (λ q is. is) (λ q is. inl (inr is))
        (traced_kept (IsOfThese (p ∷ ps)) (OrThis (IsOfThese (p ∷ ps)) h) (λ q is. is)
        (traced_given (IsOfThese (p ∷ ps)) (λ q is. inl is) first))
        (traced_kept (OrThis (IsOfThese (p ∷ ps)) h) (IsNewlyLive live last)
        (λ q new. either q new (contains mid q) refl) second)

-- ---- the tree stays

leaves_on : {a b c : Handles} {u v w : HostModel} → LeavesTree a b u v → LeavesTree b c v w
    → ((q : ℕ) → contains a q ≡ true → contains c q ≡ true → contains b q ≡ true) → LeavesTree a c u w
leaves_on first second between = record {
  tree = second.tree ∙ first.tree;
  touched = second.touched ∙ first.touched;
  keeps = λ q was is. second.keeps q (between q was is) is ∙ first.keeps q was (between q was is);
}

-- ---- causes

-- what a host that went on before has failed since, and then stood still
failed_on : {A B C : Type 0} {old mid new last : FaultCount} {m : A} {e : FsError} → FsCause {A = A} old mid (Ok m)
    → FsCause {A = B} mid new (Err e) → last ≡ new → FsCause {A = C} old last (Err e)
failed_on {B = B} {e = e} one rest same = record {
  later = rw same (let a = one.later in let b = rest.later in omega arith);
  most = ap (λ (f : FaultCount). f.most) same ∙ rest.most ∙ one.most;
  io = λ is.
      let rose = rest.io (let same : e ≡ Code Io = cc in ap (λ x. let r : Result B FsError = Err x in r) same) in
      rw same (let a = one.later in omega (arith, rose));
}

-- ---- why not all

more_than_one : (modelled : Bool) (table : Table) (p : Preopen) (ps : List Preopen) {e : FsError} → WhyNotAll modelled table 1 e
    → WhyNotAll modelled table (length (p ∷ ps)) e
more_than_one modelled table p ps why = elim why [
  | inl full ↦ inl (full.0, (let above = full.1 in omega arith))
  | inr other ↦ inr other
]

one_more_than : (modelled : Bool) (table mid : Table) (p : Preopen) (ps : List Preopen) {e : FsError}
    → mid.max ≡ table.max → len mid.entries ≡ len table.entries + 1 → WhyNotAll modelled mid (length ps) e
    → WhyNotAll modelled table (length (p ∷ ps)) e
one_more_than modelled table mid p ps max longer why = elim why [
  | inl full ↦ inl (full.0, (let above = full.1 in omega arith))
  | inr other ↦ inr other
]

-- ---- the exits

-- none is left
pub none_left : {H : Type 0} {host : Ghosts H} {old : H} {table : Table} (ps : List Preopen) → length ps ≡ 0
    → GivesThese host old old table table ps (Ok [])
none_left {H} {host} {old} {table} [] is = record {
  cause = record { later = omega arith; most = refl; io = λ same. absurd (cc) };
  gives = ((refl, refl), omega arith);
  max = refl;
  looks = traced_none (IsOfThese []) Nothing (IsNewlyLive (host.live old) (host.live old)) _ _ refl
      (λ q new. absurd (never_both new.0 new.1));
  leaves = λ modelled. record { tree = refl; touched = refl; keeps = λ q was now. refl };
}
none_left (p ∷ ps) is = absurd (omega arith)

cause_as : {A B : Type 0} {before now : FaultCount} {e : FsError} → FsCause {A = A} before now (Err e)
    → FsCause {A = B} before now (Err e)
cause_as {A} {B} {e = e} cause = record {
  later = cause.later;
  most = cause.most;
  io = λ is. cause.io (let same : e ≡ Code Io = cc in ap (λ x. let r : Result A FsError = Err x in r) same);
}

-- the first isn't given
pub first_not : {H : Type 0} {host : Ghosts H} {old new : H} {table now : Table} {p : Preopen} {e : FsError}
    (ps : List Preopen) → FsCause {A = PreopenEntry} (host.faults old) (host.faults new) (Err e)
    → GivesNone host old new table now p e → GivesThese host old new table now (p ∷ ps) (Err e)
first_not {H} {host} {old} {new} {table} {now} {p} {e} ps cause none = record {
  cause = cause_as cause;
  gives = (none.live, none.entries, none.spare, more_than_one host.modelled table p ps none.why);
  max = none.max;
  looks = traced_given (IsOfThese (p ∷ ps)) (λ q is. inl is) (traced_kept Nothing
      (IsNewlyLive (host.live old) (host.live new))
      (λ q new. absurd (never_both new.0 (sym (ap (λ (s : Handles). contains s q) none.live) ∙ new.1))) none.looks);
  leaves = none.leaves;
}

-- a later one isn't, and the first is taken back
pub rest_not : {H : Type 0} {host : Ghosts H} {old mid new last : H} {table there now end : Table} {p : Preopen}
    {m : PreopenEntry} {e : FsError} (ps : List Preopen)
    → ((q : ℕ) → IsOfThese (p ∷ ps) q → contains (host.live old) q ≡ true)
    → FsCause {A = PreopenEntry} (host.faults old) (host.faults mid) (Ok m) → GivesOne host old mid table there p m
    → GivesThese host mid new there now ps (Err e) → TakesBack host new last now end m.fd.number
    → GivesThese host old last table end (p ∷ ps) (Err e)
rest_not {H} {host} {old} {mid} {new} {last} {table} {there} {now} {end} {p} {m} {e} ps lives cause one rest back =
    let put : now.entries ≡ insert table.entries m.fd.number (preopen_entry p one.handle) = rest.gives.1 ∙ one.entries in
    let handle_is : entry_handle (get now.entries m.fd.number) ≡ Some one.handle =
    ap (λ (t : Entries). entry_handle (get t m.fd.number)) put
    ∙ ap entry_handle (got_put table.entries m.fd.number (preopen_entry p one.handle)) in
    let live_is : host.live last ≡ host.live old =
    back.closes.live ∙ ap (live_without (host.live new)) handle_is
    ∙ ap (λ (s : Handles). live_without s (Some one.handle)) (rest.gives.0 ∙ one.live)
    ∙ remove-insert (host.live old) one.handle one.was_new in
    let longer : len there.entries ≡ len table.entries + 1 =
    ap len one.entries ∙ one_longer table.entries m.fd.number (preopen_entry p one.handle) one.fresh in
    record {
      cause = failed_on cause rest.cause back.closes.faults;
      gives = (
        live_is,
        back.entries ∙ ap (λ (t : Entries). remove t m.fd.number) put
            ∙ taken_again table.entries m.fd.number (preopen_entry p one.handle) one.fresh,
        (let a = rest.gives.2 in let b = one.spare in let c = back.spare in omega arith),
        one_more_than host.modelled table there p ps one.max longer rest.gives.3,
      );
      max = back.max ∙ rest.max ∙ one.max;
      looks = traced_same _ back.closes.logged (subst (λ (s : Handles). HasProvenance (IsOfThese (p ∷ ps)) Nothing
          (IsNewlyLive (host.live old) s) (host.lookups old) (host.lookups new)) (sym live_is)
          (traced_kept Nothing (IsNewlyLive (host.live old) (host.live old)) (λ q new. absurd (never_both new.0 new.1))
          (looks_both p ps (host.live old) (host.live mid) (host.live new) one.looks rest.looks one.live lives)));
      leaves = λ modelled. leaves_on (leaves_on (one.leaves modelled) (rest.leaves modelled) (λ q was is.
          ap (λ (s : Handles). contains s q) one.live ∙ live_on (host.live old) one.handle q was)) (back.closes.modelled modelled)
          (λ q was is. ap (λ (s : Handles). contains s q) (rest.gives.0 ∙ one.live) ∙ live_on (host.live old) one.handle q was);
    }

-- all are
pub rest_given : {H : Type 0} {host : Ghosts H} {old mid new : H} {table there now : Table} {p : Preopen} {m : PreopenEntry}
    {ms : List PreopenEntry} (ps : List Preopen)
    → ((q : ℕ) → IsOfThese (p ∷ ps) q → contains (host.live old) q ≡ true)
    → FsCause {A = PreopenEntry} (host.faults old) (host.faults mid) (Ok m) → GivesOne host old mid table there p m
    → GivesThese host mid new there now ps (Ok ms) → GivesThese host old new table now (p ∷ ps) (Ok (m ∷ ms))
rest_given {H} {host} {old} {mid} {new} {table} {there} {now} {p} {m} {ms} ps lives cause one rest =
    let on : (q : ℕ) → contains (host.live mid) q ≡ true → contains (host.live new) q ≡ true =
    grown host.modelled (host.model new) (host.live mid) there.entries ps ms (host.live new) now.entries rest.gives.0 in
    let p_mid : contains (host.live mid) p.dir.dir ≡ true =
    ap (λ (s : Handles). contains s p.dir.dir) one.live ∙ live_on (host.live old) one.handle p.dir.dir (lives p.dir.dir (inl refl)) in
    let h_mid : contains (host.live mid) one.handle ≡ true =
    ap (λ (s : Handles). contains s one.handle) one.live ∙ live_here (host.live old) one.handle in
    let others : GivesEach host.modelled (host.model new) (with_handle (host.live old) one.handle) there.entries ps ms
    (host.live new) now.entries = subst (λ (s : Handles). GivesEach host.modelled (host.model new) s there.entries ps ms
    (host.live new) now.entries) one.live rest.gives.0 in
    record {
      cause = record {
        later = (let a = cause.later in let b = rest.cause.later in omega arith);
        most = rest.cause.most ∙ cause.most;
        io = λ is. absurd (cc);
      };
      gives = (
        (
          one.handle,
          one.was_new,
          one.fresh,
          one.name,
          (λ modelled. (rest.leaves modelled).keeps one.handle h_mid (on one.handle h_mid) ∙ one.same modelled
              ∙ sym ((one.leaves modelled).keeps p.dir.dir (lives p.dir.dir (inl refl)) p_mid)
              ∙ sym ((rest.leaves modelled).keeps p.dir.dir p_mid (on p.dir.dir p_mid))),
          subst (λ (t : Entries). GivesEach host.modelled (host.model new) (with_handle (host.live old) one.handle) t ps ms
              (host.live new) now.entries) one.entries others,
        ),
        (let a = rest.gives.1 in let b = one.spare in omega arith),
      );
      max = rest.max ∙ one.max;
      looks = looks_both p ps (host.live old) (host.live mid) (host.live new) one.looks rest.looks one.live lives;
      leaves = λ modelled. leaves_on (one.leaves modelled) (rest.leaves modelled)
          (λ q was is. ap (λ (s : Handles). contains s q) one.live ∙ live_on (host.live old) one.handle q was);
    }

-- ---- a `dup` that is refused

-- a modelled host refuses it no other code
dup_code : (held : OpenHandle) (code : LowerCode) → MeansErr {B = OpenHandle} (Ok held) (hosts.Code code) → code ≡ lower.Io
dup_code held lower.Io means = refl
dup_code held code means = absurd (cc)

dup_why : (modelled : Bool) (table : Table) (held : OpenHandle) (e : HostError) → (IsTrue modelled → MeansErr {B = OpenHandle} (Ok held) e)
    → WhyNotAll modelled table 1 (fs_error e)
dup_why modelled table held hosts.Memory means = inr (inl refl)
dup_why modelled table held (hosts.Code code) means =
    inr (inr (code, refl, λ is. dup_code held code (means is)))

-- and leaves all as it was
dup_left : (w v : HostModel) (held : OpenHandle) (e : HostError) → AfterErr w (Dup held) e v
    → (v.tree ≡ w.tree) × (v.touched ≡ w.touched)
dup_left w v held hosts.Memory after = elim after [
  | inl stayed ↦ (stayed.tree, stayed.touched)
  | inr looked ↦ (looked.tree, looked.touched)
]
dup_left w v held (hosts.Code lower.Io) after = elim after [
  | inl stayed ↦ (stayed.tree, stayed.touched)
  | inr other ↦ elim other [
    | inl looked ↦ (looked.tree, looked.touched)
    | inr stepped ↦ (stepped.1.tree, stepped.1.touched)
  ]
]
dup_left w v held (hosts.Code code) after = (after.tree, after.touched)

pub dup_not : {H : Type 0} {host : Ghosts H} {old new : H} {table now : Table} {p : Preopen} (e : HostError)
    → KeepsTable table now → LiveGot (host.live old) (Err e) (host.live new)
    → LoggedGot (host.live old) (host.lookups old) kinds.Dup p.dir.dir (Err e) (host.lookups new)
    → (IsTrue host.modelled → RefinesCall {A = ℕ} (host.live old) (host.live new) (host.model old) (host.model new)
    (Dup ((host.model old).held p.dir.dir)) (host.model new).held (Err e))
    → GivesNone host old new table now p (fs_error e)
dup_not {H} {host} {old} {new} {table} {now} {p} e keeps live logged is_told = record {
  live = live;
  entries = keeps.entries;
  max = keeps.max;
  spare = keeps.grows;
  why = dup_why host.modelled table ((host.model old).held p.dir.dir) e (λ modelled. (is_told modelled).meaning);
  looks = traced_got_err (host.live old) (host.lookups old) (host.lookups new) kinds.Dup p.dir.dir e logged;
  leaves =
      λ modelled. let left : ((host.model new).tree ≡ (host.model old).tree) × ((host.model new).touched ≡ (host.model old).touched) =
      dup_left (host.model old) (host.model new) ((host.model old).held p.dir.dir) e (is_told modelled).after in
      record { tree = left.0; touched = left.1; keeps = (is_told modelled).keeps };
}

-- ---- what goes on

-- the handles of the directories are live at first
pub lives_these : (live : Handles) (all ps : List Preopen) (p : Preopen) → all ≡ p ∷ ps
    → ((q : ℕ) → IsOfThese all q → contains live q ≡ true) → (q : ℕ) → IsOfThese (p ∷ ps) q → contains live q ≡ true
lives_these live all ps p is lives =
    subst (λ (these : List Preopen). (q : ℕ) → IsOfThese these q → contains live q ≡ true) is lives

-- and those of the others, when the first has its entry
pub lives_on : {H : Type 0} {host : Ghosts H} {old mid : H} {table there : Table} {p : Preopen} {m : PreopenEntry}
    (all ps : List Preopen) → all ≡ p ∷ ps → ((q : ℕ) → IsOfThese all q → contains (host.live old) q ≡ true)
    → GivesOne host old mid table there p m → (q : ℕ) → IsOfThese ps q → contains (host.live mid) q ≡ true
lives_on {host = host} {old} {p = p} all ps is lives one q has =
    ap (λ (s : Handles). contains s q) one.live
    ∙ live_on (host.live old) one.handle q (lives_these (host.live old) all ps p is lives q (inr has))

-- where a later one isn't given, the entry that was is there
there_again : {H : Type 0} {host : Ghosts H} {old mid new : H} {table there now : Table} {p : Preopen}
    {m : PreopenEntry} {e : FsError} {ps : List Preopen} (one : GivesOne host old mid table there p m)
    → GivesThese host mid new there now ps (Err e) → get now.entries m.fd.number ≡ Some (preopen_entry p one.handle)
there_again {table = table} {p = p} {m} one rest =
    ap (λ (t : Entries). get t m.fd.number) (rest.gives.1 ∙ one.entries)
    ∙ got_put table.entries m.fd.number (preopen_entry p one.handle)

-- with a live handle, so it can be taken back
pub is_there : {H : Type 0} {host : Ghosts H} {old mid new : H} {table there now : Table} {p : Preopen}
    {m : PreopenEntry} {e : FsError} {ps : List Preopen} → GivesOne host old mid table there p m
    → GivesThese host mid new there now ps (Err e) → IsSome (get now.entries m.fd.number)
is_there one rest = ap is_some (there_again one rest)

pub lives_again : {H : Type 0} {host : Ghosts H} {old mid new : H} {table there now : Table} {p : Preopen}
    {m : PreopenEntry} {e : FsError} {ps : List Preopen} → GivesOne host old mid table there p m
    → GivesThese host mid new there now ps (Err e)
    → IfSome (entry_handle (get now.entries m.fd.number)) (λ h. contains (host.live new) h ≡ true)
lives_again {host = host} {old} {new = new} one rest =
    subst (λ (o : Option Entry). IfSome (entry_handle o) (λ h. contains (host.live new) h ≡ true))
    (sym (there_again one rest))
    (ap (λ (s : Handles). contains s one.handle) (rest.gives.0 ∙ one.live) ∙ live_here (host.live old) one.handle)

-- ---- all of a context's directories

place_of : (ps : List Preopen) (q : ℕ) → IsOfThese ps q
    → (i : ℕ) × (option_map (λ (p : Preopen). p.dir.dir) (slice_get ps i) ≡ Some q)
place_of [] q is = absurd is
place_of (p ∷ ps) q is = elim is [
  | inl here ↦ (0, ap Some (sym here))
  | inr later ↦ let there = place_of ps q later in (suc there.0, there.1)
]

pub owned_lives : {live : Handles} {ps : List Preopen} {table : Entries} → AreOwned live ps table → (q : ℕ)
    → IsOfThese ps q → contains live q ≡ true
owned_lives {ps = ps} owned q is = let at = place_of ps q is in owned.lives (preopened at.0) q at.1

-- given or not, the handles are owned
pub gave_all : {H : Type 0} {host : Ghosts H} {ctx : WasiFilesystemCtx H} {h : H} {table now : Table}
    {all : List Preopen} (result : Result (List PreopenEntry) FsError) → all ≡ ctx.preopens.items
    → AreOwned (host.live ctx.host) ctx.preopens.items table.entries
    → GivesThese host ctx.host h table now all result
    → GivesDirectories host (files_of ctx table) (files_of (record ctx { host = h }) now) result
gave_all {H} {host} {ctx} {h} {table} {now} result is owned gave =
    let given : GivesThese host ctx.host h table now ctx.preopens.items result =
    subst (λ (these : List Preopen). GivesThese host ctx.host h table now these result) is gave in
    record {
      ctx = refl;
      these = given;
      owned = by result given.gives;
    }
  where
    by : (r : Result (List PreopenEntry) FsError) → EachOrNone host.modelled (host.model h) (host.live ctx.host) table
        ctx.preopens.items r (host.live h) now → AreOwned (host.live h) ctx.preopens.items now.entries
    by (Ok made) all = owned_each host.modelled (host.model h) (host.live ctx.host) table.entries ctx.preopens.items made
        (host.live h) now.entries ctx.preopens.items all.0 owned
    by (Err e) none = rw (none.0, none.1) owned
