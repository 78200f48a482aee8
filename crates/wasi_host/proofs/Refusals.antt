-- Rules before others, and that a code of the table is a refusal.
use Rattle.std.proofs.Common.{◌≡◌, ◌⊎◌, inl, inr, Bool, true, false, List, [], ◌∷◌, ◌++◌, Option, Some, None, Ok, Err, refl, sym, ap, ◌∙◌}
use Rattle.wasi_host.specs.Tree.{Tree}
use Rattle.wasi_host.specs.HostCall.{HostCall, OpenAt, StatAt, ReadLinkAt, MakeDirAt, SymlinkAt, LinkAt, RenameAt, UnlinkAt, RemoveDirAt, TimesAt, Access, Stat, SetTimes, Pread, Pwrite, Append, SetSize, Sync, Advise, Flags, ListDir, Dup, Close}
use Rattle.wasi_host.specs.Refusal.{refusal, first_rule}
use Rattle.wasi_host.specs.Answer.{HostAnswer, unless, host_answer}
use Rattle.wasi_host.specs.declared.errors.ErrorCode.{ErrorCode}

-- ---- rules before others

-- where no rule holds, none of either part does
pub none_refuses : (rows others : List (Bool × ErrorCode)) → first_rule (rows ++ others) ≡ None
    → (first_rule rows ≡ None) × (first_rule others ≡ None)
none_refuses [] others none = (refl, none)
none_refuses ((true, code) ∷ rows) others none = absurd (cc)
none_refuses ((false, code) ∷ rows) others none = none_refuses rows others none

-- a code is that of a rule of one part
pub part_refuses : (rows others : List (Bool × ErrorCode)) {code : ErrorCode} → first_rule (rows ++ others) ≡ Some code
    → (first_rule rows ≡ Some code) ⊎ (first_rule others ≡ Some code)
part_refuses [] others is = inr is
part_refuses ((true, code) ∷ rows) others is = inl is
part_refuses ((false, code) ∷ rows) others is = part_refuses rows others is

-- the first part's code is that of both
pub refused_before : (rows more : List (Bool × ErrorCode)) {code : ErrorCode} → first_rule rows ≡ Some code
    → first_rule (rows ++ more) ≡ Some code
refused_before [] more is = absurd (cc)
refused_before ((true, code) ∷ rows) more is = is
refused_before ((false, code) ∷ rows) more is = refused_before rows more is

pub left_behind : (rows more : List (Bool × ErrorCode)) → first_rule rows ≡ None
    → first_rule (rows ++ more) ≡ first_rule more
left_behind [] more none = refl
left_behind ((true, code) ∷ rows) more some = absurd (cc)
left_behind ((false, code) ∷ rows) more none = left_behind rows more none

-- ---- codes of the table

pub unless-err : {B : Type 0} (refused : Option ErrorCode) (x : B) {code : ErrorCode} → unless refused x ≡ Err code
    → refused ≡ Some code
unless-err None x is = absurd (cc)
unless-err (Some d) x is = cc

-- what the table has for a call is one value, unless the call is refused
pub unless_refused : (t : Tree) (call : HostCall) → (x : HostAnswer call) × (host_answer t call ≡ unless (refusal t call) x)
unfolding refusal
unless_refused t (OpenAt d name o) = (_, refl)
unless_refused t (StatAt d name) = (_, refl)
unless_refused t (ReadLinkAt d name) = (_, refl)
unless_refused t (MakeDirAt d name) = (tt, refl)
unless_refused t (SymlinkAt text d name) = (tt, refl)
unless_refused t (LinkAt old old_name new new_name) = (tt, refl)
unless_refused t (RenameAt old old_name new new_name requires_dir) = (tt, refl)
unless_refused t (UnlinkAt d name) = (tt, refl)
unless_refused t (RemoveDirAt d name) = (tt, refl)
unless_refused t (TimesAt d name atime mtime) = (tt, refl)
unless_refused t (Access d) = (tt, refl)
unless_refused t (Stat n) = (_, refl)
unless_refused t (SetTimes n atime mtime) = (tt, refl)
unless_refused t (Pread file offset n) = (_, refl)
unless_refused t (Pwrite file offset piece) = (_, refl)
unless_refused t (Append file piece) = (_, refl)
unless_refused t (SetSize file size) = (tt, refl)
unless_refused t (Sync n) = (tt, refl)
unless_refused t (Advise n offset length advice) = (tt, refl)
unless_refused t (Flags n) = (_, refl)
unless_refused t (ListDir held) = (_, refl)
unless_refused t (Dup held) = (held, refl)
unless_refused t Close = (tt, refl)

-- a code that the table has for a call is its refusal
pub refusal_of : (t : Tree) (call : HostCall) {code : ErrorCode} → host_answer t call ≡ Err code
    → refusal t call ≡ Some code
refusal_of t call is = let answer = unless_refused t call in unless-err (refusal t call) answer.0 (sym answer.1 ∙ is)

-- and so the other way round
pub answer_refused : (t : Tree) (call : HostCall) {code : ErrorCode} → refusal t call ≡ Some code
    → host_answer t call ≡ Err code
answer_refused t call is = let answer = unless_refused t call in answer.1 ∙ ap (λ o. unless o answer.0) is

-- a call that isn't refused is answered
pub answer_of : (t : Tree) (call : HostCall) → refusal t call ≡ None
    → (x : HostAnswer call) × (host_answer t call ≡ Ok x)
answer_of t call none =
    let answer = unless_refused t call in (answer.0, answer.1 ∙ ap (λ o. unless o answer.0) none)

not_refused : {B : Type 0} (refused : Option ErrorCode) (x : B) {y : B} → unless refused x ≡ Ok y → refused ≡ None
not_refused None x is = refl
not_refused (Some code) x is = absurd (cc)

-- a call that is answered isn't refused
pub free_of : (t : Tree) (call : HostCall) {x : HostAnswer call} → host_answer t call ≡ Ok x → refusal t call ≡ None
free_of t call is = not_refused (refusal t call) _ (sym (unless_refused t call).1 ∙ is)
