-- What is done at a place: a name in the directory that a path leads to.
use Rattle.std.specs.Prelude.{ℕ, List, [], ◌∷◌, ◌++◌, Option, option_to_list, if◌then◌else◌, Result, Ok, Err}
use Rattle.wasi_paths.specs.Parts.{has_root, strip_dir_suffix}
use Rattle.wasi_host.specs.Tree.{Tree, child}
use Rattle.wasi_host.specs.HostCall.{HostCall, MakeDirAt, SymlinkAt, UnlinkAt, RemoveDirAt, ReadLinkAt, TimesAt}
use Rattle.wasi_host.specs.Step.{step}
use Rattle.wasi_host.specs.Answer.{host_answer}
use Rattle.wasi_host.specs.Steps.{◌>>=◌}
use Rattle.wasi_host.specs.declared.errors.ErrorCode.{ErrorCode}
use Rattle.wasi_host.specs.declared.errors.ErrorCode.TheVariants.{NotPermitted}
use Rattle.wasi_host.specs.declared.system_time.SystemTime.{SystemTime}
use Rattle.wasi_resolve.specs.Paths.{Place, place}
use Rattle.wasi_resolve.specs.Resolved.{Meant}

-- the calls of the resolver that end at one place
pub data EntryOp : Type 0 where
  CreateDir : EntryOp
  RemoveFile : EntryOp
  RemoveDir : EntryOp
  -- the text of the link
  Symlink : List ℕ → EntryOp
  ReadLink : EntryOp
  -- the times of the last read and of the last change that are to be set
  SetTimes : Option SystemTime → Option SystemTime → EntryOp

-- the call of the host at the place
abbrev pub call_at : EntryOp → Place → HostCall
call_at CreateDir p = MakeDirAt p.directory p.name
call_at RemoveFile p = UnlinkAt p.directory p.name
call_at RemoveDir p = RemoveDirAt p.directory p.name
call_at (Symlink text) p = SymlinkAt text p.directory p.name
call_at ReadLink p = ReadLinkAt p.directory p.name
call_at (SetTimes atime mtime) p = TimesAt p.directory p.name atime mtime

-- what is answered: a link's text, or nothing but that it was done
abbrev pub EntryAnswer : EntryOp → Type 0
EntryAnswer CreateDir = Unit {0}
EntryAnswer RemoveFile = Unit {0}
EntryAnswer RemoveDir = Unit {0}
EntryAnswer (Symlink text) = Unit {0}
EntryAnswer ReadLink = List ℕ
EntryAnswer (SetTimes atime mtime) = Unit {0}

-- a text with a root leads out of every directory, and isn't handed out
abbrev pub unrooted : List ℕ → Result (List ℕ) ErrorCode
unrooted text = if has_root text then Err NotPermitted else Ok text

-- the answer at the place: that of the host's table
abbrev pub answer_in : Tree → (c : EntryOp) → Place → Result (EntryAnswer c) ErrorCode
answer_in t CreateDir p = host_answer t (MakeDirAt p.directory p.name)
answer_in t RemoveFile p = host_answer t (UnlinkAt p.directory p.name)
answer_in t RemoveDir p = host_answer t (RemoveDirAt p.directory p.name)
answer_in t (Symlink text) p = host_answer t (SymlinkAt text p.directory p.name)
answer_in t ReadLink p = host_answer t (ReadLinkAt p.directory p.name) >>= unrooted
answer_in t (SetTimes atime mtime) p = host_answer t (TimesAt p.directory p.name atime mtime)

-- the text by which the place is found: a directory may be made by a text with slashes after its name
abbrev pub place_text : EntryOp → List ℕ → List ℕ
place_text CreateDir text = strip_dir_suffix text
place_text RemoveFile text = text
place_text RemoveDir text = text
place_text (Symlink target) text = text
place_text ReadLink text = text
place_text (SetTimes atime mtime) text = text

abbrev pub place_for : Tree → ℕ → List ℕ → EntryOp → Result Place ErrorCode
place_for t s text c = place t s (place_text c text)

-- the tree after it: the one step of the host's call, if it has one
abbrev pub step_in : Tree → EntryOp → Result Place ErrorCode → Tree
step_in t c (Ok p) = step t (call_at c p)
step_in t c (Err code) = t

-- where a path ends that names a place: at its directory, and at the node that its name holds before the step and after
abbrev pub ends_in : Tree → Tree → Result Place ErrorCode → List ℕ
ends_in t t' (Ok p) =
    p.directory ∷ option_to_list (child t p.directory p.name) ++ option_to_list (child t' p.directory p.name)
ends_in t t' (Err code) = []

-- what is done at a place, if there is one
abbrev pub done_in : Tree → ℕ → Result Place ErrorCode → (c : EntryOp) → Meant (EntryAnswer c)
done_in t s p c = record {
  starts = s ∷ [];
  answer = p >>= answer_in t c;
  stepped = step_in t c p;
  ends = ends_in t (step_in t c p) p;
}

-- what is done at the place that a text names
abbrev pub does_at : Tree → ℕ → List ℕ → (c : EntryOp) → Meant (EntryAnswer c)
does_at t s text c = done_in t s (place_for t s text c) c
