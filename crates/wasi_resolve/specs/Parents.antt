-- A name in the directory that a path leads to, as contracts see it.
use Rattle.std.specs.Prelude.{◌≡◌, ℕ, Bool, true, false, if◌then◌else◌, List, [], ◌∷◌, Option, Some, None, Result, Ok, Err}
use Rattle.std.specs.FinSet.{contains, insert, remove}
use Rattle.wasi_host.specs.Tree.{Tree}
use Rattle.wasi_host.specs.HostLaws.{Handles}
use Rattle.wasi_host.specs.declared.errors.HostError.{HostError}
use Rattle.wasi_host.specs.declared.open_handle.OpenHandle.{OpenHandle}
use Rattle.wasi_host.specs.declared.lookup.Lookup.{Lookup}
use Rattle.wasi_paths.specs.Name.{name_bytes}
use Rattle.wasi_paths.specs.Parts.{Component, split, is_empty}
use Rattle.wasi_resolve.specs.Walk.{Open, walk, walk_looks}
use Rattle.wasi_resolve.specs.Paths.{Place, place, directory_options}
use Rattle.wasi_resolve.specs.Meanings.{ends_by}
use Rattle.wasi_resolve.specs.Resolved.{Meant, last_got}
use Rattle.wasi_resolve.specs.declared.parent.MaybeOwned.{MaybeOwned}
use Rattle.wasi_resolve.specs.declared.parent.MaybeOwned.TheVariants.{Borrowed, Owned}
use Rattle.wasi_resolve.specs.declared.parent.Parent.{Parent}

abbrev pub directory_of : MaybeOwned → ℕ
directory_of (Borrowed h) = h
directory_of (Owned h) = h

-- the directory is the start itself, and was not opened
abbrev pub is_borrowed : MaybeOwned → Bool
is_borrowed (Borrowed h) = true
is_borrowed (Owned h) = false

-- the place: the node of its directory, and the bytes of its name
abbrev pub shown_place : (ℕ → OpenHandle) → Parent → Place
shown_place held parent =
    record { directory = (held (directory_of parent.directory)).node; name = name_bytes parent.name }

-- a directory that was opened is live from then on, and one that wasn't is the start
abbrev pub LiveIn : ℕ → Handles → MaybeOwned → Handles → Type 0
LiveIn start old (Borrowed h) new = (h ≡ start) × (new ≡ old)
LiveIn start old (Owned h) new = (contains old h ≡ false) × (new ≡ insert old h)

abbrev pub LiveParent : ℕ → Handles → Result Parent HostError → Handles → Type 0
LiveParent start old (Ok parent) new = LiveIn start old parent.directory new
LiveParent start old (Err e) new = new ≡ old

-- what is live once a directory is closed that was opened
abbrev pub released : Handles → MaybeOwned → Handles
released live (Borrowed h) = live
released live (Owned h) = remove live h

-- the handle that was got, where one was opened
abbrev pub GotIn : MaybeOwned → ℕ → Type 0
GotIn (Borrowed h) q = ⊥
GotIn (Owned h) q = q ≡ h

abbrev pub GotParent : Result Parent HostError → ℕ → Type 0
GotParent (Ok parent) q = GotIn parent.directory q
GotParent (Err e) q = ⊥

-- a directory that was opened is what the last lookup got, so nothing was looked up in it
abbrev pub LastIn : MaybeOwned → List Lookup → Type 0
LastIn (Borrowed h) lookups = Unit {0}
LastIn (Owned h) lookups = last_got lookups ≡ Some h

abbrev pub parent_in : Option (List ℕ × Component) → List ℕ
parent_in None = []
parent_in (Some halves) = halves.0

-- the text that the directory is opened by
abbrev pub parent_text : List ℕ → List ℕ
parent_text text = parent_in (split text)

-- how many lookups the walk to it makes at most. A place in the start itself is found by its text alone.
unfoldable pub parent_looks : Tree → ℕ → List ℕ → ℕ
parent_looks t s text =
    if is_empty (parent_text text) then 0 else walk_looks (walk t s (parent_text text) (Open directory_options) true)

-- where that walk ends: at the place's directory
unfoldable pub parent_ends : Tree → ℕ → List ℕ → List ℕ
parent_ends t s text = if is_empty (parent_text text) then [] else ends_by (λ (p : Place). p.directory) (place t s text)

-- what a place means
abbrev pub places_at : Tree → ℕ → List ℕ → Meant Place
places_at t s text = record { starts = s ∷ []; answer = place t s text; stepped = t; ends = parent_ends t s text }
