-- What the number says that C is given.
use Rattle.std.specs.Prelude.{◌≡◌, ◌<◌, ℕ, List, ◌++◌, length, drop, Result, Ok, Err, Some, None}
use Rattle.std.specs.FinSet.{from_list}
use Rattle.std.specs.List.Sorted.{IsStrictlySortedBy}
use Rattle.std.specs.Ordering.{nat_cmp}
use Rattle.wasi_guest.specs.declared.answer.Value.{Value}
use Rattle.wasi_guest.specs.declared.call.Call.{Call}
use Rattle.wasi_p1_types.specs.declared.error.P1Error.{P1Error}
use Rattle.wasi_sandbox.specs.declared.result_layout.ResultLayout.{ResultLayout}
use Rattle.wasi_tree.specs.MemState.{MemState}
use Rattle.wasi_overlay.specs.Overlay.{IsFreshOn}
use Rattle.wasi_sandbox.specs.Any.{one_of, Becomes}
use Rattle.wasi_sandbox.specs.Calling.{CalledInto}
use Rattle.wasi_sandbox.specs.Starting.{StartsBy, StartsOver}
use Rattle.wasi_sandbox.specs.Telling.{Tells}
use Rattle.wasi_sandbox.specs.declared.any.AnySandbox.{AnySandbox}
use Rattle.wasi_sandbox.specs.declared.any.AnySandbox.TheVariants.{Alone, Over}
use Rattle.wasi_sandbox.specs.declared.base.Base.{Base}
use Rattle.wasi_sandbox.specs.declared.error.StartError.{StartError}
use Rattle.wasi_sandbox.specs.declared.sandbox.Sandbox.{Sandbox}
use Rattle.wasi_c.specs.Codes.{code_of, start_code}
use Rattle.wasi_c.specs.Held.{Held, HeldBase}

-- as in memory a tree is seen, and so is an overlay
abbrev seen : MemState → MemState
seen tree = tree

-- from the sandbox that a handle held to the one that it holds
abbrev pub Both : Held → Held → (Sandbox MemState → Sandbox MemState → Type 0) → Type 0
Both None new P = ⊥
Both (Some o) None P = ⊥
Both (Some o) (Some w) P = Becomes o w P

abbrev pub Holds : Held → (Sandbox MemState → Type 0) → Type 0
Holds None P = ⊥
Holds (Some s) P = P (one_of s)

-- a call whose results go to these addresses, and the number of its answer
pub record CallTold (o w : Sandbox MemState) (before after : List ℕ) (call : Call) (to : ResultLayout) (code : ℕ) : Type 0 where
  pub result : Result Value P1Error
  pub called : CalledInto seen o w before after call to result
  pub code_is : code ≡ code_of result

-- the same of what a handle holds
abbrev pub TellsCall : Held → Held → List ℕ → List ℕ → Call → ResultLayout → ℕ → Type 0
TellsCall old new before after call to code = Both old new (λ o w. CallTold o w before after call to code)

-- a sandbox was begun by a script, or why none was
pub data TellsStart (bytes : List ℕ) : Held → ℕ → Type 0 where
  started : (s : Sandbox MemState) → StartsBy seen bytes (Ok s) → TellsStart bytes (Some (Alone s)) 0
  not_started : (error : StartError) → StartsBy seen bytes (Err error) → TellsStart bytes None (start_code error)

-- the same over the tree that a base's handle holds
pub data TellsStartOver (bytes : List ℕ) : HeldBase → Held → ℕ → Type 0 where
  started_over : (base : Base) (s : Sandbox MemState) → StartsOver seen base.tree.tree bytes (Ok s)
      → TellsStartOver bytes (Some base) (Some (Over s)) 0
  not_started_over : (base : Base) (error : StartError) → StartsOver seen base.tree.tree bytes (Err error)
      → TellsStartOver bytes (Some base) None (start_code error)

abbrev pub TellsAnswered : Held → ℕ → Type 0
TellsAnswered held n = Holds held (λ s. n ≡ s.answered)

-- how much of its quotas was used
abbrev pub TellsUsed : Held → ℕ → ℕ → Type 0
TellsUsed held nodes bytes = Holds held (λ s.
    (nodes ≡ s.context.holdings.used.nodes) × (bytes ≡ s.context.holdings.used.bytes))

-- The report's length, and its text in front of the bytes that were lent, of which the others stay, where it isn't longer
-- than these; else they stay. Memory may have been wanted, and then all stays
pub data ReportTold (s : Sandbox MemState) (before after : List ℕ) (len len' : ℕ) : ℕ → Type 0 where
  in_full : (text : List ℕ) → Tells seen s text → len' ≡ length text → after ≡ text ++ drop len' before
      → ReportTold s before after len len' 0
  short : (text : List ℕ) → Tells seen s text → len' ≡ length text → length before < len' → after ≡ before
      → ReportTold s before after len len' 262
  memory_wanted : len' ≡ len → after ≡ before → ReportTold s before after len len' 260

abbrev pub TellsReport : Held → List ℕ → List ℕ → ℕ → ℕ → ℕ → Type 0
TellsReport held before after len len' code = Holds held (λ s. ReportTold s before after len len' code)

-- The numbers of the nodes that steps of a sandbox over a tree that stays have worked on, rising, in front of those that were
-- lent, of which the others stay, where they aren't more than these; else these stay. One that stands alone keeps none, and
-- memory may have been wanted: then all stays
pub data KeptTold (before after : List ℕ) (len len' : ℕ) : AnySandbox → ℕ → Type 0 where
  all_kept : (s : Sandbox MemState) (kept : List ℕ) → from_list kept ≡ s.context.host.inner.tree.worked
      → IsStrictlySortedBy nat_cmp kept → len' ≡ length kept → after ≡ kept ++ drop len' before
      → KeptTold before after len len' (Over s) 0
  kept_short : (s : Sandbox MemState) (kept : List ℕ) → from_list kept ≡ s.context.host.inner.tree.worked
      → IsStrictlySortedBy nat_cmp kept → len' ≡ length kept → length before < len' → after ≡ before
      → KeptTold before after len len' (Over s) 262
  alone : (s : Sandbox MemState) → len' ≡ len → after ≡ before → KeptTold before after len len' (Alone s) 277
  no_memory : (s : AnySandbox) → len' ≡ len → after ≡ before → KeptTold before after len len' s 260

abbrev pub TellsKept : Held → List ℕ → List ℕ → ℕ → ℕ → ℕ → Type 0
TellsKept None before after len len' code = ⊥
TellsKept (Some s) before after len len' code = KeptTold before after len len' s code

-- the base holds the tree of the sandbox, on which no step has worked and that nobody asked for anything; or memory was
-- wanted, and then it stays empty
pub data CommitTold (s : Sandbox MemState) : HeldBase → ℕ → Type 0 where
  committed : (base : Base) → IsFreshOn s.context.host.inner.tree base.tree → CommitTold s (Some base) 0
  not_committed : CommitTold s None 260

abbrev pub TellsCommit : Held → HeldBase → ℕ → Type 0
TellsCommit held base code = Holds held (λ s. CommitTold s base code)
