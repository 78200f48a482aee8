-- What a reader answers, against a definition.
use Rattle.std.specs.Prelude.{◌≡◌, Result, Ok, Err, Option, Some, None}
use Rattle.wasi_form.specs.declared.shapes.Unread.{Unread}
use Rattle.wasi_form.specs.declared.shapes.Unread.TheVariants.{Shape, Memory}

-- another shape is answered exactly where the definition has no value; out of memory is free
abbrev pub IsUnread : {Y : Type 0} → Unread → Option Y → Type 0
IsUnread Shape defined = defined ≡ None
IsUnread Memory defined = Unit {0}

-- the value, seen by see, is the one defined
abbrev pub IsRead : {X Y : Type 0} → (X → Y) → Result X Unread → Option Y → Type 0
IsRead see (Ok x) defined = defined ≡ Some (see x)
IsRead see (Err e) defined = IsUnread e defined
