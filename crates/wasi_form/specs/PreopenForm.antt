-- The form of a directory that the guest is given.
use Rattle.std.specs.Prelude.{ℕ, List, [], ◌∷◌, Bool, codes, if◌then◌else◌, Option, Some, None}
use Rattle.std.specs.Str.{bytes_eq}
use Rattle.serde_json.specs.Data.{Data, Members}
use Rattle.serde_json.specs.Find as find
use Rattle.serde_json.specs.Find.{get_member}
use Rattle.wasi_fs.specs.declared.perms.FsPerms.{FsPerms}
use Rattle.wasi_fs.specs.declared.perms.FsPerms.TheVariants.{ReadOnly, ReadWrite, AppendOnly}
use Rattle.wasi_form.specs.Lists.{◌>>=◌, names, only_if, needed}
use Rattle.wasi_form.specs.Shapes.{u64_of, all_keys}
use Rattle.wasi_form.specs.Plan.{PlannedPreopen}

-- `"ro"`, `"rw"` or `"ao"`
abbrev pub perms_written : List ℕ → Option FsPerms
perms_written text =
    if bytes_eq text (codes "ro") then Some ReadOnly
    else (if bytes_eq text (codes "rw") then Some ReadWrite
    else (if bytes_eq text (codes "ao") then Some AppendOnly else None))

abbrev pub perms_named : Data → Option FsPerms
perms_named d = find.as_str d >>= perms_written

-- whether all keys are those of a directory that is given, and what stands at them: `None` where it is missing or of
-- another shape
pub record PreopenFound : Type 0 where
  pub known : Bool
  pub node : Option ℕ
  pub name : Option (List ℕ)
  pub perms : Option FsPerms

-- the keys, each with what a member adds there
abbrev pub preopen_members : List (List ℕ × (Data → PreopenFound → PreopenFound))
preopen_members =
    (codes "node", λ d found. record found { node = u64_of d })
    ∷ (codes "name", λ d found. record found { name = find.as_str d })
    ∷ (codes "perms", λ d found. record found { perms = perms_named d })
    ∷ []

-- of all members
abbrev pub preopen_in : Members → PreopenFound
preopen_in ms = record {
  known = all_keys (names preopen_members) ms;
  node = needed u64_of (get_member (codes "node") ms);
  name = needed find.as_str (get_member (codes "name") ms);
  perms = needed perms_named (get_member (codes "perms") ms);
}

-- the directory of what was found
unfoldable pub preopen_found : PreopenFound → Option PlannedPreopen
preopen_found found = do
  _ ← only_if found.known
  node ← found.node
  name ← found.name
  perms ← found.perms
  Some (record { node = node; name = name; perms = perms })

-- `{"node": NODE, "name": NAME, "perms": PERMS}`
abbrev pub preopen_of : Data → Option PlannedPreopen
preopen_of d = find.as_object d >>= (λ ms. preopen_found (preopen_in ms))
