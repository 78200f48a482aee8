-- The script of `gen n`.
use Rattle.std.specs.Prelude.{ℕ, ◌+◌, ◌*◌, List, [], ◌∷◌, ◌++◌, length, codes, decimal}
use Rattle.std.specs.List.{flat_map}
use Rattle.wasi_fs.specs.declared.perms.FsPerms.TheVariants.{ReadWrite}
use Rattle.wasi_guest.specs.Quotas.{no_quota}
use Rattle.wasi_guest.specs.Services.{Handed}
use Rattle.wasi_guest.specs.declared.call.Call.{Call}
use Rattle.wasi_guest.specs.declared.call.Call.TheVariants.{PathOpen, FdRead, FdClose, PathCreateDirectory}
use Rattle.wasi_form.specs.LimitsForm.{default_limits}
use Rattle.wasi_form.specs.Plan.{Plan, PlannedPiece, PlannedPreopen}
use Rattle.wasi_form.specs.ScriptForm.{default_fuel, default_table}
use Rattle.wasi_form.specs.ServicesForm.{default_wall, default_wall_resolution}
use Rattle.wasi_script_gen.specs.GenNodes.{numbers, directory_name, gen_nodes}

-- the path of a link, `di/up`, and that of a directory that is made, `ni`
abbrev pub link_path : ℕ → List ℕ
link_path i = directory_name i ++ codes "/up"

abbrev pub new_path : ℕ → List ℕ
new_path i = codes "n" ++ decimal i

-- an iovec, two numbers of four bytes each, the lowest first: a buffer of 16 bytes at 64
abbrev pub iovec_bytes : List ℕ
iovec_bytes = 64 ∷ 0 ∷ 0 ∷ 0 ∷ 16 ∷ 0 ∷ 0 ∷ 0 ∷ []

abbrev pub link_at : ℕ → ℕ
link_at i = 1024 + 32 * i

abbrev pub new_at : ℕ → ℕ
new_at i = 1040 + 32 * i

-- the two paths in memory
abbrev pub pieces_at : ℕ → List PlannedPiece
pieces_at i = record { offset = link_at i; bytes = link_path i } ∷ record { offset = new_at i; bytes = new_path i } ∷ []

-- The link's path is opened from descriptor 3, following the link, to be read. What was opened is descriptor 4, of which
-- is read and which is closed. Then the directory is made.
abbrev pub calls_at : ℕ → List Call
calls_at i =
    PathOpen 3 1 (link_at i) (length (link_path i)) 0 2 0 0
    ∷ FdRead 4 0 1
    ∷ FdClose 4
    ∷ PathCreateDirectory 3 (new_at i) (length (new_path i))
    ∷ []

unfoldable pub gen_pieces : ℕ → List PlannedPiece
gen_pieces n = record { offset = 0; bytes = iovec_bytes } ∷ [] ++ flat_map pieces_at (numbers n)

unfoldable pub gen_calls : ℕ → List Call
gen_calls n = flat_map calls_at (numbers n)

-- node 0, which may be changed
abbrev pub gen_preopens : List PlannedPreopen
gen_preopens = record { node = 0; name = codes "/"; perms = ReadWrite } ∷ []

-- what a script that says nothing of it hands in
abbrev pub gen_services : Handed
gen_services = record {
  args = [];
  env = [];
  stdin = [];
  wall = default_wall;
  wall_resolution = default_wall_resolution;
  monotonic = 0;
  monotonic_resolution = 1;
  random = [];
}

-- The script of `gen n`. What the text of a script may leave out is as it is without it.
abbrev pub gen_script : ℕ → Plan
gen_script n = record {
  nodes = gen_nodes n;
  limits = default_limits;
  preopens = gen_preopens;
  size = 1024 + 32 * n;
  pieces = gen_pieces n;
  show = [];
  calls = gen_calls n;
  fuel = default_fuel;
  table = default_table;
  faults = [];
  quota = no_quota;
  services = gen_services;
}
