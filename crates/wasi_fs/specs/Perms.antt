-- Permissions.
use Rattle.std.specs.Prelude.{Bool, true, false}
use Rattle.wasi_fs.specs.declared.perms.Act.{Act}
use Rattle.wasi_fs.specs.declared.perms.Act.TheVariants.{Make, Append, Alter}
use Rattle.wasi_fs.specs.declared.perms.FsPerms.{FsPerms}
use Rattle.wasi_fs.specs.declared.perms.FsPerms.TheVariants.{ReadOnly, ReadWrite, AppendOnly}

-- which acts are permitted: under append-only permissions nodes and names are made, and bytes put at a file's end
abbrev pub permits : FsPerms → Act → Bool
permits ReadOnly act = false
permits AppendOnly Make = true
permits AppendOnly Append = true
permits AppendOnly Alter = false
permits ReadWrite act = true

abbrev pub is_read_only : FsPerms → Bool
is_read_only ReadOnly = true
is_read_only AppendOnly = false
is_read_only ReadWrite = false

abbrev pub is_append_only : FsPerms → Bool
is_append_only ReadOnly = false
is_append_only AppendOnly = true
is_append_only ReadWrite = false

abbrev pub differ : FsPerms → FsPerms → Bool
differ ReadOnly ReadOnly = false
differ AppendOnly AppendOnly = false
differ ReadWrite ReadWrite = false
differ old new = true
