-- What stands under a number of a table.
use Rattle.std.specs.Prelude.{List, [], ◌∷◌, Option, Some, None, Result, Ok, Err}
use Rattle.wasi_fs.specs.declared.descriptor.Descriptor.{Descriptor as Opened}
use Rattle.wasi_host.specs.Answer.{Listed}
use Rattle.wasi_streams.specs.Input as inputs
use Rattle.wasi_streams.specs.Output as outputs
use Rattle.wasi_streams.specs.declared.entry.Entry.{Entry}
use Rattle.wasi_streams.specs.declared.entry.Entry.TheVariants.{Descriptor, Input, Output, Readdir}
use Rattle.wasi_streams.specs.declared.errors.TableError.{TableError}
use Rattle.wasi_streams.specs.declared.errors.TableError.TheVariants.{NotPresent, WrongKind}

-- the entry of a number, or that it has none
abbrev pub entry_found : Option Entry → Result Entry TableError
entry_found None = Err NotPresent
entry_found (Some entry) = Ok entry

-- the same of a descriptor's number, where an entry of any other kind is refused
abbrev pub descriptor_found : Option Entry → Result Opened TableError
descriptor_found None = Err NotPresent
descriptor_found (Some (Descriptor descriptor)) = Ok descriptor
descriptor_found (Some other) = Err WrongKind

-- the same of an input stream's number
abbrev pub input_found : Option Entry → Result inputs.Input TableError
input_found None = Err NotPresent
input_found (Some (Input stream)) = Ok stream
input_found (Some other) = Err WrongKind

-- the same of an output stream's number
abbrev pub output_found : Option Entry → Result outputs.Output TableError
output_found None = Err NotPresent
output_found (Some (Output stream)) = Ok stream
output_found (Some other) = Err WrongKind

-- the same of a listing's number
abbrev pub readdir_found : Option Entry → Result (List Listed) TableError
readdir_found None = Err NotPresent
readdir_found (Some (Readdir entries)) = Ok entries
readdir_found (Some other) = Err WrongKind

-- the first of a list
abbrev pub first_of : {A : Type 0} → List A → Option A
first_of [] = None
first_of (a ∷ rest) = Some a
