-- Descriptors as files and as directories.
use Rattle.std.specs.Prelude.{Result, Ok, Err}
use Rattle.wasi_host.specs.declared.errors.ErrorCode.{ErrorCode}
use Rattle.wasi_host.specs.declared.errors.ErrorCode.TheVariants.{BadDescriptor, NotDirectory}
use Rattle.wasi_fs.specs.declared.descriptor.File.{File}
use Rattle.wasi_fs.specs.declared.descriptor.Dir.{Dir}
use Rattle.wasi_fs.specs.declared.descriptor.Descriptor.{Descriptor}
use Rattle.wasi_fs.specs.declared.descriptor.Descriptor.TheVariants as descriptors

-- a descriptor asked as a file
abbrev pub file_of : Descriptor → Result File ErrorCode
file_of (descriptors.File file) = Ok file
file_of (descriptors.Dir dir) = Err BadDescriptor

-- a descriptor asked as a directory
abbrev pub dir_of : Descriptor → Result Dir ErrorCode
dir_of (descriptors.File file) = Err NotDirectory
dir_of (descriptors.Dir dir) = Ok dir
