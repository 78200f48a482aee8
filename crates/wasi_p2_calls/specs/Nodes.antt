-- The calls about what a resource's descriptor stands for.
use Rattle.std.specs.Prelude.{ℕ, Bool, IsTrue, None, Result, IfOk, IfErr}
use Rattle.wasi_host.specs.HostCall.{Advise, SetSize}
use Rattle.wasi_host.specs.declared.errors.HostError.{HostError}
use Rattle.wasi_host.specs.declared.host.Host.{Ghosts}
use Rattle.wasi_fs.specs.Calls.{asks_at, handle_of, may_do, meant_as, perms_of, sets, stats, syncs, tells_flags, AnswersKnown, Compares, IsFlags, IsTyped, LooksAnew, NeedsNone, NotMemory}
use Rattle.wasi_fs.specs.DescriptorStat.{descriptor_stat, IsStat}
use Rattle.wasi_fs.specs.MetadataHash.{metadata_hash, IsHash}
use Rattle.wasi_fs.specs.OpenFlags.{descriptor_flag_bits}
use Rattle.wasi_fs.specs.declared.descriptor.Descriptor.{Descriptor}
use Rattle.wasi_fs.specs.declared.descriptor.File.{File}
use Rattle.wasi_p2_types.specs.Advices.{advice_named}
use Rattle.wasi_p2_types.specs.FlagNames.{descriptor_flags_told}
use Rattle.wasi_p2_calls.specs.Resources.{both_found, descriptor_at, file_at}
use Rattle.wasi_p2_types.specs.Stats.{type_named, stat_named, hash_named}
use Rattle.wasi_p2_calls.specs.Timed.{timed_by}
use Rattle.wasi_p2_calls.specs.Views.{Files, CallsOn, LooksAtNone, LooksFrom, Performs, node_held, tree_in}
use Rattle.wasi_p2_types.specs.declared.error.FsError.{FsError}
use Rattle.wasi_p2_types.specs.declared.advice.Advice.{Advice}
use Rattle.wasi_p2_types.specs.declared.descriptor_stat.DescriptorStat.{DescriptorStat}
use Rattle.wasi_p2_types.specs.declared.descriptor_stat.DescriptorType.{DescriptorType}
use Rattle.wasi_p2_types.specs.declared.descriptor_stat.MetadataHashValue.{MetadataHashValue}
use Rattle.wasi_p2_types.specs.declared.flags.DescriptorFlags.{DescriptorFlags}
use Rattle.wasi_p2_types.specs.declared.times.NewTimestamp.{NewTimestamp}
use Rattle.wasi_fs.specs.declared.perms.Act.TheVariants.{Alter}

-- a call about a resource's descriptor, and about its file, which looks up no name
abbrev pub AboutIt : {H A B : Type 0} → Ghosts H → Files H → Files H → ℕ → (A → B)
    → (Descriptor → Result A HostError → Type 0) → Result B FsError → Type 0
AboutIt host old new fd shown Did result =
    CallsOn host old new LooksAtNone (descriptor_at old.table.entries fd) shown Did result

abbrev pub AboutFile : {H : Type 0} → Ghosts H → Files H → Files H → ℕ → (File → Result (Unit {0}) HostError → Type 0)
    → Result (Unit {0}) FsError → Type 0
AboutFile host old new fd Did result =
    CallsOn host old new LooksAtNone (file_at old.table.entries fd) (λ unit. unit) Did result

-- `advise`
abbrev pub Advises : {H : Type 0} → Ghosts H → Files H → Files H → ℕ → ℕ → ℕ → Advice → Result (Unit {0}) FsError → Type 0
Advises host old new fd offset len advice result = AboutFile host old new fd (λ file answer.
    IfErr answer NotMemory × Performs host old.ctx.host new.ctx.host None
    (asks_at (tree_in host old) (Advise (node_held host old file.file) offset len (advice_named advice))
    (node_held host old file.file)) (λ unit. unit) answer) result

-- `set_size`
abbrev pub SetsSize : {H : Type 0} → Ghosts H → Files H → Files H → ℕ → ℕ → Result (Unit {0}) FsError → Type 0
SetsSize host old new fd size result = AboutFile host old new fd (λ file answer.
    Performs host old.ctx.host new.ctx.host (may_do file.perms Alter)
    (asks_at (tree_in host old) (SetSize ((host.model old.ctx.host).held file.file) size)
    (node_held host old file.file)) (λ unit. unit) answer) result

-- `get_flags`
abbrev pub TellsFlags : {H : Type 0} → Ghosts H → Files H → Files H → ℕ → Result DescriptorFlags FsError → Type 0
TellsFlags host old new fd result = AboutIt host old new fd descriptor_flags_told (λ d answer.
    IfErr answer NotMemory × IfOk answer (IsFlags d) × Performs host old.ctx.host new.ctx.host None
    (tells_flags (tree_in host old) (node_held host old (handle_of d)) d) descriptor_flag_bits answer) result

-- `get_type`
abbrev pub TellsType : {H : Type 0} → Ghosts H → Files H → Files H → ℕ → Result DescriptorType FsError → Type 0
TellsType host old new fd result = AboutIt host old new fd type_named (λ d answer.
    IfErr answer NotMemory × AnswersKnown d answer old.ctx.host new.ctx.host × (IsTrue host.modelled
    → IsTyped (host.live old.ctx.host) (host.model old.ctx.host) (host.model new.ctx.host) d answer)) result

-- `stat`
abbrev pub TellsStat : {H : Type 0} → Ghosts H → Files H → Files H → ℕ → Result DescriptorStat FsError → Type 0
TellsStat host old new fd result = AboutIt host old new fd stat_named (λ d answer.
    IfErr answer NotMemory × IfOk answer IsStat × Performs host old.ctx.host new.ctx.host None
    (meant_as descriptor_stat (stats (tree_in host old) (node_held host old (handle_of d)))) (λ stat. stat) answer) result

-- `metadata_hash`
abbrev pub TellsHash : {H : Type 0} → Ghosts H → Files H → Files H → ℕ → Result MetadataHashValue FsError → Type 0
TellsHash host old new fd result = AboutIt host old new fd hash_named (λ d answer.
    IfErr answer NotMemory × IfOk answer IsHash × Performs host old.ctx.host new.ctx.host None
    (meant_as metadata_hash (stats (tree_in host old) (node_held host old (handle_of d)))) (λ hash. hash) answer) result

-- `sync` and `sync_data`: a directory is opened anew
abbrev pub SyncsIt : {H : Type 0} → Ghosts H → Files H → Files H → ℕ → Result (Unit {0}) FsError → Type 0
SyncsIt host old new fd result = CallsOn host old new (LooksFrom old.table.entries fd) (descriptor_at old.table.entries fd)
    (λ unit. unit) (λ d answer. NeedsNone d answer
    × LooksAnew d (host.lookups old.ctx.host) (host.lookups new.ctx.host)
    × Performs host old.ctx.host new.ctx.host None
    (syncs (tree_in host old) (host.model old.ctx.host).held d) (λ unit. unit) answer) result

-- `set_times`
abbrev pub SetsTimes : {H : Type 0} → Ghosts H → Files H → Files H → ℕ → NewTimestamp → NewTimestamp
    → Result (Unit {0}) FsError → Type 0
SetsTimes host old new fd atim mtim result = CallsOn host old new LooksAtNone
    (timed_by (descriptor_at old.table.entries fd) old.ctx.now atim mtim) (λ unit. unit) (λ found answer.
    IfErr answer NotMemory × Performs host old.ctx.host new.ctx.host (may_do (perms_of found.0) Alter)
    (sets (tree_in host old) (node_held host old (handle_of found.0)) found.1.0 found.1.1) (λ unit. unit) answer) result

-- `is_same_object`
abbrev pub ComparesBoth : {H : Type 0} → Ghosts H → Files H → Files H → ℕ → ℕ → Result Bool FsError → Type 0
ComparesBoth host old new a b result = CallsOn host old new LooksAtNone
    (both_found (descriptor_at old.table.entries a) (descriptor_at old.table.entries b)) (λ same. same) (λ found answer.
    IfErr answer NotMemory × (IsTrue host.modelled
    → Compares (host.live old.ctx.host) (host.model old.ctx.host) (host.model new.ctx.host)
    (node_held host old (handle_of found.0)) (node_held host old (handle_of found.1)) answer)) result
