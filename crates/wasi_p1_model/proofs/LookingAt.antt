-- Looks at what a descriptor stands for, one after another, as the one request that they stand for.
use Rattle.std.proofs.Common.{ℕ, ◌≡◌, true, [], ◌∷◌, Result, Ok, Err, refl, sym, subst}
use Rattle.std.specs.FinSet.{contains}
use Rattle.wasi_fs.specs.Calls.{flags_of, meant_as, stats, tells_flags}
use Rattle.wasi_fs.specs.DescriptorStat.{descriptor_stat, descriptor_type}
use Rattle.wasi_fs.specs.MetadataHash.{metadata_hash}
use Rattle.wasi_fs.specs.OpenFlags.{descriptor_flag_bits}
use Rattle.wasi_fs.specs.declared.descriptor.Descriptor.{Descriptor}
use Rattle.wasi_fs.specs.declared.descriptor_stat.DescriptorStat.{DescriptorStat}
use Rattle.wasi_fs.specs.declared.descriptor_stat.DescriptorType.{DescriptorType}
use Rattle.wasi_fs.specs.declared.descriptor_stat.DescriptorType.TheVariants as descriptors
use Rattle.wasi_fs.specs.declared.metadata_hash.MetadataHashValue.{MetadataHashValue}
use Rattle.wasi_fs.specs.declared.open_flags.DescriptorFlags.{DescriptorFlags}
use Rattle.wasi_host.specs.Answer.{metadata_of}
use Rattle.wasi_host.specs.HostLaws.{HostModel, Handles, MeansErr}
use Rattle.wasi_host.specs.Refusal.{refusal}
use Rattle.wasi_host.specs.HostCall.{Flags, Stat}
use Rattle.wasi_host.specs.declared.errors.ErrorCode.{ErrorCode}
use Rattle.wasi_host.specs.declared.errors.ErrorCode.TheVariants.{Io}
use Rattle.wasi_host.specs.declared.errors.HostError.{HostError}
use Rattle.wasi_host.specs.declared.errors.HostError.TheVariants.{Code, Memory}
use Rattle.wasi_host.specs.declared.file_type.FileType.{FileType}
use Rattle.wasi_host.specs.declared.file_type.FileType.TheVariants as files
use Rattle.wasi_host.specs.declared.metadata.Metadata.{Metadata}
use Rattle.wasi_host.specs.declared.sync_flags.SyncFlags.{SyncFlags}
use Rattle.wasi_host.specs.Time.{zero_time}
use Rattle.wasi_host.proofs.Touching.{at_root}
use Rattle.wasi_resolve.specs.Resolved.{Resolved}
use Rattle.wasi_resolve.specs.WalkSteps.{OnlyLooks}
use Rattle.wasi_resolve.proofs.Calls.{looks_of, resolved_then, resolved_err}
use Rattle.wasi_p1_types.specs.Asked.{Asked}
use Rattle.wasi_p1_types.specs.Errnos.{error_of}
use Rattle.wasi_p1_types.specs.Filestats.{stat_both}
use Rattle.wasi_p1_types.specs.Request.{Direct}
use Rattle.wasi_p1_model.proofs.Resolving.{made_ok, made_not}

-- what is made of what a host says of a node
abbrev pub SeenAs : {B : Type 0} → (Metadata → B) → Handles → HostModel → HostModel → ℕ → Result B HostError → Type 0
SeenAs f live w v n result = Resolved live w v (meant_as f (stats w.tree n)) (λ b. b) result

-- after a look at the same node
pub seen_through : {B : Type 0} (f : Metadata → B) {live mid : Handles} {w u v : HostModel} {h : ℕ} {result : Result B HostError}
    → contains live h ≡ true → mid ≡ live → OnlyLooks live w u ((w.held h).node ∷ [])
    → SeenAs f mid u v (u.held h).node result → SeenAs f live w v (w.held h).node result
seen_through f {live} {mid} {w} {u} {v} {h} {result} held kept looked next =
    resolved_then {live = mid} looked (at_root w.tree (w.held h).node) (λ q is. subst (λ s. contains s q ≡ true) (sym kept) is)
    refl
    (subst (λ t. Resolved mid u v (meant_as f (stats t (w.held h).node)) (λ b. b) result) looked.tree
    (subst (λ n. Resolved mid u v (meant_as f (stats u.tree n)) (λ b. b) result) node next))
  where
    node : (u.held h).node ≡ (w.held h).node
    node = λ i. (looked.keeps h held i).node

-- a failure says nothing of what is meant, and no look is refused
unrefused : {B C : Type 0} (b : B) (m : Result C ErrorCode) (e : HostError)
    → MeansErr (let r : Result B ErrorCode = Ok b in r) e → MeansErr m e
unrefused b m Memory means = tt
unrefused b m (Code Io) means = tt
unrefused b m (Code code) means = absurd (cc)

module _ {live : Handles} {w v : HostModel} {n : ℕ} where
  -- the node was looked at, whatever came of it
  pub seen_looks : {B : Type 0} (f : Metadata → B) (result : Result B HostError) → SeenAs f live w v n result
      → OnlyLooks live w v (n ∷ [])
  seen_looks f result did = looks_of result (λ _. refl) did

  pub flags_looks : (descriptor : Descriptor) (result : Result DescriptorFlags HostError)
      → Resolved live w v (tells_flags w.tree n descriptor) descriptor_flag_bits result → OnlyLooks live w v (n ∷ [])
  flags_looks descriptor result did = looks_of result (λ _. refl) did

  -- it failed, and so did all that is made of it
  pub unseen : {B C : Type 0} (f : Metadata → B) (g : Metadata → C) (e : HostError) → SeenAs f live w v n (Err e)
      → SeenAs g live w v n (Err e)
  unfolding refusal
  unseen f g e did = resolved_err (meant_as g (stats w.tree n)) (λ c. c) e refl
      (unrefused _ _ e did.answer) (seen_looks f (Err e) did)

  pub unflagged : {B : Type 0} (f : Metadata → B) (descriptor : Descriptor) (e : HostError)
      → Resolved live w v (tells_flags w.tree n descriptor) descriptor_flag_bits (Err e) → SeenAs f live w v n (Err e)
  unfolding refusal
  unflagged f descriptor e did = resolved_err (meant_as f (stats w.tree n)) (λ b. b) e refl
      (unrefused _ _ e did.answer) (flags_looks descriptor (Err e) did)

  -- the two answers of a node make one record
  pub both_seen : {u : HostModel} {stat : DescriptorStat} {hash : MetadataHashValue} → SeenAs descriptor_stat live w u n (Ok stat)
      → SeenAs metadata_hash live w v n (Ok hash) → SeenAs stat_both live w v n (Ok (record { stat = stat; hash = hash }))
  unfolding refusal
  both_seen {stat = stat} {hash = hash} first second = record {
    answer = by first.answer second.answer;
    tree = second.tree;
    touched = second.touched;
    keeps = second.keeps;
  }
    where
      by : (let r : Result DescriptorStat ErrorCode = Ok (descriptor_stat (metadata_of w.tree n)) in r) ≡ Ok stat
          → (let r : Result MetadataHashValue ErrorCode = Ok (metadata_hash (metadata_of w.tree n)) in r) ≡ Ok hash
          → ◌≡◌ {A = Result _ ErrorCode} (Ok (stat_both (metadata_of w.tree n))) (Ok (record { stat = stat; hash = hash }))
      by is also =
          let same : descriptor_stat (metadata_of w.tree n) ≡ stat = (cc) in
          let again : metadata_hash (metadata_of w.tree n) ≡ hash = (cc) in
          λ i. Ok (record { stat = same i; hash = again i })

  -- a look is the request for it
  pub seen_ok : {rose B : Type 0} (f : Metadata → B) {b : B} → SeenAs f live w v n (Ok b)
      → (metadata : Metadata) × Asked rose w v (Direct (Stat n)) (Ok metadata) × (f metadata ≡ b)
  seen_ok f did = made_ok {live = live} (Direct (Stat n)) f
      (record { answer = did.answer; tree = did.tree; touched = did.touched; keeps = did.keeps })

  pub seen_err : {rose B : Type 0} (f : Metadata → B) (e : HostError) → (e ≡ Code Io → rose)
      → SeenAs f live w v n (Err e) → Asked rose w v (Direct (Stat n)) (Err (error_of e))
  seen_err f e io did = made_not {live = live} (Direct (Stat n)) f e io
      (record { answer = did.answer; tree = did.tree; touched = did.touched; keeps = did.keeps })

  -- nothing is made of the flags
  pub flags_ok : {rose : Type 0} (descriptor : Descriptor) {flags : DescriptorFlags}
      → Resolved live w v (tells_flags w.tree n descriptor) descriptor_flag_bits (Ok flags)
      → (modes : SyncFlags) × Asked rose w v (Direct (Flags n)) (Ok modes)
  flags_ok descriptor did =
      let (modes, asked, is) = made_ok {live = live} (Direct (Flags n)) (flags_of descriptor)
      (record { answer = did.answer; tree = did.tree; touched = did.touched; keeps = did.keeps }) in
      (modes, asked)

  pub flags_err : {rose : Type 0} (descriptor : Descriptor) (e : HostError) → (e ≡ Code Io → rose)
      → Resolved live w v (tells_flags w.tree n descriptor) descriptor_flag_bits (Err e)
      → Asked rose w v (Direct (Flags n)) (Err (error_of e))
  flags_err descriptor e io did = made_not {live = live} (Direct (Flags n)) (flags_of descriptor) e io
      (record { answer = did.answer; tree = did.tree; touched = did.touched; keeps = did.keeps })

-- ---- over every host

-- each type is that of some node
kind_of : DescriptorType → FileType
kind_of descriptors.Unknown = files.Unknown
kind_of descriptors.BlockDevice = files.BlockDevice
kind_of descriptors.CharacterDevice = files.CharacterDevice
kind_of descriptors.Directory = files.Directory
kind_of descriptors.SymbolicLink = files.SymbolicLink
kind_of descriptors.RegularFile = files.RegularFile

of_kind : (kind : DescriptorType) → descriptor_type (kind_of kind) ≡ kind
unfolding kind_of
of_kind descriptors.Unknown = refl
of_kind descriptors.BlockDevice = refl
of_kind descriptors.CharacterDevice = refl
of_kind descriptors.Directory = refl
of_kind descriptors.SymbolicLink = refl
of_kind descriptors.RegularFile = refl

pub typed_reply : (kind : DescriptorType) → (metadata : Metadata) × (descriptor_type metadata.kind ≡ kind)
typed_reply kind = (
  record {
    kind = kind_of kind;
    size = 0;
    atime = zero_time;
    mtime = zero_time;
    btime = zero_time;
    node = 0;
    links = 0;
  },
  of_kind kind,
)
