-- Looks at what a path names, one after another, as the one request that they stand for.
use Rattle.std.proofs.Common.{ℕ, ◌≡◌, true, Bool, List, [], ◌∷◌, Result, Ok, Err, refl, ap, sym, subst}
use Rattle.std.specs.FinSet.{contains}
use Rattle.wasi_fs.specs.Calls.{meant_as}
use Rattle.wasi_fs.specs.DescriptorStat.{descriptor_stat}
use Rattle.wasi_fs.specs.MetadataHash.{metadata_hash}
use Rattle.wasi_fs.specs.declared.descriptor_stat.DescriptorStat.{DescriptorStat}
use Rattle.wasi_fs.specs.declared.metadata_hash.MetadataHashValue.{MetadataHashValue}
use Rattle.wasi_host.specs.HostLaws.{HostModel, Handles, MeansErr}
use Rattle.wasi_host.specs.Steps.{◌>>=◌}
use Rattle.wasi_host.specs.declared.errors.ErrorCode.{ErrorCode}
use Rattle.wasi_host.specs.declared.errors.ErrorCode.TheVariants.{Io}
use Rattle.wasi_host.specs.declared.errors.HostError.{HostError}
use Rattle.wasi_host.specs.declared.errors.HostError.TheVariants.{Code, Memory}
use Rattle.wasi_host.specs.declared.metadata.Metadata.{Metadata}
use Rattle.wasi_host.proofs.Touching.{at_root}
use Rattle.wasi_resolve.specs.PathRequest.{LookPath, meant_by, path_reply}
use Rattle.wasi_resolve.specs.Resolved.{Resolved}
use Rattle.wasi_resolve.specs.WalkSteps.{OnlyLooks}
use Rattle.wasi_resolve.proofs.Calls.{looks_of, resolved_then, resolved_err}
use Rattle.wasi_p1_types.specs.Filestats.{stat_both}
use Rattle.wasi_p1_types.specs.declared.looked.StatBoth.{StatBoth}

-- what is made of what a look at a path's end gives
abbrev pub LooksAs : {B : Type 0} → (Metadata → B) → Handles → HostModel → HostModel → ℕ → List ℕ → Bool → Result B HostError → Type 0
LooksAs f live w v d text follow result =
    Resolved live w v (meant_as f (meant_by w.tree (LookPath d text follow))) (λ b. b) result

-- a refusal is that of all that is made of it
means_again : {A B C : Type 0} (f : A → B) (g : A → C) (m : Result A ErrorCode) (e : HostError)
    → MeansErr (m >>= (λ a. Ok (f a))) e → MeansErr (m >>= (λ a. Ok (g a))) e
means_again f g m Memory means = tt
means_again f g m (Code Io) means = tt
means_again f g (Ok a) (Code code) means = absurd (cc)
means_again f g (Err was) (Code code) means = let same : was ≡ code = cc in ap Err same

-- after a look at the same path
pub looked_through : {B : Type 0} (f : Metadata → B) {live mid : Handles} {w u v : HostModel} {h : ℕ} {result : Result B HostError}
    (text : List ℕ) (follow : Bool) → contains live h ≡ true → mid ≡ live → OnlyLooks live w u ((w.held h).node ∷ [])
    → LooksAs f mid u v (u.held h).node text follow result → LooksAs f live w v (w.held h).node text follow result
looked_through f {live} {mid} {w} {u} {v} {h} {result} text follow held kept looked next =
    resolved_then {live = mid} looked (at_root w.tree (w.held h).node) (λ q is. subst (λ s. contains s q ≡ true) (sym kept) is)
    refl
    (subst (λ t. Resolved mid u v (meant_as f (meant_by t (LookPath (w.held h).node text follow))) (λ b. b) result) looked.tree
    (subst (λ n. Resolved mid u v (meant_as f (meant_by u.tree (LookPath n text follow))) (λ b. b) result) node next))
  where
    node : (u.held h).node ≡ (w.held h).node
    node = λ i. (looked.keeps h held i).node

module _ {live : Handles} {w v : HostModel} {d : ℕ} (text : List ℕ) (follow : Bool) where
  -- it was looked at, whatever came of it
  pub looked_looks : {B : Type 0} (f : Metadata → B) (result : Result B HostError) → LooksAs f live w v d text follow result
      → OnlyLooks live w v (d ∷ [])
  looked_looks f result did = looks_of result (λ _. refl) did

  -- it was refused, and so is all that is made of it
  pub unlooked : {B C : Type 0} (f : Metadata → B) (g : Metadata → C) (e : HostError) → LooksAs f live w v d text follow (Err e)
      → LooksAs g live w v d text follow (Err e)
  unlooked f g e did = resolved_err (meant_as g (meant_by w.tree (LookPath d text follow))) (λ c. c) e refl
      (means_again f g (path_reply w.tree (LookPath d text follow)) e did.answer) (looked_looks f (Err e) did)

  -- the two answers make one record
  pub both_looked : {u : HostModel} {stat : DescriptorStat} {hash : MetadataHashValue}
      → LooksAs descriptor_stat live w u d text follow (Ok stat) → LooksAs metadata_hash live w v d text follow (Ok hash)
      → LooksAs stat_both live w v d text follow (Ok (record { stat = stat; hash = hash }))
  both_looked {stat = stat} {hash = hash} first second = record {
    answer = by (path_reply w.tree (LookPath d text follow)) first.answer second.answer;
    tree = second.tree;
    touched = second.touched;
    keeps = second.keeps;
  }
    where
      by : (m : Result Metadata ErrorCode)
          → (m >>= (λ metadata. let r : Result DescriptorStat ErrorCode = Ok (descriptor_stat metadata) in r)) ≡ Ok stat
          → (m >>= (λ metadata. let r : Result MetadataHashValue ErrorCode = Ok (metadata_hash metadata) in r)) ≡ Ok hash
          → (m >>= (λ metadata. let r : Result StatBoth ErrorCode = Ok (stat_both metadata) in r))
          ≡ Ok (record { stat = stat; hash = hash })
      by (Ok metadata) is also =
          let same : descriptor_stat metadata ≡ stat = (cc) in
          let again : metadata_hash metadata ≡ hash = (cc) in
          λ i. Ok (record { stat = same i; hash = again i })
      by (Err code) is also = absurd (cc)
