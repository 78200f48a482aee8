-- The members of a script, of the objects at its keys, and of those in its lists, found one after another.
use Rattle.std.proofs.Common.{◌≡◌, ℕ, List, [], ◌∷◌, ◌++◌, false, Option, Some, None, refl, codes}
use Rattle.std.specs.Str.{bytes_eq}
use Rattle.std.proofs.lemmas.Bool.{or_parts}
use Rattle.serde_json.specs.Data.{Data, Members, put}
use Rattle.wasi_form.specs.Shapes.{has_key}
use Rattle.wasi_form.specs.Lists.{names}
use Rattle.wasi_form.specs.ServicesForm.{service_keys, service_key}
use Rattle.wasi_form.specs.declared.services.ServiceKey.{ServiceKey}
use Rattle.wasi_form.specs.declared.services.ServiceKey.TheVariants.{Args, Env, Stdin, Wall, WallResolution, Monotonic, MonotonicResolution, Random}
use Rattle.wasi_form.specs.MemoryForm.{memory_members, memory_in}
use Rattle.wasi_form.specs.ScriptForm.{part_members, script_keys, found_in}
use Rattle.wasi_form.specs.LimitsForm.{limits_members, limits_in}
use Rattle.wasi_form.specs.QuotaForm.{quota_members, quota_in}
use Rattle.wasi_form.specs.PreopenForm.{preopen_members, preopen_in}
use Rattle.wasi_form.specs.NodeForm.{node_members, node_parts_in}
use Rattle.wasi_form.specs.FoundNodes.{with_node_member}
use Rattle.wasi_form.specs.FoundParts.{with_service, with_beside, with_member, with_memory_member, with_limits_member, with_quota_member, with_preopen_member}
use Rattle.wasi_form.proofs.Members.{all_keys-put, puts, stays, by_members}
use Rattle.wasi_form.proofs.ServiceMembers.{name_of, at_service, in_no_member}

-- a key that is in none of two lists
pub in_none : (keys more : List (List ℕ)) (k : List ℕ) → has_key keys k ≡ false → has_key more k ≡ false
    → has_key (keys ++ more) k ≡ false
in_none [] more k none nor = nor
in_none (key ∷ keys) more k none nor =
    let parts = or_parts (bytes_eq k key) (has_key keys k) none in
    rw parts.0 (in_none keys more k parts.1 nor)

-- a member at the key of a part of the services
at_its_key : (service : ServiceKey) (d : Data) (ms : Members)
    → found_in (put (name_of service) d ms) ≡ with_service service d (found_in ms)
unfolding script_keys
at_its_key Args d ms = simp puts
at_its_key Env d ms = simp puts
at_its_key Stdin d ms = simp puts
at_its_key Wall d ms = simp puts
at_its_key WallResolution d ms = simp puts
at_its_key Monotonic d ms = simp puts
at_its_key MonotonicResolution d ms = simp puts
at_its_key Random d ms = simp puts

-- a member at no key of a script
at_no_key : (k : List ℕ) (d : Data) (ms : Members) → has_key script_keys k ≡ false
    → found_in (put k d ms) ≡ record (found_in ms) { known = false }
unfolding script_keys
at_no_key k d ms none =
    let still = stays script_keys k d ms none in
    rw (all_keys-put, none)
    (rw (still (codes "nodes") refl, still (codes "preopens") refl, still (codes "calls") refl, still (codes "memory") refl, still (codes "show") refl, still (codes "limits") refl, still (codes "fuel") refl, still (codes "table") refl, still (codes "faults") refl, still (codes "quota") refl)
    (rw (still (codes "args") refl, still (codes "env") refl, still (codes "stdin") refl, still (codes "wall") refl, still (codes "wall_res") refl, still (codes "mono") refl, still (codes "mono_res") refl, still (codes "random") refl) refl))

-- a member at another key than those of the parts
at_beside : (k : List ℕ) (d : Data) (ms : Members) (service : Option ServiceKey) → has_key (names part_members) k ≡ false
    → service_key k ≡ service → found_in (put k d ms) ≡ with_beside service d (found_in ms)
unfolding script_keys service_key
at_beside k d ms None none is =
    at_no_key k d ms (in_none (names part_members) (names service_keys) k none (in_no_member service_keys k is))
at_beside k d ms (Some service) none is =
    at_service (λ key. found_in (put key d ms) ≡ with_service service d (found_in ms)) k service is (at_its_key service d ms)

pub found_in-put : (k : List ℕ) (d : Data) (ms : Members) → found_in (put k d ms) ≡ with_member k d (found_in ms)
unfolding with_member script_keys
found_in-put k d ms =
    by_members (λ key. found_in (put key d ms)) part_members (with_beside (service_key k)) d (found_in ms) k
    (simp puts, (simp puts, (simp puts, (simp puts, (simp puts, (simp puts, (simp puts, (simp puts, (simp puts, (simp puts, tt))))))))))
    (λ none. at_beside k d ms (service_key k) none refl)

pub memory_in-put : (k : List ℕ) (d : Data) (ms : Members)
    → memory_in (put k d ms) ≡ with_memory_member k d (memory_in ms)
unfolding with_memory_member
memory_in-put k d ms =
    by_members (λ key. memory_in (put key d ms)) memory_members (λ _ all. record all { known = false }) d (memory_in ms) k
    (simp puts, (simp puts, tt))
    (λ none. let still = stays (names memory_members) k d ms none in
    rw (all_keys-put, none, still (codes "size") refl, still (codes "pieces") refl) refl)

pub limits_in-put : (k : List ℕ) (d : Data) (ms : Members)
    → limits_in (put k d ms) ≡ with_limits_member k d (limits_in ms)
unfolding with_limits_member
limits_in-put k d ms =
    by_members (λ key. limits_in (put key d ms)) limits_members (λ _ all. record all { known = false }) d (limits_in ms) k
    (simp puts, (simp puts, tt))
    (λ none. let still = stays (names limits_members) k d ms none in
    rw (all_keys-put, none, still (codes "nodes") refl, still (codes "links") refl) refl)

pub quota_in-put : (k : List ℕ) (d : Data) (ms : Members) → quota_in (put k d ms) ≡ with_quota_member k d (quota_in ms)
unfolding with_quota_member
quota_in-put k d ms =
    by_members (λ key. quota_in (put key d ms)) quota_members (λ _ all. record all { known = false }) d (quota_in ms) k
    (simp puts, (simp puts, tt))
    (λ none. let still = stays (names quota_members) k d ms none in
    rw (all_keys-put, none, still (codes "nodes") refl, still (codes "bytes") refl) refl)

pub preopen_in-put : (k : List ℕ) (d : Data) (ms : Members)
    → preopen_in (put k d ms) ≡ with_preopen_member k d (preopen_in ms)
unfolding with_preopen_member
preopen_in-put k d ms =
    by_members (λ key. preopen_in (put key d ms)) preopen_members (λ _ all. record all { known = false }) d (preopen_in ms) k
    (simp puts, (simp puts, (simp puts, tt)))
    (λ none. let still = stays (names preopen_members) k d ms none in
    rw (all_keys-put, none, still (codes "node") refl, still (codes "name") refl, still (codes "perms") refl) refl)

pub node_parts_in-put : (k : List ℕ) (d : Data) (ms : Members)
    → node_parts_in (put k d ms) ≡ with_node_member k d (node_parts_in ms)
unfolding with_node_member
node_parts_in-put k d ms =
    by_members (λ key. node_parts_in (put key d ms)) node_members (λ _ all. record all { known = false }) d (node_parts_in ms) k
    (simp puts, (simp puts, (simp puts, (simp puts, (simp puts, tt)))))
    (λ none. let still = stays (names node_members) k d ms none in
    rw (all_keys-put, none, still (codes "dir") refl, still (codes "file") refl, still (codes "link") refl, still (codes "bits") refl, still (codes "times") refl) refl)
