-- The members of several guests, and of each of them, found one after another.
use Rattle.std.proofs.Common.{◌≡◌, ℕ, List, [], ◌∷◌, ◌&&◌, Bool, true, false, Option, Some, None, refl, sym, ap, ◌∙◌, inl, inr, codes, map}
use Rattle.std.specs.Prelude.{unwrap_or}
use Rattle.std.specs.Str.{bytes_eq}
use Rattle.std.proofs.lemmas.Bool.{cases_Bool}
use Rattle.serde_json.specs.Data.{Data, Members, put}
use Rattle.wasi_host.specs.declared.limits.Limits.{Limits}
use Rattle.wasi_tree.specs.NodeData.{NodeData}
use Rattle.wasi_form.specs.declared.script.Session.{Session}
use Rattle.wasi_form.specs.LimitsForm.{default_limits}
use Rattle.wasi_form.specs.Plan.{planned, on_tree}
use Rattle.wasi_form.specs.Shapes.{has_key, all_keys}
use Rattle.wasi_form.specs.Lists.{names, at_name}
use Rattle.wasi_form.specs.ServicesForm.{service_keys, service_key}
use Rattle.wasi_form.specs.declared.services.ServiceKey.{ServiceKey}
use Rattle.wasi_form.specs.declared.services.ServiceKey.TheVariants.{Args, Env, Stdin, Wall, WallResolution, Monotonic, MonotonicResolution, Random}
use Rattle.wasi_form.specs.ScriptForm.{ScriptFound, whole_members, guest_members, part_members, found_in}
use Rattle.wasi_form.specs.GuestsForm.{guest_keys, without_tree, guest_in, guests_members, guests_in}
use Rattle.wasi_form.specs.FoundParts.{with_service, with_beside, with_member}
use Rattle.wasi_form.specs.FoundGuests.{with_guest_member, with_guests_member}
use Rattle.wasi_form.proofs.FoundMembers.{in_none, found_in-put}
use Rattle.wasi_form.proofs.Members.{all_keys-put, puts, stays, at_key, by_members}
use Rattle.wasi_form.proofs.Names.{no_member, in_later_members}
use Rattle.wasi_form.proofs.ServiceMembers.{name_of, at_service, in_no_member}

-- ---- a guest

-- it holds at each of these keys
abbrev AtEach : (List ℕ → Type 0) → List (List ℕ) → Type 0
AtEach P [] = Unit {0}
AtEach P (key ∷ keys) = P key × AtEach P keys

-- what holds at each of some keys holds at a key among them
at_one : (P : List ℕ → Type 0) (keys : List (List ℕ)) (k : List ℕ) → has_key keys k ≡ true → AtEach P keys → P k
at_one P [] k among each = absurd (cc)
at_one P (key ∷ keys) k among each =
    elim (cases_Bool (bytes_eq k key)) [
      | inl is ↦ at_key P k key is each.0
      | inr other ↦ at_one P keys k (rw other at among) each.1
    ]

-- what was found with one more member at a key, by whether all the others are a guest's
abbrev made : Data → Bool → ScriptFound → List ℕ → ScriptFound
made d known found key = without_tree (has_key guest_keys key && known) (with_member key d found)

-- one at a key of the tree is at no key of a guest
at_whole : (d : Data) (known : Bool) (found : ScriptFound) (k : List ℕ) → has_key (names whole_members) k ≡ true
    → made d known found k ≡ with_beside None d (without_tree known found)
unfolding with_member guest_keys
at_whole d known found k whole =
    at_one (λ key. made d known found key ≡ with_beside None d (without_tree known found)) (names whole_members) k whole
    (refl, (refl, (refl, tt)))

-- one at a key of the services
at_its_key : (service : ServiceKey) (d : Data) (known : Bool) (found : ScriptFound)
    → made d known found (name_of service) ≡ with_service service d (without_tree known found)
unfolding with_member guest_keys service_key
at_its_key Args d known found = refl
at_its_key Env d known found = refl
at_its_key Stdin d known found = refl
at_its_key Wall d known found = refl
at_its_key WallResolution d known found = refl
at_its_key Monotonic d known found = refl
at_its_key MonotonicResolution d known found = refl
at_its_key Random d known found = refl

-- one at no key of a script
at_no_key : (k : List ℕ) (d : Data) (known : Bool) (found : ScriptFound) → has_key guest_keys k ≡ false
    → at_name part_members k ≡ None → service_key k ≡ None
    → made d known found k ≡ with_beside None d (without_tree known found)
unfolding with_member
at_no_key k d known found none nowhere nor = rw (none, nowhere, nor) refl

-- one at another key than those of the parts
at_beside : (k : List ℕ) (d : Data) (known : Bool) (found : ScriptFound) (service : Option ServiceKey)
    → has_key (names whole_members) k ≡ false → has_key (names guest_members) k ≡ false → service_key k ≡ service
    → made d known found k ≡ with_beside service d (without_tree known found)
unfolding guest_keys service_key
at_beside k d known found None whole none is =
    at_no_key k d known found (in_none (names guest_members) (names service_keys) k none (in_no_member service_keys k is))
    (in_later_members whole_members guest_members k whole ∙ no_member guest_members k none) is
at_beside k d known found (Some service) whole none is =
    at_service (λ key. made d known found key ≡ with_service service d (without_tree known found)) k service is
    (at_its_key service d known found)

-- one at any key that isn't one of the tree
at_guest : (d : Data) (known : Bool) (found : ScriptFound) (k : List ℕ) → has_key (names whole_members) k ≡ false
    → made d known found k ≡ with_member k d (without_tree known found)
unfolding with_member guest_keys
at_guest d known found k other =
    let beside : Data → ScriptFound → ScriptFound = with_beside (service_key k) in
    by_members (made d known found) guest_members beside d (without_tree known found) k
    (refl, (refl, (refl, (refl, (refl, (refl, (refl, tt)))))))
    (λ none. at_beside k d known found (service_key k) other none refl)
    ∙ ap (λ row. unwrap_or row beside d (without_tree known found)) (sym (in_later_members whole_members guest_members k other))

-- one at any key
at_any : (d : Data) (known : Bool) (found : ScriptFound) (k : List ℕ)
    → made d known found k ≡ with_guest_member k d (without_tree known found)
unfolding with_guest_member
at_any d known found k =
    elim (cases_Bool (has_key (names whole_members) k)) [
      | inl whole ↦ rw whole (at_whole d known found k whole)
      | inr other ↦ rw other (at_guest d known found k other)
    ]

pub guest_in-put : (k : List ℕ) (d : Data) (ms : Members) → guest_in (put k d ms) ≡ with_guest_member k d (guest_in ms)
guest_in-put k d ms =
    ap (λ known. without_tree known (found_in (put k d ms))) (all_keys-put guest_keys k d ms)
    ∙ ap (without_tree (has_key guest_keys k && all_keys guest_keys ms)) (found_in-put k d ms)
    ∙ at_any d (all_keys guest_keys ms) (found_in ms) k

-- ---- the whole

-- sessions that are read as guests on no tree are guests of the tree that they are put on
pub put_on_tree : (nodes : List NodeData) (limits : Limits) (guests : List Session)
    → map (on_tree nodes limits) (map (planned [] default_limits) guests) ≡ map (planned nodes limits) guests
put_on_tree nodes limits [] = refl
put_on_tree nodes limits (guest ∷ guests) =
    ap (λ rest. planned nodes limits guest ∷ rest) (put_on_tree nodes limits guests)

pub guests_in-put : (k : List ℕ) (d : Data) (ms : Members)
    → guests_in (put k d ms) ≡ with_guests_member k d (guests_in ms)
unfolding with_guests_member
guests_in-put k d ms =
    by_members (λ key. guests_in (put key d ms)) guests_members (λ _ all. record all { known = false }) d (guests_in ms) k
    (simp puts, (simp puts, (simp puts, (simp puts, tt))))
    (λ none. let still = stays (names guests_members) k d ms none in
    rw (all_keys-put, none, still (codes "nodes") refl, still (codes "limits") refl, still (codes "guests") refl, still (codes "schedule") refl) refl)
