-- The keys of a script at which the parts of the services stand.
use Rattle.std.proofs.Common.{◌≡◌, ℕ, List, [], ◌∷◌, Bool, true, false, Some, None, refl, sym, ap, subst, inl, inr, ◌∙◌, codes}
use Rattle.std.specs.List.{list_all}
use Rattle.std.specs.Str.{bytes_eq}
use Rattle.std.proofs.lemmas.Bool.{cases_Bool, and_parts}
use Rattle.wasi_form.specs.Lists.{names, at_name}
use Rattle.wasi_form.specs.ServicesForm.{service_keys, service_key}
use Rattle.wasi_form.specs.Shapes.{has_key}
use Rattle.wasi_form.specs.declared.services.ServiceKey.{ServiceKey}
use Rattle.wasi_form.specs.declared.services.ServiceKey.TheVariants.{Args, Env, Stdin, Wall, WallResolution, Monotonic, MonotonicResolution, Random}
use Rattle.wasi_form.proofs.Members.{same_texts}

-- the key at which a part stands
abbrev pub name_of : ServiceKey → List ℕ
name_of Args = codes "args"
name_of Env = codes "env"
name_of Stdin = codes "stdin"
name_of Wall = codes "wall"
name_of WallResolution = codes "wall_res"
name_of Monotonic = codes "mono"
name_of MonotonicResolution = codes "mono_res"
name_of Random = codes "random"

abbrev Rows : Type 0
Rows = List (List ℕ × ServiceKey)

-- each row has the key of its part
abbrev are_named : Rows → Bool
are_named rows = list_all (λ row. bytes_eq row.0 (name_of row.1)) rows

named_in : (rows : Rows) (key : List ℕ) (service : ServiceKey) → are_named rows ≡ true → at_name rows key ≡ Some service
    → key ≡ name_of service
named_in [] key service named is = absurd (cc)
named_in (row ∷ rows) key service named is =
    let both = and_parts (bytes_eq row.0 (name_of row.1)) (are_named rows) named in
    elim (cases_Bool (bytes_eq key row.0)) [
      | inl same ↦
          let found : Some row.1 ≡ Some service = rw same at is in
          let here : row.1 ≡ service = cc in
          same_texts key row.0 same ∙ same_texts row.0 (name_of row.1) both.0 ∙ ap name_of here
      | inr other ↦ named_in rows key service both.1 (rw other at is)
    ]

-- what holds at the key of the part holds at a key at which it was found
pub at_service : (P : List ℕ → Type 0) (key : List ℕ) (service : ServiceKey) → service_key key ≡ Some service
    → P (name_of service) → P key
unfolding service_key
at_service P key service is here = subst P (sym (named_in service_keys key service refl is)) here

-- a key at which nothing is found is in no row
pub in_no_member : {A : Type 0} (rows : List (List ℕ × A)) (key : List ℕ) → at_name rows key ≡ None
    → has_key (names rows) key ≡ false
in_no_member [] key none = refl
in_no_member (row ∷ rows) key none =
    elim (cases_Bool (bytes_eq key row.0)) [
      | inl same ↦ let found : at_name (row ∷ rows) key ≡ Some row.1 = rw same refl in absurd (cc)
      | inr other ↦ rw other (in_no_member rows key (rw other at none))
    ]
