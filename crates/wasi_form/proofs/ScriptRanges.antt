-- What of a script is within its range: the limits of its tree, the numbers of its faults, its guest's quotas, and what
-- its wall clock stands at. Of several guests it's that of each, and the numbers of the schedule.
use Rattle.std.proofs.Common.{◌≡◌, ℕ, ◌^◌, ◌<◌, [], List, length, map, Bool, true, false, Option, Some, None, refl, sym, subst, lit≤, lit<, ◌&&◌, codes, arith}
use Rattle.std.specs.Prelude.{All, IfSome, IsTrue, if◌then◌else◌, nat_lt}
use Rattle.std.proofs.lemmas.Bool.{and_parts, leb-true, ltb-true}
use Rattle.std.proofs.lemmas.List.{length-map}
use Rattle.std.proofs.lemmas.List.Elements.{All-cons, All-map, All-weaker}
use Rattle.std.proofs.lemmas.List.Sums.{AllPass-from_list_all}
use Rattle.serde_json.specs.Data.{Data, Items, no_items, item, Members}
use Rattle.serde_json.specs.Find as find
use Rattle.serde_json.specs.Find.{get_member}
use Rattle.wasi_host.specs.ValidTree.{AreLimits}
use Rattle.wasi_host.specs.declared.limits.Limits.{Limits}
use Rattle.wasi_host_faults.specs.Faults.{numbers_rise}
use Rattle.wasi_host_faults.specs.declared.fault.Fault.{Fault}
use Rattle.wasi_guest.specs.Quotas.{IsQuota, no_quota}
use Rattle.wasi_guest.specs.Services.{IsWallMoment, AreWithin}
use Rattle.wasi_guest.specs.declared.quota.Quota.{Quota}
use Rattle.wasi_guest.specs.declared.guest_env.WallDatetime.{WallDatetime}
use Rattle.wasi_form.specs.FaultsForm.{fault_of, where_rising, faults_of}
use Rattle.wasi_form.specs.Lists.{◌>>=◌, only_if, needed, optional, items_all, list_of}
use Rattle.wasi_form.specs.Shapes.{u64_of, u32_of, two_in}
use Rattle.wasi_form.specs.LimitsForm.{default_limits, is_limit, LimitsFound, limits_in, limits_found, limits_of}
use Rattle.wasi_form.specs.QuotaForm.{is_bound, QuotaFound, quota_in, quota_found, quota_of}
use Rattle.wasi_form.specs.ServicesForm.{wall_of, default_wall, default_wall_resolution, ServicesFound, services_in, services_found}
use Rattle.wasi_tree.specs.NodeData.{NodeData}
use Rattle.wasi_form.specs.Plan.{Plan, GuestsPlan, on_tree}
use Rattle.wasi_form.specs.ScriptForm.{ScriptFound, found_in, session_found, script_found, script_of}
use Rattle.wasi_form.specs.GuestsForm.{guest_in, guest_found, guest_of, GuestsFound, guests_in, names_guests, guests_found, guests_of}

-- what holds of all that a step goes on to
kept : {A B : Type 0} (P : B → Type 0) (o : Option A) (f : A → Option B) → ((x : A) → IfSome (f x) P) → IfSome (o >>= f) P
kept P None f after = tt
kept P (Some x) f after = after x

-- the same, where something is known of what the step gives
kept_of : {A B : Type 0} (P : B → Type 0) (Q : A → Type 0) (o : Option A) (f : A → Option B) → IfSome o Q
    → ((x : A) → Q x → IfSome (f x) P) → IfSome (o >>= f) P
kept_of P Q None f known after = tt
kept_of P Q (Some x) f known after = after x known

-- ---- the limits of its tree

in_range : (limits : Limits) → is_limit limits.nodes && is_limit limits.links ≡ true → AreLimits limits
in_range limits is =
    let both = and_parts _ _ is in
    let nodes = and_parts _ _ both.0 in
    let links = and_parts _ _ both.1 in
    record {
      some_nodes = leb-true _ _ nodes.0;
      most_nodes = leb-true _ _ nodes.1;
      some_links = leb-true _ _ links.0;
      most_links = leb-true _ _ links.1;
    }

tested : (limits : Limits) (test : Bool) → is_limit limits.nodes && is_limit limits.links ≡ test
    → IfSome (only_if test >>= (λ _. Some limits)) AreLimits
tested limits true is = in_range limits is
tested limits false is = tt

limits_within : (found : LimitsFound) → IfSome (limits_found found) AreLimits
unfolding limits_found
limits_within found =
    kept AreLimits (only_if found.known) _ (λ _. kept AreLimits found.nodes _ (λ nodes.
    kept AreLimits found.links _ (λ links. tested (record { nodes = nodes; links = links }) _ refl)))

limits_read : (d : Data) → IfSome (limits_of d) AreLimits
limits_read d = kept AreLimits (find.as_object d) _ (λ ms. limits_within (limits_in ms))

limits_at : (part : Option Data) → IfSome (optional limits_of default_limits part) AreLimits
limits_at None =
    record { some_nodes = lit≤ tt; most_nodes = lit≤ tt; some_links = lit≤ tt; most_links = lit≤ tt }
limits_at (Some d) = limits_read d

-- ---- what its wall clock stands at

moment_in_range : (moment : WallDatetime)
    → nat_lt moment.seconds (2 ^ 63) && nat_lt moment.nanoseconds 1000000000 ≡ true → IsWallMoment moment
moment_in_range moment is =
    let both = and_parts _ _ is in
    record { seconds = ltb-true _ _ both.0; nanoseconds = ltb-true _ _ both.1 }

moment_tested : (moment : WallDatetime) (test : Bool)
    → nat_lt moment.seconds (2 ^ 63) && nat_lt moment.nanoseconds 1000000000 ≡ test
    → IfSome (only_if test >>= (λ _. Some moment)) IsWallMoment
moment_tested moment true is = moment_in_range moment is
moment_tested moment false is = tt

wall_read : (d : Data) → IfSome (wall_of d) IsWallMoment
wall_read d =
    kept IsWallMoment (find.as_array d) _ (λ ds. kept IsWallMoment (two_in ds) _ (λ two.
    kept IsWallMoment (u64_of two.0) _ (λ seconds. kept IsWallMoment (u32_of two.1) _ (λ nanoseconds.
    moment_tested (record { seconds = seconds; nanoseconds = nanoseconds }) _ refl))))

wall_found : (absent : WallDatetime) (part : Option Data) → IsWallMoment absent
    → IfSome (optional wall_of absent part) IsWallMoment
wall_found absent None is = is
wall_found absent (Some d) is = wall_read d

-- what was found of the wall clock is within its range
record AreWallsFound (found : ServicesFound) : Type 0 where
  wall : IfSome found.wall IsWallMoment
  wall_resolution : IfSome found.wall_resolution IsWallMoment

walls_found : (ms : Members) → AreWallsFound (services_in ms)
walls_found ms = record {
  wall = wall_found default_wall (get_member (codes "wall") ms) (record { seconds = lit< tt; nanoseconds = lit< tt });
  wall_resolution =
      wall_found default_wall_resolution (get_member (codes "wall_res") ms)
      (record { seconds = lit< tt; nanoseconds = lit< tt });
}

services_within : (found : ServicesFound) → AreWallsFound found → IfSome (services_found found) AreWithin
unfolding services_found
services_within found are =
    kept AreWithin found.args _ (λ args. kept AreWithin found.env _ (λ env. kept AreWithin found.stdin _ (λ stdin.
    kept_of AreWithin IsWallMoment found.wall _ are.wall (λ wall is.
    kept_of AreWithin IsWallMoment found.wall_resolution _ are.wall_resolution (λ resolution also.
    kept AreWithin found.monotonic _ (λ monotonic. kept AreWithin found.monotonic_resolution _ (λ apart.
    kept AreWithin found.random _ (λ random. record { wall = is; wall_resolution = also }))))))))

-- ---- the numbers of its faults

abbrev Rise : List Fault → Type 0
Rise faults = IsTrue (numbers_rise faults)

rise_tested : (faults : List Fault) → IfSome (where_rising faults) Rise
rise_tested faults = by (numbers_rise faults) refl
  where
    by : (test : Bool) → numbers_rise faults ≡ test → IfSome (if test then Some faults else None) Rise
    by true is = is
    by false is = tt

faults_found : (part : Option Data) → IfSome (optional faults_of [] part) Rise
faults_found None = refl
faults_found (Some d) = kept Rise (list_of fault_of d) _ rise_tested

-- ---- its guest's quotas

-- with both bounds
abbrev bounded_by : ℕ → ℕ → Quota
bounded_by nodes bytes = record { nodes = Some nodes; bytes = Some bytes }

quota_tested : (nodes bytes : ℕ) (test : Bool) → is_bound nodes && is_bound bytes ≡ test
    → IfSome (only_if test >>= (λ _. Some (bounded_by nodes bytes))) IsQuota
quota_tested nodes bytes true is =
    let both = and_parts _ _ is in record { nodes = leb-true _ _ both.0; bytes = leb-true _ _ both.1 }
quota_tested nodes bytes false is = tt

quota_within : (found : QuotaFound) → IfSome (quota_found found) IsQuota
unfolding quota_found
quota_within found =
    kept IsQuota (only_if found.known) _ (λ _. kept IsQuota found.nodes _ (λ nodes.
    kept IsQuota found.bytes _ (λ bytes. quota_tested nodes bytes _ refl)))

quota_found_in : (part : Option Data) → IfSome (optional quota_of no_quota part) IsQuota
quota_found_in None = record { nodes = tt; bytes = tt }
quota_found_in (Some d) = kept IsQuota (find.as_object d) _ (λ ms. quota_within (quota_in ms))

-- ---- what is run

-- what is run on this tree, of which all is within its range, and whose faults are such
pub record IsSession (nodes : List NodeData) (limits : Limits) (Faults : List Fault → Type 0) (p : Plan) : Type 0 where
  pub nodes_are : p.nodes ≡ nodes
  pub limits_are : p.limits ≡ limits
  pub faults : Faults p.faults
  pub quota : IsQuota p.quota
  pub services : AreWithin p.services

session_in_range : (nodes : List NodeData) (limits : Limits) (Faults : List Fault → Type 0) (found : ScriptFound)
    → IfSome found.faults Faults → IfSome found.quota IsQuota → AreWallsFound found.services
    → IfSome (session_found nodes limits found) (IsSession nodes limits Faults)
unfolding session_found
session_in_range nodes limits Faults found such bounds walls =
    let P : Plan → Type 0 = IsSession nodes limits Faults in
    kept P found.preopens _ (λ preopens. kept P found.calls _ (λ calls. kept P found.memory _ (λ memory.
    kept P found.show _ (λ show. kept P found.fuel _ (λ fuel. kept P found.table _ (λ table.
    kept_of P Faults found.faults _ such (λ faults are. kept_of P IsQuota found.quota _ bounds (λ quota bounded.
    kept_of P AreWithin (services_found found.services) _ (services_within found.services walls) (λ services within.
    record { nodes_are = refl; limits_are = refl; faults = are; quota = bounded; services = within })))))))))

-- ---- the script

-- a plan of which all is within its range
pub record IsInRange (p : Plan) : Type 0 where
  pub limits : AreLimits p.limits
  pub faults : Rise p.faults
  pub quota : IsQuota p.quota
  pub services : AreWithin p.services

on_limits : (nodes : List NodeData) (limits : Limits) (p : Option Plan) → AreLimits limits
    → IfSome p (IsSession nodes limits Rise) → IfSome p IsInRange
on_limits nodes limits None are is = tt
on_limits nodes limits (Some p) are is = record {
  limits = subst AreLimits (sym is.limits_are) are;
  faults = is.faults;
  quota = is.quota;
  services = is.services;
}

found_in_range : (found : ScriptFound) → IfSome found.limits AreLimits → IfSome found.faults Rise
    → IfSome found.quota IsQuota → AreWallsFound found.services → IfSome (script_found found) IsInRange
unfolding script_found
found_in_range found are rise bounds walls =
    kept IsInRange (only_if _) _ (λ _. kept IsInRange found.nodes _ (λ nodes.
    kept_of IsInRange AreLimits found.limits _ are (λ limits range.
    on_limits nodes limits _ range (session_in_range nodes limits Rise found rise bounds walls))))

-- of what is read as a script all is within its range
pub script_in_range : (d : Data) → IfSome (script_of d) IsInRange
script_in_range d =
    kept IsInRange (find.as_object d) _ (λ ms.
    found_in_range (found_in ms) (limits_at (get_member (codes "limits") ms))
    (faults_found (get_member (codes "faults") ms)) (quota_found_in (get_member (codes "quota") ms)) (walls_found ms))

-- ---- several guests

-- a guest on this tree, of which all is within its range, and none of the calls that its host makes is let fail
abbrev pub IsGuestOn : List NodeData → Limits → Plan → Type 0
IsGuestOn nodes limits p = IsSession nodes limits (λ faults. faults ≡ []) p

guest_in_range : (found : ScriptFound) → found.faults ≡ Some [] → IfSome found.quota IsQuota
    → AreWallsFound found.services → IfSome (guest_found found) (IsGuestOn [] default_limits)
unfolding guest_found
guest_in_range found none bounds walls =
    kept (IsGuestOn [] default_limits) (only_if _) _ (λ _.
    session_in_range [] default_limits (λ faults. faults ≡ []) found (rw none refl) bounds walls)

guest_read : (d : Data) → IfSome (guest_of d) (IsGuestOn [] default_limits)
guest_read d =
    kept (IsGuestOn [] default_limits) (find.as_object d) _ (λ ms.
    guest_in_range (guest_in ms) refl (quota_found_in (get_member (codes "quota") ms)) (walls_found ms))

-- what holds of each item that is read of a list
items_kept : {A : Type 0} (P : A → Type 0) (of : Data → Option A) → ((d : Data) → IfSome (of d) P) → (ds : Items)
    → IfSome (items_all of ds) (All P)
unfolding items_all
items_kept P of each no_items = λ k d l. absurd (omega arith)
items_kept P of each (item d ds) =
    kept_of (All P) P (of d) _ (each d) (λ x is.
    kept_of (All P) (All P) (items_all of ds) _ (items_kept P of each ds) (λ xs are. All-cons P x xs is are))

list_kept : {A : Type 0} (P : A → Type 0) (of : Data → Option A) → ((d : Data) → IfSome (of d) P) → (d : Data)
    → IfSome (list_of of d) (All P)
list_kept P of each d = kept (All P) (find.as_array d) _ (items_kept P of each)

-- guests of which all is within its range
pub record AreInRange (p : GuestsPlan) : Type 0 where
  pub limits : AreLimits p.limits
  pub guests : All (IsGuestOn p.nodes p.limits) p.guests
  pub schedule : All (λ guest. guest < length p.guests) p.schedule

-- guests that are put on the tree of the whole
put_on : (nodes : List NodeData) (limits : Limits) (guests : List Plan) → All (IsGuestOn [] default_limits) guests
    → All (IsGuestOn nodes limits) (map (on_tree nodes limits) guests)
put_on nodes limits guests are =
    All-map (IsGuestOn nodes limits) (on_tree nodes limits) guests
    (All-weaker (IsGuestOn [] default_limits) (λ p. IsGuestOn nodes limits (on_tree nodes limits p))
    (λ p is. record { nodes_are = refl; limits_are = refl; faults = is.faults; quota = is.quota; services = is.services })
    guests are)

-- a schedule whose numbers were tested
all_named : (count : ℕ) (schedule : List ℕ) → names_guests count schedule ≡ true → All (λ guest. guest < count) schedule
all_named count schedule named k d l =
    ltb-true _ _ (AllPass-from_list_all (λ guest. nat_lt guest count) schedule named k d l)

put_in_turns : (nodes : List NodeData) (limits : Limits) (guests : List Plan) (schedule : List ℕ) → AreLimits limits
    → All (IsGuestOn [] default_limits) guests → (test : Bool) → names_guests (length guests) schedule ≡ test
    → IfSome (only_if test >>= (λ _. Some (record {
      nodes = nodes;
      limits = limits;
      guests = map (on_tree nodes limits) guests;
      schedule = schedule;
    }))) AreInRange
put_in_turns nodes limits guests schedule range are false named = tt
put_in_turns nodes limits guests schedule range are true named = record {
  limits = range;
  guests = put_on nodes limits guests are;
  schedule = rw length-map (all_named (length guests) schedule named);
}

guests_in_range : (found : GuestsFound) → IfSome found.limits AreLimits
    → IfSome found.guests (All (IsGuestOn [] default_limits)) → IfSome (guests_found found) AreInRange
unfolding guests_found
guests_in_range found range are =
    kept AreInRange (only_if _) _ (λ _. kept AreInRange found.nodes _ (λ nodes.
    kept_of AreInRange AreLimits found.limits _ range (λ limits within.
    kept_of AreInRange (All (IsGuestOn [] default_limits)) found.guests _ are (λ guests all.
    kept AreInRange found.schedule _ (λ schedule.
    put_in_turns nodes limits guests schedule within all _ refl)))))

-- what must be there and is read
needed_kept : {A : Type 0} (P : A → Type 0) (of : Data → Option A) → ((d : Data) → IfSome (of d) P) → (part : Option Data)
    → IfSome (needed of part) P
needed_kept P of each part = kept P part _ each

-- of what is read as several guests all is within its range
pub guests_read_in_range : (d : Data) → IfSome (guests_of d) AreInRange
guests_read_in_range d =
    kept AreInRange (find.as_object d) _ (λ ms.
    guests_in_range (guests_in ms) (limits_at (get_member (codes "limits") ms))
    (needed_kept (All (IsGuestOn [] default_limits)) (list_of guest_of)
    (list_kept (IsGuestOn [] default_limits) guest_of guest_read) (get_member (codes "guests") ms)))
