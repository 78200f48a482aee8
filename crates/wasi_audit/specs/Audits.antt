-- Through which preopen nodes are come to: the preopen from which each descriptor number stems, and each preopen's list.
use Rattle.std.specs.Prelude.{ℕ, ◌+◌, nat_eq, Bool, false, if◌then◌else◌, Option, Some, None, List, [], map, replicate, refl}
use Rattle.std.specs.Coded.{Coded, code_by, coded×, coded_ℕ, coded_list}
use Rattle.std.specs.FinMap.{FinMap, code, get, insert, remove, from_entries}
use Rattle.std.specs.BTreeSet.{insert_key}
use Rattle.std.specs.List.{list_any, fold, enumerate_from, range_with_len}
use Rattle.std.specs.Ordering.{nat_cmp}
use Rattle.wasi_audit.specs.declared.effect.AuditEffect.{AuditEffect}
use Rattle.wasi_audit.specs.declared.effect.AuditEffect.TheVariants.{Nothing, Opened, Closed, Renumbered}

-- the preopen from which each number stems; the others stem from none
abbrev pub Stems : Type 0
Stems = FinMap nat_cmp ℕ

-- what an audit has: the stems, and the list of each preopen, that of preopen 0 first
pub record Audited : Type 0 where
  pub stems : Stems
  pub lists : List (List ℕ)

abbrev pub audited_code : Coded Audited
audited_code =
    code_by (Stems × List (List ℕ)) (coded× (code coded_ℕ coded_ℕ) (coded_list (coded_list coded_ℕ)))
    (λ a. (a.stems, a.lists)) (λ p. record { stems = p.0; lists = p.1 }) (λ _. refl)

-- number 3 + i stems from preopen i, of n preopens
abbrev pub first_stems : ℕ → Stems
first_stems n = from_entries (map (λ i. (3 + i, i)) (range_with_len 0 n))

-- at the start of n preopens no list has a node
abbrev pub started : ℕ → Audited
started n = record { stems = first_stems n; lists = replicate n [] }

-- with another stem of a number, or none
abbrev pub with_stem : ℕ → Option ℕ → Stems → Stems
with_stem number None stems = remove stems number
with_stem number (Some preopen) stems = insert stems number preopen

-- what is opened stems from what it was opened through, and a number that moved takes its stem along
abbrev pub stems_after : AuditEffect → Stems → Stems
stems_after Nothing stems = stems
stems_after (Opened from to) stems = with_stem to (get stems from) stems
stems_after (Closed number) stems = remove stems number
stems_after (Renumbered from to) stems =
    if nat_eq from to then stems else remove (with_stem to (get stems from) stems) from

-- whether a stem is this preopen
abbrev pub is_from : ℕ → Option ℕ → Bool
is_from preopen None = false
is_from preopen (Some stem) = nat_eq stem preopen

-- whether some number of these stems from a preopen
abbrev pub is_named_from : Stems → List ℕ → ℕ → Bool
is_named_from stems named preopen = list_any (λ number. is_from preopen (get stems number)) named

-- a rising list with each of these nodes in its place, unless it is there
abbrev pub with_nodes : List ℕ → List ℕ → List ℕ
with_nodes nodes touched = fold (insert_key nat_cmp) nodes touched

-- a preopen's list after a call: with the touched nodes, where the preopen is named
abbrev pub noted_list : Bool → List ℕ → List ℕ → List ℕ
noted_list is_named touched nodes = if is_named then with_nodes nodes touched else nodes

-- the lists of all preopens after a call, the first of which has this number
abbrev pub noted_from : ℕ → (ℕ → Bool) → List ℕ → List (List ℕ) → List (List ℕ)
noted_from first is_named touched lists =
    map (λ (e : ℕ × List ℕ). noted_list (is_named e.0) touched e.1) (enumerate_from first lists)

-- the touched nodes come to the list of each preopen from which a named number stems
abbrev pub noted_lists : Stems → List ℕ → List ℕ → List (List ℕ) → List (List ℕ)
noted_lists stems named touched lists = noted_from 0 (is_named_from stems named) touched lists

-- the audit after a call: its lists are by the stems that the call found
abbrev pub noted : List ℕ → List ℕ → AuditEffect → Audited → Audited
noted named touched effect audit = record {
  stems = stems_after effect audit.stems;
  lists = noted_lists audit.stems named touched audit.lists;
}
