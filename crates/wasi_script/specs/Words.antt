-- What the words of the command line ask for.
use Rattle.std.specs.Prelude.{ℕ, ◌+◌, ◌-◌, ◌*◌, ◌<◌, ◌≤◌, Bool, false, ◌&&◌, nat_le, List, [], ◌∷◌, length, codes, Option, Some, None, if◌then◌else◌, ⊤}
use Rattle.std.specs.Char.{is_ascii_digit}
use Rattle.std.specs.List.{list_all}
use Rattle.std.specs.Str.{bytes_eq}
use Rattle.wasi_script.specs.declared.words.Task.{Task}
use Rattle.wasi_script.specs.declared.words.Task.TheVariants.{Script, Generate, Usage}
use Rattle.wasi_script.specs.declared.words.ScriptTask.TheVariants.{Run, Audit, Trial}

-- it begins with a digit that isn't 0
abbrev pub begins_a_number : List ℕ → Bool
begins_a_number [] = false
begins_a_number (c ∷ cs) = nat_le 49 c && nat_le c 57

-- it writes a number from 1 to 9999 in decimal without a leading zero
unfoldable pub is_number : List ℕ → Bool
is_number word = begins_a_number word && nat_le (length word) 4 && list_all is_ascii_digit word

-- the number that decimal digits write after those of n
abbrev pub number_after : ℕ → List ℕ → ℕ
number_after n [] = n
number_after n (c ∷ cs) = number_after (10 * n + (c - 48)) cs

-- the number that a word writes, if it is one
unfoldable pub number_written : List ℕ → Option ℕ
number_written word = if is_number word then Some (number_after 0 word) else None

-- the word `run`, `audit` or `trial` alone
abbrev pub one_word : List ℕ → Task
one_word word =
    if bytes_eq word (codes "run")
    then Script Run
    else (
    if bytes_eq word (codes "audit")
    then Script Audit
    else (if bytes_eq word (codes "trial") then Script Trial else Usage))

abbrev pub generate : Option ℕ → Task
generate None = Usage
generate (Some n) = Generate n

-- the word `gen` and a number
abbrev pub two_words : List ℕ → List ℕ → Task
two_words word number = if bytes_eq word (codes "gen") then generate (number_written number) else Usage

-- what these words ask for; all but those forms ask for the usage line
abbrev pub task_of : List (List ℕ) → Task
task_of [] = Usage
task_of (word ∷ []) = one_word word
task_of (word ∷ number ∷ []) = two_words word number
task_of (word ∷ number ∷ more ∷ words) = Usage

-- the number of a task is from 1 to 9999
abbrev pub IsWithin : Task → Type 0
IsWithin (Script task) = ⊤
IsWithin (Generate n) = (1 ≤ n) × (n < 10000)
IsWithin Usage = ⊤
