-- The form of the faults of a script, the calls of the host that fail: `[[NUMBER, "before"] ..]`, or `"after"`, by
-- numbers that rise from 1 or more on.
use Rattle.std.specs.Prelude.{List, Bool, true, false, codes, if◌then◌else◌, Option, Some, None}
use Rattle.serde_json.specs.Data.{Data, Items}
use Rattle.serde_json.specs.Find as find
use Rattle.wasi_host_faults.specs.Faults.{numbers_rise}
use Rattle.wasi_host_faults.specs.declared.fault.Fault.{Fault}
use Rattle.wasi_form.specs.Lists.{◌>>=◌, list_of}
use Rattle.wasi_form.specs.Shapes.{u64_of, is_text, two_in}

-- `"before"`, where the call isn't made, or `"after"`, where it is
abbrev pub is_after : Data → Option Bool
is_after d =
    if is_text (codes "before") d then Some false else (if is_text (codes "after") d then Some true else None)

-- `[NUMBER, "before"]` or `[NUMBER, "after"]`
abbrev pub fault_of_items : Items → Option Fault
fault_of_items ds = do
  two ← two_in ds
  number ← u64_of two.0
  after ← is_after two.1
  Some (record { number = number; after = after })

abbrev pub fault_of : Data → Option Fault
fault_of d = find.as_array d >>= fault_of_items

-- faults, where their numbers rise
abbrev pub where_rising : List Fault → Option (List Fault)
where_rising faults = if numbers_rise faults then Some faults else None

abbrev pub faults_of : Data → Option (List Fault)
faults_of d = list_of fault_of d >>= where_rising
