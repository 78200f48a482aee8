use Rattle.std.proofs.Common.{◌≡◌, ◌<◌, ◌≤◌, length, get_or, refl, rules}
use Rattle.std.proofs.lemmas.Option.{slice_get-map, slice_get_read, slice_get_past}
use Rattle.wasi_call_table.proofs.call_table.shape_in.Goals as goal

pub returns-in-Some : goal.returns-in-Some
returns-in-Some c =
    let within : c.args.place < length c.args.table.now = search rules in
    let is : c.in-Some.row.now ≡ get_or c.args.table.now c.args.place c.in-Some.row.now = search rules in
    rw (slice_get-map (λ row. row.2) c.args.table.now c.args.place, slice_get_read c.args.table.now (length c.args.table.now) c.args.place c.in-Some.row.now refl within is) refl

pub returns-in-None : goal.returns-in-None
returns-in-None c =
    let past : length c.args.table.now ≤ c.args.place = search rules in
    rw (slice_get-map (λ row. row.2) c.args.table.now c.args.place, slice_get_past c.args.table.now c.args.place past) refl
