-- Guests come to the same under two schedules in which each of them has as many turns.
use Rattle.std.proofs.Common.{ℕ, ◌+◌, ◌≡◌, List, take, map, ap, sym, ◌∙◌, arith, Some, slice_get}
use Rattle.std.proofs.lemmas.Option.{slice_get_within}
use Rattle.std.specs.Prelude.{sum_by}
use Rattle.wasi_host.specs.Tree.{Tree, next_of}
use Rattle.wasi_tree.specs.NodeData.{NodeData}
use Rattle.wasi_p1_model.proofs.RunLaws.{one_run}
use Rattle.wasi_guests.specs.Agree.{CameToTheSame, SchedulesAgree}
use Rattle.wasi_guests.specs.Alone.{AloneRun, End, Starting, end_alone, made_by, turns_of}
use Rattle.wasi_guests.specs.AsIfAlone.{AsIfAlone, IsGuest}
use Rattle.wasi_guests.proofs.PlaceLemmas.{is_there, map_alike, map_same}

module _ (start : Tree) (guests : List Starting) (schedule schedule' : List ℕ) (ends ends' : List End)
    (nodes nodes' : List NodeData) (one : AsIfAlone start guests schedule ends nodes)
    (other : AsIfAlone start guests schedule' ends' nodes') (turns : (i : ℕ) → turns_of i schedule' ≡ turns_of i schedule) where
  -- a guest and as many calls have one run
  run_same : (i : ℕ) (run run' : AloneRun) → slice_get other.alone i ≡ Some run' → slice_get one.alone i ≡ Some run
      → run' ≡ run
  run_same i run run' there' there =
      let (g, begins) = is_there guests i (let short = slice_get_within one.alone i run there in omega (arith, short, one.each)) in
      let ran = one.runs i g run (record { begins = begins; runs = there }) in
      let ran' = rw (turns i) at (other.runs i g run' (record { begins = begins; runs = there' })) in
      let same = one_run (take (turns_of i schedule) g.calls) g.state run'.turns run.turns run'.last run.last ran' ran in
      λ k. record { turns = same.0 k; last = same.1 k }

  alone_same : other.alone ≡ one.alone
  alone_same = sym (map_same other.alone)
      ∙ map_alike (λ x. x) (λ x. x) other.alone one.alone (omega (arith, one.each, other.each)) (λ i run' run there' there.
      run_same i run run' there' there)
      ∙ map_same one.alone

  guest_same : {i : ℕ} {g : Starting} {run : AloneRun} → IsGuest guests one.alone i g run → IsGuest guests other.alone i g run
  guest_same {i} is = record { begins = is.begins; runs = ap (λ l. slice_get l i) alone_same ∙ is.runs }

  same : CameToTheSame one other
  same = record {
    alone = alone_same;
    ends_are = other.ends_are ∙ ap (map end_alone) alone_same ∙ sym one.ends_are;
    inside = λ i n g run is in_it. record {
      one = one.inside i n g run is in_it;
      other = other.inside i n g run (guest_same is) in_it;
    };
    new = λ i n g run is fresh. record {
      one = one.new i n g run is fresh;
      other = other.new i n g run (guest_same is) fresh;
    };
    others = λ n below nobody. other.others n below nobody ∙ sym (one.others n below nobody);
    count = other.count ∙ ap (λ l. next_of start + sum_by (made_by start) l) alone_same ∙ sym one.count;
  }

pub schedules_agree : SchedulesAgree
schedules_agree start guests schedule schedule' ends ends' nodes nodes' one other turns =
    same start guests schedule schedule' ends ends' nodes nodes' one other turns
