use Rattle.std.proofs.Common.{◌≡◌, ◌++◌, length}
use Rattle.json.specs.Tree.{members_tokens}
use Rattle.serde_json.specs.Data.{no_members}
use Rattle.serde_json.specs.Written.{members_outline}
use Rattle.wasi_report.specs.Report.{put_all}
use Rattle.wasi_report.proofs.Encoding.{AreEncoded, number_tokens}
use Rattle.wasi_report.proofs.encode_nodes.encode_numbers.Given as goal

abbrev pub invariant-loop-name : goal.invariant-loop-name
invariant-loop-name g l = record {
  before : l.out.before ≡ l.initial.out.before;
  tokens :
      l.out.tokens ++ number_tokens (g.N.Names.left l.names)
      ≡ l.initial.out.tokens ++ members_tokens (members_outline (put_all (g.N.Names.left l.initial.names) no_members));
  told : AreEncoded (g.N.Names.left l.initial.names) (g.N.Names.left l.names);
}

abbrev pub decreases-loop-name : goal.decreases-loop-name
decreases-loop-name g l = length (g.N.Names.left l.names)
