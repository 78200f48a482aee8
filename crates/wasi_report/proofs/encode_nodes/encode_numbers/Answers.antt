use Rattle.std.proofs.Common.{◌++◌, refl, ap, rules, append_assoc, arith}
use Rattle.std.proofs.lemmas.Grind.{common_steps}
use Rattle.std.proofs.lemmas.Result.{on_ok_weaker}
use Rattle.json.specs.Tree.{members_tokens}
use Rattle.serde_json.specs.Written.{members_outline}
use Rattle.wasi_report.proofs.Encoding.{names_in_order, names_fit, encoded_none, encoded_one}
use Rattle.wasi_report.proofs.encode_nodes.encode_numbers.Goals as goal

pub loop-name-init : goal.loop-name-init
loop-name-init g c = record {
  before = refl;
  tokens =
      ap (λ members. c.begin_object.new.self.tokens ++ members_tokens (members_outline members))
      (names_in_order _ c.requires);
  told = encoded_none _;
}

pub loop-name-preserved : goal.loop-name-preserved
loop-name-preserved g c = record {
  before = search rules;
  tokens = search (rules, append_assoc);
  told =
      encoded_one c.in-Some.name.now c.in-Some.number
      (let inv = rw c.in-Some.is at c.next_name.type_inv in grind (arith, common_steps, inv)) c.in-Some.ensures
      c.loop-name.invariant.told;
}

pub returns-clause-fits : goal.returns-clause-fits
returns-clause-fits g c =
    on_ok_weaker c.end_object.result
    (λ _. names_fit c.requires c.in_default.ensures.0 c.loop-name.invariant.told) c.end_object.ensures.ok
