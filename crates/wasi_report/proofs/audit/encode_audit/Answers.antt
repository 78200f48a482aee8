use Rattle.std.proofs.Common.{◌≡◌, ◌++◌, ◌∷◌, [], map, codes, rules}
use Rattle.std.proofs.lemmas.List.Elements.{All-map}
use Rattle.std.proofs.lemmas.Result.{on_ok_weaker}
use Rattle.json.specs.Token.{begin_object, end_object}
use Rattle.wasi_report.specs.Report.{list_value, number_value}
use Rattle.wasi_report.specs.Encoded.{member_tokens}
use Rattle.wasi_report.specs.Audit.{audited_preopen, preopen_value}
use Rattle.wasi_report.specs.AuditReadBack.{FitsPreopen, FitsAudit}
use Rattle.wasi_report.proofs.Encoding.{four, encoded_seen}
use Rattle.wasi_report.proofs.audit.encode_audit.Goals as goal

pub returns-clause-tokens : goal.returns-clause-tokens
returns-clause-tokens g c =
    let all = map audited_preopen c.args.preopens.now in
    let touched = c.args.touched.now in
    let opened : c.begin_object.new.self.tokens ≡ c.args.out.now.tokens ++ begin_object ∷ [] = search rules in
    let first : c.encode_list_at.new.out.tokens
    ≡ c.begin_object.new.self.tokens ++ member_tokens (codes "preopens") (list_value preopen_value all) =
    encoded_seen preopen_value audited_preopen c.args.preopens.now _ _ _ c.in_ok-encode_list_at.ensures.tokens in
    let second : c.encode_list_at-2.new.out.tokens
    ≡ c.encode_list_at.new.out.tokens ++ member_tokens (codes "touched") (list_value number_value touched) = search rules in
    on_ok_weaker c.end_object.result (λ added.
    let closed : c.end_object.new.self.tokens ≡ c.encode_list_at-2.new.out.tokens ++ end_object ∷ [] = search rules in
    four _ _ _ _ _ (begin_object ∷ []) _ _ (end_object ∷ []) opened first second closed) c.end_object.ensures.ok

pub returns-clause-fits : goal.returns-clause-fits
unfolding FitsAudit
returns-clause-fits g c =
    on_ok_weaker c.end_object.result
    (λ _. (All-map FitsPreopen audited_preopen _ c.in_ok-encode_list_at.ensures.fits, c.in_ok-encode_list_at-2.ensures.fits))
    c.end_object.ensures.ok
