-- An audit's text tells the audit: the text tells the value's JSON, and that tells each part.
use Rattle.std.proofs.Common.{ℕ, List, ◌≡◌, ap, ◌∙◌, arith}
use Rattle.serde_json.specs.Written.{outline}
use Rattle.wasi_report.specs.Report.{number_value}
use Rattle.wasi_report.specs.ReadBack.{FitsNumber}
use Rattle.wasi_report.specs.Audit.{AuditedPreopen, AuditReport, preopen_value, audit_value, audit_text}
use Rattle.wasi_report.specs.AuditReadBack.{FitsPreopen, FitsAudit, AuditsAreDetermined}
use Rattle.wasi_report.proofs.ReadBack.{IsShallow, same_outline, shallow_list, shallow_number, same_list, same_number}
use Rattle.wasi_report.proofs.ReadBack.{members_in, after_first, items_first, text_first, list_json}

shallow_preopen : (p : AuditedPreopen) → FitsPreopen p → IsShallow 2 (outline (preopen_value p))
shallow_preopen p fits =
    let nodes = shallow_list 0 FitsNumber number_value shallow_number p.nodes fits in
    record { numbers = (tt, (nodes.numbers, tt)); depth = omega arith }

same_preopen : (a b : AuditedPreopen) → FitsPreopen a → FitsPreopen b
    → outline (preopen_value a) ≡ outline (preopen_value b) → a ≡ b
same_preopen a b p q e =
    let from_name = ap members_in e in
    let from_nodes = ap after_first from_name in
    let name : a.name ≡ b.name = ap text_first from_name in
    let nodes : list_json number_value a.nodes ≡ list_json number_value b.nodes = ap items_first from_nodes in
    let make : List ℕ → List ℕ → AuditedPreopen = λ name nodes. record { name = name; nodes = nodes } in
    ap (λ name. make name a.nodes) name
    ∙ ap (make b.name) (same_list FitsNumber number_value same_number a.nodes b.nodes p q nodes)

shallow_audit : (a : AuditReport) → FitsAudit a → IsShallow 128 (outline (audit_value a))
unfolding FitsAudit
shallow_audit a fits =
    let preopens = shallow_list 2 FitsPreopen preopen_value shallow_preopen a.preopens fits.0 in
    let touched = shallow_list 0 FitsNumber number_value shallow_number a.touched fits.1 in
    record { numbers = (preopens.numbers, (touched.numbers, tt)); depth = omega arith }

same_audit : (a b : AuditReport) → FitsAudit a → FitsAudit b → outline (audit_value a) ≡ outline (audit_value b) → a ≡ b
unfolding FitsAudit
same_audit a b p q e =
    let from_preopens = ap members_in e in
    let from_touched = ap after_first from_preopens in
    let preopens : list_json preopen_value a.preopens ≡ list_json preopen_value b.preopens = ap items_first from_preopens in
    let touched : list_json number_value a.touched ≡ list_json number_value b.touched = ap items_first from_touched in
    let make : List AuditedPreopen → List ℕ → AuditReport = λ all touched. record { preopens = all; touched = touched } in
    ap (λ all. make all a.touched) (same_list FitsPreopen preopen_value same_preopen a.preopens b.preopens p.0 q.0 preopens)
    ∙ ap (make b.preopens) (same_list FitsNumber number_value same_number a.touched b.touched p.1 q.1 touched)

pub determined : AuditsAreDetermined
unfolding audit_text
determined a b p q e =
    same_audit a b p q (same_outline (audit_value a) (audit_value b) (shallow_audit a p) (shallow_audit b q) e)
