-- An audit's text tells the audit.
use Rattle.std.specs.Prelude.{◌≡◌, All}
use Rattle.wasi_report.specs.Audit.{AuditedPreopen, AuditReport, audit_text}
use Rattle.wasi_report.specs.ReadBack.{FitsNumber}

-- the numbers of its nodes fit 64 bits
abbrev pub FitsPreopen : AuditedPreopen → Type 0
FitsPreopen preopen = All FitsNumber preopen.nodes

-- all numbers fit 64 bits, as in each run's audit
unfoldable pub FitsAudit : AuditReport → Type 0
FitsAudit a = All FitsPreopen a.preopens × All FitsNumber a.touched

-- two such audits with the same text are the same
abbrev pub AuditsAreDetermined : Type 0
AuditsAreDetermined = (a b : AuditReport) → FitsAudit a → FitsAudit b → audit_text a ≡ audit_text b → a ≡ b
