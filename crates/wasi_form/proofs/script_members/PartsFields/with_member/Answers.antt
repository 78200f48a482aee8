use Rattle.wasi_form.specs.FaultsForm.{faults_of}
use Rattle.wasi_form.specs.LimitsForm.{limits_of}
use Rattle.wasi_form.specs.QuotaForm.{quota_of}
use Rattle.wasi_form.specs.FoundParts.{found_of, with_member}
use Rattle.wasi_form.specs.Shapes.{u64_of, u32_of}
use Rattle.wasi_form.proofs.Unreads.{unmade}
use Rattle.wasi_form.proofs.script_members.PartsFields.with_member.Goals as goal

pub returns-in_err-self-in-limits : goal.returns-in_err-self-in-limits
returns-in_err-self-in-limits c =
    unmade _ c.from_residual-in_err-self-in-limits.result _ limits_of (λ d. with_member c.args.key.now d (found_of c.args.self)) _
    c.from_residual-in_err-self-in-limits.ensures.1 c.in_err-self-in-limits.ensures

pub returns-in_err-self-in-fuel : goal.returns-in_err-self-in-fuel
returns-in_err-self-in-fuel c =
    unmade _ c.from_residual-in_err-self-in-fuel.result _ u64_of (λ d. with_member c.args.key.now d (found_of c.args.self)) _
    c.from_residual-in_err-self-in-fuel.ensures.1 c.in_err-self-in-fuel.ensures

pub returns-in_err-self-in-table : goal.returns-in_err-self-in-table
returns-in_err-self-in-table c =
    unmade _ c.from_residual-in_err-self-in-table.result _ u32_of (λ d. with_member c.args.key.now d (found_of c.args.self)) _
    c.from_residual-in_err-self-in-table.ensures.1 c.in_err-self-in-table.ensures

pub returns-in_err-self-in-faults : goal.returns-in_err-self-in-faults
returns-in_err-self-in-faults c =
    unmade _ c.from_residual-in_err-self-in-faults.result _ faults_of (λ d. with_member c.args.key.now d (found_of c.args.self)) _
    c.from_residual-in_err-self-in-faults.ensures.1 c.in_err-self-in-faults.ensures

pub returns-in_err-self-in-quota : goal.returns-in_err-self-in-quota
returns-in_err-self-in-quota c =
    unmade _ c.from_residual-in_err-self-in-quota.result _ quota_of (λ d. with_member c.args.key.now d (found_of c.args.self)) _
    c.from_residual-in_err-self-in-quota.ensures.1 c.in_err-self-in-quota.ensures
