-- How the specifications of the calls that make something, or make a file longer, keep to a guest's quotas.
use Rattle.std.specs.Prelude.{ℕ, Bool, true, false, not, ◌&&◌, Option, Some, None, Ok, Err, if◌then◌else◌}
use Rattle.wasi_guest.specs.Flags as flag
use Rattle.wasi_guest.specs.Flags.{has}
use Rattle.wasi_guest.specs.declared.answer.Value.{Value}
use Rattle.wasi_guest.specs.declared.call.Call.{Call}
use Rattle.wasi_guest.specs.declared.call.Call.TheVariants as calls
use Rattle.wasi_guest.specs.declared.errno.Errno.TheVariants as errnos
use Rattle.wasi_host.specs.Steps.{◌>>=◌}
use Rattle.wasi_host.specs.Tree.{Tree}
use Rattle.wasi_host.specs.declared.errors.ErrorCode.{ErrorCode}
use Rattle.wasi_p1_types.specs.Front.{CallFront}
use Rattle.wasi_p1_types.specs.Guest.{Guest}
use Rattle.wasi_p1_types.specs.SpecParts.{permit}
use Rattle.wasi_p1_types.specs.CallParts.{is_failure}
use Rattle.wasi_p1_types.specs.Quotas.{counted_growth, counted_making, counted_makings, growth_within, is_above, is_used_up}
use Rattle.wasi_p1_types.specs.Request.{Request, Reply, Grow, growth_in}
use Rattle.wasi_p1_types.specs.CallResult.{CallResult, Program, done, asking, give}
use Rattle.wasi_p1_types.specs.GuestEnvModel.{GuestEnvModel}
use Rattle.wasi_p1_types.specs.declared.error.P1Error.TheVariants.{Errno}
use Rattle.wasi_p1_types.specs.declared.quotas.Allowance.{Allowance}
use Rattle.wasi_p1_types.specs.declared.quotas.FileEnd.{FileEnd}

-- ---- makings

-- where no making is left, a call that makes something is refused `dquot`
unfoldable pub may_make : GuestEnvModel → CallResult (Unit {0})
may_make s = if is_used_up s.quota.nodes s.used.nodes then Err (Errno errnos.Dquot) else Ok tt

-- what isn't permitted is refused, and then a making where none is left
abbrev pub check_to_make : Bool → Option ErrorCode → GuestEnvModel → CallResult (Unit {0})
check_to_make makes own s = permit own >>= (λ _. if makes then may_make s else Ok tt)

-- an answer, whose making is counted
abbrev pub with_making : Value × Guest → Value × Guest
with_making p = (p.0, record p.1 { holdings = counted_making p.1.holdings })

-- a specification that makes something: right before its request it is refused where no making is left, and an answer
-- is counted
abbrev pub made_by : Bool → Guest → CallResult (Program (Value × Guest)) → CallResult (Program (Value × Guest))
made_by false g call_spec = call_spec
made_by true g (Ok (asking r next)) =
    may_make g.holdings >>= (λ _. Ok (asking r (λ reply. next reply >>= (λ p. give (with_making p)))))
made_by true g (Ok (done p)) = Ok (done p)
made_by true g (Err e) = Err e

abbrev pub making : Bool → Guest → CallFront → CallFront
making makes g front = λ fuel. (made_by makes g (front fuel).0, (front fuel).1)

-- ---- growth

-- an answer, whose growth is counted
abbrev pub with_growth : ℕ → Value × Guest → Value × Guest
with_growth growth p = (p.0, record p.1 { holdings = counted_growth growth p.1.holdings })

-- the growth that is reckoned of a file of this size; where the bound would be passed with it, `dquot`
unfoldable pub growth_from : Allowance → FileEnd → ℕ → CallResult ℕ
growth_from limit end size =
    if is_above limit (growth_within limit end size)
    then Err (Errno errnos.Dquot)
    else Ok (growth_within limit end size)

-- the request of a write or a new size, within a bound on bytes where one is set
abbrev pub grow_request : Option Allowance → Request → Request
grow_request None w = w
grow_request (Some limit) w = Grow limit w

-- the growth beside what the request is answered; where the bound is passed, `dquot`
abbrev pub grown_in : (limit : Option Allowance) (w : Request) → Reply (grow_request limit w) → CallResult (ℕ × Reply w)
grown_in None w reply = Ok (0, reply)
grown_in (Some limit) w (Some grown) = Ok grown
grown_in (Some limit) w None = Err (Errno errnos.Dquot)

-- a specification that writes a file or gives it a size, so bounded: an answer is counted
abbrev pub grown_by : Option Allowance → CallResult (Program (Value × Guest)) → CallResult (Program (Value × Guest))
grown_by limit (Ok (asking w next)) = Ok (asking (grow_request limit w) (λ reply.
    grown_in limit w reply >>= (λ grown. next grown.1 >>= (λ p. give (with_growth grown.0 p)))))
grown_by limit (Ok (done p)) = Ok (done p)
grown_by limit (Err e) = Err e

abbrev pub growing : Option Allowance → CallFront → CallFront
growing limit front = λ fuel. (grown_by limit (front fuel).0, (front fuel).1)

-- ---- the use of a call

-- a call that makes something: a directory, a symbolic link, or an open that creates, whether or not the file is there
abbrev pub makes : Call → Bool
makes (calls.PathCreateDirectory _ _ _) = true
makes (calls.PathSymlink _ _ _ _ _) = true
makes (calls.PathOpen _ _ _ _ oflags _ _ _) = has oflags flag.creat
makes call = false

-- the growth of a specification: that of its request
abbrev pub growth_of : Tree → CallResult (Program (Value × Guest)) → ℕ
growth_of t (Ok (asking r next)) = growth_in t r
growth_of t (Ok (done p)) = 0
growth_of t (Err e) = 0

-- a request that counts the bytes by which a file grows
abbrev pub grows : Request → Bool
grows (Grow limit w) = true
grows r = false

-- a call has no use, where its specification asks for this
abbrev pub spends_nothing : Call → Request → Bool
spends_nothing call r = not (makes call) && not (grows r)

-- counts with a making, or without, and with so many grown bytes
abbrev pub spent : Bool → ℕ → GuestEnvModel → GuestEnvModel
spent makes growth s = counted_growth growth (counted_makings makes s)

-- what a part asked of a host was done, or may have been, where the host failed
abbrev pub may_be_done : {A : Type 0} → CallResult A → Bool
may_be_done (Ok x) = true
may_be_done (Err e) = is_failure e

-- a use is counted of such a part, and else nothing
abbrev pub on_outcome : {A : Type 0} → CallResult A → GuestEnvModel → GuestEnvModel → GuestEnvModel
on_outcome result used s = if may_be_done result then used else s
