-- What a call touches is near it.
use Rattle.std.proofs.Common.{ℕ, inl, inr, List, [], ◌∷◌, subst, sym, arith, slice_get, Result, Ok, Err}
use Rattle.std.specs.Prelude.{Contains}
use Rattle.std.specs.List.{flat_map}
use Rattle.std.proofs.lemmas.List.Elements.{Contains-append_cases, Contains-append_left, Contains-append_right}
use Rattle.wasi_host.specs.HostLaws.{HostModel}
use Rattle.wasi_host.specs.ValidTree.{root}
use Rattle.wasi_guest.specs.declared.answer.Value.{Value}
use Rattle.wasi_guest.specs.declared.call.Call.{Call}
use Rattle.wasi_p1_model.specs.CallTransition.{Turns}
use Rattle.wasi_p1_types.specs.Front.{FueledCall}
use Rattle.wasi_p1_types.specs.Guest.{Guest, node_in}
use Rattle.wasi_p1_model.specs.Locality.{nodes_named, TouchesOnlyNear}
use Rattle.wasi_p1_types.specs.CallResult.{CallResult, Program, done, asking, starts}
use Rattle.wasi_p1_model.specs.Calls.{call_spec}
use Rattle.wasi_p1_types.specs.declared.error.P1Error.{P1Error}
use Rattle.wasi_host.proofs.Agreeing.{one}
use Rattle.wasi_host.proofs.Touching.{reached_through}
use Rattle.wasi_p1_model.proofs.LocalCalls.{IsLocal, IsNamed}
use Rattle.wasi_p1_model.proofs.Locality.{spec_near}

-- a member of one of the lists is one of them all
among_all : (f : ℕ → List ℕ) (fds : List ℕ) (fd n : ℕ) → Contains fds fd → Contains (f fd) n → Contains (flat_map f fds) n
among_all f (x ∷ fds) fd n named has = elim (Contains-append_cases (x ∷ []) fds fd named) [
  | inl here ↦ Contains-append_left (f x) (flat_map f fds) n (subst (λ k. Contains (f k) n) (sym (one here)) has)
  | inr later ↦ Contains-append_right (f x) (flat_map f fds) n (among_all f fds fd n later has)
]
among_all f [] fd n named has = absurd (omega (arith, named.1))

pub is_among_named : {g : Guest} {call : Call} {n : ℕ} → IsNamed g call n → Contains (nodes_named g call) n
is_among_named {g} {call} {n} is = among_all (λ fd. node_in (slice_get g.slots fd)) _ is.fd n is.named is.node

-- a specification starts from nodes that its call names
starts_named : (g : Guest) (call : Call) (m : CallResult (Program (Value × Guest))) → IsLocal g call m → (n : ℕ)
    → Contains (starts m) n → Contains (nodes_named g call) n
starts_named g call (Ok (asking r next)) near n has = is_among_named (near.starts n has)
starts_named g call (Ok (done p)) near n has = absurd (omega (arith, has.1))
starts_named g call (Err e) near n has = absurd (omega (arith, has.1))

pub turn_touches_near : {rose : Type 0} {w v : HostModel} {g g' : Guest} {call : FueledCall} {r : Result Value P1Error}
    → Turns rose w v g g' call r → TouchesOnlyNear w v g call.call
turn_touches_near {w = w} {g = g} {call = call} takes = record {
  stays = takes.touched.stays;
  near = λ n has. elim (takes.touched.near n has) [
    | inl before ↦ inl before
    | inr (inl reached) ↦ inr (inl (reached_through (λ d from.
        root d (starts_named g call.call (call_spec g call) (spec_near g call) d from)) n reached))
    | inr (inr made) ↦ inr (inr made)
  ];
}
