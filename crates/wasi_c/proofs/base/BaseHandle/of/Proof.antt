-- `of` keeps the pointer of the reference, and what the reference holds.
use mathlib.Core.Path.{refl}
use Prim.Native.Nat.{ℕ}
use mathlib.Core.List.{List, [], ◌∷◌}
use seplogic.Ra.Ura.{Ura}
use mir.Syntax.{static}
use mir.Val.{Val, vptr, vstruct, vcons, vnil}
use base.Logic.{SProp, ent, emp, via, fst∗, id⊢}
use base.Fml.{ftrue}
use prog.Memory.{Memory}
use prog.Routine.{Routine}
use prog.Wp.{Calls, Loops, WpFn, Tables}
use types.Logic.{Logic}
use contract.Monad.{Fun}
use contract.Running.{tables, tables_of}
use sound.WpLaws.{WpFn-mono}
use types.Kit.{‵, ◌$◌, ◌∵◌, !, qed, move, drop, use1, frame, fsplit, fjoin, fpack, feq_i, suffices, done}
use types.Run.{stop, no_more, and_then, addr, of_opd, returns, enter}
use types.Part.{agg}
use types.ByLocal.{alloc_all, pass_all, free_all, look_at, get, through, sets}
use denote.Exit.{yes}
use denote.Opens.{shr_dup}
use denote.RattleType.{RattleType, Valss, owns}
use denote.RawPtr.{RawPtr, block_ptr}
use denote.Ref.{Bor, ShrRef, shr_vals, shr_Tells}
use denote.Signature.{plain}
use denote.Steps.{nothing}
use denote.Struct.Struct.{within}
use denote.Struct.Owning.{shape}
use denote.Triple.Entry.{on_entry}
use denote.Triple.Spec.{Meets, triple_of}
use denote.Triple.Table.{entered}
use denote.Triple.Walked.{says, Stays, stay_none_ref, walk_of, ends_at, walked, Goes-none_ref, walk_Meets}
use Rattle.std.specs.Prelude.{Some}
use Rattle.wasi_sandbox.specs.contracts.base.Base as Inner
use Rattle.wasi_sandbox.proofs.base.Base.TheLaws as inner
use Rattle.wasi_c.specs.contracts.base.BaseHandle as Handle
use Rattle.wasi_c.specs.contracts.base.BaseHandle.of as F
use Rattle.wasi_c.specs.contracts.base.BaseHandle.of.Key.{name as #self}
use Rattle.wasi_c.proofs.base.BaseHandle.of.Statement as stated
use Rattle.wasi_c.proofs.base.BaseHandle.of.Code as code

abbrev R : RattleType
R = Inner.the_row

abbrev stayed : Stays (F.ended).signature.params (F.ended).kept
stayed = (stay_none_ref [] tt (plain (λ _. R)) yes, tt)

module _ {M : Type 1} {𝓤 : Ura M} (𝓛 : Logic 𝓤) (at_mem : Memory → SProp 𝓤) (run : Routine → Fun 𝓤) where
  open 𝓛 use {H}

  module _ (b o : ℕ) (x : R.Denot) where
    abbrev self : Bor R.Denot
    self = record { ref_ptr = (b, o); now = x }

    abbrev bound : (walk_of 𝓛 F.ended stayed (F.clauses 𝓛 at_mem run)).Ghost
    bound = ((tt, tt, tt, (self, tt), (vptr b o ∷ [], tt)), tt)

    abbrev Post : Val → SProp 𝓤
    Post = (walk_of 𝓛 F.ended stayed (F.clauses 𝓛 at_mem run)).post bound

    abbrev made : Handle.the_row.Denot
    made = record { at = block_ptr b o; value = Some x }

    abbrev w : Val
    w = vstruct (vcons (vptr b o) vnil)

    module _ (C : Calls 𝓤 H) (Λ : Loops 𝓤 H) where
      walk : ent 𝓤 (on_entry 𝓛 F.signature tt tt (self, tt) (vptr b o ∷ [], tt)) (WpFn 𝓤 H C Λ code.function (vptr b o ∷ []) Post)
      walk =
          qed 𝓛 (‵ ftrue ∷ ‵ (owns (ShrRef static [] R ∷ []) (self, tt) (vptr b o ∷ [], tt)) ∷ []) ∵ drop ! $ fsplit ! $ fsplit ! $ drop ! $
          shr_dup ! R inner.the_row_laws.shr_laws x b o [] $ move ! (2 ∷ []) $ drop ! $
          enter ! C Λ code.function (vptr b o ∷ []) _ $ alloc_all ! (λ ls. pass_all ! refl ((tt, tt), tt) $
          sets ! (addr ! (through ! refl (stop !))) refl (tt, tt) $ sets ! (of_opd ! (get ! refl)) refl (tt, tt) $
          sets ! (agg ! (and_then ! (get ! refl) (no_more !))) refl (tt, (tt, tt)) $
          returns ! (look_at ! 0 refl) $ free_all ! refl $
          nothing ! $ feq_i ! (List Val) (vptr b o ∷ []) (vptr b o ∷ []) refl $ fjoin ! $ feq_i ! (List Val) (w ∷ []) (w ∷ []) refl $ fjoin ! $
          fpack ! (Valss (RawPtr ∷ [])) (within (shape Handle.the_type) (block_ptr b o, tt) (w ∷ [])) (vptr b o ∷ [], tt) $ fjoin ! $
          use1 𝓛 (‵ (Handle.the_row.own_val made (w ∷ []))) (id⊢ 𝓤 _) $
          suffices ! _ (ends_at 𝓛 F.ended stayed (F.clauses 𝓛 at_mem run) bound w made (tt, tt) (tt, tt)) $ says ! refl $
          nothing ! $ frame ! $ move ! (1 ∷ []) $ feq_i ! (List Val) (vptr b o ∷ []) (vptr b o ∷ []) refl $ fjoin ! $
          nothing ! $ move ! (1 ∷ 0 ∷ []) $ fjoin ! $ frame ! $ done !)

  meets : (𝓣 : Tables 𝓤 H) → Meets 𝓛 F.signature (WpFn 𝓤 H 𝓣.C 𝓣.Λ code.function) (F.spec 𝓛 at_mem run)
  meets 𝓣 =
      walk_Meets 𝓛 F.ended stayed (Goes-none_ref 𝓛 0 [] tt (plain (λ _. R)) yes, tt) (F.clauses 𝓛 at_mem run) (WpFn 𝓤 H 𝓣.C 𝓣.Λ code.function) (WpFn-mono 𝓤 H 𝓛.laws 𝓣 code.function)
      (walked 𝓛 F.ended stayed (F.clauses 𝓛 at_mem run) (WpFn 𝓤 H 𝓣.C 𝓣.Λ code.function) (λ κs. (shr_vals, tt)) (λ κs. (shr_Tells static [] R, tt))
      (λ κs qs bounds a g are. via 𝓤 _ (fst∗ 𝓤 _ (emp 𝓤)) (walk a.0.ref_ptr.0 a.0.ref_ptr.1 a.0.now 𝓣.C 𝓣.Λ)))

pub of_spec : {M : Type 1} → stated.statement M
unfolding tables_of
of_spec 𝓤 𝓛 𝓜 𝓡 wired =
    let 𝓣 : Tables 𝓤 𝓛.H = tables_of 𝓤 𝓛.H 𝓜 (tables 𝓤 𝓛.H 𝓜 𝓡 𝓡.env) in
    entered 𝓤 𝓛.H (triple_of 𝓛 F.signature (F.spec 𝓛 𝓜.mem 𝓡.returns)) 𝓣.C 𝓣.Λ #self code.function (code.unfolded 𝓤 𝓛.H 𝓜 𝓡 wired) (meets 𝓛 𝓜.mem 𝓡.returns 𝓣)
