-- `base` reads the pointer, and what it owns is what the reference holds.
use mathlib.Core.Path.{refl, sym, subst}
use mathlib.Core.List.{List, [], ◌∷◌, ◌++◌}
use seplogic.Ra.Ura.{Ura}
use mir.Syntax.{Body, place, copy, assign, rv_opd, seq, return}
use mir.Val.{Val, vptr, vstruct, vcons, vnil, of_list}
use base.Logic.{SProp, ent, id⊢}
use base.Fml.{ftrue, fsep}
use prog.Memory.{Memory}
use prog.Routine.{Routine}
use prog.Wp.{WpFn, Tables}
use types.Logic.{Logic}
use contract.Monad.{Fun, fact}
use contract.Running.{tables, tables_of}
use sound.WpLaws.{WpFn-mono}
use types.Kit.{Item, at_ret, ‵, raw, ◌⊛◌, ◌$◌, ◌∵◌, !, qed, by, move, drop, join, split, rewrite, fsplit, fjoin, fpick, feq_i, feq_l, suffices, done}
use types.Part.{whole, sub}
use types.Run.{stop, fld, addr, of_opd, first, blocks, exec, returns, enter}
use types.ByLocal.{alloc_all, pass_all, free_all, look_at, get, get_in, through, sets, sets_last, env}
use denote.Exit.{yes}
use denote.Memory.{hidden_shr}
use denote.RattleType.{RattleType}
use denote.RawPtr.{Ptr, ptr_val, in_a_block}
use denote.Signature.{Slot, plain}
use denote.Steps.{nothing, heard}
use denote.Triple.Spec.{triple_of}
use denote.Triple.Table.{entered}
use denote.Triple.Walked.{says, Stays, stay_dropped, walk_of, ends_at, Goes-dropped, walk_Meets}
use Rattle.std.specs.Prelude.{◌≡◌, Some, None, IsSome}
use Rattle.wasi_sandbox.specs.contracts.base.Base as Inner
use Rattle.wasi_c.specs.Held.{HeldBase, lent_by}
use Rattle.wasi_c.specs.contracts.base.BaseHandle as Handle
use Rattle.wasi_c.specs.contracts.base.BaseHandle.base as F
use Rattle.wasi_c.specs.contracts.base.BaseHandle.base.Key.{name as #self}
use Rattle.wasi_c.proofs.base.BaseHandle.base.Statement as stated
use Rattle.wasi_c.proofs.base.BaseHandle.base.Code as code

abbrev From : Slot 0
From = plain (λ _. Handle.the_row)

abbrev stayed : Stays (F.ended).signature.params (F.ended).kept
stayed = (stay_dropped From yes, tt)

abbrev rest : Body
rest = seq (assign (place 0 []) (rv_opd (copy (place 3 [])))) return

abbrev R : RattleType
R = Inner.the_row

none_held : IsSome {T = R.Denot} None → ⊥
none_held some = absurd (cc)

module _ {M : Type 1} {𝓤 : Ura M} (𝓛 : Logic 𝓤) (at_mem : Memory → SProp 𝓤) (run : Routine → Fun 𝓤) (𝓣 : Tables 𝓤 𝓛.H) where
  open 𝓛 use {H}

  walk_some : (z : (walk_of 𝓛 F.ended stayed (F.clauses 𝓛 at_mem run)).Ghost) (x : R.Denot) → z.0.3.0.value ≡ Some x
      → z.0.4.0 ≡ vstruct (of_list (ptr_val z.0.3.0.at ∷ [])) ∷ []
      → ent 𝓤 (types.Kit.⋆ 𝓛 (‵ (lent_by z.0.3.0.at z.0.3.0.value) ∷ ‵ ftrue ∷ [])) (WpFn 𝓤 H 𝓣.C 𝓣.Λ code.function (z.0.4.0 ++ []) ((walk_of 𝓛 F.ended stayed (F.clauses 𝓛 at_mem run)).post z))
  walk_some z x same vs =
      let Post = (walk_of 𝓛 F.ended stayed (F.clauses 𝓛 at_mem run)).post z in
      qed 𝓛 (‵ (lent_by z.0.3.0.at z.0.3.0.value) ∷ ‵ ftrue ∷ []) ∵
      rewrite ! 0 (λ (h : HeldBase). ‵ (lent_by z.0.3.0.at h)) same refl $
      in_a_block ! z.0.3.0.at (λ p. lent_by p (Some x)) (id⊢ 𝓤 _) (λ b o e.
      let w : Val = vstruct (vcons (vptr b o) vnil) in
      let ws : z.0.4.0 ≡ w ∷ [] = subst (λ (p : Ptr). z.0.4.0 ≡ vstruct (of_list (ptr_val p ∷ [])) ∷ []) e vs in
      let Γ : List (Item 𝓤) = ‵ (hidden_shr R [] x b o) ∷ [] in
      move ! (1 ∷ []) $ drop ! $ by ! (subst (λ (us : List Val). ent 𝓤 (types.Kit.⋆ 𝓛 Γ) (WpFn 𝓤 H 𝓣.C 𝓣.Λ code.function (us ++ []) Post)) (sym ws)
      (qed 𝓛 Γ ∵ enter ! 𝓣.C 𝓣.Λ code.function (w ∷ []) _ $ alloc_all ! (λ ls. pass_all ! refl ((tt, (tt, tt)), tt) $
      sets ! (of_opd ! (get_in ! (fld ! refl (stop !)) (sub ! 0 refl (whole !)))) refl (tt, tt) $
      first ! $ blocks ! $ sets ! (of_opd ! (get ! refl)) refl (tt, tt) $ sets_last ! (addr ! (through ! refl (stop !))) refl (tt, tt) $
      exec ! 𝓣.C 𝓣.Λ (env (code.function).locals ls) rest (at_ret (env (code.function).locals ls) Post) $
      sets ! (of_opd ! (get ! refl)) refl (tt, tt) $ returns ! (look_at ! 0 refl) $ free_all ! refl $
      feq_i ! (List Val) (vptr b o ∷ []) (vptr b o ∷ []) refl $ fjoin ! $
      suffices ! _ (ends_at 𝓛 F.ended stayed (F.clauses 𝓛 at_mem run) z (vptr b o) (record { ref_ptr = (b, o); now = x }) (tt, tt) (tt, tt)) $ says ! same $
      nothing ! $ nothing ! $ fjoin ! $ join ! $ nothing ! $ join ! $ done !))))

  by_value : (z : (walk_of 𝓛 F.ended stayed (F.clauses 𝓛 at_mem run)).Ghost) (h : HeldBase) → z.0.3.0.value ≡ h → IsSome z.0.3.0.value
      → z.0.4.0 ≡ vstruct (of_list (ptr_val z.0.3.0.at ∷ [])) ∷ []
      → ent 𝓤 (types.Kit.⋆ 𝓛 (‵ (lent_by z.0.3.0.at z.0.3.0.value) ∷ ‵ ftrue ∷ [])) (WpFn 𝓤 H 𝓣.C 𝓣.Λ code.function (z.0.4.0 ++ []) ((walk_of 𝓛 F.ended stayed (F.clauses 𝓛 at_mem run)).post z))
  by_value z None same some vs = absurd (none_held (subst IsSome same some))
  by_value z (Some x) same some vs = walk_some z x same vs

  walk : (z : (walk_of 𝓛 F.ended stayed (F.clauses 𝓛 at_mem run)).Ghost)
      → ent 𝓤 ((walk_of 𝓛 F.ended stayed (F.clauses 𝓛 at_mem run)).pre z) (WpFn 𝓤 H 𝓣.C 𝓣.Λ code.function (z.0.4.0 ++ []) ((walk_of 𝓛 F.ended stayed (F.clauses 𝓛 at_mem run)).post z))
  walk z =
      qed 𝓛 ((‵ ftrue ⊛ ‵ (fsep (Handle.the_row.own_val z.0.3.0 z.0.4.0) ftrue)) ∷ raw (fact 𝓤 (IsSome z.0.3.0.value)) ∷ []) ∵ split ! $ drop ! $ fsplit ! $
      fsplit ! $ fpick ! (λ vss. fsplit ! $ feq_l ! (λ ev. fsplit ! $ feq_l ! (λ ep. drop ! $ move ! (2 ∷ []) $
      heard ! (IsSome z.0.3.0.value) (λ some. by ! (by_value z z.0.3.0.value refl some
      (subst (λ (ps : List Val). z.0.4.0 ≡ vstruct (of_list (ps ++ [])) ∷ []) ep ev))))))

pub base_spec : {M : Type 1} → stated.statement M
unfolding tables_of
base_spec 𝓤 𝓛 𝓜 𝓡 wired =
    let 𝓣 : Tables 𝓤 𝓛.H = tables_of 𝓤 𝓛.H 𝓜 (tables 𝓤 𝓛.H 𝓜 𝓡 𝓡.env) in
    entered 𝓤 𝓛.H (triple_of 𝓛 F.signature (F.spec 𝓛 𝓜.mem 𝓡.returns)) 𝓣.C 𝓣.Λ #self code.function (code.unfolded 𝓤 𝓛.H 𝓜 𝓡 wired)
    (walk_Meets 𝓛 F.ended stayed (Goes-dropped 𝓛 0 From yes (λ κs x f. refl), tt) (F.clauses 𝓛 𝓜.mem 𝓡.returns) (WpFn 𝓤 𝓛.H 𝓣.C 𝓣.Λ code.function) (WpFn-mono 𝓤 𝓛.H 𝓛.laws 𝓣 code.function)
    (walk 𝓛 𝓜.mem 𝓡.returns 𝓣))
