use Rattle.wasi_guest.proofs.Walk.{◌≡◌, ℕ, List, MutBor, [], ◌∷◌, refl, ap, w32, u8, bool, proved, id⊢, ftrue, flft, named, vbool, tables, ‵, raw, ◌⊛◌, some, later, ◌$◌, ◌∵◌, !, qed, done, move, drop, use1, split, join, fsplit, fpick, feq_l, pick, await, suffices, enter, of_opd, addr, stop, no_more, and_then, returns, alloc_all, pass_all, free_all, look_at, get, through, sets, lands_as, heard, peeks, shows, fact, u32, yes, no, uint_vals, uint_Tells, mut_vals, mut_Tells, plain, only, calls_at, lasts, triple_of, Stays, walk_of, stay_dropped, Goes-dropped, Goes-spent_ref, ends_at, framed, Tuple, MutSlice, follows, mut_slice_Tells, bool_Tells, slice_val, vstruct, vcons, vnil, of_list, Val, ◌∙◌, get_in, fld, whole, sub, first, branches, from, hop, look_in_at, agg, lit, sets_last, exec, at_ret, env, lit<, rewrite, live, keep, use0, use2, fjoin, nothing, frame, says_two, never_true, Some-of, none_of, slice_given_up, given, learn, fres}
use Rattle.std.specs.Prelude.{Bool, slice_range, length, ◌+◌, ◌++◌, if◌then◌else◌, ◌<◌, ◌^◌}
use Rattle.std.specs.Bool.{OnTrue, OnFalse}
use Rattle.std.specs.Borrow.{Array}
use Rattle.wasi_guest.specs.Range.{in_memory, lent_at, with_bytes}
use Rattle.std.specs.declared.option.Option.TheVariants.{None, Some}
use Rattle.std.specs.contracts.option.Option as OP
use Rattle.wasi_guest.proofs.Found.{inside, placed, value_of, outside, else_of}
use denote.Follow.{follows_by}
use Rattle.wasi_guest.specs.contracts.memory.GuestMemory.slice_mut as f
use Rattle.wasi_guest.proofs.memory.GuestMemory.slice_mut.Statement.{statement}
use Rattle.wasi_guest.proofs.memory.GuestMemory.slice_mut.Code as code
use Rattle.wasi_guest.specs.contracts.memory.GuestMemory.{the_row as R}
use Rattle.wasi_guest.specs.contracts.memory.GuestMemory.part_mut as g
use Rattle.wasi_guest.proofs.memory.GuestMemory.part_mut.Met.{met}

abbrev stayed : Stays f.ended.signature.params f.ended.kept
stayed = (stay_dropped _ no, (stay_dropped _ yes, (stay_dropped _ yes, tt)))

pub slice_mut_spec : {M : Type 1} → statement M
unfolding follows_by
slice_mut_spec 𝓤 𝓛 𝓜 𝓡 wired =
    let c = f.clauses 𝓛 𝓜.mem 𝓡.returns in let W = walk_of 𝓛 f.ended stayed c in let 𝓣 = tables 𝓤 𝓛.H 𝓜 𝓡 𝓡.env in
    let goes = Goes-dropped 𝓛 1 (plain (λ _. u32)) yes (λ κs x w. refl) in
    proved 𝓛 f.ended stayed c 𝓜 𝓡 (Goes-spent_ref 𝓛 1 (0 ∷ []) tt (plain (λ _. R)), (goes, (goes, tt)))
    f.Key.name code.function (code.unfolded 𝓤 𝓛.H 𝓜 𝓡 wired)
    (λ κs. (mut_vals, (uint_vals w32, (uint_vals w32, tt))))
    (λ κs. (mut_Tells (named 0) κs.0 R, (uint_Tells w32, (uint_Tells w32, tt)))) (λ κs qs bounds a _ are.
    let memory = a.0.now in let ptr = a.1.0 in let n = a.1.1.0 in let Part = MutSlice (named 0) κs.0 u8 in
    let F = with_bytes memory (lent_at memory ptr n) in
    let G = triple_of 𝓛 g.signature (g.spec 𝓛 𝓜.mem 𝓡.returns) in
    let y : W.Ghost = ((κs, qs, bounds, a, (mut_vals a.0, (uint_vals w32 ptr, (uint_vals w32 n, tt)))), tt) in
    let z : G.Ghost = ((κs, qs, bounds, a, (mut_vals a.0, (uint_vals w32 ptr, (uint_vals w32 n, tt)))), tt) in
    qed 𝓛 (raw (G.pre z) ∷ []) ∵ enter ! _ _ _ _ _ $
    alloc_all ! (λ l. pass_all ! refl
    ((tt, tt), ((tt, record { fits = are.1.0.1 }), ((tt, record { fits = are.1.1.0.1 }), tt))) $
    sets ! (addr ! (through ! refl (stop !))) refl (tt, tt) $
    calls_at ! (framed 𝓤 𝓛.H 𝓜 𝓣) G (met 𝓤 𝓛 𝓜 𝓡 (code.calls-wasi_guest::memory::GuestMemory::part_mut 𝓡.env wired)) z
    (and_then ! (get ! refl) (and_then ! (get ! refl) (and_then ! (get ! refl) (no_more !)))) (λ v.
    use1 𝓛 (later (some (λ (r : Bool × MutBor (List ℕ)). ((‵ (flft κs.0 qs.0) ⊛ ‵ ftrue)
    ⊛ ‵ ((Tuple (bool ∷ Part ∷ [])).own_val r (v ∷ [])))
    ⊛ some (λ (ws : Unit {0} × (Unit {0} × (Unit {0} × Unit {0}))). ‵ (lasts g.ended κs a ws)
    ⊛ raw (fact 𝓤 (r.0 ≡ in_memory memory ptr n))
    ⊛ raw (fact 𝓤 (OnTrue r.0 (r.1.now ≡ slice_range memory ptr (ptr + n))))
    ⊛ raw (fact 𝓤 (length r.1.now ≡ (if r.0 then n else 0)))
    ⊛ raw (fact 𝓤 (OnFalse r.0 (F r.1.now ≡ memory)))
    ⊛ ‵ (follows R (Array u8 0) a.0.ghost_name r.1.ghost_name F))))) (id⊢ 𝓤 _) $
    await ! tt $ pick ! (λ r. split ! $ split ! $ split ! $ move ! (3 ∷ []) $ pick ! (λ ws. split ! $ drop ! $
    split ! $ heard ! _ (λ found. split ! $ heard ! _ (λ value. split ! $ heard ! _ (λ len. split ! $
    heard ! _ (λ same.
    -- [the ties; the token; nothing; the result; the locals]
    move ! (3 ∷ []) $ fpick ! (λ us. fsplit ! $ feq_l ! (λ is. fsplit ! $
    peeks ! bool _ (shows 𝓛 bool) r.0 us.0 (λ is-0. drop ! $ fsplit ! $
    peeks ! Part _ (shows 𝓛 Part) r.1 us.1.0 (λ is-1.
    let e-0 = bool_Tells r.0 us.0 is-0 in let e-1 = mut_slice_Tells (named 0) κs.0 u8 r.1 us.1.0 is-1 in
    let s : Val = slice_val r.1.ref_ptr (length r.1.now) in
    let fits : length r.1.now < 2 ^ 64 = is-1.0.1.0 in
    let v-is : v ≡ vstruct (vcons (vbool r.0) (vcons s vnil)) = ap only is
    ∙ ap (λ (vs : List Val). vstruct (of_list (vs ++ (us.1.0 ++ [])))) e-0
    ∙ ap (λ (vs : List Val). vstruct (of_list (vbool r.0 ∷ (vs ++ [])))) e-1 in
    rewrite ! 0 (λ (vs : List Val). ‵ (Part.own_val r.1 vs)) e-1 refl $
    lands_as ! v-is refl (tt, (tt, ((tt, (record { fits = fits }, tt)), tt))) $
    sets ! (of_opd ! (get_in ! (fld ! refl (stop !)) (sub ! 0 refl (whole !)))) refl (tt, tt) $
    sets ! (of_opd ! (get_in ! (fld ! refl (stop !)) (sub ! 1 refl (whole !)))) refl
    (tt, (tt, (record { fits = fits }, tt))) $
    sets ! (of_opd ! (get ! refl)) refl (tt, tt) $
    first ! $ branches ! (get ! refl)
    (λ t. sets ! (addr ! (from ! (fld ! refl (hop ! (look_in_at ! 5 (sub ! 0 refl (whole !))) (stop !))))) refl
    (tt, tt) $
    sets ! (agg ! (and_then ! (get ! refl)
    (and_then ! (get_in ! (fld ! refl (stop !)) (sub ! 1 refl (whole !))) (no_more !)))) refl
    (tt, (tt, (record { fits = fits }, tt))) $
    sets_last ! (agg ! (and_then ! (lit ! tt) (and_then ! (get ! refl) (no_more !)))) refl
    (tt, (record { fits = lit< tt }, ((tt, (record { fits = fits }, tt)), tt))) $
    exec ! 𝓣.C 𝓣.Λ (env code.Mir.locals l) code.Mir.t-7 (at_ret _ (W.post y)) $
    sets ! (of_opd ! (get ! refl)) refl (tt, (record { fits = lit< tt }, ((tt, (record { fits = fits }, tt)), tt))) $
    returns ! (look_at ! 0 refl) $ free_all ! refl $
    rewrite ! 2 (λ (at : ℕ). ‵ (follows R (Array u8 0) a.0.ghost_name r.1.ghost_name (with_bytes memory at)))
    (placed memory ptr n r.0 t found) refl $
    move ! (0 ∷ 3 ∷ 2 ∷ []) $
    use1 𝓛 (‵ ((OP.the_row Part).own_val (Some r.1) (live 1 (of_list (s ∷ [])) ∷ []))) (Some-of 𝓛 Part r.1 s) $
    keep ! (0 ∷ 1 ∷ 2 ∷ []) $
    suffices ! _ (ends_at 𝓛 f.ended stayed c y (live 1 (of_list (s ∷ []))) (Some r.1)
    (tt, (tt, (tt, tt))) (tt, (tt, (tt, tt)))) $
    nothing ! $ nothing ! $ fjoin ! $ nothing ! $ fjoin ! $ nothing ! $ fjoin ! $ join ! $ nothing ! $
    move ! (2 ∷ 0 ∷ []) $ join ! $ join ! $ frame ! $
    says_two ! (((λ _. inside memory ptr n r.0 t found), λ _. refl), value_of r.0 _ t value) $ done !)
    (λ t. move ! (0 ∷ 2 ∷ []) $
    use2 𝓛 (later (given (s ∷ [] ≡ s ∷ []) (‵ (fres a.0.ghost_name (R.coded.code (F r.1.now))))))
    (slice_given_up 𝓛 R u8 F (named 0) κs.0 a.0.ghost_name r.1 (s ∷ [])) $ await ! tt $ learn ! (λ _.
    rewrite ! 0 (λ (xs : List ℕ). ‵ (fres a.0.ghost_name (R.coded.code xs))) (else_of r.0 _ t same) refl $
    sets_last ! (agg ! (and_then ! (lit ! tt) (no_more !))) refl (tt, (record { fits = lit< tt }, tt)) $
    exec ! 𝓣.C 𝓣.Λ (env code.Mir.locals l) code.Mir.t-7 (at_ret _ (W.post y)) $
    sets ! (of_opd ! (get ! refl)) refl (tt, (record { fits = lit< tt }, tt)) $
    returns ! (look_at ! 0 refl) $ free_all ! refl $
    -- [what the memory ends as; nothing; the token; nothing]
    move ! (2 ∷ 0 ∷ []) $ keep ! (0 ∷ 1 ∷ []) $
    use0 𝓛 (‵ ((OP.the_row Part).own_val None (live 0 (of_list []) ∷ []))) (none_of 𝓛 Part) $
    suffices ! _ (ends_at 𝓛 f.ended stayed c y (live 0 (of_list [])) None (tt, (tt, (tt, tt))) (tt, (tt, (tt, tt)))) $
    nothing ! $ nothing ! $ fjoin ! $ nothing ! $ fjoin ! $ nothing ! $ fjoin ! $ join ! $ nothing ! $
    move ! (2 ∷ 0 ∷ []) $ join ! $ join ! $ frame ! $
    says_two ! (((λ some. never_true some), λ h. absurd (outside memory ptr n r.0 t found h)), tt) $
    done !)))))))))))))))
