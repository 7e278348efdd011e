-- `into_box` makes the box again of the pointer and what the block owns. Assumes `Logic`.
use Rattle.std.proofs.Common.{◌≡◌, List, [], ◌∷◌, ◌++◌, refl, sym, ap, subst}
use mir.Syntax.{a_type, dcons, dnil}
use mir.Val.{Val}
use mir.MapTy.{inst_fn}
use base.Fraction.{full_share}
use base.Logic.{SProp, emp, id⊢}
use base.Fml.{ftrue, flft}
use prog.Wp.{WpFn}
use types.Kit.{Item, ‵, raw, ◌⊛◌, some, later, prop, at_ret, ◌$◌, ◌∵◌, !, qed, by, move, drop, split, split3, join, fsplit, fjoin, pick, regoal, rewrite, use0, use1, await, feq_i}
use types.Part.{whole, sub}
use types.Run.{stop, fld, of_opd, no_more, and_then, first, blocks, exec, returns, enter}
use types.ByLocal.{alloc_all, pass_all, free_all, look_at, get, get_in, sets, lands_last, env}
use contract.BorrowLft.{◌⊑◌, ⊑_refl}
use contract.Monad.{fact, fact_i}
use contract.Running.{tables}
use denote.RattleType.{RattleType, owns}
use denote.RawPtr.{Ptr, ptr_val}
use denote.Signature.{types_at}
use denote.Steps.{nothing, only, heard}
use denote.Param.{layout, bounded}
use denote.Param.NoDrop.{glues}
use denote.Triple.Call.{calls_at_last}
use denote.Triple.Clauses.{Lasts, lasts}
use denote.Triple.Spec.{triple_of}
use denote.Triple.Walked.{Stays, stay_dropped, walk_of, Goes-dropped}
use Rattle.core.proofs.alloc.Calls.{Goes-blank}
use Rattle.core.proofs.alloc.Shapes.{after}
use Rattle.core.proofs.atomic.Steps.{fm}
use Rattle.core.proofs.cell.Inside.{Good}
use Rattle.std.proofs.Handle.{heap_val, heap_Tells}
use Rattle.std.proofs.raw_atomic.Walks.{proved_at, leaves}
use Rattle.std.specs.contracts.impls.GlobalAllocator.TheImpl.{ghosts, dict}
use Rattle.std.proofs.impls.GlobalAllocator.TheImpl.Met.{passed}
use Rattle.std_alloc.proofs.BoxSteps.Form as box
use Rattle.std_alloc.proofs.BoxSteps.Steps.{box_out, box_in}
use Rattle.std_alloc.specs.contracts.boxed.Box.from_raw as callee
use Rattle.std_alloc.proofs.boxed.Box.from_raw.Met.{met}
use Rattle.c_handles.proofs.Destruct++none.drop.Code.{code as nothing_drops}
use Rattle.c_handles.proofs.HeapRow.{heap_row, heap_row_laws, heap_drops, heap_box}
use Rattle.c_handles.proofs.Pointers.{param_at, ptr_typed, pointer_val, pointer_told, pointer_typed}
use Rattle.c_handles.specs.contracts.block.Block.into_box.{ended, clauses}
use Rattle.c_handles.specs.contracts.block.Block.into_box.Key.{name as #self}
use Rattle.c_handles.proofs.block.Block.into_box.Statement.{statement}
use Rattle.c_handles.proofs.block.Block.into_box.Code as code

pub into_box_spec : {M : Type 1} → statement M
unfolding nothing_drops
into_box_spec {M} 𝓤 𝓛 𝓜 𝓡 wired T L dx glue =
    let H = 𝓛.H in let C = (tables 𝓤 H 𝓜 𝓡 𝓡.env).C in let Λ = (tables 𝓤 H 𝓜 𝓡 𝓡.env).Λ in
    let E = heap_box T L in let Z : RattleType = heap_row in let B : RattleType = box.B E in
    let En = ended T dx in let c = clauses T dx 𝓛 𝓜.mem 𝓡.returns in
    let inst = bounded (a_type ∷ []) (T, tt) (dcons dx dnil) in let fn = inst_fn inst code.function in
    let k = triple_of 𝓛 (callee.signature T Z ghosts dict heap_drops) (callee.spec T Z ghosts dict heap_drops 𝓛 𝓜.mem 𝓡.returns) in
    let allocates = passed 𝓡.env (code.calls-std_heap::GlobalAllocator::allocate 𝓡.env wired) (code.calls-std_heap::GlobalAllocator::deallocate 𝓡.env wired)
    (code.calls-std_heap::GlobalAllocator::grow 𝓡.env wired) (code.calls-std_heap::GlobalAllocator::shrink 𝓡.env wired) M 𝓤 𝓛 𝓜 𝓡 in
    let goes = glues "c_handles::Destruct++none::drop" 𝓡.env (code.calls-c_handles::Destruct++none::drop 𝓡.env wired) Z heap_row_laws M 𝓤 𝓛 𝓜 𝓡 in
    let known = met 𝓤 𝓛 𝓜 𝓡 (code.calls-std_alloc::boxed::Box::from_raw 𝓡.env wired) T Z L heap_row_laws ghosts dict heap_drops allocates goes in
    let hs : Stays En.signature.params En.kept = (stay_dropped (param_at 0 En.signature.params) En.kept.0, (stay_dropped (param_at 1 En.signature.params) En.kept.1.0, tt)) in
    proved_at 𝓛 En hs c 𝓜 𝓡 (Goes-blank 𝓛 1 (param_at 0 En.signature.params) En.kept.0 (λ κs x f. tt), (Goes-dropped 𝓛 1 (param_at 1 En.signature.params) En.kept.1.0 (λ κs x f. refl), tt))
    (#self inst) fn (code.unfolded 𝓤 H 𝓜 𝓡 wired (T, tt) dx) (λ z are.
    let κ = z.0.0.0 in let q = z.0.1.0 in let Post : Val → SProp 𝓤 = (walk_of 𝓛 En hs c).post z in
    let block = z.0.3.0 in let p : Ptr = block.at in let al = z.0.3.1.0 in
    let told = pointer_told p z.0.4.0 are.0.0 in let heap_told = heap_Tells al z.0.4.1.0 are.1.0 in
    let t : Item 𝓤 = ‵ (flft κ q) in let t₀ : Item 𝓤 = ‵ (flft [] full_share) in let inT : Type 0 = κ ⊑ T.lives in let inZ : Type 0 = [] ⊑ Z.lives in
    let y : k.Ghost = (((κ, ([], tt)), (q, (full_share, tt)), tt, (al, (p, tt)), (heap_val ∷ [], (ptr_val p ∷ [], tt))), block.value) in
    qed 𝓛 (((t ⊛ ‵ ftrue) ⊛ ‵ (owns (types_at En.signature.params z.0.0) z.0.3 z.0.4)) ∷ raw ((c z.0.0 z.0.3).requires z.1) ∷ []) ∵ move ! (1 ∷ []) $
    use1 𝓛 (raw (fact 𝓤 inT) ⊛ ‵ ftrue) (id⊢ 𝓤 _) $ split ! $ heard ! inT (λ leT. drop ! $ split ! $ move ! (1 ∷ []) $ fsplit ! $ fsplit ! $ drop ! $
    move ! (1 ∷ []) $ fsplit ! $ rewrite ! 0 (λ (us : List Val). ‵ (Z.own_val al us)) heap_told refl $ move ! (1 ∷ []) $ drop ! $
    -- [the heap's handle; the value and the right to free it; the tokens]
    regoal ! (λ (us : List Val). prop (WpFn 𝓤 H C Λ fn us Post)) (λ i. told i ++ (heap_told i ++ [])) refl $
    enter ! C Λ fn (pointer_val p ∷ heap_val ∷ []) Post $ alloc_all ! (λ l. pass_all ! refl (pointer_typed p, ((tt, ((tt, tt), tt)), tt)) $
    sets ! (of_opd ! (get_in ! (fld ! refl (stop !)) (sub ! 0 refl (whole !)))) refl (ptr_typed p) $
    nothing ! $ feq_i ! (List Val) (ptr_val p ∷ []) (ptr_val p ∷ []) refl $ fjoin ! $ move ! (1 ∷ 0 ∷ []) $ fjoin ! $
    move ! (2 ∷ []) $ split ! $ move ! (1 ∷ []) $ drop ! $ nothing ! $ use0 𝓛 t₀ (𝓛.lfts.lft-nil full_share) $ join ! $ move ! (1 ∷ 0 ∷ []) $ join ! $ join ! $
    move ! (1 ∷ []) $ use0 𝓛 (raw (fact 𝓤 inZ)) (fact_i 𝓤 inZ (emp 𝓤) (⊑_refl [])) $ join ! $ use0 𝓛 (raw (fact 𝓤 inT)) (fact_i 𝓤 inT (emp 𝓤) leT) $ join ! $
    move ! (1 ∷ 0 ∷ []) $ join ! $ use1 𝓛 (raw (k.pre y)) (id⊢ 𝓤 _) $ first ! $ blocks ! $
    calls_at_last ! (fm 𝓛 𝓜 𝓡) k known y (and_then ! (get ! refl) (and_then ! (get ! refl) (no_more !))) (λ u.
    use1 𝓛 (later (some (λ (r : B.Denot). ((t ⊛ t₀ ⊛ ‵ ftrue) ⊛ ‵ (B.own_val r (u ∷ []))) ⊛ some (λ (ls : Lasts (callee.ended T Z ghosts dict heap_drops) y.0.0 y.0.3).
    ‵ (lasts (callee.ended T Z ghosts dict heap_drops) y.0.0 y.0.3 ls) ⊛ (raw (fact 𝓤 (r.value ≡ block.value)) ⊛ raw (fact 𝓤 (r.alloc ≡ al))))))) (id⊢ 𝓤 (k.post y u)) $
    await ! tt $ pick ! (λ r. split ! $ move ! (1 ∷ []) $ pick ! (λ _. split3 ! $ drop ! $ move ! (1 ∷ []) $ drop ! $ move ! (1 ∷ []) $
    -- [the tokens and the box; that it has the value]
    split ! $ split3 ! $ move ! (1 ∷ []) $ drop ! $ join ! $ move ! (1 ∷ []) $
    box_out E ! r (u ∷ []) (λ b o h e us fits. box_in E ! r b o r.value e refl $ rewrite ! 0 (λ (xs : List Val). ‵ (B.own_val r xs)) (sym us) refl $
    let good : Good (layout B) u = subst (Good (layout B)) (sym (ap only us)) (box.box_typed E h b o fits) in let Ev = env fn.locals l in
    lands_last ! refl good $ exec ! C Λ Ev (after 2 fn.body) (at_ret Ev Post) $ sets ! (of_opd ! (get ! refl)) refl good $
    returns ! (look_at ! 0 refl) $ free_all ! refl $
    -- [the box; the tokens; that it has the value]
    nothing ! $ nothing ! $ fjoin ! $ nothing ! $ fjoin ! $ move ! (2 ∷ 0 ∷ 1 ∷ 3 ∷ []) $
    by ! (leaves 𝓛 En hs c z u r (tt, (tt, tt)) (tt, (tt, tt))))))))))
