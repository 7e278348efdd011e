-- `of` keeps the pointer, and owns what the block did. Assumes `Logic`.
use Rattle.std.proofs.Common.{◌≡◌, List, [], ◌∷◌, ◌++◌, refl}
use mir.Syntax.{Fn}
use mir.Val.{Val}
use base.Logic.{SProp, emp}
use base.Fml.{ftrue}
use prog.Wp.{WpFn}
use contract.Monad.{fact, fact_i}
use contract.Running.{tables}
use types.Kit.{‵, raw, ◌⊛◌, prop, ◌$◌, ◌∵◌, !, qed, by, move, keep, drop, use0, split, regoal, fsplit, fjoin}
use types.Part.{whole, sub, agg}
use types.Run.{stop, fld, of_opd, no_more, and_then, returns, enter}
use types.ByLocal.{alloc_all, pass_all, free_all, look_at, get, get_in, sets}
use denote.RattleType.{owns}
use denote.RawPtr.{Ptr}
use denote.Signature.{types_at}
use denote.Steps.{nothing}
use denote.Triple.Entry.{alive}
use denote.Triple.Walked.{Stays, stay_dropped, walk_of}
use Rattle.core.proofs.alloc.Calls.{Goes-blank}
use Rattle.std.proofs.raw_atomic.Walks.{proved_at, leaves}
use Rattle.std.specs.Prelude.{Some}
use Rattle.c_handles.proofs.Pointers.{param_at, ptr_typed, pointer_val, pointer_own, pointer_told, pointer_made, pointer_typed}
use Rattle.c_handles.specs.contracts.ticket_handle.TicketHandle as row
use Rattle.c_handles.specs.contracts.ticket_handle.TicketHandle.of.{ended, clauses}
use Rattle.c_handles.specs.contracts.ticket_handle.TicketHandle.of.Key.{name as #self}
use Rattle.c_handles.proofs.ticket_handle.TicketHandle.of.Statement.{statement}
use Rattle.c_handles.proofs.ticket_handle.TicketHandle.of.Code as code

pub of_spec : {M : Type 1} → statement M
of_spec 𝓤 𝓛 𝓜 𝓡 wired =
    let H = 𝓛.H in let En = ended in let c = clauses 𝓛 𝓜.mem 𝓡.returns in let fn : Fn = code.function in
    let C = (tables 𝓤 H 𝓜 𝓡 𝓡.env).C in let Λ = (tables 𝓤 H 𝓜 𝓡 𝓡.env).Λ in
    let hs : Stays En.signature.params En.kept = (stay_dropped (param_at 0 En.signature.params) En.kept.0, tt) in
    proved_at 𝓛 En hs c 𝓜 𝓡 (Goes-blank 𝓛 0 (param_at 0 En.signature.params) En.kept.0 (λ κs x f. tt), tt) #self fn (code.unfolded 𝓤 H 𝓜 𝓡 wired) (λ z are.
    let Post : Val → SProp 𝓤 = (walk_of 𝓛 En hs c).post z in
    let block = z.0.3.0 in let p : Ptr = block.at in let told = pointer_told p z.0.4.0 are.0.0 in
    let made : (row.the_row).Denot = record { at = p; held = Some block.value } in
    let Said : Type 0 = made.held ≡ Some block.value in
    qed 𝓛 ((raw (alive 𝓛 En.signature z.0.0 z.0.1) ⊛ ‵ (owns (types_at En.signature.params z.0.0) z.0.3 z.0.4)) ∷ ‵ ftrue ∷ []) ∵ move ! (1 ∷ []) $ drop ! $ split ! $ move ! (1 ∷ []) $
    fsplit ! $ fsplit ! $ drop ! $
    -- [the value and the right to free it; true; the tokens]
    regoal ! (λ (us : List Val). prop (WpFn 𝓤 H C Λ fn us Post)) (λ i. told i ++ []) refl $
    enter ! C Λ fn (pointer_val p ∷ []) Post $ alloc_all ! (λ l. pass_all ! refl (pointer_typed p, tt) $
    sets ! (of_opd ! (get_in ! (fld ! refl (stop !)) (sub ! 0 refl (whole !)))) refl (ptr_typed p) $
    sets ! (of_opd ! (get ! refl)) refl (ptr_typed p) $
    sets ! (agg ! (and_then ! (get ! refl) (no_more !))) refl (pointer_typed p) $
    returns ! (look_at ! 0 refl) $ free_all ! refl $ keep ! (0 ∷ 2 ∷ []) $
    use0 𝓛 (‵ (pointer_own p (pointer_val p ∷ []))) (pointer_made 𝓛 p) $ fjoin ! $
    use0 𝓛 (raw (fact 𝓤 Said)) (fact_i 𝓤 Said (emp 𝓤) refl) $ nothing ! $ nothing ! $ fjoin ! $ move ! (3 ∷ 0 ∷ 2 ∷ 1 ∷ []) $
    by ! (leaves 𝓛 En hs c z (pointer_val p) made (tt, tt) (tt, tt))))
