-- `into_block` hands over what the handle owns. Assumes `Logic`.
use Rattle.std.proofs.Common.{◌≡◌, List, [], ◌∷◌, ◌++◌, refl}
use mir.Syntax.{Fn}
use mir.Val.{Val}
use base.Logic.{SProp, emp}
use prog.Wp.{WpFn}
use contract.Monad.{fact, fact_i}
use contract.Running.{tables}
use types.Kit.{‵, raw, ◌⊛◌, prop, ◌$◌, ◌∵◌, !, qed, by, move, keep, drop, use0, split, regoal, rewrite, fsplit, fjoin}
use types.Part.{whole, sub, agg}
use types.Run.{stop, fld, of_opd, no_more, and_then, returns, enter}
use types.ByLocal.{alloc_all, pass_all, free_all, look_at, get, get_in, sets}
use denote.RattleType.{owns}
use denote.RawPtr.{Ptr}
use denote.Signature.{types_at}
use denote.Steps.{nothing, heard}
use denote.Triple.Entry.{alive}
use denote.Triple.Walked.{Stays, stay_dropped, walk_of}
use Rattle.core.proofs.alloc.Calls.{Goes-blank}
use Rattle.std.proofs.raw_atomic.Walks.{proved_at, leaves}
use Rattle.std.specs.Prelude.{Option, Some, IsSome}
use Rattle.c_handles.proofs.Pointers.{param_at, ptr_typed, pointer_val, pointer_own, pointer_told, pointer_made, pointer_typed, by_some}
use Rattle.c_handles.specs.Owned.{owned_ticket}
use Rattle.table_scans.specs.Tickets.{TicketView}
use Rattle.table_scans.specs.contracts.ticket.Ticket as held
use Rattle.c_handles.specs.contracts.block.Block as row
use Rattle.c_handles.specs.contracts.ticket_handle.TicketHandle.into_block.{ended, clauses}
use Rattle.c_handles.specs.contracts.ticket_handle.TicketHandle.into_block.Key.{name as #self}
use Rattle.c_handles.proofs.ticket_handle.TicketHandle.into_block.Statement.{statement}
use Rattle.c_handles.proofs.ticket_handle.TicketHandle.into_block.Code as code

pub into_block_spec : {M : Type 1} → statement M
into_block_spec 𝓤 𝓛 𝓜 𝓡 wired =
    let H = 𝓛.H in let En = ended in let c = clauses 𝓛 𝓜.mem 𝓡.returns in let fn : Fn = code.function in
    let C = (tables 𝓤 H 𝓜 𝓡 𝓡.env).C in let Λ = (tables 𝓤 H 𝓜 𝓡 𝓡.env).Λ in
    let hs : Stays En.signature.params En.kept = (stay_dropped (param_at 0 En.signature.params) En.kept.0, tt) in
    proved_at 𝓛 En hs c 𝓜 𝓡 (Goes-blank 𝓛 0 (param_at 0 En.signature.params) En.kept.0 (λ κs x f. tt), tt) #self fn (code.unfolded 𝓤 H 𝓜 𝓡 wired) (λ z are.
    let Post : Val → SProp 𝓤 = (walk_of 𝓛 En hs c).post z in
    let x = z.0.3.0 in let p : Ptr = x.at in let told = pointer_told p z.0.4.0 are.0.0 in
    qed 𝓛 ((raw (alive 𝓛 En.signature z.0.0 z.0.1) ⊛ ‵ (owns (types_at En.signature.params z.0.0) z.0.3 z.0.4)) ∷ raw (fact 𝓤 (IsSome x.held)) ∷ []) ∵ move ! (1 ∷ []) $
    heard ! (IsSome x.held) (λ is_some. by_some x.held is_some (λ y is.
    split ! $ move ! (1 ∷ []) $ fsplit ! $ fsplit ! $ drop ! $
    -- [what the handle owns; true; the tokens]
    rewrite ! 0 (λ (h : Option TicketView). ‵ (owned_ticket p h)) is refl $
    let made : (row.the_row held.the_row).Denot = record { at = p; value = y } in
    let Said : Type 0 = x.held ≡ Some made.value in
    regoal ! (λ (us : List Val). prop (WpFn 𝓤 H C Λ fn us Post)) (λ i. told i ++ []) refl $
    enter ! C Λ fn (pointer_val p ∷ []) Post $ alloc_all ! (λ l. pass_all ! refl (pointer_typed p, tt) $
    sets ! (of_opd ! (get_in ! (fld ! refl (stop !)) (sub ! 0 refl (whole !)))) refl (ptr_typed p) $
    sets ! (of_opd ! (get ! refl)) refl (ptr_typed p) $
    sets ! (agg ! (and_then ! (get ! refl) (no_more !))) refl (pointer_typed p) $
    returns ! (look_at ! 0 refl) $ free_all ! refl $ keep ! (0 ∷ 2 ∷ []) $
    use0 𝓛 (‵ (pointer_own p (pointer_val p ∷ []))) (pointer_made 𝓛 p) $ fjoin ! $
    use0 𝓛 (raw (fact 𝓤 Said)) (fact_i 𝓤 Said (emp 𝓤) is) $ nothing ! $ nothing ! $ fjoin ! $ move ! (3 ∷ 0 ∷ 2 ∷ 1 ∷ []) $
    by ! (leaves 𝓛 En hs c z (pointer_val p) made (tt, tt) (tt, tt))))))
