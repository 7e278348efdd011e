use Rattle.std.proofs.Common.{◌≡◌, Some, slice_get, sym, subst}
use Rattle.session_steps.specs.State.{State}
use Rattle.session_steps.proofs.TicketLemmas.{sees-on}
use Rattle.session_steps.proofs.engine.SessionEngine.page_rows.Goals as goal

pub returns-in-Ok : goal.returns-in-Ok
returns-in-Ok c =
    let on = subst (λ (st : State). slice_get st.heap.pages.pages c.args.number ≡ Some c.in-Some.page.now) c.self.view_is (sym c.in-Some.ensures) in
    sees-on c.args.self.now c.args.s c.args.number c.in_ok-session.session.now c.reader-reader.result c.in-Some.page.now c.in-Ok.rows.items
    c.in_ok-session.ensures.1 c.in_ok-session.ensures.2 c.reader-reader.ensures on c.in-Ok.ensures.rows

pub returns : goal.returns
returns c =
    let on = subst (λ (st : State). slice_get st.heap.pages.pages c.args.number ≡ Some c.in-Some.page.now) c.self.view_is (sym c.in-Some.ensures) in
    let some = c.in-Err.ensures.refused in
    let sees = sees-on c.args.self.now c.args.s c.args.number c.in_ok-session.session.now c.reader-reader.result c.in-Some.page.now some.0
    c.in_ok-session.ensures.1 c.in_ok-session.ensures.2 c.reader-reader.ensures on some.1 in
    (some.0, sees, some.2)
