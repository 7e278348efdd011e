use Rattle.std.proofs.Common.{◌≡◌, ◌<◌, ◌+◌, length, take, sym, ap, ◌∙◌, subst, arith}
use Rattle.sessions.specs.Session.{owns_of}
use Rattle.snapshot.specs.Snap.{Snap, listing, taken}
use Rattle.sessions.proofs.Taking.{taken-idle, taken-open, none-unless, taken-longer}
use Rattle.index_entries.proofs.SetLemmas.{on_err}
use Rattle.sessions.proofs.snapshots.take_snapshot.Goals as goal
use Rattle.sessions.proofs.snapshots.take_snapshot.Goals.{in-Some+in_ok-add_transaction, in_default}

pub loop-session-preserved : goal.loop-session-preserved
loop-session-preserved c = elim c.match-session.branch [
  | in-Some+in_ok-add_transaction w ↦ w.snapshot-is ∙ (w.in_ok-add_transaction.ensures.listed ∙ (ap (λ (s : Snap). listing s w.in-Some.session.own.ids) c.loop-session.invariant
      ∙ sym (taken-open c.args.next.0 c.args.sessions.now c.loop-session.session-index c.session-item.result w.in-Some.session c.loop-session-test.true (sym c.session-item.is) w.in-Some.is)))
  | in_default w ↦ w.snapshot-is ∙ (c.loop-session.invariant
      ∙ sym (taken-idle c.args.next.0 c.args.sessions.now c.loop-session.session-index c.session-item.result c.loop-session-test.true (sym c.session-item.is) (none-unless c.session-item.result w.in_default.not-Some)))
]

pub returns-in_err-add_transaction-clause-err : goal.returns-in_err-add_transaction-clause-err
returns-in_err-add_transaction-clause-err c =
    let open_ = taken-open c.args.next.0 c.args.sessions.now c.loop-session.session-index c.session-item.result c.in-Some.session c.loop-session-test.true (sym c.session-item.is) c.in-Some.is in
    let so_far : listing c.loop-session.snapshot c.in-Some.session.own.ids ≡ taken c.args.next.0 (owns_of (take (c.loop-session.session-index + 1) c.args.sessions.now)) =
    ap (λ (s : Snap). listing s c.in-Some.session.own.ids) c.loop-session.invariant ∙ sym open_ in
    let many : 8 < length (taken c.args.next.0 (owns_of (take (c.loop-session.session-index + 1) c.args.sessions.now))).listed =
    subst (λ (s : Snap). 8 < length s.listed) so_far c.in_err-add_transaction.ensures.no_memory in
    let longer = taken-longer c.args.next.0 c.args.sessions.now (c.loop-session.session-index + 1) in
    let listed : 8 < length (taken c.args.next.0 (owns_of c.args.sessions.now)).listed = omega arith in on_err c.from_residual.result _ listed
