use Rattle.std.proofs.Common.{◌≡◌, ◌<◌, List, Some, None, take, length, sym, subst, get_or, arith}
use Rattle.history.specs.History.{Transaction, latest}
use Rattle.keyed_history.proofs.LatestLemmas.{write_within, write_read, nothing_read}
use Rattle.keyed_history.proofs.keyed.KeyedHistory.last_write.Goals as goal

pub bounds-writes-place : goal.bounds-writes-place
bounds-writes-place c = subst (λ (t : Transaction). c.in-Some.place < length t) (sym c.writes.ensures)
    (write_within c.self.inside.spots.places c.self.inside.transactions.items c.args.key c.args.n c.in-Some.m c.in-Some.place c.index.result.now c.self.invariant c.in-Some.ensures c.index.ensures)

pub offset_bounds-writes-place : goal.offset_bounds-writes-place
offset_bounds-writes-place c =
    let within : c.in-Some.place < length c.writes.result.now = bounds-writes-place c in let small = c.writes.type_inv.1 in omega (arith, within, small)

pub returns-in-Some : goal.returns-in-Some
returns-in-Some c = subst (λ (h : List Transaction). (latest (take c.args.n h) c.args.key ≡ Some c.index-writes-place.result.row) × (c.index-writes-place.result.key ≡ c.args.key)) c.self.view_is
    (write_read c.self.inside.spots.places c.self.inside.transactions.items c.args.key c.args.n c.in-Some.m c.in-Some.place c.index.result.now c.index-writes-place.result c.self.invariant c.in-Some.ensures c.index.ensures
    (subst (λ (t : Transaction). c.index-writes-place.result ≡ get_or t c.in-Some.place c.index-writes-place.result) c.writes.ensures c.index-writes-place.is))

pub returns-in-None : goal.returns-in-None
returns-in-None c = subst (λ (h : List Transaction). latest (take c.args.n h) c.args.key ≡ None) c.self.view_is
    (nothing_read c.self.inside.spots.places c.self.inside.transactions.items c.args.key c.args.n c.self.invariant c.in-None.ensures)
