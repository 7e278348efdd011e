use Rattle.std.proofs.Common.{◌≡◌, ◌∙◌, ◌<◌, ℕ, None, Some, List, length, get_or, sym, refl, subst, slice_get, arith, ◌∷◌, []}
use Rattle.std.proofs.lemmas.Option.{slice_get-get_or}
use Rattle.commit_status.specs.Window.{IdEntry, place_in}
use Rattle.commit_status.specs.Changes.{given_entry, Finishes}
use Rattle.commit_status.proofs.Places.{at-from_place}
use Rattle.commit_status.proofs.Tables.{window_of, table-set}
use Rattle.commit_status.proofs.ChangesLemmas.{finishes-set}
use Rattle.commit_status.proofs.table.StatusTable.set_status.Goals as goal

pub finish-requires : goal.finish-requires
finish-requires c =
    let at : place_in c.self.inside.first.0 c.len.result c.args.x.0 ≡ Some c.in-Some.place = sym c.place_in.ensures ∙ c.in-Some.is in
    let within = (at-from_place c.self.inside.first.0 c.len.result c.args.x.0 c.in-Some.place at).within in
    let count = c.len.ensures in
    omega arith

pub invariant_of-self : goal.invariant_of-self
invariant_of-self c =
    let entries = c.self.inside.entries.items in
    let at : place_in c.self.inside.first.0 c.len.result c.args.x.0 ≡ Some c.in-Some.place = sym c.place_in.ensures ∙ c.in-Some.is in
    let within = (at-from_place c.self.inside.first.0 c.len.result c.args.x.0 c.in-Some.place at).within in
    let count = c.len.ensures in
    let old : IdEntry = get_or entries c.in-Some.place (given_entry None) in
    let there : slice_get entries c.in-Some.place ≡ Some old = slice_get-get_or entries c.in-Some.place (given_entry None) (omega arith) in
    table-set c.self.inside.first.0 c.self.inside.stop_age _ _ _ _ _ c.in-Some.place old (record { status = c.args.status; parent = old.parent }) c.self.invariant there refl (c.finish.ensures.items old there)

pub returns-in-Some : goal.returns-in-Some
returns-in-Some c =
    let entries = c.self.inside.entries.items in
    let f = c.self.inside.first.0 in
    let s = c.self.inside.stop_age in
    let at : place_in f c.len.result c.args.x.0 ≡ Some c.in-Some.place = sym c.place_in.ensures ∙ c.in-Some.is in
    let within = (at-from_place f c.len.result c.args.x.0 c.in-Some.place at).within in
    let count : c.len.result ≡ length entries = c.len.ensures in
    let old : IdEntry = get_or entries c.in-Some.place (given_entry None) in
    let there : slice_get entries c.in-Some.place ≡ Some old = slice_get-get_or entries c.in-Some.place (given_entry None) (omega arith) in
    let here = subst (λ n. place_in f n c.args.x.0 ≡ Some c.in-Some.place) count at in
    subst (λ spare. Finishes c.args.self.now (window_of f s c.finish.new.self.items spare) (c.args.x.0 ∷ []) c.args.status) (sym c.finish.ensures.spare)
    (subst (λ es. Finishes c.args.self.now (window_of f s es c.self.inside.entries.spare) (c.args.x.0 ∷ []) c.args.status) (sym (c.finish.ensures.items old there))
    (finishes-set f s entries c.self.inside.entries.spare c.args.self.now c.args.x.0 c.in-Some.place old c.args.status c.self.view_is c.self.invariant.window here there))
