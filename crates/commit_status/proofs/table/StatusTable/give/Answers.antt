use Rattle.std.proofs.Common.{◌≡◌, ◌<◌, ◌++◌, ◌∷◌, [], ◌∙◌, ℕ, List, length, Option, ap, subst, refl, arith}
use Rattle.std.specs.Option.{option_map}
use Rattle.xid_circle.specs.Circle.{distance_of}
use Rattle.xid_circle.specs.declared.Xid.{Xid}
use Rattle.commit_status.specs.Window.{IdEntry}
use Rattle.commit_status.specs.Changes.{given_entry}
use Rattle.commit_status.proofs.Tables.{table-kept, table-pushed, under-given, window-same}
use Rattle.commit_status.proofs.table.StatusTable.give.Goals as goal

pub invariant_of-self : goal.invariant_of-self
invariant_of-self c = table-kept _ _ _ _ _ _ _ c.reserve.ensures.items c.self.invariant

pub returns-in_default-clause-refused : goal.returns-in_default-clause-refused
returns-in_default-clause-refused c =
    let none = c.in_default.ensures.refused in
    let left = c.in_default.ensures.lacking in
    window-same _ _ _ _ _ _ c.reserve.ensures.items (omega arith) ∙ c.self.view_is

pub push-requires-clause-few : goal.push-requires-clause-few
push-requires-clause-few c =
    let same : length c.reserve.new.self.items ≡ length c.self.inside.entries.items = ap length c.reserve.ensures.items in
    let short = c.self.invariant.window.short in
    let limit = c.self.invariant.window.limit in
    omega arith

pub invariant_of-self-2 : goal.invariant_of-self-2
invariant_of-self-2 c =
    let far : c.distance.result < c.self.inside.stop_age = c.if-distance-self.false in
    let near : distance_of c.self.inside.first.0 c.self.inside.next.0 < c.self.inside.stop_age = subst (λ d. d < c.self.inside.stop_age) c.distance.ensures far in
    let parent : Option ℕ = option_map (λ (p : Xid). p.0) c.args.parent in
    let grown : c.push.new.self.items ≡ c.self.inside.entries.items ++ given_entry parent ∷ [] =
    c.push.ensures.items ∙ ap (λ (es : List IdEntry). es ++ given_entry parent ∷ []) c.reserve.ensures.items in
    table-pushed c.self.inside.first.0 c.self.inside.stop_age c.self.inside.entries.items _ _ _ c.self.inside.next.0 _ (given_entry parent) c.self.invariant near
    (under-given _ c.args.self.now c.args.parent parent c.self.view_is refl c.requires)
    grown c.next-self-inside.ensures.value c.next-self-inside.ensures.normal
