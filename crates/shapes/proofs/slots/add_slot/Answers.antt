use Rattle.std.proofs.Common.{◌≡◌, ◌++◌, ap, ◌∙◌}
use Rattle.shape_list.specs.declared.shape.LinkKind.TheVariants as link
use Rattle.shapes.specs.Shapes.{IsBox, AreDots, links_to, chain_links, redirect_links, version_of_place}
use Rattle.shapes.proofs.Adding.{adds-list}
use Rattle.shapes.proofs.JoinedLemmas.{four-parts}
use Rattle.shapes.proofs.slots.add_slot.Goals as goal

pub returns-clause-slot : goal.returns-clause-slot
returns-clause-slot c =
    let st = c.args.engine.now.engine.core in
    let place = c.args.place in
    let same = c.next_in_chain-next.ensures.same in
    let box = rw same at c.in_ok-add_box.ensures in
    let redirect = rw same at c.redirect_of.ensures in
    let dots = rw same at c.add_dots.ensures in
    four-parts (IsBox st place) (λ links. links ≡ chain_links st place) (λ links. links ≡ redirect_links st place) (AreDots st place (version_of_place st place))
    c.args.shapes.now.items c.add_box.new.shapes.items c.add_link.new.shapes.items c.add_link-2.new.shapes.items c.add_dots.new.shapes.items c.add_dots.result
    box
    (adds-list (chain_links st place) c.add_box.new.shapes.items c.add_link.new.shapes.items
    (c.in_ok-add_link.ensures ∙ ap (λ to. c.add_box.new.shapes.items ++ links_to link.Chain place to) c.next_in_chain-next.ensures.value))
    (adds-list (redirect_links st place) c.add_link.new.shapes.items c.add_link-2.new.shapes.items
    (c.in_ok-add_link-2.ensures ∙ ap (λ to. c.add_link.new.shapes.items ++ links_to link.Redirect place to) redirect))
    dots
