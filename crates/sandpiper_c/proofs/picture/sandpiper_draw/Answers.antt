use Rattle.std.proofs.Common.{Option, sym, subst}
use Rattle.c_handles.specs.declared.held.Held.{Held}
use Rattle.c_views.specs.Pictures.{ShowsPicture}
use Rattle.sandpiper_c.specs.Pictures.{PictureBy}
use Rattle.sandpiper_c.proofs.picture.sandpiper_draw.Goals as goal

pub returns-in-Some-clause-picture : goal.returns-in-Some-clause-picture
returns-in-Some-clause-picture c =
    let shown = subst (λ (h : Held). ShowsPicture h.engine c.args.pages.now c.args.text.now c.show_picture-code.result c.show_picture-code.new.places c.show_picture-code.new.length)
    c.deref_mut.ensures.value c.show_picture-code.ensures.picture in
    subst (λ (o : Option Held). PictureBy o c.args.pages.now c.args.text.now c.show_picture-code.result c.show_picture-code.new.places c.show_picture-code.new.length)
    (sym c.in-Some.ensures.taken) shown
