use Rattle.std.proofs.Common.{arith, ap, sym, ◌∙◌, ◌∷◌, [], length, length-append}
use Rattle.space_maps.specs.declared.mark.Mark.TheVariants.{Nothing}
use Rattle.page_slots.specs.View.{PageView}
use Rattle.page_sheet.specs.Slots.{room_of}
use Rattle.heap_pages.specs.Choice.{free_byte_of}
use Rattle.heap_pages.specs.View.{free_space_bytes}
use Rattle.heap_pages.proofs.FreeSpaceLemmas.{pushed}
use Rattle.heap_pages.proofs.pages.Pages.push_page.Goals as goal

pub invariant_of-self : goal.invariant_of-self
invariant_of-self c =
    let pages = c.self.inside.pages.items in
    record {
      few = omega (arith, ap length c.push_reserved.ensures.items, length-append pages (c.of-own.result ∷ []), ap (λ p. length p.pages) c.self.view_is, c.requires.few);
      bytes = c.add_page.ensures.bytes ∙ pushed c.self.inside.free.bytes pages c.free_byte.result c.of-own.result c.self.invariant.bytes (c.free_byte.ensures ∙ ap (λ (p : PageView). free_byte_of (room_of p.slots)) c.page.ensures)
          ∙ ap free_space_bytes (sym c.push_reserved.ensures.items);
      pages_spare = omega (arith, c.push_reserved.ensures.len, c.push_reserved.ensures.capacity, c.self.invariant.pages_spare);
      free_spare = omega (arith, c.add_page.ensures.spare, c.self.invariant.free_spare);
      marked = omega (arith, ap length c.push_reserved.ensures.items, ap length c.add_page-2.ensures.marks, length-append pages (c.of-own.result ∷ []), length-append c.self.inside.marks.marks (Nothing ∷ []), c.self.invariant.marked);
      marks_spare = omega (arith, c.add_page-2.ensures.spare, c.self.invariant.marks_spare);
    }
