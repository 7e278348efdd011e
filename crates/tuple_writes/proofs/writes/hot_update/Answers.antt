use Rattle.std.proofs.Common.{◌≡◌, rules, ◌∙◌}
use Rattle.page_sheet.specs.declared.slot.Slot.TheVariants.{Normal}
use Rattle.tuple_writes.specs.Writes.{with_updated}
use Rattle.tuple_writes.proofs.Altered.{change-updated}
use Rattle.tuple_writes.proofs.writes.hot_update.Goals as goal

pub returns-clause-adds : goal.returns-clause-adds
returns-clause-adds c =
    let was = c.args.page.now in
    let now : c.set_xmax.new.page.slots ≡ with_updated was.slots c.args.slot c.args.x.0 c.args.number_of_page c.args.row.now = search rules in
    record {
      slots = now;
      change = c.set_xmax.ensures.change
          ∙ change-updated was.slots c.add_row.new.self.slots (Normal (record { header = c.heap_only-header.result; row = c.args.row.now })) c.args.slot c.args.x.0
          c.args.number_of_page c.free_number-number.result was.change c.add_row.new.self.change
          c.requires.version c.add_row.ensures.slots c.free_number-number.ensures.value c.add_row.ensures.change;
      flag = c.set_xmax.ensures.flag ∙ c.add_row.ensures.flag;
    }
