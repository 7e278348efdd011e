use Rattle.std.proofs.Common.{sym, ◌∙◌}
use Rattle.std.proofs.lemmas.Bool.{true≢false}
use Rattle.visibility.specs.Reading.{IsSeenBy}
use Rattle.index_lookup.proofs.SeenLemmas.{none-headless, none-unseen, seen-row}
use Rattle.index_lookup.proofs.lookup.seen_row.Goals as goal
use Rattle.index_lookup.proofs.lookup.seen_row.Goals.{in_default-via-in-Some+else-sees, in_default-via-in_default}

pub returns-in-Some : goal.returns-in-Some
returns-in-Some c =
    seen-row (IsSeenBy c.args.reader.now) c.args.page.now.slots c.args.slot c.header.result c.in-Some.header c.row.result
    c.header.ensures.value c.in-Some.is (c.sees.ensures.0 c.if-sees.true) c.row.ensures.value

pub returns-in_default : goal.returns-in_default
returns-in_default c =
    let seen = IsSeenBy c.args.reader.now in
    let slots = c.args.page.now.slots in
    elim c.in_default.branch [
      | in_default-via-in-Some+else-sees w ↦ none-unseen seen slots c.args.slot c.header.result w.in-Some.header c.header.ensures.value w.in-Some.is
          (λ shown. true≢false (sym (w.sees.ensures.1 shown) ∙ w.if-sees.false))
      | in_default-via-in_default w ↦ none-headless seen slots c.args.slot c.header.result c.header.ensures.value w.in_default.is
    ]
