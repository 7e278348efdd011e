use Rattle.std.proofs.Common.{refl, sym}
use Rattle.std.proofs.lemmas.Option.{none-some}
use Rattle.transcript.proofs.TextLemmas.{torn_first, bad_first, out_of_range, second_at}
use Rattle.transcript.proofs.transcripts.first_line.Goals as goal

pub returns-in_default : goal.returns-in_default
returns-in_default c =
    let none = rw c.in_default.is at c.cut_at.ensures in
    torn_first c.args.text.now (sym none)

pub returns-in_default-settings_at : goal.returns-in_default-settings_at
returns-in_default-settings_at c =
    let none = rw c.in_default-settings_at.is at c.settings_at.ensures in
    bad_first c.args.text.now _ _ (sym c.in-Some.ensures) (λ s are fits e. none s fits e)

pub returns-in-Some-fault : goal.returns-in-Some-fault
returns-in-Some-fault c =
    out_of_range c.args.text.now _ _ c.in-Some-settings_at.settings (sym c.in-Some.ensures) c.in-Some-settings_at.ensures (λ are. none-some _ (sym (c.in-Some-fault.ensures.none.1 are)))

pub returns : goal.returns
returns c =
    let read = c.in-Some-settings_at.ensures in
    let second = second_at c.args.text.now _ _ c.in-Some-settings_at.settings (sym c.in-Some.ensures) read.1 in
    (c.in_default-fault.ensures.none.0 refl, read.0, second.0, second.1)
