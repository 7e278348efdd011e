use Rattle.std.proofs.Common.{suc}
use Rattle.std.proofs.lemmas.Result.{IfOk-weaker, on_err_weaker}
use Rattle.index_lookup.specs.Pages.{page_slots_of}
use Rattle.index_making.proofs.ListLemmas.{same-lists, some-listed}
use Rattle.index_making.proofs.making.list_current.Goals as goal

pub returns-clause-lists : goal.returns-clause-lists
returns-clause-lists c =
    IfOk-weaker c.finish.result _ _
    (λ index same. same-lists c.args.statuses.now (page_slots_of c.args.pages.now) (suc c.args.column) c.list_pages.new.filling index.entries same
    c.in_ok-list_pages.ensures.lists)
    c.finish.ensures.same

pub returns-clause-refused : goal.returns-clause-refused
returns-clause-refused c =
    on_err_weaker c.finish.result
    (λ some. some-listed c.args.statuses.now (page_slots_of c.args.pages.now) (suc c.args.column) c.list_pages.new.filling c.in_ok-list_pages.ensures.lists some)
    c.finish.ensures.refused
