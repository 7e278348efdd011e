use Rattle.std.proofs.Common.{◌∙◌, ◌-◌, true, false, not, ℕ, sym, ap}
use Rattle.page_slots.specs.Faults.{leads_astray}
use Rattle.page_slots.proofs.RedirectLemmas.{redirect-tested, astray-read}
use Rattle.page_slots.proofs.check.redirect_fault_of.Goals as goal

pub returns-then-holds_heap_only : goal.returns-then-holds_heap_only
returns-then-holds_heap_only c =
    redirect-tested c.args.bytes.now c.args.index false
    (astray-read c.args.bytes.now c.args.index c.in-Redirect.target (c.from.result - 1) c.holds_heap_only.result (sym c.pointer_at.ensures ∙ c.in-Redirect.is)
    (ap (λ (n : ℕ). n - 1) c.from.ensures) c.holds_heap_only.ensures ∙ ap not c.if-holds_heap_only.true)

pub returns-else-holds_heap_only : goal.returns-else-holds_heap_only
returns-else-holds_heap_only c =
    redirect-tested c.args.bytes.now c.args.index true
    (astray-read c.args.bytes.now c.args.index c.in-Redirect.target (c.from.result - 1) c.holds_heap_only.result (sym c.pointer_at.ensures ∙ c.in-Redirect.is)
    (ap (λ (n : ℕ). n - 1) c.from.ensures) c.holds_heap_only.ensures ∙ ap not c.if-holds_heap_only.false)

pub returns-in-Unused : goal.returns-in-Unused
returns-in-Unused c = redirect-tested c.args.bytes.now c.args.index false (ap (leads_astray c.args.bytes.now) (sym c.pointer_at.ensures ∙ c.in-Unused.is))

pub returns-in-Normal : goal.returns-in-Normal
returns-in-Normal c = redirect-tested c.args.bytes.now c.args.index false (ap (leads_astray c.args.bytes.now) (sym c.pointer_at.ensures ∙ c.in-Normal.is))

pub returns-in-Dead : goal.returns-in-Dead
returns-in-Dead c = redirect-tested c.args.bytes.now c.args.index false (ap (leads_astray c.args.bytes.now) (sym c.pointer_at.ensures ∙ c.in-Dead.is))
