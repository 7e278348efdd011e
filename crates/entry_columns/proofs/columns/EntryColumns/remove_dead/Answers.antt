use Rattle.std.proofs.Common.{◌∙◌, ◌++◌, ◌≤◌, List, length, take, drop, sym, ap, arith}
use Rattle.std.specs.List.{filter}
use Rattle.index_entries.specs.declared.entry.Entry.{Entry}
use Rattle.index_entries.specs.Lists.{stays}
use Rattle.entry_columns.proofs.RemovalLemmas.{taken_out, all_stay}
use Rattle.entry_columns.proofs.columns.EntryColumns.remove_dead.Goals as goal

pub returns-then-next-len-clause-entries : goal.returns-then-next-len-clause-entries
returns-then-next-len-clause-entries g c =
    let dead = c.args.dead.now in
    let xs = c.args.self.now.entries in
    let first = c.next_dead-first.result in
    c.remove_more.ensures.entries ∙ c.next_dead-next.ensures.kept
    ∙ ap (λ (ys : List Entry). take first ys ++ filter (stays dead) (drop first ys)) c.take_out.ensures.entries
    ∙ taken_out dead xs first (omega (arith, c.if-first-len.false, c.len.ensures.value)) c.next_dead-first.ensures.dead
    ∙ c.next_dead-first.ensures.kept

pub returns-else-next-len-clause-entries : goal.returns-else-next-len-clause-entries
returns-else-next-len-clause-entries g c =
    let dead = c.args.dead.now in
    let xs = c.args.self.now.entries in
    let first = c.next_dead-first.result in
    let next = c.next_dead-next.result in
    let past : length c.take_out.new.self.entries ≤ next = omega (arith, c.if-next-len.false, c.len-2.ensures.value) in
    sym (all_stay (stays dead) c.take_out.new.self.entries next past) ∙ c.next_dead-next.ensures.kept
    ∙ ap (λ (ys : List Entry). take first ys ++ filter (stays dead) (drop first ys)) c.take_out.ensures.entries
    ∙ taken_out dead xs first (omega (arith, c.if-first-len.false, c.len.ensures.value)) c.next_dead-first.ensures.dead
    ∙ c.next_dead-first.ensures.kept
