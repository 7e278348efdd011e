use Rattle.std.proofs.Common.{◌∙◌, sym, subst, arith, false}
use Rattle.entry_columns.specs.Fits.{FitsLabel}
use Rattle.index_entries.proofs.LookUpLemmas.{first_in_turn, next_in_turn}
use Rattle.index_entries.proofs.SetLemmas.{none_there, Contains-from_place}
use Rattle.root_index.proofs.WideningLemmas.{copied-more}
use Rattle.root_index.proofs.narrow.copy_entries.Goals as goal

pub loop-init : goal.loop-init
loop-init c = record {
  copied = c.requires.none;
  next = first_in_turn c.args.from.now.entries c.next_after-next.result c.fact_ascending.ensures c.next_after-next.ensures;
  for_all = c.requires.kind;
  room = omega arith;
}

pub returns-in_default-clause-entries : goal.returns-in_default-clause-entries
returns-in_default-clause-entries c =
    let past = none_there c.args.from.now.entries c.loop.counter (sym c.loop.invariant.next ∙ c.in_default.is) in
    absurd (omega (arith, past, c.loop-test.true, c.len-end.ensures))

pub insert-requires : goal.insert-requires
insert-requires c =
    let entry = c.in-Some.entry in
    let fits = c.requires.fit entry (Contains-from_place c.args.from.now.entries entry c.loop.counter (sym c.loop.invariant.next ∙ c.in-Some.is)) in (
      subst (λ k. FitsLabel k c.loop.to.is_narrow entry.value entry.key) (sym c.loop.invariant.for_all.0)
          (subst (λ n. FitsLabel false n entry.value entry.key) (sym c.loop.invariant.for_all.1) fits.0),
      fits.1,
    )

pub loop-preserved : goal.loop-preserved
loop-preserved c =
    let entries = c.args.from.now.entries in
    let at = sym c.loop.invariant.next ∙ c.in-Some.is in
    let now = c.in_ok-insert.ensures in
    record {
      copied = copied-more entries c.loop.to.entries c.insert.new.self.entries c.loop.counter c.in-Some.entry c.fact_ascending.ensures at c.loop.invariant.copied now.adds;
      next = next_in_turn entries c.loop.counter c.in-Some.entry c.next_of-next.result c.fact_ascending.ensures at c.next_of-next.ensures;
      for_all = (now.kind ∙ c.loop.invariant.for_all.0, now.narrow ∙ c.loop.invariant.for_all.1);
      room = omega (arith, now.room, c.loop.invariant.room);
    }
