use Rattle.std.proofs.Common.{◌≤◌, length, Option, arith, subst, inl, inr, to_z, of_z}
use Rattle.std.specs.Prelude.{IfSome}
use Rattle.std.specs.Int.{w128}
use Rattle.std.proofs.lemmas.Int.{to_z-of_z}
use Rattle.index_lookup.specs.Pages.{page_slots_of}
use Rattle.visibility.specs.Reading.{IsSeenBy, IsOtherWriterFor, IsNewerCommitFor}
use Rattle.index_lookup.proofs.Searching.{check-first, check-next, check-place, check-newer_commit, check-other_writer}
use Rattle.index_entries.specs.declared.entry.Entry.{Entry}
use Rattle.index_entries.specs.Sets.{IsLastOf}
use Rattle.index_lookup.proofs.write_check.check_write.Goals as goal

pub loop-init : goal.loop-init
loop-init c = record {
  check = check-first c.args.reader.now.statuses.now (IsSeenBy c.args.reader.now) (IsNewerCommitFor c.args.reader.now) (IsOtherWriterFor c.args.reader.now)
      (page_slots_of c.args.table.now.pages.now) c.args.table.now.index.now.entries (to_z w128 (of_z w128 c.args.value)) c.args.key c.begin_search-search.result.next c.begin_search-search.ensures.next;
  last = c.begin_search-search.ensures.last;
}

pub go_on-search-requires : goal.go_on-search-requires
go_on-search-requires c = record {
  of = c.loop.invariant.check.place.looked.of c.in-Some.entry c.in-Some.is;
  last = λ yes. subst (λ (next : Option Entry). IfSome next (IsLastOf c.args.table.now.index.now.entries)) c.in-Some.is (c.loop.invariant.last yes);
}

pub loop-preserved : goal.loop-preserved
loop-preserved c =
    let found = c.with_chain-check.ensures in
    let on = c.go_on-search in
    record {
      check = check-next c.args.reader.now.statuses.now (IsSeenBy c.args.reader.now) (IsNewerCommitFor c.args.reader.now) (IsOtherWriterFor c.args.reader.now)
          (page_slots_of c.args.table.now.pages.now) c.args.table.now.index.now.entries (to_z w128 (of_z w128 c.args.value)) c.args.key c.loop.counter c.loop.search.next c.in-Some.entry
          on.result.next c.loop.check c.with_chain-check.result c.fact_ascending.ensures c.loop.invariant.check c.in-Some.is on.ensures.next found.place found.newer_commit found.other_writer;
      last = on.ensures.last;
    }

pub returns-in-None-clause-place : goal.returns-in-None-clause-place
returns-in-None-clause-place c =
    check-place c.args.reader.now.statuses.now (IsSeenBy c.args.reader.now) (IsNewerCommitFor c.args.reader.now) (IsOtherWriterFor c.args.reader.now)
    (page_slots_of c.args.table.now.pages.now) c.args.table.now.index.now.entries (to_z w128 (of_z w128 c.args.value)) c.args.value c.args.key c.loop.counter c.loop.search.next c.loop.check (to_z-of_z w128 c.args.value c.ranges.value)
    c.loop.invariant.check (inr c.in-None.is)

pub returns-in-None-clause-newer_commit : goal.returns-in-None-clause-newer_commit
returns-in-None-clause-newer_commit c =
    check-newer_commit c.args.reader.now.statuses.now (IsSeenBy c.args.reader.now) (IsNewerCommitFor c.args.reader.now) (IsOtherWriterFor c.args.reader.now)
    (page_slots_of c.args.table.now.pages.now) c.args.table.now.index.now.entries (to_z w128 (of_z w128 c.args.value)) c.args.value c.args.key c.loop.counter c.loop.search.next c.loop.check (to_z-of_z w128 c.args.value c.ranges.value)
    c.loop.invariant.check (inr c.in-None.is)

pub returns-in-None-clause-other_writer : goal.returns-in-None-clause-other_writer
returns-in-None-clause-other_writer c =
    check-other_writer c.args.reader.now.statuses.now (IsSeenBy c.args.reader.now) (IsNewerCommitFor c.args.reader.now) (IsOtherWriterFor c.args.reader.now)
    (page_slots_of c.args.table.now.pages.now) c.args.table.now.index.now.entries (to_z w128 (of_z w128 c.args.value)) c.args.value c.args.key c.loop.counter c.loop.search.next c.loop.check (to_z-of_z w128 c.args.value c.ranges.value)
    c.loop.invariant.check (inr c.in-None.is)

pub returns-clause-place : goal.returns-clause-place
returns-clause-place c =
    let count = c.len-end.ensures in
    let over = c.loop-test.false in
    let all : length c.args.table.now.index.now.entries ≤ c.loop.counter = omega arith in
    check-place c.args.reader.now.statuses.now (IsSeenBy c.args.reader.now) (IsNewerCommitFor c.args.reader.now) (IsOtherWriterFor c.args.reader.now)
    (page_slots_of c.args.table.now.pages.now) c.args.table.now.index.now.entries (to_z w128 (of_z w128 c.args.value)) c.args.value c.args.key c.loop.counter c.loop.search.next c.loop.check (to_z-of_z w128 c.args.value c.ranges.value)
    c.loop.invariant.check (inl all)

pub returns-clause-newer_commit : goal.returns-clause-newer_commit
returns-clause-newer_commit c =
    let count = c.len-end.ensures in
    let over = c.loop-test.false in
    let all : length c.args.table.now.index.now.entries ≤ c.loop.counter = omega arith in
    check-newer_commit c.args.reader.now.statuses.now (IsSeenBy c.args.reader.now) (IsNewerCommitFor c.args.reader.now) (IsOtherWriterFor c.args.reader.now)
    (page_slots_of c.args.table.now.pages.now) c.args.table.now.index.now.entries (to_z w128 (of_z w128 c.args.value)) c.args.value c.args.key c.loop.counter c.loop.search.next c.loop.check (to_z-of_z w128 c.args.value c.ranges.value)
    c.loop.invariant.check (inl all)

pub returns-clause-other_writer : goal.returns-clause-other_writer
returns-clause-other_writer c =
    let count = c.len-end.ensures in
    let over = c.loop-test.false in
    let all : length c.args.table.now.index.now.entries ≤ c.loop.counter = omega arith in
    check-other_writer c.args.reader.now.statuses.now (IsSeenBy c.args.reader.now) (IsNewerCommitFor c.args.reader.now) (IsOtherWriterFor c.args.reader.now)
    (page_slots_of c.args.table.now.pages.now) c.args.table.now.index.now.entries (to_z w128 (of_z w128 c.args.value)) c.args.value c.args.key c.loop.counter c.loop.search.next c.loop.check (to_z-of_z w128 c.args.value c.ranges.value)
    c.loop.invariant.check (inl all)
