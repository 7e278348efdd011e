use Rattle.std.proofs.Common.{◌≤◌, ℤ, length, ap, subst, Some, arith}
use Rattle.std.specs.Int.{w128}
use Rattle.std.proofs.lemmas.Int.{to_z-of_z}
use Rattle.visibility.specs.Reading.{IsSeenBy}
use Rattle.index_lookup.specs.Looking.{IsNextOf}
use Rattle.index_lookup.specs.Keys.{PlaceShows}
use Rattle.index_lookup.proofs.Turns.{entry_of, looked-next, looked-end, looked-none}
use Rattle.index_lookup.proofs.KeyLemmas.{none-shows}
use Rattle.index_lookup.proofs.key_scan.key_shows.Goals as goal

pub returns-in-None : goal.returns-in-None
returns-in-None c = (
  λ yes. absurd (cc),
  λ shows. absurd (none-shows c.args.reader.now.statuses.now (IsSeenBy c.args.reader.now) c.args.table.now.pages.now c.args.table.now.index.now.entries c.args.first.value c.args.first.key
      (looked-none c.args.table.now.index.now.entries c.args.first.value c.args.first.key
      (λ e. ¬ PlaceShows c.args.reader.now.statuses.now (IsSeenBy c.args.reader.now) c.args.table.now.pages.now e.tid) c.loop.counter (entry_of c.loop.next) c.loop.invariant (ap entry_of c.in-None.is)) shows),
)

pub returns-then-place_shows : goal.returns-then-place_shows
returns-then-place_shows c = (
  λ yes. record {
    entry = c.in-Some.entry;
    there = c.loop.invariant.there c.in-Some.entry (ap entry_of c.in-Some.is);
    of = c.loop.invariant.of c.in-Some.entry (ap entry_of c.in-Some.is);
    shows = c.place_shows.ensures.0 c.if-place_shows.true;
  },
  λ shows. cc,
)

pub loop-preserved : goal.loop-preserved
loop-preserved c =
    let next = subst (λ (v : ℤ). IsNextOf c.args.table.now.index.now.entries v c.args.first.key (Some c.in-Some.entry) (entry_of c.next_of-next.result)) (to_z-of_z w128 c.args.first.value c.fact_value.ensures) c.next_of-next.ensures in
    looked-next c.args.table.now.index.now.entries c.args.first.value c.args.first.key
    (λ e. ¬ PlaceShows c.args.reader.now.statuses.now (IsSeenBy c.args.reader.now) c.args.table.now.pages.now e.tid)
    c.loop.counter (entry_of c.loop.next) c.in-Some.entry (entry_of c.next_of-next.result) c.fact_ascending.ensures c.loop.invariant (ap entry_of c.in-Some.is)
    (λ shows. absurd (let is = c.place_shows.ensures.1 shows in cc)) next

pub returns : goal.returns
returns c =
    let count = c.len-end.ensures in
    let over = c.loop-test.false in
    let all : length c.args.table.now.index.now.entries ≤ c.loop.counter = omega arith in (
      λ yes. absurd (cc),
      λ shows. absurd (none-shows c.args.reader.now.statuses.now (IsSeenBy c.args.reader.now) c.args.table.now.pages.now c.args.table.now.index.now.entries c.args.first.value c.args.first.key
          (looked-end c.args.table.now.index.now.entries c.args.first.value c.args.first.key
          (λ e. ¬ PlaceShows c.args.reader.now.statuses.now (IsSeenBy c.args.reader.now) c.args.table.now.pages.now e.tid) c.loop.counter (entry_of c.loop.next) c.loop.invariant all) shows),
    )
