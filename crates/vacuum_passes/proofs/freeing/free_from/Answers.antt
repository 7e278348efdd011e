use Rattle.std.proofs.Common.{◌≡◌, ◌≢◌, ◌∙◌, List, [], length, drop, sym, ap, arith, subst}
use Rattle.std.proofs.lemmas.List.{drop-drop}
use Rattle.xid_circle.specs.declared.Tid.{Tid}
use Rattle.dead_places.specs.Places.{AreAscending}
use Rattle.vacuum_passes.specs.Steps.{on_page, off_page, IsLowest}
use Rattle.vacuum_passes.specs.Working.{FreesPage}
use Rattle.vacuum_passes.proofs.Stepping.{drop-some, pairs-drop}
use Rattle.vacuum_passes.proofs.freeing.free_from.Goals as goal

pub free_lowest-requires-clause-some : goal.free_lowest-requires-clause-some
free_lowest-requires-clause-some c =
    subst (λ (xs : List Tid). xs ≢ []) (sym (c.split_at.ensures.back ∙ ap (λ (xs : List Tid). drop c.args.freed xs) c.as_slice.ensures))
    (drop-some c.args.freed c.args.store.now c.requires.some)

pub free_lowest-requires-clause-ascending : goal.free_lowest-requires-clause-ascending
free_lowest-requires-clause-ascending c =
    subst AreAscending (sym (c.split_at.ensures.back ∙ ap (λ (xs : List Tid). drop c.args.freed xs) c.as_slice.ensures))
    (pairs-drop c.args.freed c.args.store.now c.fact_ascending.ensures)

pub returns-clause-within : goal.returns-clause-within
returns-clause-within c =
    let within = c.free_lowest.ensures.within in
    let back = c.split_at.ensures.back_len in
    let same : length c.as_slice.result.now ≡ length c.args.store.now = ap (λ (xs : List Tid). length xs) c.as_slice.ensures in
    omega (arith, within, back, same)

pub returns-clause-lowest : goal.returns-clause-lowest
returns-clause-lowest c =
    subst (λ (xs : List Tid). IsLowest xs c.free_lowest.result.0) (c.split_at.ensures.back ∙ ap (λ (xs : List Tid). drop c.args.freed xs) c.as_slice.ensures) c.free_lowest.ensures.lowest

pub returns-clause-left : goal.returns-clause-left
returns-clause-left c =
    sym (drop-drop c.free_lowest.result.1 c.args.freed c.args.store.now)
    ∙ subst (λ (xs : List Tid). drop c.free_lowest.result.1 xs ≡ off_page c.free_lowest.result.0 xs)
    (c.split_at.ensures.back ∙ ap (λ (xs : List Tid). drop c.args.freed xs) c.as_slice.ensures) c.free_lowest.ensures.left

pub returns-clause-frees : goal.returns-clause-frees
returns-clause-frees c used =
    subst (λ (xs : List Tid). FreesPage c.args.heap.now c.free_lowest.new.heap c.args.horizon.0 c.free_lowest.result.0 (on_page c.free_lowest.result.0 xs))
    (c.split_at.ensures.back ∙ ap (λ (xs : List Tid). drop c.args.freed xs) c.as_slice.ensures) (c.free_lowest.ensures.frees used)

pub returns-clause-limit : goal.returns-clause-limit
returns-clause-limit c =
    let within = c.free_lowest.ensures.within in
    let back = c.split_at.ensures.back_len in
    let same : length c.as_slice.result.now ≡ length c.args.store.now = ap (λ (xs : List Tid). length xs) c.as_slice.ensures in
    omega (arith, within, back, same)
