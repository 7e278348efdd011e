use Rattle.std.proofs.Common.{◌≡◌, ◌<◌, ◌≤◌, ◌+◌, ◌*◌, ◌⊎◌, inl, inr, length, sum_by, vec_len, ⊎_elim, subst, arith, rules}
use Rattle.std.proofs.lemmas.Bool.Decides.{nat_tests}
use Rattle.std.proofs.lemmas.List.{nil_from_length}
use Rattle.std.proofs.lemmas.Grind.{common_steps}
use Rattle.std.proofs.lemmas.Option.{slice_get_within}
use Rattle.std.proofs.lemmas.Result.{on_ok_weaker, on_err_weaker}
use Rattle.index_nodes.proofs.FullLemmas.{full_below}
use Rattle.index_nodes.proofs.RowGrowthLemmas.{put_in, kept_in, opened_at, there_with, some_within}
use Rattle.index_nodes.proofs.NodeLemmas.{count_put}
use Rattle.index_nodes.proofs.RowLemmas.{all_at}
use Rattle.index_nodes.proofs.nodes.insert.Goals as goal

-- what is called for

pub insert_first-requires-clause-none : goal.insert_first-requires-clause-none
insert_first-requires-clause-none g c =
    let none : vec_len c.args.nodes.now ≡ 0 = grind (arith, nat_tests, c.if-is_empty.true, c.is_empty.ensures) in
    nil_from_length c.args.nodes.now.items (omega (arith, none))

pub open-requires : goal.open-requires
open-requires g c = record {
  neat = c.requires.neat;
  node = c.requires.position.node (search rules);
  position = c.requires.position;
}

pub index_mut-requires : goal.index_mut-requires
index_mut-requires g c =
    let within = some_within (λ n. (g.N.Node.size n < 128) × g.N.Node.IsPosition n c.in_ok-position.position.inner) c.open.new.nodes.items c.in_ok-position.position.node c.in_ok-position.ensures.opened.room in
    omega (arith, within)

pub insert-requires : goal.insert-requires
insert-requires g c =
    let new = c.open.new.nodes.items in
    let position = c.in_ok-position.position in
    let node = c.index_mut.result.now in
    let there = there_with (λ n. (g.N.Node.size n < 128) × g.N.Node.IsPosition n position.inner) new position.node node c.in_ok-position.ensures.opened.room c.index_mut.ensures.value in
    record {
      room = there.1.0;
      neat = (all_at (λ n. g.N.Node.IsNeat n × (0 < g.N.Node.size n)) new position.node node c.open.ensures.neat there.0).0;
      position = there.1.1;
      fits = c.requires.fits;
    }

-- the first entry of all

pub returns-then-is_empty-clause-entries : goal.returns-then-is_empty-clause-entries
returns-then-is_empty-clause-entries g c = grind (arith, common_steps)

pub returns-then-is_empty-clause-grown : goal.returns-then-is_empty-clause-grown
returns-then-is_empty-clause-grown g c = grind (arith, common_steps)

pub returns-then-is_empty-clause-unspent : goal.returns-then-is_empty-clause-unspent
returns-then-is_empty-clause-unspent g c = grind (arith, common_steps)

-- an entry among others

pub returns-clause-entries : goal.returns-clause-entries
returns-clause-entries g c =
    let new = c.open.new.nodes.items in
    let opened = c.in_ok-position.ensures.opened in
    let at = opened_at (λ n. (g.N.Node.size n < 128) × g.N.Node.IsPosition n c.in_ok-position.position.inner) new c.in_ok-position.position.node c.index_mut.result.now opened.room c.index_mut.ensures.value in
    on_ok_weaker c.insert.result
    (λ made. put_in g.N.Node.entries g.N.Node.size g.N.Node.rank g.N.Node.IsPosition g.met.N.Node.within c.args.nodes.now.items new c.args.position c.in_ok-position.position c.index_mut.result.now
    c.insert.new.self opened at c.args.entry made)
    c.insert.ensures.entries

pub returns-clause-err : goal.returns-clause-err
returns-clause-err g c =
    let new = c.open.new.nodes.items in
    let opened = c.in_ok-position.ensures.opened in
    let at = opened_at (λ n. (g.N.Node.size n < 128) × g.N.Node.IsPosition n c.in_ok-position.position.inner) new c.in_ok-position.position.node c.index_mut.result.now opened.room c.index_mut.ensures.value in
    on_err_weaker c.insert.result
    (λ same. kept_in g.N.Node.entries g.N.Node.size g.N.Node.rank g.N.Node.IsPosition g.met.N.Node.within c.args.nodes.now.items new c.args.position c.in_ok-position.position c.index_mut.result.now
    c.insert.new.self opened at same)
    c.insert.ensures.err

-- what is full stands among all
pub returns-clause-full : goal.returns-clause-full
returns-clause-full g c =
    let new = c.open.new.nodes.items in
    let opened = c.in_ok-position.ensures.opened in
    let at = opened_at (λ n. (g.N.Node.size n < 128) × g.N.Node.IsPosition n c.in_ok-position.position.inner) new c.in_ok-position.position.node c.index_mut.result.now opened.room c.index_mut.ensures.value in
    let Reserve : Type 0 = g.N.Node.HasReserve c.args.spares.now.below in
    let k = sum_by g.N.Node.long c.args.nodes.now.items in
    on_err_weaker c.insert.result
    (λ full. inr (subst (λ es. (128 ≤ length es) ⊎ ((¬ Reserve) × (64 * (k + 1) ≤ length es))) opened.same
    (full_below g.N.Node.entries g.N.Node.IsNeat g.N.Node.size new c.in_ok-position.position.node c.index_mut.result.now c.open.ensures.neat at Reserve g.N.Node.long k g.met.N.Node.halves c.open.ensures.long full)))
    c.insert.ensures.full

-- long leaves, and what is set aside for the next

pub returns-then-is_empty-clause-reserve : goal.returns-then-is_empty-clause-reserve
returns-then-is_empty-clause-reserve g c = on_ok_weaker c.insert_first.result (λ both has. inl both.1) c.insert_first.ensures.first

pub returns-clause-long : goal.returns-clause-long
returns-clause-long g c =
    let new = c.open.new.nodes.items in
    let at = opened_at (λ n. (g.N.Node.size n < 128) × g.N.Node.IsPosition n c.in_ok-position.position.inner) new c.in_ok-position.position.node c.index_mut.result.now c.in_ok-position.ensures.opened.room c.index_mut.ensures.value in
    let within = slice_get_within new c.in_ok-position.position.node c.index_mut.result.now at in
    let put = count_put g.N.Node.long new c.in_ok-position.position.node c.index_mut.result.now within c.index_mut.ensures.value c.insert.new.self in
    omega (arith, put, c.insert.ensures.long, c.open.ensures.long)

pub returns-clause-reserve : goal.returns-clause-reserve
returns-clause-reserve g c =
    let new = c.open.new.nodes.items in
    let at = opened_at (λ n. (g.N.Node.size n < 128) × g.N.Node.IsPosition n c.in_ok-position.position.inner) new c.in_ok-position.position.node c.index_mut.result.now c.in_ok-position.ensures.opened.room c.index_mut.ensures.value in
    let within = slice_get_within new c.in_ok-position.position.node c.index_mut.result.now at in
    let put = count_put g.N.Node.long new c.in_ok-position.position.node c.index_mut.result.now within c.index_mut.ensures.value c.insert.new.self in
    let opened = c.open.ensures.long in
    on_ok_weaker c.insert.result
    (λ kept has. ⊎_elim (λ still. inl still) (λ more. inr (omega (arith, put, opened, more))) (kept has))
    c.insert.ensures.reserve

-- nodes that were set aside are taken only where there are more nodes then

pub returns-clause-grown : goal.returns-clause-grown
returns-clause-grown g c =
    let new = c.open.new.nodes.items in
    let at = opened_at (λ n. (g.N.Node.size n < 128) × g.N.Node.IsPosition n c.in_ok-position.position.inner) new c.in_ok-position.position.node c.index_mut.result.now c.in_ok-position.ensures.opened.room c.index_mut.ensures.value in
    let within = slice_get_within new c.in_ok-position.position.node c.index_mut.result.now at in
    let put = count_put g.N.Node.nodes new c.in_ok-position.position.node c.index_mut.result.now within c.index_mut.ensures.value c.insert.new.self in
    omega (arith, put, c.insert.ensures.grown, c.open.ensures.grown)

pub returns-clause-unspent : goal.returns-clause-unspent
returns-clause-unspent g c =
    let new = c.open.new.nodes.items in
    let at = opened_at (λ n. (g.N.Node.size n < 128) × g.N.Node.IsPosition n c.in_ok-position.position.inner) new c.in_ok-position.position.node c.index_mut.result.now c.in_ok-position.ensures.opened.room c.index_mut.ensures.value in
    let within = slice_get_within new c.in_ok-position.position.node c.index_mut.result.now at in
    let put = count_put g.N.Node.nodes new c.in_ok-position.position.node c.index_mut.result.now within c.index_mut.ensures.value c.insert.new.self in
    let grown = c.insert.ensures.grown in
    let opened = c.open.ensures.grown in
    on_ok_weaker c.insert.result
    (λ unspent same. record {
      in_list = c.in_ok-position.ensures.unspent_list (omega (arith, put, grown, opened, same));
      nodes = c.in_ok-position.ensures.unspent_nodes (omega (arith, put, grown, opened, same));
      below = unspent (omega (arith, put, grown, opened, same));
    })
    c.insert.ensures.unspent
