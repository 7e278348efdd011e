use Rattle.std.proofs.Common.{sym, subst, arith}
use Rattle.page_layout.specs.Layout.{IsPointed}
use Rattle.page_layout.specs.Raising.{moved_up}
use Rattle.page_layout.proofs.RaiseLemmas.{to-come, raise-more}
use Rattle.page_layout.proofs.raising.raise_pointers.Goals as goal

pub raise_pointer-requires-clause-plain : goal.raise_pointer-requires-clause-plain
raise_pointer-requires-clause-plain c =
    (to-come c.args.bytes.now c.loop-index.bytes c.args.first c.loop-index.index c.loop-index.index c.args.by c.loop-index.invariant (omega arith)).1
    (c.requires.raisable.plain c.loop-index.index (omega arith) c.loop-index-test.true)

pub raise_pointer-requires-clause-fits : goal.raise_pointer-requires-clause-fits
raise_pointer-requires-clause-fits c =
    subst (λ p. IsPointed (moved_up c.args.by p))
    (sym (to-come c.args.bytes.now c.loop-index.bytes c.args.first c.loop-index.index c.loop-index.index c.args.by c.loop-index.invariant (omega arith)).0)
    (c.requires.raisable.fits c.loop-index.index (omega arith) c.loop-index-test.true)

pub loop-index-preserved : goal.loop-index-preserved
loop-index-preserved c =
    raise-more c.args.bytes.now c.loop-index.bytes c.raise_pointer.new.bytes c.args.first c.loop-index.index c.args.by c.loop-index.invariant (omega arith) (omega arith)
    (subst (λ p. IsPointed (moved_up c.args.by p))
    (sym (to-come c.args.bytes.now c.loop-index.bytes c.args.first c.loop-index.index c.loop-index.index c.args.by c.loop-index.invariant (omega arith)).0)
    (c.requires.raisable.fits c.loop-index.index (omega arith) c.loop-index-test.true))
    c.raise_pointer.ensures
