use Rattle.std.proofs.Common.{◌≡◌, length, take, inl, inr, refl, sym, ◌∙◌, subst, arith}
use Rattle.sandpiper_c.specs.Calls.{write_of}
use Rattle.sandpiper_c.specs.Many.{AreWritten}
use Rattle.sandpiper_c.proofs.ManyLemmas.{row-at, written-next}
use Rattle.sandpiper_c.proofs.many.write_many.Goals as goal

pub returns-then-code-number : goal.returns-then-code-number
returns-then-code-number c = record {
  between = c.loop-number.table;
  written = c.loop-number.invariant;
  rest = inr (record {
    row = _;
    is = row-at c.args.rows.now c.loop-number.number _ c.loop-number-test.true;
    writes = c.write-code.ensures;
    refused = λ is. c.if-code-number.true (is ∙ sym c.number.ensures);
  });
}

pub loop-number-preserved : goal.loop-number-preserved
loop-number-preserved c =
    written-next (write_of c.args.kind c.args.session) c.args.rows.now c.loop-number.number _ c.args.table.now c.loop-number.table c.write-code.new.table c.write-code.result c.loop-number-test.true
    c.loop-number.invariant (c.if-code-number.false ∙ c.number.ensures) c.write-code.ensures

pub returns : goal.returns
returns c =
    let all : c.loop-number.number ≡ length c.args.rows.now = omega (arith, c.loop-number-test.false, c.loop-number.auto.number-end) in
    record {
      between = c.loop-number.table;
      written = subst (λ n. AreWritten (write_of c.args.kind c.args.session) c.args.table.now (take n c.args.rows.now) c.loop-number.table) all c.loop-number.invariant;
      rest = inl (refl, c.number-2.ensures, refl);
    }
