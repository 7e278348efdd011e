use Rattle.std.proofs.Common.{rules, Some, refl, subst}
use Rattle.table_scans.specs.declared.progress.CursorScan.TheVariants.{Rows}
use Rattle.table_scans.specs.declared.progress.Scan.TheVariants.{Heap}
use Rattle.refinement.specs.Cursors.{heap_start}
use Rattle.session_steps.specs.Exact.{HasCursor}
use Rattle.session_steps.proofs.Outcomes.{handed-on}
use Rattle.session_steps.proofs.CursorSteps.{Follows-barred_open_heap, Follows-open_heap_no_memory, Follows-opened_heap, opens-as}
use Rattle.session_steps.proofs.engine.SessionEngine.open_heap.Goals as goal

pub returns-in_err-session : goal.returns-in_err-session
returns-in_err-session c = record {
  follows = rw (handed-on c.from_residual.result c.from_residual.ensures.1) (Follows-barred_open_heap c.args.self.now c.args.s c.in_err-session.field-0.0 c.in_err-session.ensures);
  exact = search rules;
}

pub returns-in_err-kept : goal.returns-in_err-kept
returns-in_err-kept c =
    let e = c.in_ok-session.session.now in
    let lacks = c.in_err-kept.ensures.refused in
    record {
      follows = rw (handed-on c.from_residual-in_err-kept.result c.from_residual-in_err-kept.ensures.1, lacks.0) (Follows-open_heap_no_memory c.args.self.now c.args.s e c.in_ok-session.ensures.1 c.in_ok-session.ensures.2 c.in_ok-session.ensures.3 lacks.1);
      exact = rw (handed-on c.from_residual-in_err-kept.result c.from_residual-in_err-kept.ensures.1, lacks.0) ((e, c.in_ok-session.ensures.1, lacks.1, lacks.2), refl);
    }

pub returns : goal.returns
returns c =
    let st = c.args.self.now in
    let e = c.in_ok-session.session.now in
    let put = subst (λ place. HasCursor st c.put_cursor.new.self c.args.s (Some (Rows (Heap place))) c.in_ok-kept.kept) c.start_of.ensures c.put_cursor.ensures in
    let opens = opens-as st c.put_cursor.new.self c.args.s e (Rows (Heap heap_start)) c.in_ok-kept.kept c.in_ok-session.ensures.1 c.in_ok-kept.ensures.kept put in
    record {
      follows = Follows-opened_heap st c.put_cursor.new.self c.args.s e c.in_ok-session.ensures.1 c.in_ok-session.ensures.2 c.in_ok-session.ensures.3 opens;
      exact = opens;
    }
