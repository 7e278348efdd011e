use Rattle.std.proofs.Common.{rules, Some, None, refl, sym, ap, ◌∙◌, subst}
use Rattle.std.specs.Prelude.{is_some, option_copied}
use Rattle.index_lookup.specs.declared.index_scan.IndexRange.{IndexRange}
use Rattle.session_steps.specs.Exact.{HasCursor}
use Rattle.table_scans.specs.declared.progress.CursorScan.TheVariants.{Rows}
use Rattle.table_scans.specs.declared.progress.Scan.TheVariants.{Index}
use Rattle.session_steps.proofs.InUse.{there-used}
use Rattle.session_steps.proofs.Outcomes.{handed-on}
use Rattle.session_steps.proofs.CursorSteps.{Follows-barred_open_index, Follows-no_such_index, Follows-index_too_new, Follows-bad_bounds, Follows-open_index_no_memory, Follows-opened_index, opens-as, over-bounds, in-bounds, stored-span}
use Rattle.session_steps.proofs.engine.SessionEngine.open_index.Goals as goal

pub returns-in_err-session : goal.returns-in_err-session
returns-in_err-session c = record {
  follows = rw (handed-on c.from_residual.result c.from_residual.ensures.1) (Follows-barred_open_index c.args.self.now c.args.s c.args.index c.args.low c.args.high c.in_err-session.field-0.0 c.in_err-session.ensures);
  exact = search rules;
}

pub returns-in-None : goal.returns-in-None
returns-in-None c = record {
  follows = (
      let none = sym c.index.ensures ∙ ap option_copied c.in-None.is in
      Follows-no_such_index c.args.self.now c.args.s c.in_ok-session.session.now c.args.index c.args.low c.args.high c.in_ok-session.ensures.1 c.in_ok-session.ensures.2 c.in_ok-session.ensures.3 none);
  exact = search rules;
}

pub returns-then-is_too_new : goal.returns-then-is_too_new
returns-then-is_too_new c =
    let at = sym c.index.ensures ∙ ap option_copied c.in-Some.is in
    let used = there-used c.args.self.now c.args.self.now c.args.index c.in-Some.field-0.now refl at in
    let e = c.in_ok-session.session.now in
    let mark = sym c.is_too_new.ensures ∙ c.if-is_too_new.true in
    record {
      follows = Follows-index_too_new c.args.self.now c.args.s e c.args.index c.args.low c.args.high c.in_ok-session.ensures.1 c.in_ok-session.ensures.2 c.in_ok-session.ensures.3 used mark;
      exact = (ap is_some at, (e, c.in_ok-session.ensures.1, mark), refl);
    }

pub returns-then-low-high : goal.returns-then-low-high
returns-then-low-high c =
    let at = sym c.index.ensures ∙ ap option_copied c.in-Some.is in
    let used = there-used c.args.self.now c.args.self.now c.args.index c.in-Some.field-0.now refl at in
    let e = c.in_ok-session.session.now in
    let may = sym c.is_too_new.ensures ∙ c.if-is_too_new.false in
    record {
      follows = Follows-bad_bounds c.args.self.now c.args.s e c.args.index c.args.low c.args.high c.in_ok-session.ensures.1 c.in_ok-session.ensures.2 c.in_ok-session.ensures.3 used may
          (over-bounds c.args.low c.args.high c.ranges.low c.ranges.high c.if-low-high.true);
      exact = (ap is_some at, (e, c.in_ok-session.ensures.1, may), refl);
    }

pub returns-in_err-kept : goal.returns-in_err-kept
returns-in_err-kept c =
    let used = there-used c.args.self.now c.args.self.now c.args.index c.in-Some.field-0.now refl (sym c.index.ensures ∙ ap option_copied c.in-Some.is) in
    let e = c.in_ok-session.session.now in
    let lacks = c.in_err-kept.ensures.refused in
    record {
      follows = rw (handed-on c.from_residual-in_err-kept.result c.from_residual-in_err-kept.ensures.1, lacks.0) (Follows-open_index_no_memory c.args.self.now c.args.s e c.args.index c.args.low c.args.high
          c.in_ok-session.ensures.1 c.in_ok-session.ensures.2 c.in_ok-session.ensures.3 used (sym c.is_too_new.ensures ∙ c.if-is_too_new.false) (in-bounds c.args.low c.args.high c.ranges.low c.ranges.high c.if-low-high.false) lacks.1);
      exact = rw (handed-on c.from_residual-in_err-kept.result c.from_residual-in_err-kept.ensures.1, lacks.0) ((e, c.in_ok-session.ensures.1, lacks.1, lacks.2), refl);
    }

pub returns : goal.returns
returns c =
    let st = c.args.self.now in
    let e = c.in_ok-session.session.now in
    let used = there-used st st c.args.index c.in-Some.field-0.now refl (sym c.index.ensures ∙ ap option_copied c.in-Some.is) in
    let span : IndexRange = record { index = c.args.index; low = c.args.low; high = c.args.high; last = None } in
    let put = subst (λ (sp : IndexRange). HasCursor st c.put_cursor.new.self c.args.s (Some (Rows (Index sp))) c.in_ok-kept.kept)
    (stored-span c.args.index c.args.low c.args.high c.ranges.low c.ranges.high) c.put_cursor.ensures in
    let opens = opens-as st c.put_cursor.new.self c.args.s e (Rows (Index span)) c.in_ok-kept.kept c.in_ok-session.ensures.1 c.in_ok-kept.ensures.kept put in
    record {
      follows = Follows-opened_index st _ c.args.s e span c.in_ok-session.ensures.1 c.in_ok-session.ensures.2 c.in_ok-session.ensures.3
          (in-bounds c.args.low c.args.high c.ranges.low c.ranges.high c.if-low-high.false) refl used (sym c.is_too_new.ensures ∙ c.if-is_too_new.false) opens;
      exact = opens;
    }
