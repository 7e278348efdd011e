use Rattle.std.proofs.Common.{rules, Some, refl, subst, ◌∙◌}
use Rattle.table_scans.specs.declared.progress.CursorScan.TheVariants.{Keys}
use Rattle.table_scans.specs.declared.progress.KeyRange.{KeyRange}
use Rattle.session_steps.specs.Exact.{HasCursor}
use Rattle.session_steps.proofs.Outcomes.{handed-on}
use Rattle.session_steps.proofs.CursorSteps.{opens-as, over-bounds, in-bounds}
use Rattle.session_steps.proofs.KeySteps.{Follows-barred_open_keys, Follows-bad_key_bounds, Follows-open_keys_no_memory, Follows-opened_keys, keys-of, stored-keys}
use Rattle.session_steps.proofs.engine.SessionEngine.open_keys.Goals as goal

pub returns-in_err-session : goal.returns-in_err-session
returns-in_err-session c = record {
  follows = rw (handed-on c.from_residual.result c.from_residual.ensures.1) (Follows-barred_open_keys c.args.self.now c.args.s c.args.low c.args.high c.in_err-session.field-0.0 c.in_err-session.ensures);
  exact = search rules;
}

pub returns-then-low-high : goal.returns-then-low-high
returns-then-low-high c = record {
  follows = Follows-bad_key_bounds c.args.self.now c.args.s c.in_ok-session.session.now c.args.low c.args.high c.in_ok-session.ensures.1 c.in_ok-session.ensures.2 c.in_ok-session.ensures.3
      (over-bounds c.args.low c.args.high c.ranges.low c.ranges.high c.if-low-high.true);
  exact = refl;
}

pub returns-in_err-kept : goal.returns-in_err-kept
returns-in_err-kept c =
    let e = c.in_ok-session.session.now in
    let lacks = c.in_err-kept.ensures.refused in
    record {
      follows = rw (handed-on c.from_residual-in_err-kept.result c.from_residual-in_err-kept.ensures.1, lacks.0) (Follows-open_keys_no_memory c.args.self.now c.args.s e c.args.low c.args.high
          c.in_ok-session.ensures.1 c.in_ok-session.ensures.2 c.in_ok-session.ensures.3 (in-bounds c.args.low c.args.high c.ranges.low c.ranges.high c.if-low-high.false) lacks.1);
      exact = rw (handed-on c.from_residual-in_err-kept.result c.from_residual-in_err-kept.ensures.1, lacks.0) ((e, c.in_ok-session.ensures.1, lacks.1, lacks.2), refl);
    }

pub returns : goal.returns
returns c =
    let st = c.args.self.now in
    let e = c.in_ok-session.session.now in
    let range = keys-of c.args.low c.args.high in
    let put = subst (λ (r : KeyRange). HasCursor st c.put_cursor.new.self c.args.s (Some (Keys r)) c.in_ok-kept.kept) (c.new-range.ensures ∙ stored-keys c.args.low c.args.high c.ranges.low c.ranges.high) c.put_cursor.ensures in
    let opens = opens-as st c.put_cursor.new.self c.args.s e (Keys range) c.in_ok-kept.kept c.in_ok-session.ensures.1 c.in_ok-kept.ensures.kept put in
    record {
      follows = Follows-opened_keys st _ c.args.s e range c.in_ok-session.ensures.1 c.in_ok-session.ensures.2 c.in_ok-session.ensures.3
          (in-bounds c.args.low c.args.high c.ranges.low c.ranges.high c.if-low-high.false) refl opens;
      exact = opens;
    }
