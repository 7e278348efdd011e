use Rattle.std.proofs.Common.{rules, Some, subst, ap, ◌∙◌}
use Rattle.table_scans.specs.Takes.{Takes, TakesNext}
use Rattle.table_scans.specs.Keys.{TakesNextKeys}
use Rattle.table_scans.specs.declared.progress.CursorScan.TheVariants.{Rows, Keys}
use Rattle.session_steps.specs.Takes.{session_sight}
use Rattle.session_steps.proofs.NextSteps.{Follows-bare_next, Follows-end, Follows-no_memory, Follows-rows, hands-out}
use Rattle.session_steps.proofs.KeyNext.{Follows-keys, hands-out_keys}
use Rattle.session_steps.proofs.engine.SessionEngine.next.Goals as goal

pub returns-in-Err : goal.returns-in-Err
returns-in-Err c = record {
  follows = λ hold. Follows-bare_next c.args.self.now c.args.s c.args.n c.in-Err.refusal c.in-Err.ensures;
  exact = search rules;
}

pub returns-in-Ok-Some : goal.returns-in-Ok-Some
returns-in-Ok-Some c =
    let st = c.args.self.now in
    let e = c.in-Ok.found.0.now in
    let opened = c.in-Ok.ensures.3 ∙ ap Some c.in-Rows.is in
    let taken = subst (TakesNext (session_sight st e) c.in-Rows.scan c.args.n) c.in-Ok-Some.field-0-is c.in-Ok-Some.ensures.taken in
    record {
      follows = λ hold. Follows-rows st _ c.args.s c.args.n e c.in-Rows.scan c.in-Ok-Some.after c.in-Ok-Some.rows c.in-Ok.ensures.1 c.in-Ok.ensures.2 opened taken c.move_cursor.ensures;
      exact = hands-out Takes st _ c.args.s c.args.n e c.in-Rows.scan c.in-Ok-Some.after c.in-Ok-Some.rows.items c.in-Ok.ensures.1 opened taken.takes c.move_cursor.ensures;
    }

pub returns-in-Ok-None : goal.returns-in-Ok-None
returns-in-Ok-None c = record {
  follows = (
      let e = c.in-Ok.found.0.now in
      λ hold. Follows-end c.args.self.now c.args.s c.args.n e (Rows c.in-Rows.scan) c.in-Ok.ensures.1 c.in-Ok.ensures.2 (c.in-Ok.ensures.3 ∙ ap Some c.in-Rows.is)
      (subst (TakesNext (session_sight c.args.self.now e) c.in-Rows.scan c.args.n) c.in-Ok-None.field-0-is c.in-Ok-None.ensures.taken));
  exact = search rules;
}

pub returns-in-Err-take : goal.returns-in-Err-take
returns-in-Err-take c = record {
  follows = Follows-no_memory c.args.self.now c.args.s c.args.n c.in-Ok.found.0.now (Rows c.in-Rows.scan) c.in-Ok.ensures.1 c.in-Ok.ensures.2 (c.in-Ok.ensures.3 ∙ ap Some c.in-Rows.is) c.in-Err-take.ensures.refused;
  exact = search rules;
}

pub returns-in-Ok-Some-take_keys : goal.returns-in-Ok-Some-take_keys
returns-in-Ok-Some-take_keys c =
    let st = c.args.self.now in
    let e = c.in-Ok.found.0.now in
    let opened = c.in-Ok.ensures.3 ∙ ap Some c.in-Keys.is in
    let taken = subst (TakesNextKeys (session_sight st e) c.in-Keys.range c.args.n) c.in-Ok-Some-take_keys.field-0-is c.in-Ok-Some-take_keys.ensures.taken in
    record {
      follows = Follows-keys st _ c.args.s c.args.n e c.in-Keys.range c.in-Ok-Some-take_keys.after c.in-Ok-Some-take_keys.keys c.in-Ok.ensures.1 c.in-Ok.ensures.2 opened c.move_cursor-in-Ok-Some-take_keys.ensures taken;
      exact = hands-out_keys st _ c.args.s c.args.n e c.in-Keys.range c.in-Ok-Some-take_keys.after c.in-Ok-Some-take_keys.keys c.in-Ok.ensures.1 c.in-Ok.ensures.2 opened c.move_cursor-in-Ok-Some-take_keys.ensures taken.takes;
    }

pub returns-in-Ok-None-take_keys : goal.returns-in-Ok-None-take_keys
returns-in-Ok-None-take_keys c = record {
  follows = (
      let e = c.in-Ok.found.0.now in
      λ hold. Follows-end c.args.self.now c.args.s c.args.n e (Keys c.in-Keys.range) c.in-Ok.ensures.1 c.in-Ok.ensures.2 (c.in-Ok.ensures.3 ∙ ap Some c.in-Keys.is)
      (subst (TakesNextKeys (session_sight c.args.self.now e) c.in-Keys.range c.args.n) c.in-Ok-None-take_keys.field-0-is c.in-Ok-None-take_keys.ensures.taken));
  exact = search rules;
}

pub returns-in-Err-take_keys : goal.returns-in-Err-take_keys
returns-in-Err-take_keys c = record {
  follows = Follows-no_memory c.args.self.now c.args.s c.args.n c.in-Ok.found.0.now (Keys c.in-Keys.range) c.in-Ok.ensures.1 c.in-Ok.ensures.2 (c.in-Ok.ensures.3 ∙ ap Some c.in-Keys.is) c.in-Err-take_keys.ensures.refused;
  exact = search rules;
}
