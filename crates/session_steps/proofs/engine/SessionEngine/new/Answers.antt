use Rattle.std.proofs.Common.{length, Option, None, ap, sym, ◌∙◌, subst}
use Rattle.std.proofs.lemmas.List.{length-replicate}
use Rattle.history.specs.World.{beginning}
use Rattle.calls.specs.declared.settings.Settings.{Settings}
use Rattle.sessions.specs.declared.session.Session.{Session}
use Rattle.session_steps.specs.Agrees.{Agrees}
use Rattle.session_steps.proofs.StateLemmas.{keeps-idle}
use Rattle.session_steps.proofs.New.{Agrees-new}
use Rattle.session_steps.proofs.engine.SessionEngine.new.Goals as goal

pub invariant_of-result : goal.invariant_of-result
invariant_of-result c =
    keeps-idle c.in-Ok.sessions c.new-3.result.statuses c.new-3.ensures.entries c.in-Ok.ensures (ap length c.in-Ok.ensures ∙ length-replicate {A = Option Session} 64 None)

pub returns-clause-new : goal.returns-clause-new
returns-clause-new c = record {
  settings = c.new-2.ensures;
  first = c.new-3.ensures.first;
  ids = c.new-3.ensures.entries;
  pages = c.new-3.ensures.pages;
  marks = c.new-3.ensures.marks;
  indexes = c.new-3.ensures.indexes;
  since = c.new-3.ensures.since;
  agrees = subst (λ (s : Settings). Agrees (record { settings = s; heap = c.new-3.result; sessions = c.in-Ok.sessions }) (beginning c.args.settings.indexed)) (sym c.new-2.ensures)
      (Agrees-new (record { settings = c.args.settings; heap = c.new-3.result; sessions = c.in-Ok.sessions }) c.new-3.ensures.pages c.new-3.ensures.indexes c.new-3.ensures.since c.new-3.ensures.entries c.new-3.ensures.window
      c.new-3.ensures.max_pages c.new-3.ensures.stop_age c.in-Ok.ensures);
}
