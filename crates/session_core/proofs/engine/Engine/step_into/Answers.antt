use Rattle.std.proofs.Common.{◌∙◌, Bool, List, Option, ℕ, sym, subst}
use Rattle.session_core.specs.State.{with_waits}
use Rattle.session_core.specs.Notes.{NotesWait}
use Rattle.session_core.proofs.Noting.{Follows, noted-follows, ownerless-follows}
use Rattle.session_core.proofs.engine.Engine.step_into.Goals as goal

pub returns : goal.returns
returns c =
    let below = c.step_below.new.self.engine in
    let is = sym c.session_of-session.ensures ∙ c.in-Some.is in
    let P : List (Option ℕ) → Bool → Type 0 = λ waits gives. NotesWait (with_waits below waits) c.in-Some.s gives c.step_below.new.reply c.note.new.self c.note.new.reply in
    let notes = subst (λ waits. P waits c.gives_back-gives.result) c.step_below.ensures.waits c.note.ensures in
    let f = noted-follows c.args.self.now c.note.new.self c.args.step c.in-Some.s below c.step_below.new.reply c.note.new.reply is c.step_below.ensures.follows c.step_below.ensures.exact
    (subst (λ gives. P c.args.self.now.waits gives) c.gives_back-gives.ensures notes) in
    record { follows = f.0; exact = f.1 }

pub returns-in_default : goal.returns-in_default
returns-in_default c =
    let below = c.step_below.new.self.engine in
    let is = sym c.session_of-session.ensures ∙ c.in_default.is in
    let f = subst (λ waits. Follows c.args.self.now c.args.step c.step_below.new.reply (with_waits below waits)) (sym c.step_below.ensures.waits)
    (ownerless-follows c.args.self.now c.args.step below c.step_below.new.reply is c.step_below.ensures.follows c.step_below.ensures.exact) in
    record { follows = f.0; exact = f.1 }
