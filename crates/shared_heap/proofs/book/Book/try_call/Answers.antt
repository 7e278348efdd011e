use Rattle.std.proofs.Common.{List, [], ◌∷◌, ◌++◌, ap, sym, subst, ◌∙◌}
use Rattle.calls.specs.declared.step.Step.{Step}
use Rattle.calls.specs.declared.reply.Reply.{Reply}
use Rattle.session_core.specs.Clauses.{WaitingExact, WaitingFollows}
use Rattle.shared_heap.specs.Books.{BookView, Appends}
use Rattle.shared_heap.proofs.Running.{IsBook-more, IsBook-agrees, world_of}
use Rattle.shared_heap.proofs.book.Book.try_call.Goals as goal

pub copy_reply-answer-requires : goal.copy_reply-answer-requires
copy_reply-answer-requires c =
    let old : BookView = record { engine = c.self.inside.engine; journal = c.self.inside.journal.items } in
    c.in_ok-spare.ensures (world_of old c.self.invariant) c.step-reply.new.self c.step-reply.result (IsBook-agrees old c.self.invariant) c.step-reply.ensures.follows c.step-reply.ensures.exact

pub invariant_of-self-2 : goal.invariant_of-self-2
invariant_of-self-2 c =
    let old = c.self.inside in
    let pushed = c.push_reserved.ensures.items ∙ ap (λ (es : List (Step × Reply)). es ++ (c.in_ok-copy.copy, c.step-reply.result) ∷ []) c.reserve.ensures.items in
    let follows = subst (λ (step : Step). WaitingFollows old.engine step c.step-reply.result c.step-reply.new.self) (sym c.in_ok-copy.ensures.copy) c.step-reply.ensures.follows in
    let exact = subst (λ (step : Step). WaitingExact old.engine step c.step-reply.result c.step-reply.new.self) (sym c.in_ok-copy.ensures.copy) c.step-reply.ensures.exact in
    IsBook-more (record { engine = old.engine; journal = old.journal.items }) _ c.in_ok-copy.copy c.step-reply.result c.self.invariant pushed follows exact

pub returns : goal.returns
returns c =
    let old : BookView = record { engine = c.self.inside.engine; journal = c.self.inside.journal.items } in
    let new : BookView = record { engine = c.step-reply.new.self; journal = c.push_reserved.new.self.items } in
    let pushed = c.push_reserved.ensures.items ∙ ap (λ (es : List (Step × Reply)). es ++ (c.in_ok-copy.copy, c.step-reply.result) ∷ []) c.reserve.ensures.items
    ∙ ap (λ (s : Step). c.self.inside.journal.items ++ (s, c.step-reply.result) ∷ []) c.in_ok-copy.ensures.copy in
    let P : BookView → Type 0 = λ b. Appends b c.args.step c.copy_reply-answer.result new in
    subst P c.self.view_is (record { noted = c.step-reply.result; same = c.copy_reply-answer.ensures; journal = pushed; follows = c.step-reply.ensures.follows; exact = c.step-reply.ensures.exact })
